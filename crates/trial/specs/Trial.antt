-- The trial of a program on the arrays of a scan (ours): read once and run as it is read, it is known at its end to be accepted or not.
use Rattle.std.specs.Prelude.{Bool, List, map, ℕ, length, Option, Some, None}
use Rattle.terms.specs.Choice.{pick}
use Rattle.terms.specs.Bits.{packed}
use Rattle.wire.specs.Reading.{Read, got, fault, and_then}
use Rattle.numbers.specs.Blocks.{Bit}
use Rattle.program.specs.Program.{Program, end_at}
use Rattle.program.specs.Trial.{passes_trial}
use Rattle.expression.specs.Expression.{bit_in}
use Rattle.turns.specs.Arrays.{Arrays, turns_to, turn_steps}
use Rattle.trial.specs.declared.Trial.{Trial}

-- the alarm word of the references that were read
abbrev pub alarmed_of : List Bool → Read (List Bit) → Option ℕ
alarmed_of bits (got rs end) = Some (packed (map (bit_in bits) rs))
alarmed_of bits (fault n at) = None

-- references that are to be the last of the program
abbrev pub to_end : List ℕ → Read (List Bit) → Read (List Bit)
to_end s r = and_then r (λ rs at. end_at rs s at)

-- the whole program: whether it is accepted, its steps and its alarm word
abbrev pub no_trial : Option Trial
no_trial = None

abbrev pub trial_of : ℕ → Arrays → Read Program → Option Trial
trial_of e a (got p end) =
    pick (passes_trial p.blocks)
    (Some (record {
      steps = turn_steps e p.blocks (length p.blocks) a;
      alarms = packed (map (bit_in (turns_to e p.blocks (length p.blocks) a).bits) p.alarms);
    }))
    no_trial
trial_of e a (fault n at) = no_trial
