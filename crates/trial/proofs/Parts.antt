-- A trial by its parts, as the code makes it: the turns of the blocks, and the alarms. Assumes nothing.
use Prim.Native.Nat.{ℕ}
use mathlib.Core.Path.{◌≡◌, refl, ◌∙◌}
use Rattle.std.specs.Prelude.{Option, Some, None}
use mathlib.Core.Bool.{Bool, true, false}
use mathlib.Core.List.{List}
use lib.ListN.{length}
use Rattle.wire.specs.Reading.{Read, got, fault, and_then}
use Rattle.numbers.specs.Blocks.{Bit, Block}
use Rattle.numbers.specs.Reading.{Marks}
use Rattle.program.specs.Program.{blocks_at, alarms_at, after_count}
use Rattle.program.specs.Trial.{passes_trial}
use Rattle.turns.specs.Arrays.{Arrays, turns_to, ran_of, turned_while}
use Rattle.turns.specs.declared.Ran.{Ran}
use Rattle.turns.proofs.Blocks.{while_all}
use Rattle.trial.specs.Trial.{alarmed_of, trial_of}
use Rattle.trial.specs.declared.Trial.{Trial}

-- what turns and alarms come to
abbrev pub with_alarms : Ran → Option ℕ → Option Trial
with_alarms r (Some w) = Some (record { steps = r.steps; alarms = w })
with_alarms r None = None

abbrev pub if_good : Bool → Ran → Option ℕ → Option Trial
if_good true r w = with_alarms r w
if_good false r w = None

abbrev pub together : Option Ran → (Ran → Option ℕ) → Option Trial
together (Some r) f = if_good r.good r (f r)
together None f = None

pub by_parts : (e : ℕ) (a : Arrays) (m : Marks) (n : ℕ) (s : List ℕ) (at : ℕ) (r : Option Ran) → r ≡ ran_of e a (blocks_at m n s at)
    → (b : Arrays) → b ≡ turned_while e m n s at a
    → together r (λ (t : Ran). alarmed_of b.bits (alarms_at m s t.next)) ≡ trial_of e a (after_count m n s at)
by_parts e a m n s at r h b w = rw h (go (blocks_at m n s at) refl)
  where
    by_alarms : (bs : List Block) (z : ℕ) → b ≡ turns_to e bs (length bs) a → (t : Bool) → passes_trial bs ≡ t → (q : Read (List Bit)) → alarms_at m s z ≡ q
        → together (ran_of e a (got bs z)) (λ (t : Ran). alarmed_of b.bits (alarms_at m s t.next))
        ≡ trial_of e a (and_then q (λ rs y. got (record { blocks = bs; alarms = rs }) y))
    by_alarms bs z v true t (got rs y) q = rw (t, q, v)
    by_alarms bs z v false t (got rs y) q = rw t
    by_alarms bs z v true t (fault x y) q = rw (t, q)
    by_alarms bs z v false t (fault x y) q = rw t

    go : (q : Read (List Block)) → blocks_at m n s at ≡ q
        → together (ran_of e a q) (λ (t : Ran). alarmed_of b.bits (alarms_at m s t.next))
        ≡ trial_of e a (and_then q (λ bs at. and_then (alarms_at m s at) (λ rs z. got (record { blocks = bs; alarms = rs }) z)))
    go (got bs z) q = by_alarms bs z (w ∙ rw (while_all m n s at q)) (passes_trial bs) refl (alarms_at m s z) refl
    go (fault y z) q = refl
