-- What inputs and places are in the arrays of a scan, the trial on them, and what of them is stored back (ours).
use Rattle.std.specs.Prelude.{Bool, false, List, ◌++◌, map, ℕ, pos, drop, Option, is_some}
use Rattle.terms.specs.Bits.{digit}
use Rattle.place.specs.declared.Place.{Place}
use Rattle.image.specs.Image.{Columns, columns, is_on, ticks_of, word_of_place, pins_of, output_of}
use Rattle.program.specs.Program.{after_count}
use Rattle.program.specs.Trial.{first_blocks}
use Rattle.turns.specs.Arrays.{Arrays, arrays, turned_while}
use Rattle.trial.specs.Trial.{trial_of}
use Rattle.trial.specs.declared.Trial.{Trial}
use Rattle.terms.specs.Choice.{pick}
use Rattle.copies.specs.Copies.{over, first_of}
use Rattle.loading.specs.Inputs.{input_bits}
use Rattle.scanning.specs.Scan.{Inputs}

abbrev pub out_of : Place → Bool
out_of p = p.out

unfoldable pub loaded : Inputs → List Place → Arrays
loaded x ps = arrays (input_bits x.bits ++ map out_of ps) (x.words ++ map word_of_place ps) (map ticks_of ps) (map pins_of ps)

-- the arrays of the first n places of columns
abbrev pub loaded_first : ℕ → Inputs → Columns → Arrays
loaded_first n x c =
    arrays (input_bits x.bits ++ first_of n false (map is_on c.outputs)) (x.words ++ first_of n (pos 0) c.words) (first_of n 0 c.ticks)
    (first_of n 0 c.pins)

-- the columns, where the first n places of the arrays are stored
abbrev pub stored_from : ℕ → Arrays → Columns → Columns
stored_from n a c =
    columns (over n a.ticks c.ticks) (over n (drop 8 a.words) c.words) (over n a.pins c.pins)
    (over n (map digit (drop 34 a.bits)) c.outputs)

-- the columns, where the first n of some places are stored
abbrev pub stored_in : ℕ → List Place → Columns → Columns
stored_in n qs c =
    columns (over n (map ticks_of qs) c.ticks) (over n (map word_of_place qs) c.words) (over n (map pins_of qs) c.pins)
    (over n (map output_of qs) c.outputs)

-- the trial of a program whose n blocks stand from `at` on, and the columns after it
abbrev pub tried_on : ℕ → List ℕ → ℕ → Inputs → Columns → Option Trial
tried_on n s at x c = trial_of x.elapsed (loaded_first n x c) (after_count (first_blocks n) n s at)

abbrev pub after_trial : ℕ → List ℕ → ℕ → Inputs → Columns → Columns
after_trial n s at x c =
    pick (is_some (tried_on n s at x c)) (stored_from n (turned_while x.elapsed (first_blocks n) n s at (loaded_first n x c)) c) c
