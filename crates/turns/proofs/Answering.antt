-- One block more, that has a word if it is asked for it. Assumes nothing.
use Prim.Native.Nat.{ℕ, ◌+◌}
use mathlib.Core.Path.{◌≡◌, refl}
use mathlib.Core.Bool.{Bool, true, false, not, ◌&&◌, ◌||◌, and-true, and-false}
use mathlib.Core.List.{List}
use native.Mathlib.Numerals.{add-one}
use native.Mathlib.Omega.{arith}
use lib.Dec.{eqb}
use lib.ListN.{get_or}
use mir.Val.{bool_byte}
use Rattle.numbers.specs.Reading.{Marks}
use Rattle.program.specs.Trial.{all_answer}

-- a block that is asked and has no word: as two bytes that come to 2
asked_wordless : (rest unasked worded : Bool) → bool_byte (not unasked) + bool_byte (not worded) ≡ 2 → false ≡ rest && (unasked || worded)
asked_wordless rest false false e = rw (and-false rest)
asked_wordless rest true worded e = absurd (go worded e)
  where
    go : (b : Bool) → bool_byte (not true) + bool_byte (not b) ≡ 2 → ⊥
    go true e = omega arith
    go false e = omega arith
asked_wordless rest false true e = absurd (omega arith)

other : (rest unasked worded : Bool) → (bool_byte (not unasked) + bool_byte (not worded) ≡ 2 → ⊥) → rest ≡ rest && (unasked || worded)
other rest false false ne = absurd (ne refl)
other rest true worded ne = rw (and-true rest)
other rest false true ne = rw (and-true rest)

-- whether the first blocks answer, by the next of them
module _ (i : ℕ) (asked : List ℕ) (k : Marks) where
  abbrev both : ℕ
  both = bool_byte (not (eqb (get_or asked i 0) 0)) + bool_byte (not (eqb (get_or k i 0) 2))

  pub answered : (both ≡ 2 → ⊥) → all_answer i asked k ≡ all_answer (i + 1) asked k
  unfolding all_answer
  answered ne = rw (add-one i) (other (all_answer i asked k) (eqb (get_or asked i 0) 0) (eqb (get_or k i 0) 2) ne)

  pub unanswered : both ≡ 2 → false ≡ all_answer (i + 1) asked k
  unfolding all_answer
  unanswered e = rw (add-one i) (asked_wordless (all_answer i asked k) (eqb (get_or asked i 0) 0) (eqb (get_or k i 0) 2) e)
