-- One number of a program: it is read back if it is allowed and marked, and what is read is allowed and stands there. Assumes nothing.
use Prim.Native.Nat.{ℕ, ◌<◌, ◌≤◌}
use mathlib.Core.Path.{◌≡◌, refl}
use mathlib.Core.Bool.{true}
use mathlib.Core.List.{List, [], ◌∷◌, append-nil}
use native.Mathlib.Omega.{arith}
use lib.Dec.{eqb, leb}
use lib.ListN.{get_or}
use borrow.Author.Tests.{lt-ltb, leb-true}
use Rattle.terms.proofs.Choice.{pick_case}
use Rattle.terms.proofs.Every.{every_at}
use Rattle.wire.specs.Number.{Num, Got, Bad, Cut}
use Rattle.wire.specs.Number.{number_at, groups_of}
use Rattle.wire.specs.Facts.{Stands, Bytes}
use Rattle.wire.specs.Reading.{Read, got}
use Rattle.wire.proofs.Laws.{back, form}
use Rattle.numbers.specs.Blocks.{Bit, Content, bit_code}
use Rattle.numbers.specs.Types.{pin, word_pin, limits, allowed, excepted, bit_ref, content_of}
use Rattle.numbers.specs.Reading.{Marks, marked, judged, typed_at}
use Rattle.numbers.proofs.References.{bit_cases, bit_code_lem, word_code_lem, allowed_below}
use Rattle.writing.specs.Expressions.{bytes_of, InRange}
use Rattle.writing.proofs.Back.{ref_back}
use Rattle.forms.specs.Written.{content_numbers}
use Rattle.forms.proofs.Standing.{past, Numbered}
use Rattle.forms.proofs.Formed.{Formed, formed, stopped}

-- an allowed number is below 128^3, so that it has a form
limit_low : (ty : ℕ) → get_or limits ty 0 ≤ 66536
limit_low ty = leb-true (get_or limits ty 0) 66536 (every_at (λ n. leb n 66536) limits ty refl refl)

pub typed_back :
    (m : Marks) (ty before : ℕ) (s : List ℕ) (at v : ℕ) → allowed ty before v ≡ true → marked m ty v ≡ true →
    Stands (bytes_of (v ∷ [])) s at → typed_at m ty before s at ≡ got v (past at (v ∷ []))
unfolding typed_at number_at
typed_back m ty before s at v a t st =
    let g : Stands (groups_of 3 v) s at = rw (append-nil (groups_of 3 v)) at st in
    rw (
      back 3 s at v (omega arith) (omega (arith, allowed_below ty before v a, limit_low ty)) g,
      a,
      t,
      append-nil (groups_of 3 v),
    )

judged_form :
    (m : Marks) (ty before : ℕ) (s : List ℕ) (at : ℕ) (n : Num) → Bytes s → number_at s at ≡ n →
    Formed s (λ v. v ∷ []) (λ v. allowed ty before v ≡ true) at (judged m ty before at n)
unfolding number_at
judged_form m ty before s at Bad bytes e = stopped
judged_form m ty before s at Cut bytes e = stopped
judged_form m ty before s at (Got v next) bytes e =
    let F : Read ℕ → Type 0 = Formed s (λ v. v ∷ []) (λ v. allowed ty before v ≡ true) at in
    let o = form 3 s at v next bytes e in
    let x : Numbered s at (v ∷ []) next = record { spans = rw (append-nil (groups_of 3 v)) (record { stands = o.0; end = o.1 }) } in
    pick_case F (allowed ty before v) (λ a. pick_case F (marked m ty v) (λ _. formed x a) (λ _. stopped)) (λ _. stopped)

pub typed_form :
    (m : Marks) (ty before : ℕ) (s : List ℕ) (at : ℕ) → Bytes s →
    Formed s (λ v. v ∷ []) (λ v. allowed ty before v ≡ true) at (typed_at m ty before s at)
unfolding typed_at
typed_form m ty before s at bytes = judged_form m ty before s at (number_at s at) bytes refl

-- what a number says in a field is written as that number
pub content_numbers_lem : (ty v : ℕ) → content_numbers (content_of ty v) ≡ v ∷ []
unfolding content_of
content_numbers_lem ty v =
    let P : Content → Type 0 = λ c. content_numbers c ≡ v ∷ [] in
    pick_case P (eqb ty pin) (λ _. rw (bit_code_lem v)) (λ _. pick_case P (eqb ty word_pin) (λ _. rw (word_code_lem v)) (λ _. refl))

-- a bit reference in range is an allowed number, and an allowed number is one in range
pub bit_allowed : (b : Bit) → InRange b → allowed pin 0 (bit_code b) ≡ true
unfolding allowed excepted
bit_allowed b h = rw (lt-ltb (bit_code b) 234 (ref_back b h).1)

pub bit_in_range : (v : ℕ) → v < 234 → InRange (bit_ref v)
bit_in_range v h = bit_cases InRange v (λ _. tt) (λ _. tt) (λ a b. omega arith) (λ a. omega arith)
