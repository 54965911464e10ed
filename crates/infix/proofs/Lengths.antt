-- How long what is put of a node is. Assumes nothing.
use Prim.Native.Nat.{ℕ, ◌+◌, ◌≤◌}
use mathlib.Core.Bool.{Bool, true, false}
use mathlib.Core.List.{List, [], ◌∷◌}
use native.Mathlib.Omega.{arith}
use lib.ListN.{length, length-append}
use lib.Dec.{eqb}
use Rattle.terms.proofs.Choice.{pick_case}
use Rattle.filling.specs.Filling.{Put}
use Rattle.shown.specs.Show.{sign_of, list_of}
use Rattle.shown.proofs.Plain.{sign_short}
use Rattle.infix.specs.Infix.{spaced, byte_if}

-- where a text ends that is no longer than n
pub put_within : {text l : List ℕ} {at : ℕ} {m : List ℕ} {end : ℕ} (n : ℕ) → Put text l at m end → length text ≤ n → end ≤ at + n
put_within n p h = omega (arith, p.place)

pub spaced_short : (o : ℕ) → length (spaced o) ≤ 4
spaced_short o = omega (arith, length-append (sign_of o) (32 ∷ []), sign_short o)

pub byte_short : (asked : Bool) (byte : ℕ) → length (byte_if asked byte) ≤ 1
unfolding byte_if
byte_short true byte = omega arith
byte_short false byte = omega arith

pub list_small : (o : ℕ) → list_of o ≤ 2
unfolding list_of
list_small o =
    let P : ℕ → Type 0 = λ n. n ≤ 2 in
    pick_case P (eqb o 1) (λ _. omega arith)
    (λ _. pick_case P (eqb o 2) (λ _. omega arith)
    (λ _. pick_case P (eqb o 3) (λ _. omega arith)
    (λ _. pick_case P (eqb o 4) (λ _. omega arith) (λ _. omega arith))))
