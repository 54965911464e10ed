-- Each clause of Typed, from the grammar's readings and from reading back what is written. Assumes nothing.
use Prim.Native.Nat.{ℕ, ◌+◌, ◌<◌, ◌≤◌}
use mathlib.Core.Path.{◌≡◌, refl, ap, ◌∙◌}
use mathlib.Core.Logic.{◌↔◌, ◌⊎◌, inl, inr, ⊎_elim}
use mathlib.Core.Bool.{true}
use mathlib.Core.List.{List}
use native.Mathlib.Omega.{arith}
use lib.ListN.{length, take, drop, length-replicate}
use lib.Seq.{sets-eq, take-append_seam}
use Rattle.terms.specs.Choice.{every}
use Rattle.terms.specs.Refusals.{bad_text, outside}
use Rattle.terms.proofs.Choice.{le_or_lt}
use Rattle.wire.specs.Facts.{Stands}
use Rattle.wire.specs.Reading.{got}
use Rattle.numbers.specs.Blocks.{Expr, leaves, nodes}
use Rattle.numbers.specs.Reading.{Marks, bit_marked}
use Rattle.nodes.specs.Reading.{expr_at}
use Rattle.writing.specs.Expressions.{operator_first, depth, bytes_of, Proper}
use Rattle.writing.proofs.Back.{back_of}
use Rattle.grammar.specs.Grammar.{Level, Operator, and_sign, nand_sign, xor_sign, or_sign, nor_sign, Reads, alone, joined, named, negated, grouped, Formula}
use Rattle.grammar.specs.Readings.{BadAt, Judged, good as is_good_lem, bad as is_bad}
use Rattle.grammar.proofs.Builds.{one_reading}
use Rattle.grammar.proofs.Places.{judged, one_place}
use Rattle.parsing.specs.Listing.{no_nodes, nodes_of}
use Rattle.parsing.proofs.Trees.{numbers_of, name_proper}
use Rattle.formula.specs.declared.Expression.{Expression}
use Rattle.formula.specs.Answers.{Small, Large, many, deep, expression, refused, Answers, good, bad, large}
use Rattle.typed.specs.Typed.{Fits, fits, Over, over, nodes_in}

small_or_large : (t : Expr) → Small t ⊎ Large t
small_or_large t =
    ⊎_elim (λ h. ⊎_elim (λ g. inl (record { few = h; shallow = g })) (λ g. inr (deep g)) (le_or_lt (depth t) 16)) (λ h. inr (many h)) (le_or_lt (nodes t) 63)

not_both : {t : Expr} → Small t → Large t → ⊥
not_both a (many h) = omega (arith, a.few)
not_both a (deep h) = omega (arith, a.shallow)

pub answered : (s : List ℕ) → (r : Expression) × Answers s r
answered s = go (judged s)
  where
    by : (t : Expr) → Formula s t → Small t ⊎ Large t → (r : Expression) × Answers s r
    by t x (inl a) = (expression t, good t x a)
    by t x (inr b) = (refused outside 0, large t x b)

    go : Judged s → (r : Expression) × Answers s r
    go (is_good_lem t x) = by t x (small_or_large t)
    go (is_bad k x) = (refused bad_text k, bad k x)

module _ (s : List ℕ) where
  good_large : {t u : Expr} → Formula s t → Small t → Formula s u → Large u → ⊥
  good_large {t} {u} x a y b = let e : u ≡ t = one_reading s u t y x in not_both a (rw e at b)

  pub one_answer : (q r : Expression) → Answers s q → Answers s r → q ≡ r
  one_answer q r (good t x a) (good u y b) = ap expression (one_reading s t u x y)
  one_answer q r (good t x a) (bad k y) = absurd (y.no_reading t x)
  one_answer q r (good t x a) (large u y b) = absurd (good_large x a y b)
  one_answer q r (bad k x) (good u y b) = absurd (x.no_reading u y)
  one_answer q r (bad j x) (bad k y) = ap (refused bad_text) (one_place s j k x y)
  one_answer q r (bad k x) (large u y b) = absurd (x.no_reading u y)
  one_answer q r (large t x a) (good u y b) = absurd (good_large y b x a)
  one_answer q r (large t x a) (bad k y) = absurd (y.no_reading t x)
  one_answer q r (large t x a) (large u y b) = refl

  pub seven : (r : Expression) (k : ℕ) → Answers s r → ((r.refusal ≡ bad_text) × (r.place ≡ k)) ↔ BadAt s k
  seven r k (good t x a) = ((λ e. absurd (omega (arith, e.0))), (λ y. absurd (y.no_reading t x)))
  seven r k (bad j x) = ((λ e. rw e.1 at x), (λ y. (refl, one_place s j k x y)))
  seven r k (large t x a) = ((λ e. absurd (omega (arith, e.0))), (λ y. absurd (y.no_reading t x)))

  not_over : {t : Expr} → Formula s t → Small t → Over s → ⊥
  not_over x a (over u y b) = good_large x a y b

  bad_not_over : {k : ℕ} → BadAt s k → Over s → ⊥
  bad_not_over x (over u y b) = x.no_reading u y

  pub two : (r : Expression) → Answers s r → ((r.refusal ≡ outside) × (r.place ≡ 0)) ↔ Over s
  two r (good t x a) = ((λ e. absurd (omega (arith, e.0))), (λ o. absurd (not_over x a o)))
  two r (bad k x) = ((λ e. absurd (omega (arith, e.0))), (λ o. absurd (bad_not_over x o)))
  two r (large t x a) = ((λ _. over t x a), (λ _. (refl, refl)))

  not_fit : {t : Expr} → Formula s t → Large t → Fits s → ⊥
  not_fit x a (fits u y b) = good_large y b x a

  bad_not_fit : {k : ℕ} → BadAt s k → Fits s → ⊥
  bad_not_fit x (fits u y b) = x.no_reading u y

  pub none : (r : Expression) → Answers s r → ((r.refusal ≡ 0) × (r.place ≡ 0)) ↔ Fits s
  none r (good t x a) = ((λ _. fits t x a), (λ _. (refl, refl)))
  none r (bad k x) = ((λ e. absurd (omega (arith, e.0))), (λ o. absurd (bad_not_fit x o)))
  none r (large t x a) = ((λ e. absurd (omega (arith, e.0))), (λ o. absurd (not_fit x a o)))

-- the numbers in their places, back out of them
in_places : (t : Expr) → nodes t ≤ 63 → take (nodes t) (nodes_of t) ≡ operator_first t
unfolding nodes_of
in_places t h =
    let xs = operator_first t in
    let e = numbers_of t in
    let room : 0 + length xs ≤ length no_nodes = omega (arith, length-replicate {A = ℕ} 64 0) in
    rw (sets-eq xs no_nodes 0 room, ← e) (take-append_seam xs (drop (0 + length xs) no_nodes))

sign_proper : {l : Level} {o : ℕ} {w : List ℕ} → Operator l o w → (0 < o) × (o < 6)
sign_proper and_sign = (omega arith, omega arith)
sign_proper nand_sign = (omega arith, omega arith)
sign_proper xor_sign = (omega arith, omega arith)
sign_proper or_sign = (omega arith, omega arith)
sign_proper nor_sign = (omega arith, omega arith)

proper : {d : ℕ} {l : Level} {w : List ℕ} {t : Expr} → Reads d l w t → Proper t
proper (alone c x) = proper x
proper (joined c x o y) = (sign_proper o, (proper x, proper y))
proper (named m n x) = name_proper x
proper (negated m x) = proper x
proper (grouped m n h x) = proper x

pub numbers :
    (s : List ℕ) (r : Expression) (t : Expr) → Answers s r → r.refusal ≡ 0 → Formula s t → (r.count ≡ nodes t) × (nodes_in r ≡ operator_first t)
numbers s r t (good u x a) e y = let i : u ≡ t = one_reading s u t x y in (ap nodes i, in_places u a.few ∙ ap operator_first i)
numbers s r t (bad k x) e y = absurd (omega arith)
numbers s r t (large u x a) e y = absurd (omega arith)

within : (s : List ℕ) (r : Expression) (t : Expr) → Answers s r → r.refusal ≡ 0 → Formula s t → Small t
within s r t (good u y b) e x = let i : u ≡ t = one_reading s u t y x in (rw i at b)
within s r t (bad k y) e x = absurd (omega arith)
within s r t (large u y b) e x = absurd (omega arith)

pub back :
    (s : List ℕ) (r : Expression) (t : Expr) (m : Marks) (p : List ℕ) (at : ℕ) → Answers s r → r.refusal ≡ 0 → Formula s t →
    every (bit_marked m) (leaves t) ≡ true → Stands (bytes_of (nodes_in r)) p at → expr_at m 16 63 p at ≡ got t (at + length (bytes_of (nodes_in r)))
back s r t m p at a e x k st =
    let n = (numbers s r t a e x).1 in
    let z = within s r t a e x in
    rw n (back_of m 16 63 p at t (proper x) k z.shallow z.few (rw n at st))
