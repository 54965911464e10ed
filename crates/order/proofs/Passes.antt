-- Good numbers, one after the other from a spot, and the list that they begin: each takes a byte, so the list has them all. Assumes nothing.
use Prim.Native.Nat.{ℕ, zero, suc, ◌+◌, ◌-◌, ◌<◌, ◌≤◌}
use mathlib.Core.Path.{◌≡◌, refl, sym, subst, ap, ◌∙◌}
use mathlib.Core.Bool.{true, false}
use mathlib.Core.List.{List, [], ◌∷◌, ◌++◌}
use native.Mathlib.Omega.{arith}
use native.Mathlib.Nat.{zero-add}
use lib.Dec.{ltb}
use lib.ListN.{length}
use borrow.Author.Tests.{lt-ltb}
use Rattle.terms.specs.Choice.{every}
use Rattle.terms.proofs.Choice.{never, both, pick_case}
use Rattle.terms.proofs.Every.{both_hold}
use Rattle.wire.specs.Number.{Num, Got, Bad, Cut}
use Rattle.wire.specs.Number.{number_at}
use Rattle.wire.proofs.Laws.{takes}
use Rattle.order.specs.Order.{Expected, Found, good, wrong, Item, Spot, count_of, found_of, Turn, goes, stops, ends}
use Rattle.order.specs.Order.{onward, turn_on, turn_by, turn_at, listed, numbers_from, front, numbers_in}
use Rattle.order.specs.Acceptance.{fares}

-- numbers with a wrong one among them are not all good
pub one_wrong : (l r : List Item) (i : Item) → every fares (l ++ (i ∷ r)) ≡ true → fares i ≡ false → ⊥
one_wrong [] r i g f = never (sym (both (fares i) (every fares r) g).0 ∙ f)
one_wrong (j ∷ l) r i g f = one_wrong l r i (both (fares j) (every fares (l ++ (i ∷ r))) g).1 f

module _ (s : List ℕ) where
  -- what a turn tells: its number stands at the spot; a good one takes bytes of the data, and one at which it stops is wrong
  abbrev Fair : Spot → Turn → Type 0
  Fair p (goes i q) = ((fares i ≡ true) × (i.place ≡ p.at)) × ((p.at < q.at) × (q.at ≤ length s))
  Fair p (stops i) = (fares i ≡ false) × (i.place ≡ p.at)
  Fair p ends = Unit {0}

  fair_onward : (x : Expected) (xs : List Expected) (p : Spot) (next : ℕ) → p.at < next → next ≤ length s → (f : Found) → Fair p (onward x xs p next f)
  fair_onward x xs p next h l (good v) = ((refl, refl), (h, l))
  fair_onward x xs p next h l (wrong w) = (refl, refl)

  fair_on : (x : Expected) (xs : List Expected) (p : Spot) (n : Num) → number_at s p.at ≡ n → Fair p (turn_on x xs p n)
  unfolding number_at
  fair_on x xs p Bad e = (refl, refl)
  fair_on x xs p Cut e = (refl, refl)
  fair_on x xs p (Got v next) e =
      let t = takes 3 0 s p.at v next e in
      fair_onward x xs p next t.0 t.1.1 (found_of x p.setting (count_of x p.count) v)

  fair_by : (p : Spot) (xs : List Expected) → Fair p (turn_by s p xs)
  fair_by p [] = pick_case (Fair p) (ltb p.at (length s)) (λ _. (refl, refl)) (λ _. tt)
  fair_by p (x ∷ xs) = fair_on x xs p (number_at s p.at) refl

  fair : (p : Spot) → Fair p (turn_at s p)
  unfolding turn_at
  fair p = fair_by p p.expects

  pub stop_wrong : (p : Spot) {i : Item} → turn_at s p ≡ stops i → fares i ≡ false
  stop_wrong p e = (subst (Fair p) e (fair p)).0

  -- from one spot to another by good numbers
  pub data Passes : Spot → List Item → Spot → Type 0 where
    here : {p : Spot} → Passes p [] p
    past : {p q r : Spot} {i : Item} {l : List Item} → turn_at s p ≡ goes i q → Passes q l r → Passes p (i ∷ l) r

  pub joined : {p q r : Spot} {l m : List Item} → Passes p l q → Passes q m r → Passes p (l ++ m) r
  joined here b = b
  joined (past e a) b = past e (joined a b)

  pub all_good : {p q : Spot} {l : List Item} → Passes p l q → every fares l ≡ true
  all_good here = refl
  all_good (past {p} e a) = both_hold (subst (Fair p) e (fair p)).0.0 (all_good a)

  -- the place grows with each of them, within the data
  pub grows : {p q : Spot} {l : List Item} → Passes p l q → p.at ≤ length s → (p.at + length l ≤ q.at) × (q.at ≤ length s)
  grows here h = (omega arith, h)
  grows (past {p} e a) h =
      let t = subst (Fair p) e (fair p) in
      let u = grows a t.1.1 in
      (omega arith, u.1)

  run : {p q : Spot} {l : List Item} → Passes p l q → (n : ℕ) → numbers_from (length l + n) s p ≡ l ++ numbers_from n s q
  unfolding numbers_from
  run here n = rw (zero-add n)
  run (past {l = l} e a) n = let z : suc (length l) + n ≡ suc (length l + n) = omega arith in rw (z, e, run a n)

  -- the list begins with the numbers that were passed, and goes on with the turn after them
  pub whole : {q : Spot} {l : List Item} → Passes front l q → numbers_in s ≡ l ++ listed (turn_at s q) (λ r. numbers_from (length s - length l) s r)
  unfolding numbers_in numbers_from
  whole {q} {l} a =
      let u = grows a (omega arith) in
      let z : suc (length s) ≡ length l + suc (length s - length l) = omega arith in
      ap (λ (n : ℕ). numbers_from n s front) z ∙ run a (suc (length s - length l))

  -- where it stops at a wrong number, it ends with that,
  pub ends_wrong : {q : Spot} {l : List Item} {i : Item} → Passes front l q → turn_at s q ≡ stops i → numbers_in s ≡ l ++ (i ∷ [])
  ends_wrong a e = whole a ∙ rw e

  -- and is not all good
  pub not_all_good : {q : Spot} {l : List Item} {i : Item} → Passes front l q → turn_at s q ≡ stops i → every fares (numbers_in s) ≡ true → ⊥
  not_all_good {q} {l} {i} a e g = one_wrong l [] i (sym (ap (every fares) (ends_wrong a e)) ∙ g) (stop_wrong q e)

  -- the numbers from a spot on stand there or behind
  behind_turn : (k : ℕ) (p : Spot) (rest : Spot → List Item) → k < p.at → (t : Turn) → Fair p t
      → ((q : Spot) → k < q.at → every (λ i. ltb k i.place) (rest q) ≡ true) → every (λ i. ltb k i.place) (listed t rest) ≡ true
  behind_turn k p rest h (goes i q) f g = both_hold (lt-ltb k i.place (omega (arith, f.0.1))) (g q (omega (arith, f.1.0)))
  behind_turn k p rest h (stops i) f g = both_hold (lt-ltb k i.place (omega (arith, f.1))) refl
  behind_turn k p rest h ends f g = refl

  pub behind : (n k : ℕ) (p : Spot) → k < p.at → every (λ i. ltb k i.place) (numbers_from n s p) ≡ true
  unfolding numbers_from
  behind zero k p h = refl
  behind (suc n) k p h = behind_turn k p (λ q. numbers_from n s q) h (turn_at s p) (fair p) (behind n k)
