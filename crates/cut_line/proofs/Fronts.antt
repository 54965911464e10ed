-- The numbers of some bytes, and of these with more behind them: they are the same up to one that is cut, or up to the end of the program.
-- Assumes nothing.
use Prim.Native.Nat.{ℕ, ◌<◌, ◌≤◌}
use mathlib.Core.Path.{◌≡◌, refl, subst}
use mathlib.Core.Bool.{Bool, true, false}
use mathlib.Core.List.{List, [], ◌∷◌, ◌++◌}
use native.Mathlib.Omega.{arith}
use lib.Dec.{ltb}
use lib.ListN.{length, length-append}
use borrow.Author.Tests.{ltb-true, ltb-false}
use Rattle.terms.specs.Choice.{pick}
use Rattle.wire.specs.Number.{Num, Got, Bad, Cut}
use Rattle.wire.specs.Number.{number_at}
use Rattle.wire.proofs.Continued.{Kept, number_kept}
use Rattle.order.specs.Order.{Expected, is_cut, Found, good, wrong, Item, Spot, count_of, found_of, Turn, goes, stops, ends}
use Rattle.order.specs.Order.{onward, turn_on, turn_by, turn_at}
use Rattle.order.proofs.Passes.{Passes, here, past}

module _ (u v : List ℕ) where
  -- a number at p that is cut in u: in more bytes it is good, and ends behind u, or it is wrong
  abbrev pub Beyond : Spot → Turn → Type 0
  Beyond p (goes j q) = (j.place ≡ p.at) × (length u < q.at)
  Beyond p (stops j) = Unit {0}
  Beyond p ends = ⊥

  -- a wrong number at p in u, and the turn there in more bytes
  pub data Stopped (p : Spot) (i : Item) (t : Turn) : Type 0 where
    same : t ≡ stops i → Stopped p i t
    longer : i.found ≡ wrong is_cut → i.place ≡ p.at → Beyond p t → Stopped p i t

  -- the end in u: there are more bytes behind it, or none
  abbrev Ended : Spot → Turn → Type 0
  Ended p (goes j q) = ⊥
  Ended p (stops j) = Unit {0}
  Ended p ends = length (u ++ v) ≤ p.at

  abbrev pub Onward : Spot → Turn → Turn → Type 0
  Onward p (goes i q) t = t ≡ goes i q
  Onward p (stops i) t = Stopped p i t
  Onward p ends t = Ended p t

  found_on : (x : Expected) (xs : List Expected) (p : Spot) (next : ℕ) (f : Found) → Onward p (onward x xs p next f) (onward x xs p next f)
  found_on x xs p next (good w) = refl
  found_on x xs p next (wrong w) = same refl

  beyond : (x : Expected) (xs : List Expected) (p : Spot) (next : ℕ) → length u < next → (f : Found) → Beyond p (onward x xs p next f)
  beyond x xs p next h (good w) = (refl, h)
  beyond x xs p next h (wrong w) = tt

  cut_on : (x : Expected) (xs : List Expected) (p : Spot) (r : Num) → Kept (length u) Cut r → Beyond p (turn_on x xs p r)
  cut_on x xs p (Got w next) h = beyond x xs p next (h w next refl) (found_of x p.setting (count_of x p.count) w)
  cut_on x xs p Bad h = tt
  cut_on x xs p Cut h = tt

  number_on : (x : Expected) (xs : List Expected) (p : Spot) (n r : Num) → Kept (length u) n r → Onward p (turn_on x xs p n) (turn_on x xs p r)
  number_on x xs p (Got w next) r e = rw e (found_on x xs p next (found_of x p.setting (count_of x p.count) w))
  number_on x xs p Bad r e = rw e (same refl)
  number_on x xs p Cut r e = longer refl refl (cut_on x xs p r e)

  end_on : (p : Spot) (i : Item) (a b : Bool) → ltb p.at (length u) ≡ a → ltb p.at (length (u ++ v)) ≡ b → Onward p (pick a (stops i) ends) (pick b (stops i) ends)
  end_on p i true true e f = same refl
  end_on p i true false e f =
      absurd (omega (arith, length-append u v, ltb-true p.at (length u) e, ltb-false p.at (length (u ++ v)) f))
  end_on p i false true e f = tt
  end_on p i false false e f = ltb-false p.at (length (u ++ v)) f

  by_expected : (p : Spot) (xs : List Expected) → Onward p (turn_by u p xs) (turn_by (u ++ v) p xs)
  by_expected p [] = end_on p _ (ltb p.at (length u)) (ltb p.at (length (u ++ v))) refl refl
  by_expected p (x ∷ xs) = number_on x xs p (number_at u p.at) (number_at (u ++ v) p.at) (number_kept u v p.at)

  -- a turn in u, and in more bytes
  turn_on_lem : (p : Spot) → Onward p (turn_at u p) (turn_at (u ++ v) p)
  unfolding turn_at
  turn_on_lem p = by_expected p p.expects

  pub turned_on : (p : Spot) {t : Turn} → turn_at u p ≡ t → Onward p t (turn_at (u ++ v) p)
  turned_on p e = subst (λ (t : Turn). Onward p t (turn_at (u ++ v) p)) e (turn_on_lem p)

  -- the numbers that were passed in u are passed in more bytes
  pub pass_on : {p q : Spot} {l : List Item} → Passes u p l q → Passes (u ++ v) p l q
  pass_on here = here
  pass_on (past {p} e a) = past (turned_on p e) (pass_on a)
