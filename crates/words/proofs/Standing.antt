-- Bytes that stand in a text: the test says so exactly, and it goes byte by byte. Assumes nothing.
use Prim.Native.Nat.{ℕ, suc, ◌+◌, ◌<◌, ◌≤◌}
use mathlib.Core.Path.{◌≡◌, refl, sym, ◌∙◌}
use mathlib.Core.Bool.{Bool, true, false, ◌&&◌}
use mathlib.Core.Logic.{◌↔◌}
use mathlib.Core.List.{List, [], ◌∷◌}
use native.Mathlib.Numerals.{add-one}
use lib.Dec.{ltb, eqb}
use native.Mathlib.Omega.{arith}
use lib.ListN.{length, take, drop, drop_of_length-le}
use lib.Pointwise.{pointwise}
use lib.Seq.{drop-cons}
use borrow.Author.Tests.{ltb-true, ltb-false, eqb-true, eqb-false, lt-ltb, le-ltb, eq-eqb, ne_eqb}
use Rattle.terms.proofs.Choice.{both}
use Rattle.wire.specs.Number.{byte_at}
use Rattle.wire.specs.Facts.{Stands}
use Rattle.words.specs.Standing.{stands_at}

told : (l s : List ℕ) (at : ℕ) → stands_at l s at ≡ true → Stands l s at
unfolding stands_at
told [] s at e = tt
told (b ∷ l) s at e =
    let o = both (ltb at (length s) && eqb (byte_at s at) b) (stands_at l s (at + 1)) e in
    let q = both (ltb at (length s)) (eqb (byte_at s at) b) o.0 in
    (ltb-true at (length s) q.0, (eqb-true (byte_at s at) b q.1, told l s (at + 1) o.1))

seen : (l s : List ℕ) (at : ℕ) → Stands l s at → stands_at l s at ≡ true
unfolding stands_at
seen [] s at h = refl
seen (b ∷ l) s at (i, (e, h)) = rw (lt-ltb at (length s) i, eq-eqb (byte_at s at) b e) (seen l s (at + 1) h)

pub stands_exactly : (l s : List ℕ) (at : ℕ) → stands_at l s at ≡ true ↔ Stands l s at
stands_exactly l s at = (told l s at, seen l s at)

eqb_turned : (a b : ℕ) → eqb a b ≡ eqb b a
eqb_turned a b = go (eqb a b) refl where
  go : (t : Bool) → eqb a b ≡ t → eqb a b ≡ eqb b a
  go true e = e ∙ sym (eq-eqb b a (sym (eqb-true a b e)))
  go false e = e ∙ sym (ne_eqb b a (λ q. eqb-false a b e (sym q)))

-- bytes that a text begins with from a place on
pub stands_first : (l s : List ℕ) (at : ℕ) → at ≤ length s → stands_at l s at ≡ pointwise eqb l (take (length l) (drop at s))
unfolding stands_at
stands_first [] s at h = refl
stands_first (b ∷ l) s at h = go (ltb at (length s)) refl (λ (i : at < length s). stands_first l s (at + 1) (omega arith)) where
  go :
      (t : Bool) → ltb at (length s) ≡ t →
      (at < length s → stands_at l s (at + 1) ≡ pointwise eqb l (take (length l) (drop (at + 1) s))) →
      stands_at (b ∷ l) s at ≡ pointwise eqb (b ∷ l) (take (suc (length l)) (drop at s))
  go true e rest =
      let i = ltb-true at (length s) e in
      rw (e, drop-cons s at 0 i, eqb_turned (byte_at s at) b, rest i, add-one at) refl
  go false e rest = rw (e, drop_of_length-le s (ltb-false at (length s) e)) refl

-- no bytes but none stand behind the end
pub stands_past : (l s : List ℕ) (at : ℕ) → 0 < length l → length s < at → stands_at l s at ≡ false
unfolding stands_at
stands_past [] s at n h = absurd (omega arith)
stands_past (b ∷ l) s at n h = rw (le-ltb at (length s) (omega arith)) refl
