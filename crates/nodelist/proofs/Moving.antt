-- A number put before others: these are copied one place up, as far as there are places, and it is put where they began. Assumes nothing.
use Rattle.std.proofs.Common.{◌≡◌, refl, sym, ap, ◌∙◌, ℕ, zero, suc, ◌+◌, ◌-◌, ◌<◌, ◌≤◌, List, [], ◌∷◌, arith, length, take, drop, length-take-le, add-one}
use Rattle.std.proofs.Math.ListN.{set, length-set, length-drop}
use Rattle.std.proofs.Math.Seq.{sets, sets-eq, paste}
use mathlib.Core.Logic.{inl, inr}
use Rattle.terms.proofs.Choice.{le_or_lt}
use Rattle.terms.proofs.Sets.{sets_out, set_sets}

pasted : (l s : List ℕ) (at n : ℕ) → at + n ≤ length l → n ≤ length s → paste l at s n ≡ sets l at (take n s)
pasted l s at n h k = let e : length (take n s) ≡ n = length-take-le n s k in sym (sets-eq (take n s) l at (rw e h) ∙ rw e refl)

-- what finds no place is gone
cut : (s m : List ℕ) (at n count : ℕ) → n ≤ count → length m ≤ at + n → sets m at (take n s) ≡ sets m at (take count s)
cut s m at zero count h k = sym (sets_out (take count s) m at (omega arith))
cut s m at (suc n) zero h k = absurd (omega arith)
cut [] m at (suc n) (suc count) h k = refl
cut (x ∷ xs) m at (suc n) (suc count) h k = cut xs (set m at x) (suc at) n count (omega arith) (rw (length-set m at x) (omega arith))

cut_at : (s m : List ℕ) (at n count : ℕ) → n ≤ count → (n < count → length m ≤ at + n) → sets m at (take n s) ≡ sets m at (take count s)
cut_at s m at n count h f = elim (le_or_lt count n) [ inl g ↦ (let e : n ≡ count = omega arith in rw e refl) | inr g ↦ cut s m at n count h (f g) ]

pub moved :
    (l : List ℕ) (from count n number : ℕ) → from + n < length l → n ≤ count → (n < count → length l ≤ from + n + 1) →
    set (paste l (from + 1) (drop from l) n) from number ≡ sets l from (number ∷ take count (drop from l))
moved l from count n number h g f =
    let size : n ≤ length (drop from l) = omega (arith, length-drop from l) in
    let e = pasted l (drop from l) (from + 1) n (omega arith) size in
    let m = set l from number in
    let up : from + 1 ≡ suc from = add-one from in
    ap (λ (k : List ℕ). set k from number) e
    ∙ set_sets (take n (drop from l)) l from (from + 1) number (omega arith)
    ∙ cut_at (drop from l) m (from + 1) n count g (λ k. rw (length-set l from number) (omega (arith, f k)))
    ∙ ap (λ (k : ℕ). sets m k (take count (drop from l))) up
