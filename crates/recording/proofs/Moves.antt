-- What stands at a place of a recording stands in the rest alone, at a place that is less by what came before. Assumes nothing.
use Prim.Native.Nat.{ℕ, zero, suc, ◌+◌, ◌-◌, ◌%◌}
use mathlib.Core.Path.{◌≡◌, refl}
use mathlib.Core.Bool.{Bool, true, false}
use mathlib.Core.List.{List}
use native.Mathlib.Omega.{arith}
use native.Mathlib.Nat.{add_assoc, add-zero}
use lib.Dec.{ltb}
use lib.ListN.{length, drop, length-drop}
use lib.Seq.{get_or-drop}
use borrow.Author.Tests.{ltb-true, ltb-false, lt-ltb, le-ltb}
use Rattle.terms.specs.Choice.{pick}
use Rattle.wire.specs.Number.{Num, Got, Bad, Cut}
use Rattle.wire.specs.Number.{byte_at, more, not_zero, groups_at, number_at}
use Rattle.recording.specs.Recording.{Part, whole, bad, cut, and_next, short_of, shorts_at, scan_at}

-- whether there is a byte at a place
inside_moved : (s : List ℕ) (d at : ℕ) → ltb (d + at) (length s) ≡ ltb at (length (drop d s))
inside_moved s d at = go (ltb at (length (drop d s))) refl
  where
    long : length (drop d s) ≡ length s - d
    long = length-drop d s

    go : (b : Bool) → ltb at (length (drop d s)) ≡ b → ltb (d + at) (length s) ≡ b
    go true e = let l = ltb-true at (length (drop d s)) e in lt-ltb (d + at) (length s) (omega (arith, long))
    go false e = let l = ltb-false at (length (drop d s)) e in le-ltb (d + at) (length s) (omega (arith, long))

-- a number of what is left after d bytes, seen from the front
abbrev num_shifted : ℕ → Num → Num
num_shifted d (Got v next) = Got v (d + next)
num_shifted d Bad = Bad
num_shifted d Cut = Cut

more_moved : (d g : ℕ) (r : Num) → more g (num_shifted d r) ≡ num_shifted d (more g r)
more_moved d g (Got v next) = refl
more_moved d g Bad = refl
more_moved d g Cut = refl

group_moved :
    (d : ℕ) (a b c : Bool) (g v next : ℕ) (r : Num) →
    pick a (pick b (pick c Bad (Got v (d + next))) (more g (num_shifted d r))) Cut ≡ num_shifted d (pick a (pick b (pick c Bad (Got v next)) (more g r)) Cut)
group_moved d false b c g v next r = refl
group_moved d true true true g v next r = refl
group_moved d true true false g v next r = refl
group_moved d true false c g v next r = more_moved d g r

groups_moved : (k least : ℕ) (s : List ℕ) (d at : ℕ) → groups_at k least s (d + at) ≡ num_shifted d (groups_at k least (drop d s) at)
unfolding groups_at
groups_moved zero least s d at = refl
groups_moved (suc k) least s d at =
    let b = byte_at s (d + at) in
    rw (inside_moved s d at, get_or-drop d s at 0, add_assoc d at 1, groups_moved k not_zero s d (at + 1))
    (group_moved d (ltb at (length (drop d s))) (ltb b 128) (ltb b least) (b % 128) b (at + 1) (groups_at k not_zero (drop d s) (at + 1)))

number_moved : (s : List ℕ) (d at : ℕ) → number_at s (d + at) ≡ num_shifted d (number_at (drop d s) at)
unfolding number_at
number_moved s d at = groups_moved 3 0 s d at

-- a part of what is left after d bytes, seen from the front
abbrev pub shifted : {A : Type 0} → ℕ → Part A → Part A
shifted d (whole a next) = whole a (d + next)
shifted d bad = bad
shifted d cut = cut

short_moved : (d : ℕ) (r : Num) → short_of (num_shifted d r) ≡ shifted d (short_of r)
short_moved d (Got v next) = go (ltb v 65536)
  where
    go : (b : Bool) → pick b (whole v (d + next)) bad ≡ shifted d (pick b (whole v next) bad)
    go true = refl
    go false = refl
short_moved d Bad = refl
short_moved d Cut = refl

then_moved :
    {A B : Type 0} (d : ℕ) (r : Part A) (f g : A → ℕ → Part B) → ((a : A) (at : ℕ) → f a (d + at) ≡ shifted d (g a at)) →
    and_next (shifted d r) f ≡ shifted d (and_next r g)
then_moved d (whole a at) f g e = e a at
then_moved d bad f g e = refl
then_moved d cut f g e = refl

shorts_moved : (n : ℕ) (s : List ℕ) (d at : ℕ) → shorts_at n s (d + at) ≡ shifted d (shorts_at n (drop d s) at)
unfolding shorts_at
shorts_moved zero s d at = refl
shorts_moved (suc n) s d at =
    rw (number_moved s d at, short_moved d (number_at (drop d s) at))
    (then_moved d (short_of (number_at (drop d s) at)) _ _
    (λ v next. rw (shorts_moved n s d next) (then_moved d (shorts_at n (drop d s) next) _ _ (λ vs end. refl))))

scan_moved : (s : List ℕ) (d at : ℕ) → scan_at s (d + at) ≡ shifted d (scan_at (drop d s) at)
unfolding scan_at
scan_moved s d at = rw (shorts_moved 11 s d at) (then_moved d (shorts_at 11 (drop d s) at) _ _ (λ vs next. refl))

-- so a scan at a place is the first of what is left there
pub scan_left : (s : List ℕ) (at : ℕ) → scan_at s at ≡ shifted at (scan_at (drop at s) 0)
scan_left s at = rw (add-zero at) at (scan_moved s at 0)
