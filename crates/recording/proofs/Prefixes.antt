-- What is not cut stays as it is, whatever bytes come after: scans and the head. Assumes nothing.
use Prim.Native.Nat.{ℕ, zero, suc, ◌+◌}
use mathlib.Core.Path.{◌≡◌, refl}
use mathlib.Core.Bool.{Bool, true, false}
use mathlib.Core.List.{List, ◌∷◌, ◌++◌}
use native.Mathlib.Omega.{arith}
use lib.Dec.{ltb}
use lib.ListN.{length, length-append}
use borrow.Author.Tests.{ltb-false, le-ltb}
use Rattle.terms.specs.Choice.{pick}
use Rattle.wire.specs.Number.{Num, Got, Bad, Cut}
use Rattle.wire.specs.Number.{number_at}
use Rattle.wire.proofs.Continued.{Kept, number_kept}
use Rattle.recording.specs.Recording.{Part, whole, bad, cut, and_next, program_bytes, length_of, length_in, short_of, shorts_at, inputs_in, scan_at}

-- a part of a recording in u, and in more bytes
abbrev pub Stays : {A : Type 0} → Part A → Part A → Type 0
Stays (whole a next) r = r ≡ whole a next
Stays bad r = r ≡ bad
Stays cut r = Unit {0}

stays_then :
    {A B : Type 0} (p q : Part A) (f g : A → ℕ → Part B) → Stays p q → ((a : A) (n : ℕ) → Stays (f a n) (g a n)) → Stays (and_next p f) (and_next q g)
stays_then (whole a n) q f g e h = rw e (h a n)
stays_then bad q f g e h = rw e
stays_then cut q f g e h = tt

stays_map : {A B : Type 0} (c : A → B) (p q : Part A) → Stays p q → Stays (and_next p (λ a n. whole (c a) n)) (and_next q (λ a n. whole (c a) n))
stays_map c p q e = stays_then p q (λ a n. whole (c a) n) (λ a n. whole (c a) n) e (λ a n. refl)

short_stays : (k : ℕ) (n r : Num) → Kept k n r → Stays (short_of n) (short_of r)
short_stays k (Got v next) r e = rw e (go (ltb v 65536))
  where
    go : (b : Bool) → Stays (pick b (whole v next) bad) (pick b (whole v next) bad)
    go true = refl
    go false = refl
short_stays k Bad r e = rw e
short_stays k Cut r e = tt

module _ (u v : List ℕ) where
  shorts_stay : (n at : ℕ) → Stays (shorts_at n u at) (shorts_at n (u ++ v) at)
  unfolding shorts_at
  shorts_stay zero at = refl
  shorts_stay (suc n) at =
      stays_then (short_of (number_at u at)) (short_of (number_at (u ++ v) at)) _ _ (short_stays (length u) (number_at u at) (number_at (u ++ v) at) (number_kept u v at))
      (λ w next. stays_map (◌∷◌ w) (shorts_at n u next) (shorts_at n (u ++ v) next) (shorts_stay n next))

  pub scan_stays : (at : ℕ) → Stays (scan_at u at) (scan_at (u ++ v) at)
  unfolding scan_at
  scan_stays at = stays_map inputs_in (shorts_at 11 u at) (shorts_at 11 (u ++ v) at) (shorts_stay 11 at)

  -- the head
  length_stays_of : (n r : Num) → Kept (length u) n r → Stays (length_of u n) (length_of (u ++ v) r)
  length_stays_of (Got n at) r e = rw e (go (ltb program_bytes n) (ltb (length u) (at + n)) refl)
    where
      go : (a b : Bool) → ltb (length u) (at + n) ≡ b
          → Stays (pick a bad (pick b cut (whole n at))) (pick a bad (pick (ltb (length (u ++ v)) (at + n)) cut (whole n at)))
      go true b f = refl
      go false true f = tt
      go false false f = let l = ltb-false (length u) (at + n) f in rw (le-ltb (length (u ++ v)) (at + n) (rw (length-append u v) (omega arith)))
  length_stays_of Bad r e = rw e
  length_stays_of Cut r e = tt

  pub length_stays : Stays (length_in u) (length_in (u ++ v))
  unfolding length_in
  length_stays = length_stays_of (number_at u 0) (number_at (u ++ v) 0) (number_kept u v 0)
