-- Laws of where a scan ends: it takes at least eleven bytes, all of them within the data; and where one is cut, fewer than its most bytes are there.
-- Assumes nothing.
use Prim.Native.Nat.{ℕ, zero, suc, ◌+◌, ◌*◌, ◌≤◌, ◌<◌}
use mathlib.Core.Path.{◌≡◌, refl}
use mathlib.Core.List.{List, ◌∷◌}
use native.Mathlib.Omega.{arith}
use lib.Dec.{ltb}
use lib.ListN.{length}
use Rattle.terms.proofs.Choice.{pick_case}
use Rattle.wire.specs.Number.{Num, Got, Bad, Cut}
use Rattle.wire.specs.Number.{number_at}
use Rattle.wire.specs.Facts.{IsCut, cut_short}
use Rattle.wire.proofs.Laws.{takes}
use Rattle.wire.proofs.Reasons.{cut_exactly}
use Rattle.recording.specs.Recording.{Part, whole, bad, cut, and_next, short_of, shorts_at, inputs_in, scan_at, least_bytes}

-- a number stands within the data, and one that is cut is near its end
pub number_within : (s : List ℕ) (at : ℕ) {v next : ℕ} → number_at s at ≡ Got v next → (at < next) × ((next ≤ at + 3) × (next ≤ length s))
unfolding number_at
number_within s at {v} {next} e = takes 3 0 s at v next e

near : (s : List ℕ) (at : ℕ) → IsCut 3 s at → length s < at + 3
near s at (cut_short n l e h) = omega arith

pub number_near : (s : List ℕ) (at : ℕ) → number_at s at ≡ Cut → length s < at + 3
unfolding number_at
number_near s at e = near s at ((cut_exactly 3 s at).0 e)

-- what takes n numbers from a place on, or is cut there
module _ (s : List ℕ) where
  abbrev pub Takes : {A : Type 0} → ℕ → ℕ → Part A → Type 0
  Takes n at (whole a next) = (at + n ≤ next) × ((next ≤ at + n * 3) × (next ≤ length s))
  Takes n at bad = Unit {0}
  Takes n at cut = length s < at + n * 3

  takes_then :
      {A B : Type 0} (n m at : ℕ) (r : Part A) (f : A → ℕ → Part B) → Takes n at r → ((a : A) (next : ℕ) → next ≤ length s → Takes m next (f a next)) →
      Takes (n + m) at (and_next r f)
  takes_then n m at (whole a next) f h g = onward (f a next) (g a next h.1.1)
    where
      onward : {B : Type 0} (r : Part B) → Takes m next r → Takes (n + m) at r
      onward (whole b end) k = (omega arith, (omega arith, k.1.1))
      onward bad k = tt
      onward cut k = omega arith
  takes_then n m at bad f h g = tt
  takes_then n m at cut f h g = omega arith

  short_takes : (at : ℕ) (r : Num) → number_at s at ≡ r → Takes 1 at (short_of r)
  short_takes at (Got v next) e =
      let t = number_within s at e in
      pick_case (Takes 1 at) (ltb v 65536) (λ _. (omega arith, (t.1.0, t.1.1))) (λ _. tt)
  short_takes at Bad e = tt
  short_takes at Cut e = number_near s at e

  -- what is made of it takes as much
  takes_map : {A B : Type 0} (c : A → B) (n at : ℕ) (r : Part A) → Takes n at r → Takes n at (and_next r (λ a end. whole (c a) end))
  takes_map c n at (whole a end) k = k
  takes_map c n at bad k = k
  takes_map c n at cut k = k

  shorts_take : (n at : ℕ) → at ≤ length s → Takes n at (shorts_at n s at)
  unfolding shorts_at
  shorts_take zero at h = (omega arith, (omega arith, h))
  shorts_take (suc n) at h =
      let z : suc n ≡ 1 + n = omega arith in
      rw z
      (takes_then 1 n at (short_of (number_at s at)) _ (short_takes at (number_at s at) refl)
      (λ v next k. takes_map (◌∷◌ v) n next (shorts_at n s next) (shorts_take n next k)))

  pub scan_takes : (at : ℕ) → at ≤ length s → Takes least_bytes at (scan_at s at)
  unfolding scan_at
  scan_takes at h = takes_map inputs_in 11 at (shorts_at 11 s at) (shorts_take 11 at h)
