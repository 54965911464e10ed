-- Numbers read one after the other: those that are read stand before those that are left. Assumes nothing.
use Prim.Native.Nat.{ℕ, suc, ◌+◌, ◌*◌}
use mathlib.Core.Path.{◌≡◌, refl, sym, ap}
use mathlib.Core.List.{List, [], ◌∷◌, ◌++◌, map, append_assoc}
use lib.IntN.{ℤ}
use lib.ListN.{get_or, drop}
use Rattle.std.specs.Prelude.{Ok, Err}
use Rattle.terms.specs.Words.{signed}
use Rattle.wire.specs.Number.{number_at}
use Rattle.scanning.specs.Scan.{Inputs}
use Rattle.recording.specs.Recording.{Part, whole, bad, cut, and_next, short_of, shorts_at, inputs_in, scan_at}
use Rattle.recording.specs.Answers.{answered, recorded_in}
use Rattle.recording.specs.declared.Lack.{Lack}
use Rattle.recording.proofs.Parts.{part_is}

abbrev pub behind : List ℕ → Part (List ℕ) → Part (List ℕ)
behind front p = and_next p (λ vs end. whole (front ++ vs) end)

cons_behind : (front : List ℕ) (v : ℕ) (p : Part (List ℕ)) → behind front (and_next p (λ vs end. whole (v ∷ vs) end)) ≡ behind (front ++ v ∷ []) p
cons_behind front v (whole vs end) = ap (λ (l : List ℕ). whole l end) (sym (append_assoc front (v ∷ []) vs))
cons_behind front v bad = refl
cons_behind front v cut = refl

none_behind : (front : List ℕ) (f : ℕ → ℕ → Part (List ℕ)) (p : Part ℕ) {k : Lack} → Err k ≡ answered p → Err k ≡ answered (behind front (and_next p f))
none_behind front f (whole v next) e = cc
none_behind front f bad e = cc
none_behind front f cut e = cc

module _ (front : List ℕ) (n : ℕ) (s : List ℕ) (at : ℕ) where
  pub one_more : {v next : ℕ} → Ok (v, next) ≡ answered (short_of (number_at s at))
      → behind front (shorts_at (suc n) s at) ≡ behind (front ++ v ∷ []) (shorts_at n s next)
  unfolding shorts_at
  one_more {v} {next} e = rw (part_is (short_of (number_at s at)) e) (cons_behind front v (shorts_at n s next))

  pub no_more : {k : Lack} → Err k ≡ answered (short_of (number_at s at)) → Err k ≡ answered (behind front (shorts_at (suc n) s at))
  unfolding shorts_at
  no_more e = none_behind front _ (short_of (number_at s at)) e

-- the scan of numbers that were read
module _ (p : Part (List ℕ)) where
  pub scan_from : {vs : List ℕ} {next b : ℕ} {w : List ℤ} → Ok (vs, next) ≡ answered p → b ≡ get_or vs 1 0 + get_or vs 2 0 * 65536 → w ≡ map signed (drop 3 vs)
      → Ok (record { elapsed = get_or vs 0 0; bits = b; words = w; next = next }) ≡ recorded_in (and_next p (λ vs next. whole (inputs_in vs) next))
  unfolding inputs_in
  scan_from e f g = rw (part_is p e, f, g) refl

no_scan : (p : Part (List ℕ)) (f : List ℕ → ℕ → Part Inputs) {k : Lack} → Err k ≡ answered p → Err k ≡ recorded_in (and_next p f)
no_scan (whole vs next) f e = cc
no_scan bad f e = cc
no_scan cut f e = cc

module _ (s : List ℕ) (at : ℕ) where
  pub no_scan_at : {k : Lack} → Err k ≡ answered (shorts_at 11 s at) → Err k ≡ recorded_in (scan_at s at)
  unfolding scan_at
  no_scan_at e = no_scan (shorts_at 11 s at) _ e
