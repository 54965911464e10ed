-- What an answer tells of the part that was read: which it is. Assumes nothing.
use Prim.Native.Nat.{ℕ}
use mathlib.Core.Path.{◌≡◌, refl, sym, ap, ◌∙◌}
use Rattle.std.specs.Prelude.{Result, Ok, Err}
use Rattle.scanning.specs.Scan.{Inputs, inputs}
use Rattle.recording.specs.Recording.{Part, whole, bad, cut}
use Rattle.recording.specs.Answers.{answered, recorded_in}
use Rattle.recording.specs.declared.Lack.{Lack}
use Rattle.recording.specs.declared.Lack.TheVariants.{Bad, Cut}
use Rattle.recording.specs.declared.Recorded.{Recorded}

module _ {A : Type 0} where
  abbrev pub part_of : Result (A × ℕ) Lack → Part A
  part_of (Ok x) = whole x.0 x.1
  part_of (Err Bad) = bad
  part_of (Err Cut) = cut

  told : (p : Part A) → part_of (answered p) ≡ p
  told (whole a next) = refl
  told bad = refl
  told cut = refl

  pub part_is : (p : Part A) {r : Result (A × ℕ) Lack} → r ≡ answered p → p ≡ part_of r
  part_is p e = sym (ap part_of e ∙ told p)

-- the same of a scan
abbrev pub scan_of : Result Recorded Lack → Part Inputs
scan_of (Ok r) = whole (inputs r.elapsed r.bits r.words) r.next
scan_of (Err Bad) = bad
scan_of (Err Cut) = cut

scan_told : (p : Part Inputs) → scan_of (recorded_in p) ≡ p
scan_told (whole x next) = refl
scan_told bad = refl
scan_told cut = refl

pub scan_is : (p : Part Inputs) {r : Result Recorded Lack} → r ≡ recorded_in p → p ≡ scan_of r
scan_is p e = sym (ap scan_of e ∙ scan_told p)
