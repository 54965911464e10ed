-- What the functions of this crate answer, in terms of what is read.
use Rattle.std.specs.Prelude.{ℕ, Result, Ok, Err}
use Rattle.wire.specs.declared.Unread.{Unread}
use Rattle.wire.specs.declared.Unread.TheVariants.{BadlyFormed, Cut as CutShort}
use Rattle.scanning.specs.Scan.{Inputs}
use Rattle.recording.specs.Recording.{Part, whole, bad, cut}
use Rattle.recording.specs.declared.Lack.{Lack}
use Rattle.recording.specs.declared.Lack.TheVariants.{Bad, Cut}
use Rattle.recording.specs.declared.Recorded.{Recorded}

-- why a number is not there
abbrev pub lack_of : Unread → Lack
lack_of BadlyFormed = Bad
lack_of CutShort = Cut

-- a part and the place after it, or why it is not there
abbrev pub answered : {A : Type 0} → Part A → Result (A × ℕ) Lack
answered (whole a next) = Ok (a, next)
answered bad = Err Bad
answered cut = Err Cut

-- the same of a scan
abbrev pub recorded_in : Part Inputs → Result Recorded Lack
recorded_in (whole x next) = Ok (record { elapsed = x.elapsed; bits = x.bits; words = x.words; next = next })
recorded_in bad = Err Bad
recorded_in cut = Err Cut
