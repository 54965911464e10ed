-- Document 01, "The listing program": how a recording stands in its bytes, "program length, program, then scans".
use Rattle.std.specs.Prelude.{List, [], ◌∷◌, map, ℕ, zero, suc, ◌+◌, ◌*◌, length, drop, get_or, ltb}
use Rattle.terms.specs.Choice.{pick}
use Rattle.terms.specs.Words.{signed}
use Rattle.wire.specs.Number.{Num, Got, Bad, Cut}
use Rattle.wire.specs.Number.{number_at}
use Rattle.scanning.specs.Scan.{Inputs}

-- what stands at a place: all of a part of a recording, and the place after it; something else; or only the beginning of it, cut by the end of the bytes
pub data Part (A : Type 0) : Type 0 where
  whole : A → ℕ → Part A
  bad : Part A
  cut : Part A

abbrev pub and_next : {A B : Type 0} → Part A → (A → ℕ → Part B) → Part B
and_next (whole a next) f = f a next
and_next bad f = bad
and_next cut f = cut

-- the longest program
abbrev pub program_bytes : ℕ
program_bytes = 16384

-- "A length malformed or over 16,384, or too few bytes": else the program's length, and the place after it, where the program starts
abbrev pub length_of : List ℕ → Num → Part ℕ
length_of s (Got n at) = pick (ltb program_bytes n) bad (pick (ltb (length s) (at + n)) cut (whole n at))
length_of s Bad = bad
length_of s Cut = cut

unfoldable pub length_in : List ℕ → Part ℕ
length_in s = length_of s (number_at s 0)

-- a number of 16 bits: "cut, malformed or out of range"
abbrev pub short_of : Num → Part ℕ
short_of (Got v next) = pick (ltb v 65536) (whole v next) bad
short_of Bad = bad
short_of Cut = cut

-- n of them, one after the other
unfoldable pub shorts_at : ℕ → List ℕ → ℕ → Part (List ℕ)
shorts_at zero s at = whole [] at
shorts_at (suc n) s at =
    and_next (short_of (number_at s at)) (λ v next. and_next (shorts_at n s next) (λ vs end. whole (v ∷ vs) end))

-- "elapsed, input bits 0..15, bits 16..31, eight words carried ±"
unfoldable pub inputs_in : List ℕ → Inputs
inputs_in vs =
    record {
      elapsed = get_or vs 0 0;
      bits = get_or vs 1 0 + get_or vs 2 0 * 65536;
      words = map signed (drop 3 vs);
    }

-- a scan of a recording
unfoldable pub scan_at : List ℕ → ℕ → Part Inputs
scan_at s at = and_next (shorts_at 11 s at) (λ vs next. whole (inputs_in vs) next)

-- the least bytes of a scan: eleven numbers of one byte
abbrev pub least_bytes : ℕ
least_bytes = 11
