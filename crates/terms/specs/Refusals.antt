-- Document 01, "Numbers of refusal": the one table of them, for all definitions; the code has the same names.
use Rattle.std.specs.Prelude.{ℕ}
use Rattle.terms.specs.declared.refusal.Refusal.{Refusal}
use Rattle.terms.specs.declared.refusal.Refusal.TheVariants.{BadNumber, Outside, Astray, OverMemory, BadState, TooFar, BadText, CutNumber, ShortBuffer}

-- "a number is .. not shortest, or over three groups". Request L2: "Refusal 1 stays for a number that is badly formed"
abbrev pub bad_number : ℕ
bad_number = 1

-- "block or alarm count, kind, field, reference code or expression outside the above; ..; bytes after the end"
abbrev pub outside : ℕ
outside = 2

-- "a reference to a block not in the program, or to the word of a kind without one"
abbrev pub astray : ℕ
astray = 3

-- "memory over 5,000"
abbrev pub over_memory : ℕ
over_memory = 4

-- "bad state"
abbrev pub bad_state : ℕ
bad_state = 5

-- "elapsed would carry the time over 2^64 − 1, or missed is over 2^64 − 33"
abbrev pub too_far : ℕ
too_far = 6

-- Request L1: "7 bad text"
abbrev pub bad_text : ℕ
bad_text = 7

-- Request L2: "a number cut by the end of the data becomes 8"
abbrev pub cut_number : ℕ
cut_number = 8

-- Request L4: "12 at 0, the lent buffer is shorter than the exact result"
abbrev pub short_buffer : ℕ
short_buffer = 12

-- the number that stands for each of the code's names
abbrev pub number_of : Refusal → ℕ
number_of BadNumber = bad_number
number_of Outside = outside
number_of Astray = astray
number_of OverMemory = over_memory
number_of BadState = bad_state
number_of TooFar = too_far
number_of BadText = bad_text
number_of CutNumber = cut_number
number_of ShortBuffer = short_buffer
