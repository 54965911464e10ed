-- What a read says (ours).
use Rattle.std.specs.Prelude.{List, Result, Ok, Err, Option, Some, None, ℕ, zero, suc, ◌+◌, ◌≤◌, min, length}

-- a reader answers how many bytes it read, of which 0 is the end of the input, and no more are taken than there was room for
unfoldable pub input_of : {E : Type 0} → Result ℕ E → ℕ → Result (Option ℕ) E
input_of (Ok zero) room = Ok None
input_of (Ok (suc k)) room = Ok (Some (min (suc k) room))
input_of (Err e) room = Err e

-- what was read behind `kept` bytes lies within the buffer
abbrev pub Inside : {E : Type 0} → ℕ → List ℕ → Result (Option ℕ) E → Type 0
Inside kept buf (Ok (Some n)) = kept + n ≤ length buf
Inside kept buf (Ok None) = Unit {0}
Inside kept buf (Err e) = Unit {0}
