-- Document 01, "Program bytes", the first paragraph: numbers.
use Rattle.std.specs.Prelude.{ℕ, zero, suc, ◌+◌, ◌*◌, ◌%◌, ◌/◌, List, [], ◌∷◌, length, get_or, ltb, Result, Ok, Err}
use Rattle.terms.specs.Choice.{pick}
use Rattle.wire.specs.declared.Unread.{Unread}
use Rattle.wire.specs.declared.Unread.TheVariants.{BadlyFormed, Cut as CutShort}

-- what stands at a place: a number and the place after it; a badly formed number; or one that the end of the data cuts
pub data Num : Type 0 where
  Got : ℕ → ℕ → Num
  Bad : Num
  Cut : Num

abbrev pub byte_at : List ℕ → ℕ → ℕ
byte_at s at = get_or s at 0

-- "groups of seven bits, lowest first": a group of value g stands before the rest
abbrev pub more : ℕ → Num → Num
more g (Got v next) = Got (g + v * 128) next
more g Bad = Bad
more g Cut = Cut

-- "the last group is zero only for the one-byte number 0": the least last group after the first
abbrev pub not_zero : ℕ
not_zero = 1

-- "the high bit says that another group follows": a number of at most k groups at a place, whose last group is at least `least`.
-- "a third byte with the high bit on is over three groups, also as the last byte": no group left is Bad, before the end is looked at.
unfoldable pub groups_at : ℕ → ℕ → List ℕ → ℕ → Num
groups_at zero least s at = Bad
groups_at (suc k) least s at =
    pick (ltb at (length s))
    (pick (ltb (byte_at s at) 128)
    (pick (ltb (byte_at s at) least) Bad (Got (byte_at s at) (at + 1)))
    (more (byte_at s at % 128) (groups_at k not_zero s (at + 1))))
    Cut

-- "A number is one to three groups"
unfoldable pub number_at : List ℕ → ℕ → Num
number_at s at = groups_at 3 0 s at

-- the same as the code answers it
abbrev pub as_num : Num → Result (ℕ × ℕ) Unread
as_num (Got v next) = Ok (v, next)
as_num Bad = Err BadlyFormed
as_num Cut = Err CutShort

-- "in shortest form": how v is written in at most k groups
unfoldable pub groups_of : ℕ → ℕ → List ℕ
groups_of zero v = []
groups_of (suc k) v = pick (ltb v 128) (v ∷ []) ((128 + v % 128) ∷ groups_of k (v / 128))
