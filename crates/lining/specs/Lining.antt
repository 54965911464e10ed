-- Request L4, import: what is read of a block's line, as the code answers it (ours).
use Rattle.std.specs.Prelude.{ℕ, List, replicate, ltb, Option, None, Some}
use Rattle.std.proofs.lemmas.List.Edits.{sets}
use Rattle.terms.specs.Choice.{pick}
use Rattle.numbers.specs.Types.{kind_count}
use Rattle.values.specs.Reading.{Value}
use Rattle.values.specs.Reading.{Got, Bad}
use Rattle.values.specs.Reading.{value_at}
use Rattle.kinds.specs.Kinds.{LeftOut, never, reads, Field}
use Rattle.layout.specs.Heads.{Heading, of_kind, no_kind}
use Rattle.layout.specs.Fields.{Found, found, lost, named_at, value_place}

-- a kind by its number, which is the count of the kinds where there is none
abbrev pub as_kind : ℕ → Option ℕ
as_kind k = pick (ltb k kind_count) (Some k) None

-- the kind of a line and the place behind its letters, or no such line
abbrev pub as_head : Heading → Option (ℕ × ℕ)
as_head (of_kind k at) = Some (k, at)
as_head no_kind = None

-- one field: its number and the place behind it, or none; a field that is left out ends where it begins
abbrev pub left_at : LeftOut → ℕ → Value
left_at never at = Bad
left_at (reads v) at = Got v at

unfoldable pub field_at : Field → List ℕ → ℕ → Value
field_at f s at = pick (named_at f.name s at) (value_at f.type s (value_place f.name s at)) (left_at f.left_out_as at)

-- the numbers of the fields from the first place on; none if they are no fields
abbrev pub as_row : Found → Option (List ℕ)
as_row (found vs) = Some (sets (replicate 5 0) 0 vs)
as_row lost = None
