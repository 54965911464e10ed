-- What stands from a place of a line on as the fields of a row, as numbers (ours; Layout says what is good).
use Rattle.std.specs.Prelude.{ℕ, ◌+◌, Bool, ◌&&◌, List, [], ◌∷◌, length, ltb, leb, eqb}
use Rattle.terms.specs.Choice.{pick}
use Rattle.wire.specs.Number.{byte_at}
use Rattle.spelling.specs.Spelling.{after_spaces}
use Rattle.words.specs.Words.{word_text}
use Rattle.words.specs.Standing.{stands_at}
use Rattle.values.specs.Reading.{Value}
use Rattle.values.specs.Reading.{Got, Bad}
use Rattle.values.specs.Reading.{value_at}
use Rattle.kinds.specs.Kinds.{LeftOut, never, reads, Field}
use Rattle.layout.specs.Layout.{equals}

pub data Found : Type 0 where
  found : List ℕ → Found
  lost : Found

abbrev pub before : ℕ → Found → Found
before v (found vs) = found (v ∷ vs)
before v lost = lost

-- whether a field of this name stands behind a space or more
unfoldable pub named_at : ℕ → List ℕ → ℕ → Bool
named_at name s at =
    ltb at (after_spaces s at) && (stands_at (word_text name) s (after_spaces s at) && eqb (byte_at s (after_spaces s at + length (word_text name))) equals)

-- where its value begins
unfoldable pub value_place : ℕ → List ℕ → ℕ → ℕ
value_place name s at = after_spaces s at + length (word_text name) + 1

abbrev pub leaves : LeftOut → Found → Found
leaves never r = lost
leaves (reads v) r = before v r

abbrev pub taken : Value → (ℕ → Found) → Found
taken (Got v next) rest = before v (rest next)
taken Bad rest = lost

unfoldable pub fields_from : List Field → List ℕ → ℕ → Found
fields_from [] s at = pick (leb (length s) (after_spaces s at)) (found []) lost
fields_from (f ∷ fs) s at =
    pick (named_at f.name s at)
    (taken (value_at f.type s (value_place f.name s at)) (fields_from fs s))
    (leaves f.left_out_as (fields_from fs s at))
