-- The columns of the table of kinds, as the code has them: a field by its kind and its place, and what it is read as where a listing leaves it out (ours).
use Rattle.std.specs.Prelude.{ℕ, List, [], ◌∷◌, get_or}
use Rattle.kinds.specs.Kinds.{LeftOut, never, reads, Field, bare_field, nothing, fields_of}

-- no field: what a row is said to have past its end
abbrev pub no_field : Field
no_field = bare_field nothing

abbrev pub field_of : ℕ → ℕ → Field
field_of k i = get_or (fields_of k) i no_field

-- the names and types of fields, in their order
abbrev pub row : List Field → List (ℕ × ℕ)
row [] = []
row (f ∷ fs) = (f.name, f.type) ∷ row fs

-- "A bit pin left out is read as off": as a bit reference; a field that must be there has the first number that is none
abbrev pub must_stand : ℕ
must_stand = 234

abbrev pub left_code : LeftOut → ℕ
left_code never = must_stand
left_code (reads v) = v
