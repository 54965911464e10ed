-- Request L4, "fields by name": the fields of a block that is no BL, by the numbers that carry them. The texts are those of layout/specs/Listed.
use Rattle.std.specs.Prelude.{ℕ, ◌<◌, List, [], ◌∷◌, ◌++◌, length}
use Rattle.numbers.specs.Types.{kind_count}
use Rattle.kinds.specs.Kinds.{Field, fields_of}
use Rattle.layout.specs.Listed.{field_text}

-- a field of a kind that is no BL
pub record IsField (kind i : ℕ) : Type 0 where
  pub plain : 0 < kind
  pub known : kind < kind_count
  pub there : i < length (fields_of kind)

unfoldable pub codes_text : List Field → List ℕ → List ℕ
codes_text [] vs = []
codes_text (f ∷ fs) [] = []
codes_text (f ∷ fs) (v ∷ vs) = field_text f v ++ codes_text fs vs
