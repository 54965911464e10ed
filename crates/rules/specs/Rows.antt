-- What a rule is given: a row of numbers, each allowed where it stands, and what they say there (ours).
use Rattle.std.specs.Prelude.{Bool, true, ◌&&◌, List, [], ◌∷◌, ℕ, suc, get_or}
use Rattle.numbers.specs.Blocks.{Content, Block}
use Rattle.numbers.specs.Types.{allowed, content_of, setting_of}
use Rattle.kinds.specs.Kinds.{types_of}

-- the numbers l, from place i on, are allowed in fields of these types
unfoldable pub all_allowed : List ℕ → ℕ → ℕ → List ℕ → Bool
all_allowed [] i before l = true
all_allowed (ty ∷ ts) i before l =
    allowed ty before (get_or l i 0) && all_allowed ts (suc i) (setting_of (content_of ty (get_or l i 0))) l

-- what they say there
unfoldable pub contents : List ℕ → ℕ → List ℕ → List Content
contents [] i l = []
contents (ty ∷ ts) i l = content_of ty (get_or l i 0) ∷ contents ts (suc i) l

-- a block by its kind and the numbers of its fields
abbrev pub row_block : ℕ → List ℕ → Block
row_block kind l = record { kind = kind; fields = contents (types_of kind) 0 l }
