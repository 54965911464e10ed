-- Document 01, "Program bytes": what the bytes of a block mean.
use Rattle.std.specs.Prelude.{List, [], ◌∷◌, ℕ, eqb}
use Rattle.terms.specs.Choice.{when}
use Rattle.wire.specs.Reading.{Read, got, and_then}
use Rattle.numbers.specs.Blocks.{Content, tree, Block}
use Rattle.numbers.specs.Types.{kind_number, content_of, setting_of}
use Rattle.numbers.specs.Reading.{Marks, typed_at}
use Rattle.nodes.specs.Reading.{most_deep, most_nodes, expr_at}
use Rattle.kinds.specs.Kinds.{expression, types_of}

-- a field of a type
unfoldable pub content_at : Marks → ℕ → ℕ → List ℕ → ℕ → Read Content
content_at m ty before s at =
    when (eqb ty expression)
    (λ _. and_then (expr_at m most_deep most_nodes s at) (λ t next. got (tree t) next))
    (λ _. and_then (typed_at m ty before s at) (λ v next. got (content_of ty v) next))

-- the fields of a row of the table
unfoldable pub fields_at : Marks → List ℕ → ℕ → List ℕ → ℕ → Read (List Content)
fields_at m [] before s at = got [] at
fields_at m (ty ∷ ts) before s at =
    and_then (content_at m ty before s at)
    (λ c next. and_then (fields_at m ts (setting_of c) s next) (λ cs end. got (c ∷ cs) end))

-- "each block as kind and fields"
unfoldable pub block_at : Marks → List ℕ → ℕ → Read Block
block_at m s at =
    and_then (typed_at m kind_number 0 s at)
    (λ v next. and_then (fields_at m (types_of v) 0 s next) (λ cs end. got (record { kind = v; fields = cs }) end))
