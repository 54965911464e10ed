-- A block that a listing can spell, by the row of its kind: one expression and nothing else, or at most five numbers. Assumes nothing.
use Prim.Native.Nat.{ℕ, suc, ◌<◌, ◌≤◌}
use mathlib.Core.Path.{◌≡◌, refl, ◌∙◌}
use mathlib.Core.Bool.{Bool, true, false}
use mathlib.Core.List.{List, [], ◌∷◌}
use native.Mathlib.Omega.{arith}
use lib.Dec.{eqb}
use lib.ListN.{length, get_or, length-append}
use borrow.Author.Tests.{eqb-true, eqb-false}
use Rattle.numbers.specs.Blocks.{Content, tree, Expr, Block}
use Rattle.numbers.specs.Types.{number_types}
use Rattle.writing.specs.Expressions.{Proper}
use Rattle.kinds.specs.Kinds.{expression, nothing, kind_of, types_of, fields_of}
use Rattle.kinds.proofs.KindTable.{types_few, type_plain}
use Rattle.forms.specs.Written.{content_numbers, field_numbers}
use Rattle.forms.proofs.Numbers.{content_numbers_lem}
use Rattle.fronts.specs.Fronts.{SpeltContent, spelt_number, spelt_tree, SpeltFields, SpeltBlock}

-- the two forms of a row
pub data Row (b : Block) : Type 0 where
  tree_row : (t : Expr) → Proper t → types_of b.kind ≡ expression ∷ [] → b.fields ≡ tree t ∷ [] → Row b
  number_row : length (field_numbers b.fields) ≤ 5 → Row b

-- a field that is no expression is one number
one_number : (ty : ℕ) (c : Content) → ty < number_types → SpeltContent ty c → length (content_numbers c) ≡ 1
one_number ty c l (spelt_number v k h e) = rw (e, content_numbers_lem ty v)
one_number ty c l (spelt_tree t z p e) = absurd (omega arith)

-- so a row without an expression has a number for each of its types
numbers_of_row :
    (ts : List ℕ) (cs : List Content) → ((i : ℕ) → i < length ts → get_or ts i nothing < number_types) → SpeltFields ts cs →
    length (field_numbers cs) ≡ length ts
numbers_of_row [] [] h f = refl
numbers_of_row [] (c ∷ cs) h f = absurd f
numbers_of_row (ty ∷ ts) [] h f = absurd f
numbers_of_row (ty ∷ ts) (c ∷ cs) h (x, f) =
    omega (
      arith,
      length-append (content_numbers c) (field_numbers cs),
      one_number ty c (h 0 (omega arith)) x,
      numbers_of_row ts cs (λ i l. h (suc i) (omega arith)) f,
    )

-- a row of one expression has nothing else
tree_alone : (b : Block) → types_of b.kind ≡ expression ∷ [] → (cs : List Content) → b.fields ≡ cs → SpeltFields (expression ∷ []) cs → Row b
tree_alone b e [] f h = absurd h
tree_alone b e (c ∷ d ∷ cs) f (h, k) = absurd k
tree_alone b e (c ∷ []) f (spelt_tree t z p g, k) = tree_row t p e (f ∙ rw g)
tree_alone b e (c ∷ []) f (spelt_number v l h g, k) = absurd (omega arith)

-- only a BL, kind 0, has an expression
pub row_of : (b : Block) → SpeltBlock b → Row b
unfolding kind_of fields_of
row_of b h = go (eqb b.kind 0) refl
  where
    go : (z : Bool) → eqb b.kind 0 ≡ z → Row b
    go true z =
        let e : types_of b.kind ≡ expression ∷ [] = rw (eqb-true b.kind 0 z) in
        tree_alone b e b.fields refl (rw e at h.fields)
    go false z =
        let k : 0 < b.kind = omega (arith, eqb-false b.kind 0 z) in
        number_row (omega (
          arith,
          numbers_of_row (types_of b.kind) b.fields (type_plain b.kind h.known k) h.fields,
          types_few b.kind h.known,
        ))
