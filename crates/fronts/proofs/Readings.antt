-- Reading what is kept of blocks that a listing can spell: each is read if it is small, or there is a fault, outside. Assumes nothing.
use Prim.Native.Nat.{ℕ, suc}
use mathlib.Core.Path.{◌≡◌, refl, ap, ◌∙◌}
use mathlib.Core.Bool.{true}
use mathlib.Core.List.{List, [], ◌∷◌, append-nil}
use native.Mathlib.Nat.{add-zero}
use native.Mathlib.Omega.{arith}
use lib.Dec.{eqb}
use lib.ListN.{length, take}
use lib.Seq.{take_all}
use borrow.Author.Tests.{ne_eqb, le-leb}
use Rattle.terms.specs.Choice.{every}
use Rattle.terms.proofs.Choice.{pick_case}
use Rattle.terms.proofs.Every.{both_hold}
use Rattle.wire.specs.Facts.{Stands}
use Rattle.numbers.specs.Blocks.{Content, tree, Expr, Block, nodes}
use Rattle.numbers.specs.Types.{pin, word_pin, kind_number, content_of, setting_of}
use Rattle.numbers.specs.Reading.{typed_at}
use Rattle.nodes.specs.Reading.{most_deep, most_nodes, expr_at}
use Rattle.writing.specs.Expressions.{operator_first, depth, bytes_of}
use Rattle.kinds.specs.Kinds.{expression, types_of}
use Rattle.block.specs.Reading.{content_at, fields_at, block_at}
use Rattle.program.specs.Program.{blocks_at}
use Rattle.program.specs.Acceptance.{every_block}
use Rattle.forms.specs.Written.{content_numbers, field_numbers, block_numbers, blocks_numbers, Each}
use Rattle.forms.proofs.Standing.{past, past_both, stands_numbers}
use Rattle.forms.proofs.Numbers.{content_numbers_lem}
use Rattle.fronts.specs.Fronts.{small_content, small, most_kept, front_of, SpeltContent, spelt_number, spelt_tree, SpeltFields, SpeltBlock}
use Rattle.fronts.proofs.Rows.{Row, tree_row, number_row, row_of}
use Rattle.fronts.proofs.Outside.{Comes, reads, comes_map, comes_both, limit_low, stands_first, number_comes}
use Rattle.fronts.proofs.Trees.{Fits, tree_comes}

-- what a number says in a field is small
number_small : (ty v : ℕ) → small_content (content_of ty v) ≡ true
unfolding content_of
number_small ty v =
    let P : Content → Type 0 = λ c. small_content c ≡ true in
    pick_case P (eqb ty pin) (λ _. refl) (λ _. pick_case P (eqb ty word_pin) (λ _. refl) (λ _. refl))

-- an expression that fits is small
tree_small : (t : Expr) → Fits most_deep most_nodes t → small_content (tree t) ≡ true
tree_small t f = both_hold (le-leb (nodes t) most_nodes f.few) (le-leb (depth t) most_deep f.deep)

module _ (s : List ℕ) where
  -- a field; of an expression no more nodes need to stand than are allowed, and one more
  content_comes :
      (ty before : ℕ) (c : Content) (at : ℕ) → SpeltContent ty c → Stands (bytes_of (take (suc most_nodes) (content_numbers c))) s at →
      Comes (small_content c ≡ true) c (past at (content_numbers c)) (content_at every_block ty before s at)
  unfolding content_at
  content_comes ty before c at (spelt_number v l h e) st =
      let f : content_numbers c ≡ v ∷ [] = ap content_numbers e ∙ content_numbers_lem ty v in
      let g : Stands (bytes_of (v ∷ [])) s at = rw f at st in
      rw (f, e, ne_eqb ty expression (λ z. omega arith))
      (comes_map (content_of ty) (typed_at every_block ty before s at) (number_comes s ty before at v (omega (arith, limit_low ty)) g) (λ _. number_small ty v))
  content_comes ty before c at (spelt_tree t z p e) st =
      let g : Stands (bytes_of (take (suc most_nodes) (operator_first t))) s at = rw e at st in
      rw (z, e) (comes_map tree (expr_at every_block most_deep most_nodes s at) (tree_comes s t p most_deep most_nodes at g) (tree_small t))

  fields_come :
      (ts : List ℕ) (before : ℕ) (cs : List Content) (at : ℕ) → SpeltFields ts cs → Stands (bytes_of (field_numbers cs)) s at →
      Comes (every small_content cs ≡ true) cs (past at (field_numbers cs)) (fields_at every_block ts before s at)
  unfolding fields_at
  fields_come [] before [] at h st = reads refl (rw (add-zero at))
  fields_come [] before (c ∷ cs) at h st = absurd h
  fields_come (ty ∷ ts) before [] at h st = absurd h
  fields_come (ty ∷ ts) before (c ∷ cs) at (h, k) st =
      let o = stands_numbers (content_numbers c) (field_numbers cs) s at st in
      comes_both ◌∷◌ (content_numbers c) (field_numbers cs) at (content_at every_block ty before s at) (λ c n. fields_at every_block ts (setting_of c) s n)
      (content_comes ty before c at h (stands_first s (suc most_nodes) (content_numbers c) at o.0))
      (λ _. fields_come ts (setting_of c) cs (past at (content_numbers c)) k o.1) (λ x y. both_hold x y)

  -- a field alone in its row
  one_comes :
      (ty before : ℕ) (c : Content) (at : ℕ) → SpeltContent ty c → Stands (bytes_of (take (suc most_nodes) (field_numbers (c ∷ [])))) s at →
      Comes (every small_content (c ∷ []) ≡ true) (c ∷ []) (past at (field_numbers (c ∷ []))) (fields_at every_block (ty ∷ []) before s at)
  unfolding fields_at
  one_comes ty before c at h st =
      let e = append-nil (content_numbers c) in
      rw e (comes_map (λ c. c ∷ []) (content_at every_block ty before s at) (content_comes ty before c at h (rw e at st)) (λ x. both_hold x refl))

  -- the fields of a block, by its row
  row_comes :
      (b : Block) (at : ℕ) → SpeltBlock b → Row b → Stands (bytes_of (take (suc most_nodes) (field_numbers b.fields))) s at →
      Comes (small b ≡ true) b.fields (past at (field_numbers b.fields)) (fields_at every_block (types_of b.kind) 0 s at)
  row_comes b at h (tree_row t p e f) st = rw (e, f) (one_comes expression 0 (tree t) at (spelt_tree t refl p refl) (rw f at st))
  row_comes b at h (number_row l) st =
      fields_come (types_of b.kind) 0 b.fields at h.fields (rw (take_all (suc most_nodes) (field_numbers b.fields) (omega arith)) at st)

  block_comes :
      (b : Block) (at : ℕ) → SpeltBlock b → Stands (bytes_of (take most_kept (block_numbers b))) s at →
      Comes (small b ≡ true) b (past at (block_numbers b)) (block_at every_block s at)
  unfolding block_at
  block_comes b at h st =
      let k = b.kind in
      let o = stands_numbers (k ∷ []) (take (suc most_nodes) (field_numbers b.fields)) s at st in
      comes_both (λ v cs. record { kind = v; fields = cs }) (k ∷ []) (field_numbers b.fields) at (typed_at every_block kind_number 0 s at)
      (λ v n. fields_at every_block (types_of v) 0 s n) (number_comes s kind_number 0 at k (omega (arith, h.known)) o.0)
      (λ _. row_comes b (past at (k ∷ [])) h (row_of b h) o.1) (λ _ x. x)

  -- of the first of some blocks there stands what is kept of it, small or not
  first_kept :
      (b : Block) (bs : List Block) (rest : List ℕ) (at : ℕ) → Stands (bytes_of (front_of (b ∷ bs) rest)) s at →
      Stands (bytes_of (take most_kept (block_numbers b))) s at
  first_kept b bs rest at =
      pick_case (λ (l : List ℕ). Stands (bytes_of l) s at → Stands (bytes_of (take most_kept (block_numbers b))) s at) (small b)
      (λ _ st. stands_first s most_kept (block_numbers b) at (stands_numbers (block_numbers b) (front_of bs rest) s at st).0) (λ _ st. st)

  -- the blocks; if all are small, the rest stands behind them
  pub blocks_come :
      (bs : List Block) (rest : List ℕ) (at : ℕ) → Each SpeltBlock bs → Stands (bytes_of (front_of bs rest)) s at →
      Comes ((every small bs ≡ true) × Stands (bytes_of rest) s (past at (blocks_numbers bs))) bs (past at (blocks_numbers bs))
      (blocks_at every_block (length bs) s at)
  unfolding blocks_at
  blocks_come [] rest at h st = reads (refl, (rw (add-zero at) st)) (rw (add-zero at))
  blocks_come (b ∷ bs) rest at (h, k) st =
      let x = block_numbers b in
      let y = blocks_numbers bs in
      comes_both ◌∷◌ x y at (block_at every_block s at) (λ b n. blocks_at every_block (length bs) s n) (block_comes b at h (first_kept b bs rest at st))
      (λ z. blocks_come bs rest (past at x) k (stands_numbers x (front_of bs rest) s at (rw z at st)).1)
      (λ z o. (both_hold z o.0, rw (past_both x y at) at o.1))
