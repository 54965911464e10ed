-- The fields of a block that were read, read again by other marks: numbers, nodes and expressions. Assumes nothing.
use Prim.Native.Nat.{ℕ, zero, suc, ◌-◌}
use mathlib.Core.Path.{◌≡◌, refl, ap, ◌∙◌}
use mathlib.Core.Bool.{Bool, true, false, not, and-true}
use mathlib.Core.List.{List, [], ◌∷◌, ◌++◌, append-nil}
use native.Mathlib.Omega.{arith}
use lib.Dec.{T, eqb, leb, ltb}
use lib.ListN.{get_or, get_or-eq_default}
use borrow.Author.Tests.{ltb-true, ltb-false, leb-true, leb-false}
use Rattle.terms.specs.Choice.{pick, when, every}
use Rattle.terms.specs.Refusals.{outside, astray}
use Rattle.terms.proofs.Choice.{pick_case}
use Rattle.terms.proofs.Every.{every_join}
use Rattle.terms.proofs.Table.{both_left, both_right, at as entry}
use Rattle.wire.specs.Number.{Num, Got, Bad, Cut}
use Rattle.wire.specs.Number.{number_at}
use Rattle.wire.specs.Reading.{Read, got, fault, and_then}
use Rattle.numbers.specs.Blocks.{Bit, Expr, ref, inv, gate, Content, bit, number, tree, leaves, refs_pass, nodes}
use Rattle.numbers.specs.Types.{kind_count, node_number, allowed, bit_ref, content_of, said_by, setting_of}
use Rattle.numbers.specs.Reading.{Marks, bit_marked, word_marked, marked, judged, typed_at}
use Rattle.numbers.proofs.References.{refs_cons, marked_leaf, marked_operator}
use Rattle.nodes.specs.Reading.{most_deep, most_nodes, node_of, head_at, grow, expr_at}
use Rattle.nodes.specs.Reading.{Node}
use Rattle.kinds.specs.Kinds.{expression, kind, kinds, kind_of, types_of}
use Rattle.block.specs.Reading.{content_at, fields_at}
use Rattle.program.proofs.Again.{same, stray, AgainOf, Never, again_then, again_map, again_both}

-- no field of the table is a node
pub plain : ℕ → Bool
plain ty = not (eqb ty node_number)

pub plain_kind : (v : ℕ) → T (every plain (types_of v))
unfolding plain kind_of
plain_kind v = go (ltb v kind_count) refl
  where
    go : (b : Bool) → ltb v kind_count ≡ b → T (every plain (get_or kinds v (kind [] 0 false)).types)
    go true e = entry (λ _ x. every plain x.types) (kind [] 0 false) kinds tt v (ltb-true v kind_count e)
    go false e = rw (get_or-eq_default kinds (kind [] 0 false) (ltb-false v kind_count e)) tt

-- the node of a number that was read, as a reading after it
grow_then :
    (part : ℕ → ℕ → Read Expr) (d left at : ℕ) (r : Read ℕ) →
    grow part left (node_of d left at r) ≡ and_then r (λ v n. grow part left (node_of d left at (got v n)))
grow_then part d left at (got v n) = refl
grow_then part d left at (fault n p) = refl

-- read first by j, and again by k
module _ (j k : Marks) (s : List ℕ) where
  abbrev in_tree : Expr → Bool
  in_tree t = every (bit_marked k) (leaves t)

  abbrev in_fields : List Content → Bool
  in_fields = refs_pass (bit_marked k) (word_marked k)

  abbrev in_field : Content → Bool
  in_field c = in_fields (c ∷ [])

  abbrev in_alarms : List Bit → Bool
  in_alarms = every (bit_marked k)

  judged_again : (ty before at : ℕ) (m : Num) → AgainOf (marked k ty) (judged j ty before at m) (judged k ty before at m)
  judged_again ty before at Bad = tt
  judged_again ty before at Cut = tt
  judged_again ty before at (Got v next) = go (allowed ty before v) (marked j ty v) (marked k ty v) refl
    where
      go : (a b c : Bool) → marked k ty v ≡ c →
          AgainOf (marked k ty) (pick a (pick b (got v next) (fault astray at)) (fault outside at)) (pick a (pick c (got v next) (fault astray at)) (fault outside at))
      go false b c e = tt
      go true false c e = tt
      go true true true e = same e refl
      go true true false e = stray e at refl

  pub typed_again : (ty before at : ℕ) → AgainOf (marked k ty) (typed_at j ty before s at) (typed_at k ty before s at)
  unfolding typed_at
  typed_again ty before at = judged_again ty before at (number_at s at)

  -- a node
  leaf_passes : (v : ℕ) → leb 6 v ≡ true → in_tree (ref (bit_ref (v - 6))) ≡ marked k node_number v
  leaf_passes v h = and-true (bit_marked k (bit_ref (v - 6))) ∙ marked_leaf k v (leb-true 6 v h)

  module _ (part more : ℕ → ℕ → Read Expr) (h : (l n : ℕ) → AgainOf in_tree (part l n) (more l n)) (d left at : ℕ) where
    node_again : (v next : ℕ) → marked k node_number v ≡ true
        → AgainOf in_tree (grow part left (node_of d left at (got v next))) (grow more left (node_of d left at (got v next)))
    node_again v next t =
        let P : Node → Type 0 = λ x. AgainOf in_tree (grow part left x) (grow more left x) in
        pick_case P (eqb d 0) (λ _. tt)
        (λ _. pick_case P (eqb left 0) (λ _. tt)
        (λ _. pick_case P (leb 6 v) (λ e. same (leaf_passes v e ∙ t) refl)
        (λ _. pick_case P (eqb v 0)
        (λ _. again_map in_tree in_tree inv (λ t. refl) (part (left - 1) next) (more (left - 1) next) (h (left - 1) next))
        (λ _. again_both in_tree in_tree in_tree (gate v) (λ a b. every_join (bit_marked k) (leaves a) (leaves b)) (part (left - 1) next) (more (left - 1) next)
        (λ a n. part (left - 1 - nodes a) n) (λ a n. more (left - 1 - nodes a) n) (h (left - 1) next) (λ a n. h (left - 1 - nodes a) n)))))

    node_never : (v next : ℕ) → marked k node_number v ≡ false → Never in_tree (grow part left (node_of d left at (got v next)))
    node_never v next t =
        let P : Node → Type 0 = λ x. Never in_tree (grow part left x) in
        pick_case P (eqb d 0) (λ _. tt)
        (λ _. pick_case P (eqb left 0) (λ _. tt)
        (λ _. pick_case P (leb 6 v) (λ e. leaf_passes v e ∙ t)
        (λ e. let u : true ≡ false = marked_operator k v (leb-false 6 v e) ∙ t in let z : ◌≡◌ {A = ℕ} 0 1 = cc in absurd (omega arith))))

    grow_again : AgainOf in_tree (grow part left (head_at j d left s at)) (grow more left (head_at k d left s at))
    unfolding head_at
    grow_again =
        let r : Read ℕ = typed_at j node_number 0 s at in
        let q : Read ℕ = typed_at k node_number 0 s at in
        rw (grow_then part d left at r, grow_then more d left at q)
        (again_then (marked k node_number) in_tree r q _ _ (typed_again node_number 0 at) node_again node_never)

  expr_again : (d left at : ℕ) → AgainOf in_tree (expr_at j d left s at) (expr_at k d left s at)
  unfolding expr_at
  expr_again zero left at = grow_again (λ l n. fault outside n) (λ l n. fault outside n) (λ l n. tt) 0 left at
  expr_again (suc d) left at = grow_again _ _ (λ l n. expr_again d l n) (suc d) left at

  -- a field
  content_passes : (ty v : ℕ) → T (plain ty) → in_field (content_of ty v) ≡ marked k ty v
  unfolding marked said_by plain
  content_passes ty v t = go (eqb ty node_number) t
    where
      go : (b : Bool) → T (not b) → in_field (content_of ty v) ≡ in_field (pick b (pick (ltb v 6) (number v) (bit (bit_ref (v - 6)))) (content_of ty v))
      go true t = absurd t
      go false t = refl

  tree_passes : (t : Expr) → in_field (tree t) ≡ in_tree t
  tree_passes t = and-true (every (bit_marked k) (leaves t ++ [])) ∙ ap in_alarms (append-nil (leaves t))

  content_again : (ty before at : ℕ) → T (plain ty) → AgainOf in_field (content_at j ty before s at) (content_at k ty before s at)
  unfolding content_at
  content_again ty before at t = go (eqb ty expression)
    where
      go : (b : Bool) → AgainOf in_field
          (when b (λ _. and_then (expr_at j most_deep most_nodes s at) (λ t n. got (tree t) n)) (λ _. and_then (typed_at j ty before s at) (λ v n. got (content_of ty v) n)))
          (when b (λ _. and_then (expr_at k most_deep most_nodes s at) (λ t n. got (tree t) n)) (λ _. and_then (typed_at k ty before s at) (λ v n. got (content_of ty v) n)))
      go true = again_map in_tree in_field tree tree_passes (expr_at j most_deep most_nodes s at) (expr_at k most_deep most_nodes s at) (expr_again most_deep most_nodes at)
      go false =
          again_map (marked k ty) in_field (content_of ty) (λ v. content_passes ty v t) (typed_at j ty before s at) (typed_at k ty before s at)
          (typed_again ty before at)

  pub fields_again : (ts : List ℕ) (before at : ℕ) → T (every plain ts) → AgainOf in_fields (fields_at j ts before s at) (fields_at k ts before s at)
  unfolding fields_at
  fields_again [] before at t = same refl refl
  fields_again (ty ∷ ts) before at t =
      again_both in_field in_fields in_fields ◌∷◌ (refs_cons (bit_marked k) (word_marked k)) (content_at j ty before s at) (content_at k ty before s at)
      (λ c n. fields_at j ts (setting_of c) s n) (λ c n. fields_at k ts (setting_of c) s n)
      (content_again ty before at (both_left (plain ty) (every plain ts) t))
      (λ c n. fields_again ts (setting_of c) n (both_right (plain ty) (every plain ts) t))
