-- The line of a BL behind its letters: a space and a formula, and what is kept of its tree. Assumes nothing.
use Prim.Native.Nat.{ℕ, zero, suc, ◌+◌, min, ◌<◌, ◌≤◌}
use mathlib.Core.Path.{◌≡◌, refl, sym, ap, subst, ◌∙◌}
use mathlib.Core.Bool.{Bool, ◌&&◌, and-true}
use mathlib.Core.Logic.{⊎_elim}
use mathlib.Core.List.{List, [], ◌∷◌, append-nil}
use native.Mathlib.Nat.{le_refl}
use native.Mathlib.Omega.{arith}
use lib.Dec.{ltb, leb}
use lib.ListN.{length, get_or, set, take, drop, length-drop, length-replicate, drop_of_length-le}
use lib.Seq.{sets, length-sets, take_all}
use borrow.Author.Tests.{ltb-true}
use Rattle.std.specs.Prelude.{None, Some, Result}
use Rattle.std.specs.Result.{result_ok}
use Rattle.terms.proofs.Choice.{both, le_or_lt}
use Rattle.filling.specs.Filling.{Put}
use Rattle.wire.specs.Number.{byte_at}
use Rattle.numbers.specs.Blocks.{Content, tree, Expr, Block, nodes}
use Rattle.numbers.specs.Types.{limits}
use Rattle.nodes.specs.Reading.{most_nodes, most_deep}
use Rattle.grammar.specs.Grammar.{space, Formula}
use Rattle.grammar.specs.Machine.{Spans}
use Rattle.grammar.proofs.From.{rest, there, stands_there}
use Rattle.writing.specs.Expressions.{operator_first, depth, bytes_of}
use Rattle.parsing.specs.declared.Tree.{Tree}
use Rattle.parsing.specs.Listing.{places, no_nodes, nodes_of, listed_tree, Lists, lists, lists_none}
use Rattle.parsing.proofs.Trees.{numbers_of}
use Rattle.formula.proofs.Bounds.{Treed}
use Rattle.values.specs.Values.{in_field}
use Rattle.kinds.specs.Kinds.{expression, bare_field, kind_of, fields_of}
use Rattle.forms.specs.Written.{block_numbers}
use Rattle.fronts.specs.Fronts.{small, most_kept}
use Rattle.layout.specs.Layout.{Fields, given, left_out, formula}
use Rattle.taking.specs.Taking.{Takes, taken, not_taken, RestSays, rest_says}

-- the first of a list over which others were put from its front on
module _ {A : Type 0} where
  behind_first : (x : A) (l xs : List A) (i : ℕ) → sets (x ∷ l) (suc i) xs ≡ x ∷ sets l i xs
  behind_first x l [] i = refl
  behind_first x l (y ∷ xs) i = behind_first x (set l i y) xs (suc i)

  pub first_put : (n : ℕ) (xs l : List A) → n ≤ length xs → n ≤ length l → take n (sets l 0 xs) ≡ take n xs
  first_put zero xs l h k = refl
  first_put (suc n) [] l h k = absurd (omega arith)
  first_put (suc n) (x ∷ xs) [] h k = absurd (omega arith)
  first_put (suc n) (x ∷ xs) (y ∷ l) h k = rw (behind_first x l xs 0, first_put n xs l (omega arith) (omega arith))

-- the nodes that are listed of a tree, as far as they have places, are all that is kept of it
listed_kept : (t : Expr) (n : ℕ) → n ≡ min (nodes t) places → take n (nodes_of t) ≡ take places (operator_first t)
unfolding nodes_of
listed_kept t n e =
    let l = numbers_of t in
    let z = length-replicate {A = ℕ} places 0 in
    first_put n (operator_first t) no_nodes (omega arith) (omega arith) ∙ ⊎_elim (λ h. all h) (λ h. some h) (le_or_lt (nodes t) places)
  where
    all : nodes t ≤ places → take n (operator_first t) ≡ take places (operator_first t)
    all h =
        let l = numbers_of t in
        take_all n (operator_first t) (omega arith) ∙ sym (take_all places (operator_first t) (omega arith))

    some : places < nodes t → take n (operator_first t) ≡ take places (operator_first t)
    some h = let f : n ≡ places = omega arith in rw f

-- the places of what is listed
pub listed_places : {s : List ℕ} {r : Tree} → Treed s r → length r.nodes ≡ places
unfolding nodes_of
listed_places x = ap length x.listed ∙ length-sets no_nodes 0 (operator_first x.tree) ∙ length-replicate {A = ℕ} places 0

-- a tree that is asked for as an option
pub treed_ok : {s : List ℕ} {r : Result Tree ℕ} {t : Tree} → Lists s r → Some t ≡ result_ok r → Treed s t
treed_ok {t = t} (lists u x) e =
    let f : t ≡ listed_tree u = cc in
    record {
      tree = u;
      formula = x;
      counted = ap (λ (r : Tree). r.count) f;
      measured = ap (λ (r : Tree). r.deep) f;
      listed = ap (λ (r : Tree). r.nodes) f;
    }
treed_ok (lists_none k x) e = let z : ◌≡◌ {A = ℕ} 0 1 = cc in absurd (omega arith)

-- the block of a tree
abbrev pub tree_block : Expr → Block
tree_block t = record { kind = 0; fields = tree t ∷ [] }

tree_kept : (t : Expr) (n : ℕ) → n ≡ min (nodes t) places → 0 ∷ take n (nodes_of t) ≡ take most_kept (block_numbers (tree_block t))
tree_kept t n e = rw (append-nil (operator_first t), listed_kept t n e)

-- what is left of a text
pub left_of : (s : List ℕ) {at : ℕ} {w : List ℕ} → Spans s at w (length s) → w ≡ drop at s
left_of s {w = w} x = sym (rest s x ∙ rw (drop_of_length-le s (le_refl (length s))) (append-nil w))

module _ (s : List ℕ) (at : ℕ) where
  pub record TreeRest (b : Block) : Type 0 where
    pub tree : Expr
    pub first : byte_at s at ≡ space
    pub reads : Formula (drop (at + 1) s) tree
    pub block : b ≡ tree_block tree

  bare : (cs : List Content) (w : List ℕ) → Fields (bare_field expression ∷ []) cs w → Spans s at w (length s) → TreeRest (record { kind = 0; fields = cs })
  unfolding in_field
  bare cs w (given n v h y) x =
      absurd (omega (arith, ltb-true v 0 (both (ltb v (get_or limits expression 0)) _ h).0))
  bare cs w (left_out v e y) x = let z : ◌≡◌ {A = ℕ} 0 1 = cc in absurd (omega arith)
  bare cs w (formula {t = t} {w = u} e y) x =
      let z : Spans s (at + 1) u (length s) = record { stands = x.stands.1.1; end = omega (arith, x.end) } in
      record { tree = t; first = x.stands.1.0; reads = rw (← (left_of s z)) y; block = refl }

  -- a space and a formula, and no other
  pub tree_said : (b : Block) → RestSays 0 s at b → TreeRest b
  unfolding kind_of fields_of
  tree_said b (rest_says {cs = cs} {w = w} f x) = bare cs w f x

  says_tree : (t : Expr) → byte_at s at ≡ space → Formula (drop (at + 1) s) t → RestSays 0 s at (tree_block t)
  unfolding kind_of fields_of
  says_tree t e y =
      let h = there s at space (omega arith) e in
      rest_says (formula refl y)
      (record {
        stands = (h, (e, stands_there s (drop (at + 1) s) [] (at + 1) (sym (append-nil (drop (at + 1) s)))));
        end = omega (arith, length-drop (at + 1) s);
      })

  -- what the code answers
  pub no_space_taken : {l : List ℕ} {to : ℕ} → (byte_at s at ≡ space → ⊥) → Takes (RestSays 0 s at) l to l None
  no_space_taken n = not_taken (λ b x. n (tree_said b x).first) refl

  pub no_tree_taken : {r : Result Tree ℕ} {l : List ℕ} {to : ℕ} → Lists (drop (at + 1) s) r → None ≡ result_ok r → Takes (RestSays 0 s at) l to l None
  no_tree_taken (lists t x) e = let z : ◌≡◌ {A = ℕ} 0 1 = cc in absurd (omega arith)
  no_tree_taken (lists_none k x) e = not_taken (λ b y. let z = tree_said b y in x.no_reading z.tree z.reads) refl

  pub tree_taken :
      {r : Tree} {n : ℕ} {l m : List ℕ} {to next : ℕ} {b : Bool} → byte_at s at ≡ space → Treed (drop (at + 1) s) r →
      n ≡ min r.count places → Put (bytes_of (0 ∷ take n r.nodes)) l to m next → b ≡ leb r.count most_nodes && leb r.deep most_deep →
      Takes (RestSays 0 s at) l to m (Some (record { next = next; small = b }))
  tree_taken {r = r} {n = n} {l = l} {m = m} {to = to} {next = next} {b = b} e x f p g =
      let t = x.tree in
      let i : n ≡ min (nodes t) places = rw (← x.counted) f in
      let k : small (tree_block t) ≡ b = and-true (leb (nodes t) most_nodes && leb (depth t) most_deep) ∙ rw (← x.counted, ← x.measured) (sym g) in
      let q : 0 ∷ take n r.nodes ≡ take most_kept (block_numbers (tree_block t)) = rw x.listed (tree_kept t n i) in
      rw (← k) (taken (tree_block t) next (says_tree t e x.formula) (subst (λ (v : List ℕ). Put (bytes_of v) l to m next) q p))
