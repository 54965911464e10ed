-- The fields of a block that was read: those of a BL are its expression, those of any other kind are said by their numbers. Assumes nothing.
use Prim.Native.Nat.{ℕ, suc, ◌<◌, ◌≤◌}
use mathlib.Core.Path.{◌≡◌, refl, sym, ap, subst, ◌∙◌}
use mathlib.Core.List.{List, [], ◌∷◌, ◌++◌, map, append-nil}
use mathlib.Core.Logic.{⊎_elim}
use native.Mathlib.Omega.{arith}
use lib.ListN.{length, get_or, replicate, length-map, length-replicate}
use lib.Seq.{sets-eq}
use borrow.Author.Tests.{ne_eqb}
use Rattle.terms.proofs.Choice.{le_or_lt}
use Rattle.wire.specs.Reading.{Read, got, fault, and_then, IsGot, is_got}
use Rattle.wire.proofs.Gives.{Gives, gives_then, gives_after}
use Rattle.numbers.specs.Blocks.{Expr, Content, bit, word, number, tree, nodes_of, nodes_in, code_of}
use Rattle.numbers.specs.Types.{number_types, kind_count, content_of, setting_of}
use Rattle.numbers.specs.Reading.{Marks, typed_at}
use Rattle.numbers.proofs.References.{content_nodes}
use Rattle.nodes.specs.Reading.{most_deep, most_nodes, expr_at}
use Rattle.grammar.specs.Grammar.{space}
use Rattle.shown.specs.Show.{show}
use Rattle.shown.proofs.Plain.{short}
use Rattle.infix.specs.Infix.{text_in}
use Rattle.kinds.specs.Kinds.{expression, nothing, Field, kind_of, fields_of, types_in, types_of}
use Rattle.kinds.proofs.KindTable.{type_plain}
use Rattle.columns.proofs.Rows.{fields_few, types_are}
use Rattle.block.specs.Reading.{content_at, fields_at}
use Rattle.block.specs.Answers.{row_of}
use Rattle.block.proofs.Weights.{fields_few as nodes-in}
use Rattle.known.proofs.Places.{no_fault, got_first}
use Rattle.layout.specs.Listed.{field_text, fields_text}
use Rattle.fields.specs.Codes.{codes_text}
use Rattle.listing.specs.Lines.{row_at, IsRow, row_text}
use Rattle.listing.proofs.Lengths.{fields_short}

-- a BL's row is its expression
tree_row : Read Expr → Read (List Content)
tree_row r = and_then r (λ t n. got (tree t ∷ []) n)

module _ (k : Marks) (s : List ℕ) (at : ℕ) where
  tree_read : row_at k 0 s at ≡ tree_row (expr_at k most_deep most_nodes s at)
  unfolding kind_of fields_of fields_at content_at tree_row
  tree_read = go (expr_at k most_deep most_nodes s at)
    where
      go :
          (r : Read Expr) → and_then (and_then r (λ t n. got (tree t) n)) (λ c n. and_then (got [] n) (λ cs end. got (c ∷ cs) end)) ≡ and_then r (λ t n. got (tree t ∷ []) n)
      go (got t n) = refl
      go (fault n p) = refl

  module _ {kind : ℕ} (e : kind ≡ 0) (h : IsGot (row_at k kind s at)) where
    read_as_tree : IsGot (tree_row (expr_at k most_deep most_nodes s at))
    read_as_tree = rw (e, tree_read) at h

    pub formula_there : IsGot (expr_at k most_deep most_nodes s at)
    unfolding tree_row
    formula_there = got_first (expr_at k most_deep most_nodes s at) _ read_as_tree

    pub formula_text : space ∷ text_in (expr_at k most_deep most_nodes s at) ≡ row_text kind (row_at k kind s at)
    unfolding tree_row kind_of fields_of fields_text
    formula_text = rw (e, tree_read) (go (expr_at k most_deep most_nodes s at) read_as_tree)
      where
        go : (r : Read Expr) → IsGot (tree_row r) → space ∷ text_in r ≡ row_text 0 (tree_row r)
        go (got t n) g = sym (append-nil (space ∷ show t))
        go (fault n p) g = no_fault g refl

-- what is read by types of numbers: as many contents as types, and no node
bare :
    (k : Marks) (s : List ℕ) (ts : List ℕ) → ((i : ℕ) → i < length ts → get_or ts i nothing < number_types) → (before at : ℕ) →
    Gives (λ cs. (length cs ≡ length ts) × (nodes_in cs ≡ 0)) (fields_at k ts before s at)
unfolding fields_at content_at
bare k s [] h before at = (refl, refl)
bare k s (ty ∷ ts) h before at =
    let ne : ty ≡ expression → ⊥ = λ z. omega (arith, h 0 (omega arith)) in
    rw (ne_eqb ty expression ne)
    (gives_then (λ c. nodes_of c ≡ 0) (λ cs. (length cs ≡ suc (length ts)) × (nodes_in cs ≡ 0)) (and_then (typed_at k ty before s at) (λ v n. got (content_of ty v) n)) _
    (gives_after (λ c. nodes_of c ≡ 0) (typed_at k ty before s at) _ (λ v n. content_nodes ty v))
    (λ c n z. gives_then (λ cs. (length cs ≡ length ts) × (nodes_in cs ≡ 0)) (λ cs. (length cs ≡ suc (length ts)) × (nodes_in cs ≡ 0))
    (fields_at k ts (setting_of c) s n) _ (bare k s ts (λ i l. h (suc i) (omega arith)) (setting_of c) n) (λ cs m g. (ap suc g.0, omega arith))))

types_long : (fs : List Field) → length (types_in fs) ≡ length fs
types_long [] = refl
types_long (f ∷ fs) = ap suc (types_long fs)

-- contents without a node are said by their numbers, whatever stands behind these
codes_same : (fs : List Field) (cs : List Content) (vs : List ℕ) → length cs ≡ length fs → nodes_in cs ≡ 0 → codes_text fs (map code_of cs ++ vs) ≡ fields_text fs cs
unfolding codes_text fields_text
codes_same [] cs vs l z = refl
codes_same (f ∷ fs) [] vs l z = absurd (omega arith)
codes_same (f ∷ fs) (bit b ∷ cs) vs l z = ap (λ (x : List ℕ). field_text f (code_of (bit b)) ++ x) (codes_same fs cs vs (omega arith) (omega arith))
codes_same (f ∷ fs) (word w ∷ cs) vs l z = ap (λ (x : List ℕ). field_text f (code_of (word w)) ++ x) (codes_same fs cs vs (omega arith) (omega arith))
codes_same (f ∷ fs) (number n ∷ cs) vs l z = ap (λ (x : List ℕ). field_text f n ++ x) (codes_same fs cs vs (omega arith) (omega arith))
codes_same (f ∷ fs) (tree t ∷ cs) vs l z = absurd (omega (arith, short 0 t))

module _ (k : Marks) (s : List ℕ) (at : ℕ) {kind : ℕ} where
  -- the row of any kind but BL
  plain_row : {cs : List Content} {n : ℕ} → 0 < kind → kind < kind_count → row_at k kind s at ≡ got cs n → (length cs ≡ length (fields_of kind)) × (nodes_in cs ≡ 0)
  plain_row {cs} ne lt e =
      let o : (length cs ≡ length (types_of kind)) × (nodes_in cs ≡ 0) =
      subst (Gives (λ cs. (length cs ≡ length (types_of kind)) × (nodes_in cs ≡ 0))) e (bare k s (types_of kind) (type_plain kind lt ne) 0 at) in
      (o.0 ∙ ap length (types_are kind) ∙ types_long (fields_of kind), o.1)

  pub codes_text_lem : {fields : List ℕ} → 0 < kind → IsRow k kind s at fields → codes_text (fields_of kind) fields ≡ row_text kind (row_at k kind s at)
  unfolding row_of
  codes_text_lem {fields} ne h = go h.read
    where
      go : IsGot (row_at k kind s at) → codes_text (fields_of kind) fields ≡ row_text kind (row_at k kind s at)
      go (is_got cs n e) =
          let o = plain_row ne h.known e in
          let five : length (map code_of cs) ≤ 5 = omega (arith, length-map cs code_of, fields_few kind) in
          rw (h.numbers, e, sets-eq (map code_of cs) (replicate 5 0) 0 (rw (length-replicate {A = ℕ} 5 0) (omega arith)))
          (codes_same (fields_of kind) cs _ o.0 o.1)

  one_type : kind ≡ 0 → length (types_of kind) ≡ 1
  unfolding kind_of fields_of
  one_type z = rw z

  -- no row has more nodes than an expression may have
  nodes_few : {cs : List Content} {n : ℕ} → kind < kind_count → row_at k kind s at ≡ got cs n → nodes_in cs ≤ 63
  nodes_few lt e =
      ⊎_elim (λ z. omega (arith, nodes-in k (types_of kind) 0 s at e, one_type (omega arith))) (λ ne. omega (arith, (plain_row ne lt e).1)) (le_or_lt kind 0)

  pub row_short : kind < kind_count → length (row_text kind (row_at k kind s at)) ≤ 470
  row_short lt = go (row_at k kind s at) refl
    where
      go : (r : Read (List Content)) → row_at k kind s at ≡ r → length (row_text kind r) ≤ 470
      go (got cs n) e = omega (arith, fields_short (fields_of kind) cs, fields_few kind, nodes_few lt e)
      go (fault n p) e = omega arith
