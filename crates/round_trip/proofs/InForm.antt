-- What is exported has the form of a listing, and stands for the program that it was exported from. Assumes nothing.
use Prim.Native.Nat.{ℕ, zero, suc, ◌+◌, ◌<◌, ◌≤◌}
use mathlib.Core.Path.{◌≡◌, refl, sym, ap, subst, ◌∙◌}
use mathlib.Core.Bool.{Bool, true, false, not, ◌&&◌}
use mathlib.Core.List.{List, [], ◌∷◌, ◌++◌, append_assoc, append-nil}
use native.Mathlib.Omega.{arith}
use lib.ListN.{length, get_or}
use lib.Dec.{ltb, leb, eqb}
use borrow.Author.Tests.{eqb-true}
use Rattle.terms.proofs.Choice.{both, pick_case, never as not_both}
use Rattle.terms.proofs.Every.{both_hold}
use Rattle.numbers.specs.Blocks.{Bit, output, Content, Block}
use Rattle.numbers.specs.Types.{pin, word_pin, kind_count, limits, excepted, allowed, content_of, setting_of}
use Rattle.numbers.proofs.References.{bit_code_lem, word_code_lem}
use Rattle.grammar.specs.Grammar.{space}
use Rattle.writing.specs.Expressions.{InRange}
use Rattle.shown.specs.Show.{name_of, show}
use Rattle.shown.proofs.Back.{reads_back}
use Rattle.words.specs.Words.{alarms, letters_of, word_text}
use Rattle.values.specs.Values.{value_text, in_field}
use Rattle.kinds.specs.Kinds.{expression, LeftOut, never, reads, Field, bare_field, kind_of, fields_of, types_in, types_of}
use Rattle.columns.proofs.Rows.{types_are}
use Rattle.program.specs.Program.{Program}
use Rattle.forms.specs.Written.{Holds, of_number, of_tree, FieldsHold, BlockHolds, Each, ProgramHolds}
use Rattle.layout.specs.Layout.{equals, line_feed, Fields, no_more, given, left_out, formula, BlockLine, block_line, Names, no_names, one_name, alarms_line, lf, Lines, one_block, the_alarms, Listing}
use Rattle.layout.specs.Listed.{leaves_out, field_text, content_text, fields_text, line_text, names_text, alarms_text, lines_text, listed}
use Rattle.layout.proofs.Rows.{Row, row_of}

-- the numbers that may stand in a field can be written there
gap_only : (ty before v : ℕ) → eqb ty word_pin ≡ true → not (excepted ty before v) ≡ true → not (leb 208 v && ltb v 1000) ≡ true
unfolding excepted
gap_only ty before v q h = rw q at h

in_field_lem : (ty before v : ℕ) → allowed ty before v ≡ true → in_field ty v ≡ true
unfolding allowed in_field
in_field_lem ty before v e =
    let o = both (ltb v (get_or limits ty 0)) (not (excepted ty before v)) e in
    both_hold o.0 (outside_gap (eqb ty word_pin) refl o.1)
  where
    outside_gap : (b : Bool) → eqb ty word_pin ≡ b → not (excepted ty before v) ≡ true → not (b && (leb 208 v && ltb v 1000)) ≡ true
    outside_gap true q h = gap_only ty before v q h
    outside_gap false q h = refl

-- the content of a number is written as the number
content_text_lem : (f : Field) (v : ℕ) → content_text f (content_of f.type v) ≡ field_text f v
unfolding content_of
content_text_lem f v =
    pick_case (λ (c : Content). content_text f c ≡ field_text f v) (eqb f.type pin) (λ _. ap (field_text f) (bit_code_lem v))
    (λ _. pick_case (λ (c : Content). content_text f c ≡ field_text f v) (eqb f.type word_pin) (λ _. ap (field_text f) (word_code_lem v)) (λ _. refl))

module _ (f : Field) (fs : List Field) (cs : List Content) (w : List ℕ) (v : ℕ) (i : in_field f.type v ≡ true) (x : Fields fs cs w) where
  -- left out, if what it is read as is what it is
  left : (o : LeftOut) → f.left_out_as ≡ o → leaves_out o v ≡ true → Fields (f ∷ fs) (content_of f.type v ∷ cs) w
  left never e h = not_both (sym h)
  left (reads r) e h =
      let o = both (eqb v 0) (eqb r 0) h in
      let q : r ≡ v = eqb-true r 0 o.1 ∙ sym (eqb-true v 0 o.0) in
      left_out v (e ∙ ap reads q) x

  one_field : Fields (f ∷ fs) (content_of f.type v ∷ cs) (field_text f v ++ w)
  unfolding field_text
  one_field =
      pick_case (λ (u : List ℕ). Fields (f ∷ fs) (content_of f.type v ∷ cs) (u ++ w)) (leaves_out f.left_out_as v) (left f.left_out_as refl)
      (λ _.
      subst (λ (u : List ℕ). Fields (f ∷ fs) (content_of f.type v ∷ cs) u)
      (ap (λ (l : List ℕ). space ∷ l) (sym (append_assoc (word_text f.name) (equals ∷ value_text f.type v) w))) (given 0 v i x))

-- the fields of a kind that is no BL
fields_in_form : (fs : List Field) (before : ℕ) (cs : List Content) → Row fs → FieldsHold (types_in fs) before cs → Fields fs cs (fields_text fs cs)
unfolding fields_text
fields_in_form [] before [] r h = no_more 0
fields_in_form [] before (c ∷ cs) r h = absurd h
fields_in_form (f ∷ fs) before [] r h = absurd h
fields_in_form (f ∷ fs) before (c ∷ cs) r h = go h.0 (fields_in_form fs (setting_of c) cs r.1.1 h.1)
  where
    go : Holds f.type before c → Fields fs cs (fields_text fs cs) → Fields (f ∷ fs) (c ∷ cs) (content_text f c ++ fields_text fs cs)
    go (of_number v l a e) x =
        rw (e, content_text_lem f v) (one_field f fs cs (fields_text fs cs) v (in_field_lem f.type before v a) x)
    go (of_tree t e p d n q) x = absurd (omega (arith, r.0.0))

-- those of a BL
formula_in_form : (cs : List Content) → FieldsHold (types_in (fields_of 0)) 0 cs → Fields (fields_of 0) cs (fields_text (fields_of 0) cs)
unfolding fields_text kind_of fields_of
formula_in_form [] h = absurd h
formula_in_form (c ∷ []) h = go h.0
  where
    go : Holds expression 0 c → Fields (fields_of 0) (c ∷ []) (content_text (bare_field expression) c ++ [])
    go (of_number v l a e) = absurd (omega arith)
    go (of_tree t e p d n q) = rw (q, append-nil (show t)) (formula refl (reads_back t p d))
formula_in_form (c ∷ d ∷ cs) h = absurd h.1

row_in_form : (k : ℕ) (cs : List Content) → k < kind_count → FieldsHold (types_of k) 0 cs → Fields (fields_of k) cs (fields_text (fields_of k) cs)
row_in_form zero cs h x = formula_in_form cs (rw (types_are 0) at x)
row_in_form (suc k) cs h x = fields_in_form (fields_of (suc k)) 0 cs (row_of (suc k) (omega arith) h) (rw (types_are (suc k)) at x)

-- lines
block_in_form : (i : ℕ) (b : Block) → i < 200 → BlockHolds b →
    BlockLine i (name_of (output i) ++ (space ∷ (word_text (letters_of b.kind) ++ fields_text (fields_of b.kind) b.fields))) b
block_in_form i b h x = block_line 0 0 h x.known (row_in_form b.kind b.fields x.known x.fields)

names_in_form : (rs : List Bit) → Each InRange rs → Names rs (names_text rs)
unfolding names_text
names_in_form [] h = no_names 0
names_in_form (b ∷ rs) h = one_name 0 h.0 (names_in_form rs h.1)

lines_in_form : (i : ℕ) (bs : List Block) (rs : List Bit) → i + length bs ≤ 200 → Each BlockHolds bs → Each InRange rs → length rs ≤ 32 → Lines i (lines_text i bs rs) bs rs
unfolding lines_text alarms_text line_text
lines_in_form i [] rs h x y z =
    let w = word_text alarms ++ names_text rs in
    subst (λ (s : List ℕ). Lines i s [] rs) (append_assoc (word_text alarms) (names_text rs) (line_feed ∷ [])) (the_alarms {w = w} (alarms_line 0 (omega arith) (names_in_form rs y)) lf)
lines_in_form i (b ∷ bs) rs h x y z =
    let n = name_of (output i) in
    let l = word_text (letters_of b.kind) in
    let f = fields_text (fields_of b.kind) b.fields in
    let r = lines_text (suc i) bs rs in
    let q = lines_in_form (suc i) bs rs (omega arith) x.1 y z in
    subst (λ (s : List ℕ). Lines i s (b ∷ bs) rs) (joined n l f r) (one_block (block_in_form i b (omega arith) x.0) lf q)
  where
    joined : (n l f r : List ℕ) → (n ++ (space ∷ (l ++ f))) ++ ((line_feed ∷ []) ++ r) ≡ (n ++ (space ∷ (l ++ (f ++ (line_feed ∷ []))))) ++ r
    joined n l f r =
        append_assoc n (space ∷ (l ++ f)) (line_feed ∷ r)
        ∙ ap (λ (u : List ℕ). n ++ (space ∷ u)) (append_assoc l f (line_feed ∷ r) ∙ ap (λ (u : List ℕ). l ++ u) (sym (append_assoc f (line_feed ∷ []) r)) ∙ sym (append_assoc l (f ++ (line_feed ∷ [])) r))
        ∙ sym (append_assoc n (space ∷ (l ++ (f ++ (line_feed ∷ [])))) r)

pub in_form : (p : Program) → ProgramHolds p → Listing (listed p) p
unfolding listed
in_form p h = lines_in_form 0 p.blocks p.alarms (omega (arith, h.most)) h.blocks h.alarms h.few
