-- A line stands for one block, or for the alarms, and not for both. Assumes nothing.
use Prim.Native.Nat.{ℕ, zero, suc, ◌+◌, ◌<◌}
use mathlib.Core.Path.{◌≡◌, refl, sym, ap, subst, ◌∙◌}
use mathlib.Core.Bool.{true}
use mathlib.Core.List.{List, [], ◌∷◌, ◌++◌, map, append-nil}
use native.Mathlib.Nat.{le_refl}
use native.Mathlib.Omega.{arith}
use lib.ListN.{length, drop, drop_of_length-le, length-replicate}
use lib.Dec.{ltb}
use borrow.Author.Tests.{ltb-true}
use Rattle.terms.proofs.Choice.{both}
use Rattle.wire.specs.Number.{byte_at}
use Rattle.wire.specs.Facts.{Stands}
use Rattle.numbers.specs.Blocks.{Bit, bit_code, Expr, Content, tree, Block}
use Rattle.numbers.specs.Types.{kind_count, bit_ref}
use Rattle.grammar.specs.Grammar.{space, spaces, Formula}
use Rattle.grammar.specs.Machine.{Spans}
use Rattle.grammar.proofs.Builds.{one_reading}
use Rattle.grammar.proofs.From.{rest}
use Rattle.writing.specs.Expressions.{InRange}
use Rattle.writing.proofs.Back.{ref_back}
use Rattle.spelling.specs.Spelling.{NoName}
use Rattle.spelling.specs.Spelling.{after_spaces, name_at}
use Rattle.forms.specs.Written.{Each}
use Rattle.forms.proofs.Standing.{stands_both}
use Rattle.words.specs.Words.{alarms, word_text}
use Rattle.values.specs.Values.{in_field}
use Rattle.kinds.specs.Kinds.{expression, kind_of, fields_of}
use Rattle.layout.specs.Layout.{Fields, given, left_out, formula, BlockLine, AlarmsLine, alarms_line, Names, no_names, one_name}
use Rattle.layout.specs.Fields.{found}
use Rattle.layout.specs.Heads.{of_kind, no_kind, heading_of}
use Rattle.layout.proofs.Rows.{row_of}
use Rattle.layout.proofs.Fielding.{contents_of, fields_read, after_spaces_lem}
use Rattle.layout.proofs.Heading.{begun, itself}
use Rattle.layout.proofs.Alarming.{alarms_read}

-- two texts that stand from one place to the end are one
same_text : (s v w : List ℕ) (at : ℕ) → Spans s at v (length s) → Spans s at w (length s) → v ≡ w
same_text s v w at x y =
    let e : drop (length s) s ≡ [] = drop_of_length-le s (le_refl (length s)) in
    let a : drop at s ≡ v = rest s x ∙ rw e (append-nil v) in
    let b : drop at s ≡ w = rest s y ∙ rw e (append-nil w) in
    sym a ∙ b

-- the field of a BL is a formula
record Formulated (cs : List Content) (w : List ℕ) : Type 0 where
  tree_of : Expr
  text : List ℕ
  reads_as : Formula text tree_of
  is : cs ≡ tree tree_of ∷ []
  whole : w ≡ space ∷ text

no_number : (v : ℕ) → in_field expression v ≡ true → ⊥
unfolding in_field
no_number v e = let o = both (ltb v 0) _ e in omega (arith, ltb-true v 0 o.0)

formulated : (cs : List Content) (w : List ℕ) → Fields (fields_of 0) cs w → Formulated cs w
unfolding kind_of fields_of
formulated cs w (given n v h x) = absurd (no_number v h)
formulated cs w (left_out v e x) = absurd (let z : ◌≡◌ {A = ℕ} 0 1 = cc in omega arith)
formulated cs w (formula {t = t} {w = u} e x) = record { tree_of = t; text = u; reads_as = x; is = refl; whole = refl }

-- the same heading, and the same fields
module _ (s : List ℕ) (at : ℕ) where
  one_formula : (cs ds : List Content) (v w : List ℕ) → Fields (fields_of 0) cs v → Fields (fields_of 0) ds w → v ≡ w → cs ≡ ds
  one_formula cs ds v w x y e =
      let a = formulated cs v x in
      let b = formulated ds w y in
      let f : a.text ≡ b.text = ap (drop 1) (sym a.whole ∙ e ∙ b.whole) in
      let g : a.tree_of ≡ b.tree_of = one_reading b.text a.tree_of b.tree_of (rw f at a.reads_as) b.reads_as in
      a.is ∙ ap (λ (t : Expr). tree t ∷ []) g ∙ sym b.is

  one_row : (k : ℕ) (cs ds : List Content) (v w : List ℕ) → 0 < k → k < kind_count → Fields (fields_of k) cs v → Fields (fields_of k) ds w →
      Spans s at v (length s) → Spans s at w (length s) → cs ≡ ds
  one_row k cs ds v w l h x y p q =
      let a = fields_read s (fields_of k) cs v at (row_of k l h) x p in
      let b = fields_read s (fields_of k) ds w at (row_of k l h) y q in
      let e : a.numbers ≡ b.numbers = numbers_of (sym a.is ∙ b.is) in
      a.same ∙ ap (contents_of (fields_of k)) e ∙ sym b.same
    where
      numbers_of : {m n : List ℕ} → found m ≡ found n → m ≡ n
      numbers_of e = cc

  one_fields : (k : ℕ) (cs ds : List Content) (v w : List ℕ) → k < kind_count → Fields (fields_of k) cs v → Fields (fields_of k) ds w →
      Spans s at v (length s) → Spans s at w (length s) → cs ≡ ds
  one_fields zero cs ds v w h x y p q = one_formula cs ds v w x y (same_text s v w at p q)
  one_fields (suc k) cs ds v w h x y p q = one_row (suc k) cs ds v w (omega arith) h x y p q

same_block : (b c : Block) → b.kind ≡ c.kind → b.fields ≡ c.fields → b ≡ c
same_block b c k f =
    let x : b ≡ record { kind = c.kind; fields = b.fields } = ap (λ (n : ℕ). record { kind = n; fields = b.fields }) k in
    let y : record { kind = c.kind; fields = b.fields } ≡ c = ap (λ (l : List Content). record { kind = c.kind; fields = l }) f in
    x ∙ y

pub block_one : (i : ℕ) (s : List ℕ) (b c : Block) → BlockLine i s b → BlockLine i s c → b ≡ c
block_one i s b c x y =
    let p = begun i s b x in
    let q = begun i s c y in
    let e : of_kind b.kind p.at ≡ of_kind c.kind q.at = sym p.head ∙ q.head in
    let k : b.kind ≡ c.kind = cc in
    let a : p.at ≡ q.at = cc in
    let f : b.fields ≡ c.fields =
    one_fields s q.at c.kind b.fields c.fields p.text q.text q.known
    (subst (λ (n : ℕ). Fields (fields_of n) b.fields p.text) k p.fields) q.fields
    (subst (λ (n : ℕ). Spans s n p.text (length s)) a p.stands) q.stands in
    same_block b c k f

-- a line of alarms begins with no name
not_a_name : (s : List ℕ) (at : ℕ) → byte_at s at ≡ 65 → name_at s at ≡ NoName at
unfolding name_at
not_a_name s at e = rw e

alarms_first : (m : ℕ) (s w : List ℕ) → Stands (spaces m ++ (word_text alarms ++ w)) s 0 → byte_at s (after_spaces s 0) ≡ 65
unfolding word_text
alarms_first m s w st =
    let l = length-replicate m space in
    let o = stands_both (spaces m) (word_text alarms ++ w) s 0 st in
    let z : 0 + length (spaces m) ≡ m = omega arith in
    let p = rw z at o.1 in
    let u : 0 + m ≡ m = omega arith in
    let e : after_spaces s 0 ≡ m = after_spaces_lem s m 0 o.0 (rw u (λ z. omega (arith, p.1.0))) ∙ u in
    rw e p.1.0

pub not_both : (i : ℕ) (s : List ℕ) (b : Block) (rs : List Bit) → BlockLine i s b → AlarmsLine s rs → ⊥
unfolding heading_of
not_both i s b rs x (alarms_line {w = w} m c y) =
    let p = begun i s b x in
    let e = alarms_first m s w (itself s) in
    let n = not_a_name s (after_spaces s 0) e in
    let q : heading_of i s ≡ no_kind = rw n in
    let z : no_kind ≡ of_kind b.kind p.at = sym q ∙ p.head in
    let y : ◌≡◌ {A = ℕ} 0 1 = cc in
    omega arith

-- and stands for one list of them
names_range : {rs : List Bit} {w : List ℕ} → Names rs w → Each InRange rs
names_range (no_names n) = tt
names_range (one_name n h x) = (h, names_range x)

pub alarms_range : {s : List ℕ} {rs : List Bit} → AlarmsLine s rs → Each InRange rs
alarms_range (alarms_line m c x) = names_range x

refs_back : (rs : List Bit) → Each InRange rs → map bit_ref (map bit_code rs) ≡ rs
refs_back [] r = refl
refs_back (b ∷ rs) r = rw ((ref_back b r.0).0, refs_back rs r.1)

pub alarms_one : (s : List ℕ) (rs qs : List Bit) → AlarmsLine s rs → AlarmsLine s qs → rs ≡ qs
alarms_one s rs qs x y =
    let a = alarms_read (suc (length s)) s rs x (omega arith) in
    let b = alarms_read (suc (length s)) s qs y (omega arith) in
    let e : map bit_code rs ≡ map bit_code qs = codes_of (sym a.0 ∙ b.0) in
    sym (refs_back rs (alarms_range x)) ∙ ap (map bit_ref) e ∙ refs_back qs (alarms_range y)
  where
    codes_of : {m n : List ℕ} → found m ≡ found n → m ≡ n
    codes_of e = cc
