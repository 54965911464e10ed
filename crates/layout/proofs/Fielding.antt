-- The fields of a line: what is read from a place on is the text of fields, and the text of fields is read as they are. Assumes nothing.
use Prim.Native.Nat.{ℕ, zero, suc, ◌+◌, ◌-◌, ◌<◌, ◌≤◌}
use mathlib.Core.Path.{◌≡◌, refl, sym, ap, ◌∙◌}
use mathlib.Core.Bool.{Bool, true, false, ◌&&◌}
use mathlib.Core.List.{List, [], ◌∷◌, ◌++◌}
use native.Mathlib.Nat.{add-zero}
use native.Mathlib.Omega.{arith}
use lib.ListN.{length, length-append, length-replicate, get_or-eq_default}
use lib.Dec.{ltb, leb, eqb}
use borrow.Author.Tests.{lt-ltb, ltb-true, leb-true, le-leb, eqb-true, eq-eqb}
use Rattle.terms.proofs.Choice.{both, pick_case}
use Rattle.wire.specs.Number.{byte_at}
use Rattle.wire.specs.Facts.{Stands}
use Rattle.numbers.specs.Blocks.{Content}
use Rattle.numbers.specs.Types.{number_types, content_of}
use Rattle.grammar.specs.Grammar.{space, spaces}
use Rattle.grammar.specs.Machine.{is_digit, Spans}
use Rattle.grammar.proofs.From.{byte, after, there}
use Rattle.spelling.specs.Spelling.{after_spaces}
use Rattle.spelling.proofs.Spaces.{skipped, skipped_within, no_space, one_space}
use Rattle.forms.proofs.Standing.{stands_both}
use Rattle.words.specs.Words.{word_text}
use Rattle.words.specs.Standing.{stands_at}
use Rattle.words.proofs.Standing.{stands_exactly}
use Rattle.values.specs.Reading.{Value}
use Rattle.values.specs.Reading.{Got, Bad}
use Rattle.values.specs.Values.{value_text}
use Rattle.values.specs.Reading.{value_at}
use Rattle.kinds.specs.Kinds.{LeftOut, never, reads, Field}
use Rattle.layout.specs.Layout.{equals, Fields, no_more, given, left_out, formula}
use Rattle.layout.specs.Fields.{Found, found, lost, before, named_at, value_place, leaves, taken, fields_from}
use Rattle.layout.proofs.Signed.{NoDigit}
use Rattle.layout.proofs.Valued.{Told, value_told, Standing, ReadAs, value_read}
use Rattle.layout.proofs.Rows.{Name, Unlike, Row, one_word}

-- the contents of fields by their numbers
unfoldable pub contents_of : List Field → List ℕ → List Content
contents_of [] vs = []
contents_of (f ∷ fs) [] = []
contents_of (f ∷ fs) (v ∷ vs) = content_of f.type v ∷ contents_of fs vs

module _ (s : List ℕ) where
  -- what stands at a place is within
  pub stands_within : (w : List ℕ) (at : ℕ) → at ≤ length s → Stands w s at → at + length w ≤ length s
  stands_within [] at h st = omega arith
  stands_within (x ∷ w) at h st = omega (arith, stands_within w (at + 1) (omega (arith, st.0)) st.1.1)

  -- spaces that stand at a place, and no more
  pub after_spaces_lem : (n at : ℕ) → Stands (spaces n) s at → (byte_at s (at + n) ≡ space → ⊥) → after_spaces s at ≡ at + n
  after_spaces_lem zero at st f = let e : at + 0 ≡ at = add-zero at in rw e (no_space s at (rw e at f))
  after_spaces_lem (suc n) at st f =
      let e : at + suc n ≡ at + 1 + n = omega arith in
      one_space s at st.0 st.1.0 ∙ rw e (after_spaces_lem n (at + 1) st.1.1 (rw e at f))

  -- behind the last byte there is none
  pub past : (at : ℕ) → length s ≤ at → byte_at s at ≡ 0
  past at h = get_or-eq_default s 0 h

  -- a name, `=` and what follows them, behind spaces
  pub record Named (name at : ℕ) : Type 0 where
    pub count : ℕ
    pub gap : Spans s at (spaces (suc count)) (after_spaces s at)
    pub word : Stands (word_text name) s (after_spaces s at)
    pub sign : Spans s (after_spaces s at + length (word_text name)) (equals ∷ []) (value_place name s at)

  pub is_named : (name at : ℕ) → named_at name s at ≡ true → Named name at
  unfolding named_at value_place
  is_named name at e =
      let p = after_spaces s at in
      let o = both (ltb at p) (stands_at (word_text name) s p && eqb (byte_at s (p + length (word_text name))) equals) e in
      let q = both (stands_at (word_text name) s p) (eqb (byte_at s (p + length (word_text name))) equals) o.1 in
      let k = skipped s at {next = p} refl in
      let l = ltb-true at p o.0 in
      let b = eqb-true (byte_at s (p + length (word_text name))) equals q.1 in
      let c : k.n ≡ suc (k.n - 1) = omega (arith, k.stands.end, length-replicate k.n space) in
      record {
        count = k.n - 1;
        gap = rw c at k.stands;
        word = (stands_exactly (word_text name) s p).0 q.0;
        sign = byte s (p + length (word_text name)) equals (there s (p + length (word_text name)) equals (omega arith) b) b;
      }

  -- fields that stand from a place to the end
  pub record Rowed (fs : List Field) (vs : List ℕ) (at : ℕ) : Type 0 where
    pub text : List ℕ
    pub stands : Spans s at text (length s)
    pub fields : Fields fs (contents_of fs vs) text

  -- no more fields: spaces to the end
  none_told : (vs : List ℕ) (at : ℕ) → at ≤ length s → fields_from [] s at ≡ found vs → Rowed [] vs at
  unfolding fields_from contents_of
  none_told vs at h =
      pick_case (λ (x : Found). x ≡ found vs → Rowed [] vs at) (leb (length s) (after_spaces s at))
      (λ t e.
      let k = skipped s at {next = after_spaces s at} refl in
      let w = skipped_within s at {next = after_spaces s at} h refl in
      let q : length s ≡ after_spaces s at = omega (arith, leb-true (length s) (after_spaces s at) t, w.1) in
      record { text = spaces k.n; stands = rw q k.stands; fields = no_more k.n })
      (λ _ e. let z : ◌≡◌ {A = ℕ} 0 1 = cc in absurd (omega arith))

  module _ (f : Field) (fs : List Field) where
    -- one field more, with its name
    one_more :
        (v : ℕ) (vs : List ℕ) (at next : ℕ) → Named f.name at → Told s (value_place f.name s at) f.type v next → Rowed fs vs next →
        Rowed (f ∷ fs) (v ∷ vs) at
    unfolding Told contents_of
    one_more v vs at next n t r =
        let x : Spans s (value_place f.name s at) (value_text f.type v) next = record { stands = t.0.stands; end = t.0.end } in
        let y : Spans s (after_spaces s at) (word_text f.name) (after_spaces s at + length (word_text f.name)) = record { stands = n.word; end = refl } in
        record {
          text = spaces (suc n.count) ++ (word_text f.name ++ (equals ∷ (value_text f.type v ++ r.text)));
          stands = after s n.gap (after s y (after s n.sign (after s x r.stands)));
          fields = given n.count v t.1 r.fields;
        }

    -- a value ends within
    pub told_inside : (v at next : ℕ) → Named f.name at → Told s (value_place f.name s at) f.type v next → next ≤ length s
    unfolding Told
    told_inside v at next n t =
        let h : value_place f.name s at ≤ length s = omega (arith, n.sign.end, n.sign.stands.0) in
        omega (arith, t.0.end, stands_within (value_text f.type v) (value_place f.name s at) h t.0.stands)

    left : (v : ℕ) (vs : List ℕ) (at : ℕ) → f.left_out_as ≡ reads v → Rowed fs vs at → Rowed (f ∷ fs) (v ∷ vs) at
    unfolding contents_of
    left v vs at e r = record { text = r.text; stands = r.stands; fields = left_out v e r.fields }

    -- where the rest is read, if it is
    abbrev Rest : Type 0
    Rest = (vs : List ℕ) (at : ℕ) → at ≤ length s → fields_from fs s at ≡ found vs → Rowed fs vs at

    taken_told :
        (x : Value) (vs : List ℕ) (at : ℕ) → f.type < number_types → Named f.name at → at ≤ length s → Rest →
        value_at f.type s (value_place f.name s at) ≡ x → taken x (fields_from fs s) ≡ found vs → Rowed (f ∷ fs) vs at
    taken_told Bad vs at l n h rest e g = let z : ◌≡◌ {A = ℕ} 0 1 = cc in absurd (omega arith)
    taken_told (Got v next) vs at l n h rest e g = go (fields_from fs s next) refl g
      where
        t : Told s (value_place f.name s at) f.type v next
        t = value_told s (value_place f.name s at) f.type v next l e

        go : (r : Found) → fields_from fs s next ≡ r → before v r ≡ found vs → Rowed (f ∷ fs) vs at
        go lost q i = let z : ◌≡◌ {A = ℕ} 0 1 = cc in absurd (omega arith)
        go (found us) q i =
            let a : v ∷ us ≡ vs = cc in
            rw (← a) (one_more v us at next n t (rest us next (told_inside v at next n t) q))

    left_told : (o : LeftOut) (vs : List ℕ) (at : ℕ) → f.left_out_as ≡ o → at ≤ length s → Rest → leaves o (fields_from fs s at) ≡ found vs → Rowed (f ∷ fs) vs at
    left_told never vs at o h rest e = let z : ◌≡◌ {A = ℕ} 0 1 = cc in absurd (omega arith)
    left_told (reads v) vs at o h rest e = go (fields_from fs s at) refl e
      where
        go : (r : Found) → fields_from fs s at ≡ r → before v r ≡ found vs → Rowed (f ∷ fs) vs at
        go lost q i = let z : ◌≡◌ {A = ℕ} 0 1 = cc in absurd (omega arith)
        go (found us) q i = let a : v ∷ us ≡ vs = cc in rw (← a) (left v us at o (rest us at h q))

  pub fields_told : (fs : List Field) (vs : List ℕ) (at : ℕ) → Row fs → at ≤ length s → fields_from fs s at ≡ found vs → Rowed fs vs at
  unfolding fields_from
  fields_told [] vs at r h = none_told vs at h
  fields_told (f ∷ fs) vs at r h =
      let rest : (vs : List ℕ) (at : ℕ) → at ≤ length s → fields_from fs s at ≡ found vs → Rowed fs vs at = λ us to. fields_told fs us to r.1.1 in
      pick_case (λ (x : Found). x ≡ found vs → Rowed (f ∷ fs) vs at) (named_at f.name s at)
      (λ t. taken_told f fs (value_at f.type s (value_place f.name s at)) vs at r.0.0 (is_named f.name at t) h rest refl)
      (λ _. left_told f fs f.left_out_as vs at refl h rest)

  -- behind the value of a field no digit stands
  no_digit_behind : (fs : List Field) (cs : List Content) (w : List ℕ) (at : ℕ) → Fields fs cs w → Spans s at w (length s) → NoDigit s at
  unfolding is_digit
  no_digit_behind fs cs w at (no_more zero) x = let e : length s ≤ at = omega (arith, x.end) in rw (past at e)
  no_digit_behind fs cs w at (no_more (suc n)) x = rw x.stands.1.0
  no_digit_behind fs cs w at (given n v h y) x = rw x.stands.1.0
  no_digit_behind fs cs w at (left_out {fs = gs} {cs = ds} v e y) x = no_digit_behind gs ds w at y x
  no_digit_behind fs cs w at (formula e y) x = rw x.stands.1.0

  -- the parts of a field's text
  record Parts (name ty v n at : ℕ) (w : List ℕ) : Type 0 where
    place : after_spaces s at ≡ at + suc n
    word : Stands (word_text name) s (at + suc n)
    sign : Stands (equals ∷ []) s (at + suc n + length (word_text name))
    value : Stands (value_text ty v) s (at + suc n + length (word_text name) + 1)
    rest : Spans s (at + suc n + length (word_text name) + 1 + length (value_text ty v)) w (length s)

  parts :
      (name ty v n at : ℕ) (w : List ℕ) → Name (word_text name) →
      Spans s at (spaces (suc n) ++ (word_text name ++ (equals ∷ (value_text ty v ++ w)))) (length s) → Parts name ty v n at w
  parts name ty v n at w g x =
      let a = stands_both (spaces (suc n)) (word_text name ++ (equals ∷ (value_text ty v ++ w))) s at x.stands in
      let l : length (spaces (suc n)) ≡ suc n = length-replicate (suc n) space in
      let b = stands_both (word_text name) (equals ∷ (value_text ty v ++ w)) s (at + suc n) (rw l at a.1) in
      let c = stands_both (equals ∷ []) (value_text ty v ++ w) s (at + suc n + length (word_text name)) b.1 in
      let d = stands_both (value_text ty v) w s (at + suc n + length (word_text name) + 1) c.1 in
      record {
        place = after_spaces_lem (suc n) at a.0 (first (word_text name) b.0 g);
        word = b.0;
        sign = c.0;
        value = d.0;
        rest = record {
          stands = d.1;
          end = omega (
            arith,
            x.end,
            l,
            length-append (spaces (suc n)) (word_text name ++ (equals ∷ (value_text ty v ++ w))),
            length-append (word_text name) (equals ∷ (value_text ty v ++ w)),
            length-append (value_text ty v) w,
          );
        };
      }
    where
      first : (u : List ℕ) → Stands u s (at + suc n) → Name u → byte_at s (at + suc n) ≡ space → ⊥
      first [] st m e = m.begins refl
      first (y ∷ u) st m e = m.begins (sym st.1.0 ∙ e)

  -- its name is there
  has_name : (name ty v n at : ℕ) (w : List ℕ) → Parts name ty v n at w → named_at name s at ≡ true
  unfolding named_at
  has_name name ty v n at w p =
      rw (
        p.place,
        lt-ltb at (at + suc n) (omega arith),
        (stands_exactly (word_text name) s (at + suc n)).1 p.word,
        eq-eqb (byte_at s (at + suc n + length (word_text name))) equals p.sign.1.0,
      )

  value_place_lem : (name ty v n at : ℕ) (w : List ℕ) → Parts name ty v n at w → value_place name s at ≡ at + suc n + length (word_text name) + 1
  unfolding value_place
  value_place_lem name ty v n at w p = rw p.place

  -- a name that no field of a row has is not there
  nowhere : (name at : ℕ) → (Named name at → ⊥) → named_at name s at ≡ false
  nowhere name at f = go (named_at name s at) refl
    where
      go : (b : Bool) → named_at name s at ≡ b → b ≡ false
      go true e = absurd (f (is_named name at e))
      go false e = refl

  not_named :
      (name : ℕ) (fs : List Field) (cs : List Content) (w : List ℕ) (at : ℕ) → Name (word_text name) → Unlike (word_text name) fs → Row fs →
      Fields fs cs w → Spans s at w (length s) → Named name at → ⊥
  not_named name fs cs w at g u r (no_more n) x a =
      let l : length (spaces n) ≡ n = length-replicate n space in
      let e : length s ≡ at + n = omega (arith, x.end) in
      let p = after_spaces_lem n at x.stands (λ z. let q = past (at + n) (omega arith) in omega arith) in
      empty_there (word_text name) (after_spaces s at) g a.word (omega arith)
    where
      empty_there : (v : List ℕ) (p : ℕ) → Name v → Stands v s p → length s ≤ p → ⊥
      empty_there [] p m st h = m.begins refl
      empty_there (y ∷ v) p m st h = omega (arith, st.0)
  not_named name (f ∷ fs) cs w at g u r (given n v h y) x a =
      let p = parts f.name f.type v n at _ r.0.1 x in
      let i : Spans s (after_spaces s at) (word_text name) (after_spaces s at + length (word_text name)) = record { stands = a.word; end = refl } in
      let j : Spans s (at + suc n) (word_text f.name) (at + suc n + length (word_text f.name)) = record { stands = p.word; end = refl } in
      let k : Spans s (at + suc n + length (word_text f.name)) (equals ∷ []) (at + suc n + length (word_text f.name) + 1) =
      record { stands = p.sign; end = refl } in
      let q : Stands (word_text name ++ (equals ∷ [])) s (at + suc n) = rw p.place at (after s i a.sign).stands in
      let z = (after s j k).stands in
      u.0 (one_word s (word_text name) (word_text f.name) (at + suc n) g.inside r.0.1.inside q z)
  not_named name (f ∷ fs) cs w at g u r (left_out {cs = ds} v e y) x a = not_named name fs ds w at g u.1 r.1.1 y x a
  not_named name (f ∷ []) cs w at g u r (formula e y) x a = omega (arith, r.0.0)

  read_as : (q ty v : ℕ) → ReadAs s q ty v → value_at ty s q ≡ Got v (q + length (value_text ty v))
  unfolding ReadAs
  read_as q ty v a = a

  -- fields that are read: their numbers
  pub record Codes (fs : List Field) (cs : List Content) (at : ℕ) : Type 0 where
    pub numbers : List ℕ
    pub is : fields_from fs s at ≡ found numbers
    pub same : cs ≡ contents_of fs numbers

  pub fields_read : (fs : List Field) (cs : List Content) (w : List ℕ) (at : ℕ) → Row fs → Fields fs cs w → Spans s at w (length s) → Codes fs cs at
  unfolding fields_from contents_of
  fields_read fs cs w at r (no_more n) x =
      let l : length (spaces n) ≡ n = length-replicate n space in
      let e : length s ≡ at + n = omega (arith, x.end) in
      let p = after_spaces_lem n at x.stands (λ z. let q = past (at + n) (omega arith) in omega arith) in
      record { numbers = []; is = rw (le-leb (length s) (after_spaces s at) (omega arith)); same = refl }
  fields_read (f ∷ fs) cs w at r (given {cs = ds} {w = u} n v h y) x =
      let p = parts f.name f.type v n at u r.0.1 x in
      let q = at + suc n + length (word_text f.name) + 1 in
      let t : Standing s q f.type v =
      record { text = p.value; alone = no_digit_behind fs ds u (q + length (value_text f.type v)) y p.rest } in
      let a = value_read s q f.type v r.0.0 h t in
      let c = fields_read fs ds u (q + length (value_text f.type v)) r.1.1 y p.rest in
      record {
        numbers = v ∷ c.numbers;
        is = rw (has_name f.name f.type v n at u p, value_place_lem f.name f.type v n at u p, read_as q f.type v a, c.is);
        same = ap (λ (l : List Content). content_of f.type v ∷ l) c.same;
      }
  fields_read (f ∷ fs) cs w at r (left_out {cs = ds} v e y) x =
      let c = fields_read fs ds w at r.1.1 y x in
      record {
        numbers = v ∷ c.numbers;
        is = rw (nowhere f.name at (not_named f.name fs ds w at r.0.1 r.1.0 r.1.1 y x), e, c.is);
        same = ap (λ (l : List Content). content_of f.type v ∷ l) c.same;
      }
  fields_read (f ∷ []) cs w at r (formula e y) x = absurd (omega (arith, r.0.0))
