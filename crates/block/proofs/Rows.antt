-- Laws of fields and rows: a field's answer, and one more field of a row. Assumes nothing.
use Prim.Native.Nat.{ℕ, zero, suc, ◌+◌, ◌-◌, ◌<◌, ◌≤◌}
use mathlib.Core.Path.{◌≡◌, refl, sym, ap, ◌∙◌}
use mathlib.Core.Bool.{Bool, true, false, not, ◌&&◌, ◌||◌}
use mathlib.Core.List.{List, [], ◌∷◌, map}
use native.Mathlib.Omega.{arith}
use native.Mathlib.Nat.{add_assoc, add-zero, zero-add}
use lib.Dec.{T, eqb, ltb, ltb→lt}
use lib.ListN.{length, get_or, set, replicate, length-set}
use lib.Seq.{get_or-set_same, sets}
use borrow.Author.Tests.{eqb-false, ne_eqb}
use Rattle.wire.specs.Number.{Num, Got as NumGot, Bad, Cut}
use Rattle.wire.specs.Number.{number_at}
use Rattle.numbers.specs.Blocks.{Content, nodes, nodes_of, nodes_in, code_of}
use Rattle.kinds.specs.Kinds.{expression, kind_of, types_of, figure_for, mark_for}
use Rattle.numbers.specs.Types.{number_types, off_time, kind_number, allowed, excepted, content_of, setting_of}
use Rattle.wire.specs.Reading.{Read, got, fault, and_then}
use Rattle.numbers.specs.Reading.{Marks, judged, typed_at}
use Rattle.nodes.specs.Reading.{expr_at}
use Rattle.block.specs.Reading.{content_at, fields_at, block_at}
use Rattle.block.specs.Answers.{empty_row, with_field, number_before, field_more, row_from, row_of, brief_of}
use Rattle.block.specs.declared.Row.{Row}
use Rattle.numbers.proofs.References.{content_code, content_nodes, content_setting}
use Rattle.terms.proofs.Table.{both_left, both_right}
use Rattle.nodes.proofs.Expressions.{few, Whole, whole}

-- a BL's row, by what was read of its expression
module _ (k : Marks) (s : List ℕ) (at : ℕ) where
  pub tree_full : {next left : ℕ} → Whole 63 (expr_at k 16 63 s at) next left
      → (left ≤ 63) × (got (record { fields = replicate 5 0; nodes = 63 - left; next = next }) next ≡ row_of (fields_at k (types_of 0) 0 s at))
  unfolding content_at fields_at kind_of row_of
  tree_full {next} {left} (whole t r l) =
      let h = few k 16 63 s at r in
      let n : 63 - left ≡ nodes t = omega arith in
      (omega arith, rw (r, n, add-zero, zero-add))

  pub tree_stopped : {n p : ℕ} → expr_at k 16 63 s at ≡ fault n p → fault n p ≡ row_of (fields_at k (types_of 0) 0 s at)
  unfolding content_at fields_at kind_of row_of
  tree_stopped r = rw r

-- one more field of a row, by what was read for it
pub before_place : (i : ℕ) (l : List ℕ) → (i ≡ 0 → ⊥) → get_or l (i - 1) 0 ≡ number_before i l
before_place zero l ne = absurd (ne refl)
before_place (suc i) l ne = let e : suc i - 1 ≡ i = omega arith in rw e

module _ (k : Marks) (i ty : ℕ) (s : List ℕ) (row : Row) where
  pub more_fault : {x n p : ℕ} → x ≡ number_before i row.fields → typed_at k ty x s row.next ≡ fault n p → fault n p ≡ field_more k i ty s row
  unfolding field_more
  more_fault b r = rw (sym b, r)

  pub more_got : {x v next : ℕ} → x ≡ number_before i row.fields → typed_at k ty x s row.next ≡ got v next
      → got (record { fields = set row.fields i v; nodes = row.nodes; next = next }) next ≡ field_more k i ty s row
  unfolding field_more
  more_got b r = rw (sym b, r)

-- only an off time looks at the setting before it
allowed_free : (ty a b v : ℕ) → (ty ≡ off_time → ⊥) → allowed ty a v ≡ allowed ty b v
unfolding allowed excepted
allowed_free ty a b v ne = rw (ne_eqb ty off_time ne)

judged_free : (k : Marks) (ty a b at : ℕ) (m : Num) → (ty ≡ off_time → ⊥) → judged k ty a at m ≡ judged k ty b at m
judged_free k ty a b at Bad ne = refl
judged_free k ty a b at Cut ne = refl
judged_free k ty a b at (NumGot v next) ne = rw (allowed_free ty a b v ne)

typed_free : (k : Marks) (ty a b : ℕ) (s : List ℕ) (at : ℕ) → (ty ≡ off_time → ⊥) → typed_at k ty a s at ≡ typed_at k ty b s at
unfolding typed_at
typed_free k ty a b s at ne = judged_free k ty a b at (number_at s at) ne

-- one field before the rest of a row
row_cons :
    (i : ℕ) (l : List ℕ) (n : ℕ) (c : Content) (r : Read (List Content)) →
    row_from i l n (and_then r (λ cs end. got (c ∷ cs) end)) ≡ row_from (suc i) (set l i (code_of c)) (n + nodes_of c) r
row_cons i l n c (got cs end) = rw add_assoc
row_cons i l n c (fault e at) = refl

-- types of numbers for the places of a row from i on; an off time stands after a setting, which `b` says of the first
abbrev fitting : ℕ → Bool → List ℕ → Bool
fitting i b [] = true
fitting i b (ty ∷ ts) = ltb i 5 && (ltb ty number_types && ((not (eqb ty off_time) || b) && fitting (suc i) (ltb 1 ty) ts))

module _ (k : Marks) (s : List ℕ) where
  -- a row read on by these types, from place i on
  abbrev pub read_all : List ℕ → ℕ → Read Row → Read Row
  read_all [] i r = r
  read_all (ty ∷ ts) i r = read_all ts (suc i) (and_then r (λ row next. field_more k i ty s row))

  stays : (ts : List ℕ) (i n at : ℕ) → read_all ts i (fault n at) ≡ fault n at
  stays [] i n at = refl
  stays (ty ∷ ts) i n at = stays ts (suc i) n at

  -- the number before stands for the setting before
  typed_same :
      (ty before i : ℕ) (l : List ℕ) (at : ℕ) (b : Bool) → T (not (eqb ty off_time) || b) → (T b → before ≡ number_before i l) →
      typed_at k ty before s at ≡ typed_at k ty (number_before i l) s at
  typed_same ty before i l at b t h = go (eqb ty off_time) refl t
    where
      go : (x : Bool) → eqb ty off_time ≡ x → T (not x || b) → typed_at k ty before s at ≡ typed_at k ty (number_before i l) s at
      go true e t = rw (h t)
      go false e t = typed_free k ty before (number_before i l) s at (eqb-false ty off_time e)

  content_number : (ty before : ℕ) (at : ℕ) → ty < number_types → content_at k ty before s at ≡ and_then (typed_at k ty before s at) (λ v next. got (content_of ty v) next)
  unfolding content_at
  content_number ty before at h = rw (ne_eqb ty expression (λ z. omega arith))

  setting_same : (ty v i : ℕ) (l : List ℕ) → i < length l → T (ltb 1 ty) → setting_of (content_of ty v) ≡ number_before (suc i) (set l i v)
  setting_same ty v i l h t = content_setting ty v (ltb→lt 1 ty t) ∙ sym (get_or-set_same l i v 0 h)

  -- what is left of a row, read on by its types, is the whole
  left_whole :
      (ts : List ℕ) (i : ℕ) (b : Bool) (l : List ℕ) (before at : ℕ) → length l ≡ 5 → T (fitting i b ts) → (T b → before ≡ number_before i l) →
      read_all ts i (got (record { fields = l; nodes = 0; next = at }) at) ≡ row_from i l 0 (fields_at k ts before s at)
  unfolding field_more fields_at
  left_whole [] i b l before at e f h = refl
  left_whole (ty ∷ ts) i b l before at e f h =
      let f1 = both_right (ltb i 5) _ f in
      let f2 = both_right (ltb ty number_types) _ f1 in
      rw (
        content_number ty before at (ltb→lt ty number_types (both_left (ltb ty number_types) _ f1)),
        typed_same ty before i l at b (both_left (not (eqb ty off_time) || b) _ f2) h,
      )
      (on_number (typed_at k ty (number_before i l) s at)
      (λ v next. left_whole ts (suc i) (ltb 1 ty) (set l i v) (setting_of (content_of ty v)) next (length-set l i v ∙ e) (both_right (not (eqb ty off_time) || b) _ f2)
      (setting_same ty v i l (omega (arith, ltb→lt i 5 (both_left (ltb i 5) _ f))))))
    where
      on_number :
          (r : Read ℕ) →
          ((v next : ℕ) → read_all ts (suc i) (got (record { fields = set l i v; nodes = 0; next = next }) next) ≡ row_from (suc i) (set l i v) 0
          (fields_at k ts (setting_of (content_of ty v)) s next)) →
          read_all ts (suc i) (with_field i (record { fields = l; nodes = 0; next = at }) r)
          ≡ row_from i l 0
          (and_then (and_then r (λ v next. got (content_of ty v) next)) (λ c next. and_then (fields_at k ts (setting_of c) s next) (λ cs end. got (c ∷ cs) end)))
      on_number (got v next) g =
          g v next ∙ sym (row_cons i l 0 (content_of ty v) (fields_at k ts (setting_of (content_of ty v)) s next) ∙ rw (content_code ty v, content_nodes ty v))
      on_number (fault n p) g = stays ts (suc i) n p

  pub row_read : (ts : List ℕ) (at : ℕ) → T (fitting 0 true ts) → read_all ts 0 (got (empty_row at) at) ≡ row_of (fields_at k ts 0 s at)
  unfolding row_of
  row_read ts at f = left_whole ts 0 true (replicate 5 0) 0 at refl f (λ _. refl)

-- what a row that was read tells of its fields
pub data Full (r : Read (List Content)) (n next : ℕ) : Type 0 where
  full : (cs : List Content) → r ≡ got cs next → n ≡ nodes_in cs → Full r n next

module _ (r : Read (List Content)) where
  pub row_full : {row : Row} → got row row.next ≡ row_of r → Full r row.nodes row.next
  unfolding row_of
  row_full {row} h = go r refl h
    where
      go : (q : Read (List Content)) → r ≡ q → got row row.next ≡ row_from 0 (replicate 5 0) 0 q → Full r row.nodes row.next
      go (got cs n) e h =
          let a : row.next ≡ n = cc in
          let b : row ≡ record { fields = sets (replicate 5 0) 0 (map code_of cs); nodes = 0 + nodes_in cs; next = n } = cc in
          full cs (rw (← a) at e) (ap (λ (x : Row). x.nodes) b ∙ zero-add (nodes_in cs))
      go (fault n at) e h = let z : ◌≡◌ {A = ℕ} 0 1 = cc in absurd (omega arith)

  pub row_stopped : {n p : ℕ} → fault n p ≡ row_of r → r ≡ fault n p
  unfolding row_of
  row_stopped {n} {p} h = go r refl h
    where
      go : (q : Read (List Content)) → r ≡ q → fault n p ≡ row_from 0 (replicate 5 0) 0 q → r ≡ fault n p
      go (got cs n) e h = let z : ◌≡◌ {A = ℕ} 0 1 = cc in absurd (omega arith)
      go (fault x y) e h = let a : x ≡ n = cc in let b : y ≡ p = cc in rw (← a, ← b) e

-- a block, by its kind and its row
module _ (k : Marks) (s : List ℕ) (at : ℕ) {v next : ℕ} (e : typed_at k kind_number 0 s at ≡ got v next) where
  pub block_full : {n end : ℕ} → Full (fields_at k (types_of v) 0 s next) n end
      → got (record { memory = (kind_of v).memory + n; figure = figure_for n; mark = mark_for v; next = end }) end ≡ brief_of (block_at k s at)
  unfolding block_at
  block_full (full cs r h) = rw (e, r, h)

  pub block_stopped : {n p : ℕ} → fields_at k (types_of v) 0 s next ≡ fault n p → fault n p ≡ brief_of (block_at k s at)
  unfolding block_at
  block_stopped r = rw (e, r)
