-- A row of the table of kinds, as the code has it; and which fields may be left out, by one test of the table. Assumes nothing.
use Prim.Native.Nat.{ℕ, zero, suc, ◌<◌, ◌≤◌}
use mathlib.Core.Path.{◌≡◌, refl, sym, ap}
use mathlib.Core.Bool.{Bool, true, false, ◌&&◌}
use mathlib.Core.List.{List, [], ◌∷◌}
use native.Mathlib.Omega.{arith}
use lib.Dec.{eqb, leb, ltb}
use lib.ListN.{length, get_or}
use borrow.Author.Tests.{eqb-true, leb-true, ltb-true, ltb-false}
use Rattle.terms.specs.Choice.{pick, every}
use Rattle.terms.proofs.Choice.{both, never}
use Rattle.terms.proofs.Every.{every_at}
use Rattle.numbers.specs.Types.{pin}
use Rattle.kinds.specs.Kinds.{Field, Kind, kind, kinds, kind_of, listed_fields, fields_of, nothing, types_in, types_of}
use Rattle.columns.specs.Columns.{no_field, field_of, row, must_stand, left_code}

-- only a bit pin may be left out
may_be_left : Field → Bool
may_be_left f = eqb (left_code f.left_out_as) (pick (eqb f.type pin) 0 must_stand)

pub left_out : (k i : ℕ) → left_code (field_of k i).left_out_as ≡ pick (eqb (field_of k i).type pin) 0 must_stand
unfolding fields_of may_be_left
left_out k i =
    eqb-true (left_code (field_of k i).left_out_as) (pick (eqb (field_of k i).type pin) 0 must_stand)
    (every_at may_be_left (fields_of k) i (every_at (λ (fs : List Field). every may_be_left fs) listed_fields k refl refl) refl)

-- no kind has more fields than five
few : List Field → Bool
few fs = leb (length fs) 5

pub fields_few : (k : ℕ) → length (fields_of k) ≤ 5
unfolding fields_of few
fields_few k = leb-true (length (fields_of k)) 5 (every_at few listed_fields k refl refl)

-- the table's column of types is that of the fields' types
same : List ℕ → List ℕ → Bool
same [] [] = true
same [] (y ∷ ys) = false
same (x ∷ xs) [] = false
same (x ∷ xs) (y ∷ ys) = eqb x y && same xs ys

same_equal : (xs ys : List ℕ) → same xs ys ≡ true → xs ≡ ys
unfolding same
same_equal [] [] e = refl
same_equal [] (y ∷ ys) e = never (sym e)
same_equal (x ∷ xs) [] e = never (sym e)
same_equal (x ∷ xs) (y ∷ ys) e =
    let o = both (eqb x y) (same xs ys) e in
    rw (eqb-true x y o.0, same_equal xs ys o.1)

same_rows : List Kind → List (List Field) → Bool
same_rows [] [] = true
same_rows [] (fs ∷ rest) = false
same_rows (r ∷ rs) [] = false
same_rows (r ∷ rs) (fs ∷ rest) = same r.types (types_in fs) && same_rows rs rest

rows_equal :
    (rs : List Kind) (rest : List (List Field)) (k : ℕ) → same_rows rs rest ≡ true →
    (get_or rs k (kind [] 0 false)).types ≡ types_in (get_or rest k [])
unfolding same_rows
rows_equal [] [] k e = refl
rows_equal [] (fs ∷ rest) k e = never (sym e)
rows_equal (r ∷ rs) [] k e = never (sym e)
rows_equal (r ∷ rs) (fs ∷ rest) zero e = same_equal r.types (types_in fs) (both (same r.types (types_in fs)) (same_rows rs rest) e).0
rows_equal (r ∷ rs) (fs ∷ rest) (suc k) e = rows_equal rs rest k (both (same r.types (types_in fs)) (same_rows rs rest) e).1

pub types_are : (k : ℕ) → types_of k ≡ types_in (fields_of k)
unfolding kind_of fields_of same same_rows
types_are k = rows_equal kinds listed_fields k refl

types_at : (fs : List Field) (i : ℕ) → get_or (types_in fs) i nothing ≡ (get_or fs i no_field).type
types_at [] i = refl
types_at (f ∷ fs) zero = refl
types_at (f ∷ fs) (suc i) = types_at fs i

pub type_at : (k i : ℕ) → get_or (types_of k) i nothing ≡ (field_of k i).type
type_at k i = rw (types_are k) (types_at (fields_of k) i)

-- a row as the code has it is as long, and has the names and types of its fields
pub row_long : (fs : List Field) → length (row fs) ≡ length fs
row_long [] = refl
row_long (f ∷ fs) = omega (arith, row_long fs)

-- what stands at a place of it, and past its end
row_at : (fs : List Field) (i : ℕ) (p : ℕ × ℕ) → i < length (row fs) → p ≡ get_or (row fs) i p →
    (p.0 ≡ (get_or fs i no_field).name) × (p.1 ≡ (get_or fs i no_field).type)
row_at [] i p h e = absurd (omega arith)
row_at (f ∷ fs) zero p h e = (ap (λ (q : ℕ × ℕ). q.0) e, ap (λ (q : ℕ × ℕ). q.1) e)
row_at (f ∷ fs) (suc i) p h e = row_at fs i p (omega arith) e

row_past : (fs : List Field) (i : ℕ) → length (row fs) ≤ i → get_or fs i no_field ≡ no_field
row_past [] i h = refl
row_past (f ∷ fs) zero h = absurd (omega arith)
row_past (f ∷ fs) (suc i) h = row_past fs i (omega arith)

module _ {rows : List (ℕ × ℕ)} (kind : ℕ) {i j : ℕ} (r : rows ≡ row (fields_of kind)) (e : j ≡ i) where
  pub field_there : (p : ℕ × ℕ) → true ≡ ltb j (length rows) → p ≡ get_or rows j p → (p.0 ≡ (field_of kind i).name) × (p.1 ≡ (field_of kind i).type)
  field_there p h q = row_at (fields_of kind) i p (ltb-true _ _ (rw (r, e) at (sym h))) (rw (r, e) at q)

  pub field_none : false ≡ ltb j (length rows) → field_of kind i ≡ no_field
  field_none h = row_past (fields_of kind) i (ltb-false _ _ (rw (r, e) at (sym h)))
