-- The fields of a row, one after the other: what each is read as, where it ends, and what is left of the row behind it. Assumes nothing.
use Prim.Native.Nat.{ℕ, zero, suc, ◌+◌, ◌<◌, ◌≤◌}
use mathlib.Core.Path.{◌≡◌, refl, ap}
use mathlib.Core.Bool.{Bool, true, false}
use mathlib.Core.List.{List, [], ◌∷◌}
use native.Mathlib.Numerals.{add-one}
use native.Mathlib.Omega.{arith, by_contra}
use lib.Dec.{ltb}
use lib.ListN.{length, get_or, set, drop, replicate, drop_of_length-le, get_or-eq_default}
use lib.Seq.{sets, drop-cons}
use borrow.Author.Tests.{ltb-true, le-leb, lt-leb}
use Rattle.std.specs.Prelude.{Option, Some}
use Rattle.terms.specs.Choice.{pick, every}
use Rattle.terms.proofs.Choice.{pick_case}
use Rattle.terms.proofs.Every.{every_at}
use Rattle.numbers.specs.Types.{number_types, kind_count}
use Rattle.grammar.specs.Grammar.{space}
use Rattle.spelling.specs.Spelling.{after_spaces}
use Rattle.words.specs.Words.{word_count, words, word_text}
use Rattle.values.specs.Reading.{Value}
use Rattle.values.specs.Reading.{Got, Bad}
use Rattle.values.specs.Reading.{value_at}
use Rattle.kinds.specs.Kinds.{LeftOut, never, reads, Field, kind_of, fields_of, listed_fields}
use Rattle.columns.specs.Columns.{no_field, field_of, must_stand, left_code}
use Rattle.layout.specs.Fields.{Found, found, lost, before, named_at, value_place, leaves, taken, fields_from}
use Rattle.layout.proofs.Valued.{value_told}
use Rattle.layout.proofs.Rows.{Name, Row as RowOf, row_of}
use Rattle.layout.proofs.Fielding.{is_named, told_inside}
use Rattle.lining.specs.Lining.{left_at, field_at, as_row}

-- a field of a row of numbers
pub record Known (f : Field) : Type 0 where
  pub type : f.type < number_types
  pub name : f.name < word_count

known_name : (n : ℕ) → Name (word_text n) → n < word_count
unfolding word_text
known_name n m =
    by_contra (suc n) word_count
    (λ h. let l : length words ≤ n = omega arith in m.begins (ap (λ (w : List ℕ). get_or w 0 space) (get_or-eq_default words [] l)))

row_at : (fs : List Field) (i : ℕ) → RowOf fs → i < length fs → Known (get_or fs i no_field)
row_at [] i r h = absurd (omega arith)
row_at (f ∷ fs) zero r h = record { type = r.0.0; name = known_name f.name r.0.1 }
row_at (f ∷ fs) (suc i) r h = row_at fs i r.1.1 (omega arith)

pub field_known : (k i : ℕ) → 0 < k → k < kind_count → i < length (fields_of k) → Known (field_of k i)
field_known k i l h p = row_at (fields_of k) i (row_of k l h) p

-- what a field that is left out is read as is never the number of one that must stand
apart : LeftOut → Bool
apart never = true
apart (reads v) = ltb v must_stand

left_apart : (k i : ℕ) → apart (field_of k i).left_out_as ≡ true
unfolding kind_of fields_of apart
left_apart k i =
    every_at (λ (f : Field). apart f.left_out_as) (fields_of k) i
    (every_at (λ (fs : List Field). every (λ (f : Field). apart f.left_out_as) fs) listed_fields k refl refl) refl

pub must_stand_lem : (k i at : ℕ) → left_code (field_of k i).left_out_as ≡ must_stand → left_at (field_of k i).left_out_as at ≡ Bad
unfolding apart
must_stand_lem k i at = go (field_of k i).left_out_as (left_apart k i)
  where
    go : (o : LeftOut) → apart o ≡ true → left_code o ≡ must_stand → left_at o at ≡ Bad
    go never a e = refl
    go (reads v) a e = absurd (omega (arith, ltb-true v must_stand a))

pub may_be_left : (o : LeftOut) (at : ℕ) → (left_code o ≡ must_stand → ⊥) → left_at o at ≡ Got (left_code o) at
may_be_left never at f = absurd (f refl)
may_be_left (reads v) at f = refl

module _ (s : List ℕ) (at : ℕ) where
  -- a value begins behind its name, and within
  module _ (name p size : ℕ) (e : p ≡ after_spaces s at) (f : size ≡ length (word_text name)) where
    pub value_begins : p + size + 1 ≡ value_place name s at
    unfolding value_place
    value_begins = rw (e, f)

    pub value_inside : named_at name s at ≡ true → p + size + 1 ≤ length s
    value_inside t = let n = is_named s name at t in omega (arith, value_begins, n.sign.end, n.sign.stands.0)

  -- what is read of the first field, and then of the others
  field_first : (f : Field) (fs : List Field) → fields_from (f ∷ fs) s at ≡ taken (field_at f s at) (fields_from fs s)
  unfolding fields_from field_at
  field_first f fs = go (named_at f.name s at) f.left_out_as
    where
      go :
          (b : Bool) (o : LeftOut) →
          pick b (taken (value_at f.type s (value_place f.name s at)) (fields_from fs s)) (leaves o (fields_from fs s at))
          ≡ taken (pick b (value_at f.type s (value_place f.name s at)) (left_at o at)) (fields_from fs s)
      go true o = refl
      go false never = refl
      go false (reads v) = refl

  -- it ends within
  pub field_inside : (f : Field) (v next : ℕ) → at ≤ length s → f.type < number_types → field_at f s at ≡ Got v next → next ≤ length s
  unfolding field_at
  field_inside f v next h l =
      pick_case (λ (x : Value). x ≡ Got v next → next ≤ length s) (named_at f.name s at)
      (λ t e. told_inside s f [] v at next (is_named s f.name at t) (value_told s (value_place f.name s at) f.type v next l e))
      (λ _. go f.left_out_as)
    where
      go : (o : LeftOut) → left_at o at ≡ Got v next → next ≤ length s
      go never e = let z : ◌≡◌ {A = ℕ} 0 1 = cc in absurd (omega arith)
      go (reads u) e = let a : at ≡ next = cc in omega arith

-- what is found from field i on, with the numbers of the fields before it
abbrev pub onto : List ℕ → ℕ → Found → Option (List ℕ)
onto l i (found vs) = Some (sets l i vs)
onto l i lost = as_row lost

pub all_of : (x : Found) → onto (replicate 5 0) 0 x ≡ as_row x
all_of (found vs) = refl
all_of lost = refl

one_more : (l : List ℕ) (i v : ℕ) (x : Found) → onto l i (before v x) ≡ onto (set l i v) (i + 1) x
one_more l i v (found vs) = rw (add-one i)
one_more l i v lost = refl

module _ (fs : List Field) (s : List ℕ) (l : List ℕ) (i at : ℕ) where
  module _ (h : i < length fs) where
    pub field_lost : field_at (get_or fs i no_field) s at ≡ Bad → onto l i (fields_from (drop i fs) s at) ≡ as_row lost
    field_lost e = rw (drop-cons fs i no_field h, field_first s at (get_or fs i no_field) (drop (suc i) fs), e)

    pub field_found :
        (v next : ℕ) → field_at (get_or fs i no_field) s at ≡ Got v next →
        onto l i (fields_from (drop i fs) s at) ≡ onto (set l i v) (i + 1) (fields_from (drop (i + 1) fs) s next)
    field_found v next e =
        rw (drop-cons fs i no_field h, field_first s at (get_or fs i no_field) (drop (suc i) fs), e, add-one i)
        (rw (add-one i) at (one_more l i v (fields_from (drop (suc i) fs) s next)))

  module _ (h : length fs ≤ i) where
    pub more_follows : after_spaces s at < length s → onto l i (fields_from (drop i fs) s at) ≡ as_row lost
    unfolding fields_from
    more_follows p = rw (drop_of_length-le fs h, lt-leb (length s) (after_spaces s at) p)

    pub none_follows : length s ≤ after_spaces s at → onto l i (fields_from (drop i fs) s at) ≡ Some l
    unfolding fields_from
    none_follows p = rw (drop_of_length-le fs h, le-leb (length s) (after_spaces s at) p)
