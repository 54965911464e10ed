-- One field of a line: when it is left out, and that it has a name; and one field before the rest. Assumes nothing.
use Prim.Native.Nat.{ℕ, ◌+◌, ◌<◌, ◌≤◌}
use mathlib.Core.Path.{◌≡◌, refl}
use mathlib.Core.Bool.{Bool, false, ◌||◌}
use mathlib.Core.List.{List, [], ◌++◌}
use native.Mathlib.Omega.{arith}
use native.Mathlib.Numerals.{add-one}
use lib.ListN.{length, get_or, drop, drop_of_length-le}
use lib.Seq.{drop-cons}
use lib.Dec.{T, eqb, ltb, ltb→lt}
use borrow.Author.Tests.{ne_eqb}
use Rattle.terms.proofs.Table.{every, at}
use Rattle.words.specs.Words.{word_count}
use Rattle.kinds.specs.Kinds.{LeftOut, never, reads, Field, kind_of, fields_of, listed_fields}
use Rattle.columns.specs.Columns.{no_field, field_of, left_code}
use Rattle.layout.specs.Listed.{leaves_out, field_text}
use Rattle.fields.specs.Codes.{IsField, codes_text}

-- a field is left out by its number and by the code of what is read then
module _ (o : LeftOut) (v : ℕ) where
  pub stays : (v ≡ 0 → ⊥) → false ≡ leaves_out o v
  stays h = go o
    where
      go : (o : LeftOut) → false ≡ leaves_out o v
      go never = refl
      go (reads r) = rw (ne_eqb v 0 h)

  pub goes : v ≡ 0 → eqb (left_code o) 0 ≡ leaves_out o v
  goes e = go o
    where
      go : (o : LeftOut) → eqb (left_code o) 0 ≡ leaves_out o v
      go never = refl
      go (reads r) = rw e

-- every field of a kind but BL has a name
named : ℕ → Field → Bool
named i f = ltb f.name word_count

pub name_known : {k i : ℕ} → IsField k i → (field_of k i).name < word_count
unfolding kind_of fields_of named
name_known {k} {i} h =
    let t : T (eqb k 0 || every named no_field 0 (fields_of k)) =
    at (λ (k : ℕ) (fs : List Field). eqb k 0 || every named no_field 0 fs) [] listed_fields tt k h.known in
    let u : T (every named no_field 0 (fields_of k)) = rw (ne_eqb k 0 (λ z. omega arith)) at t in
    ltb→lt (field_of k i).name word_count (at named no_field (fields_of k) u i h.there)

-- the numbers of fields from place i on
module _ (fs : List Field) (vs : List ℕ) (i : ℕ) where
  pub codes_on :
      i < length fs → i < length vs →
      codes_text (drop i fs) (drop i vs) ≡ field_text (get_or fs i no_field) (get_or vs i 0) ++ codes_text (drop (i + 1) fs) (drop (i + 1) vs)
  unfolding codes_text
  codes_on h g = rw (add-one i, drop-cons fs i no_field h, drop-cons vs i 0 g)

  pub codes_end : length fs ≤ i → codes_text (drop i fs) (drop i vs) ≡ []
  unfolding codes_text
  codes_end h = rw (drop_of_length-le fs h)
