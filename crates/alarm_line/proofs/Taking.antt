-- An alarms' line is taken if its names can be counted, and what is put of them is its front. Assumes nothing.
use Prim.Native.Nat.{ℕ, suc, ◌<◌, ◌≤◌}
use mathlib.Core.Path.{◌≡◌, refl, sym, ap, ◌∙◌}
use mathlib.Core.List.{List, [], ◌∷◌, map, append-nil}
use native.Mathlib.Omega.{arith}
use lib.Dec.{ltb}
use lib.ListN.{length, length-map}
use borrow.Author.Tests.{lt-ltb, le-leb, lt-leb, ltb-true}
use Rattle.std.specs.Prelude.{Option, None, Some}
use Rattle.terms.proofs.Choice.{pick_case}
use Rattle.wire.specs.Number.{groups_of}
use Rattle.numbers.specs.Blocks.{Bit, bit_code}
use Rattle.numbers.specs.Types.{bit_ref}
use Rattle.numbers.proofs.References.{bit_code_lem}
use Rattle.writing.specs.Expressions.{bytes_of}
use Rattle.filling.specs.Filling.{Put}
use Rattle.filling.proofs.Puts.{put_then}
use Rattle.spelling.specs.Spelling.{after_spaces}
use Rattle.words.specs.Words.{alarms, word_text}
use Rattle.words.specs.Standing.{stands_at}
use Rattle.forms.specs.Written.{most_alarms}
use Rattle.layout.specs.Layout.{most_named, AlarmsLine}
use Rattle.layout.specs.Fields.{Found, found, lost}
use Rattle.layout.specs.Alarms.{names_from, alarms_from}
use Rattle.layout.proofs.Alarming.{alarms_told, alarms_read}
use Rattle.alarm_line.specs.Naming.{Count}
use Rattle.alarm_line.specs.Naming.{Names, NoCount}
use Rattle.alarm_line.specs.Naming.{counted, names_place, counted_in, first_names}
use Rattle.alarm_line.specs.Taking.{TakesAlarms, alarms_taken, not_taken}
use Rattle.alarm_line.proofs.Naming.{first_all}

codes_back : (vs : List ℕ) → map bit_code (map bit_ref vs) ≡ vs
codes_back [] = refl
codes_back (v ∷ vs) = rw (bit_code_lem v, codes_back vs)

-- names that can be counted, by their count
record Counted (at : ℕ) (x : Found) (n place : ℕ) : Type 0 where
  names : List ℕ
  there : x ≡ found names
  size : length names ≡ n
  few : n < suc most_named
  same : at ≡ place

is_counted : (at : ℕ) (x : Found) (n place : ℕ) → counted at x ≡ Names n place → Counted at x n place
is_counted at lost n place e = let z : ◌≡◌ {A = ℕ} 0 1 = cc in absurd (omega arith)
is_counted at (found vs) n place e =
    pick_case (λ (k : Count). k ≡ Names n place → Counted at (found vs) n place) (ltb (length vs) (suc most_named))
    (λ t f.
    let g : length vs ≡ n = cc in
    let h : at ≡ place = cc in
    record { names = vs; there = refl; size = g; few = omega (arith, ltb-true (length vs) (suc most_named) t); same = h })
    (λ _ f. let z : ◌≡◌ {A = ℕ} 0 1 = cc in absurd (omega arith))
    e

module _ (s : List ℕ) where
  -- a line of alarms has names that can be counted
  uncounted : counted_in s ≡ NoCount → (rs : List Bit) → AlarmsLine s rs → ⊥
  unfolding counted_in
  uncounted e rs x =
      let r = alarms_read (suc (length s)) s rs x (omega arith) in
      let f = rw (r.0, length-map rs bit_code, lt-ltb (length rs) (suc most_named) r.1) at e in
      let z : ◌≡◌ {A = ℕ} 0 1 = cc in omega arith

  pub no_count : {l : List ℕ} {to : ℕ} → counted_in s ≡ NoCount → TakesAlarms s l to l None
  no_count e = not_taken (uncounted e) refl

  -- so many alarms, and the numbers of their references, from a place on
  pub record Listed (n at : ℕ) : Type 0 where
    pub numbers : List ℕ
    pub line : AlarmsLine s (map bit_ref numbers)
    pub size : length numbers ≡ n
    pub first : first_names n s at ≡ numbers

  names_behind : (vs : List ℕ) → alarms_from (suc (length s)) s ≡ found vs → names_from (suc (length s)) s (names_place s) ≡ found vs
  unfolding alarms_from names_place
  names_behind vs =
      pick_case (λ (x : Found). x ≡ found vs → names_from (suc (length s)) s (names_place s) ≡ found vs)
      (stands_at (word_text alarms) s (after_spaces s 0))
      (λ _ e. e)
      (λ _ e. let z : ◌≡◌ {A = ℕ} 0 1 = cc in absurd (omega arith))

  pub listed : {n at : ℕ} → counted_in s ≡ Names n at → Listed n at
  unfolding counted_in
  listed {n} {at} e =
      let g = is_counted (names_place s) (alarms_from (suc (length s)) s) n at e in
      record {
        numbers = g.names;
        line = alarms_told (suc (length s)) s g.names g.there (omega (arith, g.size, g.few));
        size = g.size;
        first =
            ap (λ (k : ℕ). first_names k s at) (sym g.size) ∙ ap (first_names (length g.names) s) (sym g.same)
            ∙ first_all (suc (length s)) s (names_place s) g.names (names_behind g.names g.there);
      }

  module _ {n at : ℕ} (g : Listed n at) where
    front_size : length (map bit_ref g.numbers) ≡ n
    front_size = length-map g.numbers bit_ref ∙ g.size

    -- of more than a program may have only the count is put
    pub count_put : {l m : List ℕ} {to p : ℕ} → most_alarms < n → Put (groups_of 3 n) l to m p → TakesAlarms s l to m (Some p)
    count_put {p = p} h x =
        alarms_taken (map bit_ref g.numbers) p g.line (rw (front_size, lt-leb n most_alarms h, append-nil (groups_of 3 n)) x)

    pub names_put :
        {l k m : List ℕ} {to p q : ℕ} → n ≤ most_alarms → Put (groups_of 3 n) l to k p → Put (bytes_of (first_names n s at)) k p m q →
        TakesAlarms s l to m (Some q)
    names_put {q = q} h x y =
        alarms_taken (map bit_ref g.numbers) q g.line
        (rw (front_size, le-leb n most_alarms h, codes_back g.numbers) (put_then x (rw g.first at y)))
