-- Alarms that were read, one before the rest; and their line from its word, the names and its end. Assumes nothing.
use Prim.Native.Nat.{ℕ, zero, suc, ◌-◌, ◌*◌, ◌<◌, ◌≤◌}
use mathlib.Core.Path.{◌≡◌, refl, ap, ◌∙◌}
use mathlib.Core.Bool.{Bool, true, false}
use mathlib.Core.List.{List, [], ◌∷◌, ◌++◌}
use native.Mathlib.Omega.{arith}
use lib.Dec.{ltb}
use lib.ListN.{length, length-append}
use Rattle.terms.specs.Choice.{pick}
use Rattle.terms.specs.Refusals.{outside}
use Rattle.wire.specs.Reading.{Read, got, fault, and_then, IsGot, is_got}
use Rattle.numbers.specs.Blocks.{Bit}
use Rattle.numbers.specs.Types.{pin, alarm_count, bit_ref}
use Rattle.numbers.specs.Reading.{Marks, typed_at}
use Rattle.grammar.specs.Grammar.{space}
use Rattle.shown.specs.Show.{name_of}
use Rattle.shown.proofs.Plain.{name_short}
use Rattle.words.specs.Words.{alarms, word_text}
use Rattle.program.specs.Program.{references_at, end_at, alarms_at}
use Rattle.known.proofs.Places.{no_fault, got_first}
use Rattle.layout.specs.Layout.{line_feed}
use Rattle.layout.specs.Listed.{names_text, alarms_text}
use Rattle.alarms.specs.Texts.{names_in, alarms_in}

-- references of which v is the first
with_first : ℕ → Read (List Bit) → Read (List Bit)
with_first v r = and_then r (λ rs end. got (bit_ref v ∷ rs) end)

module _ (k : Marks) (s : List ℕ) (at : ℕ) where
  module _ {n : ℕ} (h : 0 < n) where
    one_more : n ≡ suc (n - 1)
    one_more = omega arith

    pub first_there : IsGot (references_at k n s at) → IsGot (typed_at k pin 0 s at)
    unfolding references_at
    first_there g = got_first (typed_at k pin 0 s at) _ (rw one_more at g)

    module _ {v next : ℕ} (e : typed_at k pin 0 s at ≡ got v next) where
      by_first : references_at k n s at ≡ with_first v (references_at k (n - 1) s next)
      unfolding references_at with_first
      by_first = ap (λ (x : ℕ). references_at k x s at) one_more ∙ rw e

      pub rest_there : IsGot (references_at k n s at) → IsGot (references_at k (n - 1) s next)
      unfolding with_first
      rest_there g = got_first (references_at k (n - 1) s next) _ (rw by_first at g)

      pub names_on :
          IsGot (references_at k n s at) →
          names_in (references_at k n s at) ≡ space ∷ (name_of (bit_ref v) ++ names_in (references_at k (n - 1) s next))
      unfolding with_first names_text
      names_on g = rw by_first (go (rest_there g))
        where
          go :
              IsGot (references_at k (n - 1) s next) →
              names_in (with_first v (references_at k (n - 1) s next)) ≡ space ∷ (name_of (bit_ref v) ++ names_in (references_at k (n - 1) s next))
          go (is_got rs m f) = rw f

  pub names_end : {n : ℕ} → n ≡ 0 → names_in (references_at k n s at) ≡ []
  unfolding references_at names_text
  names_end e = rw e

  -- the alarms, by their count
  pub count_there : IsGot (alarms_at k s at) → IsGot (typed_at k alarm_count 0 s at)
  unfolding alarms_at
  count_there g = got_first (typed_at k alarm_count 0 s at) _ g

  module _ {n next : ℕ} (e : typed_at k alarm_count 0 s at ≡ got n next) (g : IsGot (alarms_at k s at)) where
    by_count : alarms_at k s at ≡ and_then (references_at k n s next) (λ rs m. end_at rs s m)
    unfolding alarms_at
    by_count = rw e

    pub names_there : IsGot (references_at k n s next)
    names_there = got_first (references_at k n s next) _ (rw by_count at g)

    pub alarms_text_lem : word_text alarms ++ (names_in (references_at k n s next) ++ (line_feed ∷ [])) ≡ alarms_in (alarms_at k s at)
    unfolding alarms_text end_at
    alarms_text_lem = rw by_count (go names_there (rw by_count at g))
      where
        ended :
            (rs : List Bit) (m : ℕ) (b : Bool) → IsGot (pick b (fault outside m) (got rs m)) →
            word_text alarms ++ (names_text rs ++ (line_feed ∷ [])) ≡ alarms_in (pick b (fault outside m) (got rs m))
        ended rs m true w = no_fault w refl
        ended rs m false w = refl

        go :
            IsGot (references_at k n s next) → IsGot (and_then (references_at k n s next) (λ rs m. end_at rs s m)) →
            word_text alarms ++ (names_in (references_at k n s next) ++ (line_feed ∷ [])) ≡ alarms_in (and_then (references_at k n s next) (λ rs m. end_at rs s m))
        go (is_got rs m f) w = rw f (ended rs m (ltb m (length s)) (rw f at w))

-- a name and its space take at most five bytes
pub names_short : (k : Marks) (s : List ℕ) (n at : ℕ) → length (names_in (references_at k n s at)) ≤ 5 * n
unfolding references_at names_text
names_short k s zero at = omega arith
names_short k s (suc n) at = go (typed_at k pin 0 s at) (λ next. names_short k s n next)
  where
    more : (v : ℕ) (r : Read (List Bit)) → length (names_in r) ≤ 5 * n → length (names_in (and_then r (λ rs end. got (bit_ref v ∷ rs) end))) ≤ 5 * suc n
    more v (got rs m) h = omega (arith, length-append (name_of (bit_ref v)) (names_text rs), name_short (bit_ref v))
    more v (fault m p) h = omega arith

    go :
        (r : Read ℕ) → ((next : ℕ) → length (names_in (references_at k n s next)) ≤ 5 * n) →
        length (names_in (and_then r (λ v next. and_then (references_at k n s next) (λ rs end. got (bit_ref v ∷ rs) end)))) ≤ 5 * suc n
    go (got v next) h = more v (references_at k n s next) (h next)
    go (fault m p) h = omega arith
