-- The rows of the table of kinds as lines name them: each name a word without `=`, and no two names of a row alike. By one test of the table. Assumes nothing.
use Prim.Native.Nat.{ℕ, ◌+◌, ◌<◌}
use mathlib.Core.Path.{◌≡◌, refl, sym, ap, ◌∙◌}
use mathlib.Core.Bool.{Bool, true, false, not, ◌&&◌, ◌||◌}
use mathlib.Core.List.{List, [], ◌∷◌, ◌++◌}
use native.Mathlib.Omega.{arith}
use lib.ListN.{get_or}
use lib.Dec.{T, ltb, eqb}
use borrow.Author.Tests.{ltb-true, eqb-false, eq-eqb, ne_eqb}
use Rattle.terms.specs.Choice.{every}
use Rattle.terms.proofs.Choice.{both, never}
use Rattle.terms.proofs.Table.{at as entry}
use Rattle.wire.specs.Facts.{Stands}
use Rattle.numbers.specs.Types.{number_types, kind_count}
use Rattle.grammar.specs.Grammar.{space}
use Rattle.words.specs.Words.{word_text}
use Rattle.kinds.specs.Kinds.{Field, kind, kinds, kind_of, fields_of, listed_fields}
use Rattle.layout.specs.Layout.{equals}

-- whether two words are the same
unfoldable pub same : List ℕ → List ℕ → Bool
same [] [] = true
same [] (y ∷ ys) = false
same (x ∷ xs) [] = false
same (x ∷ xs) (y ∷ ys) = eqb x y && same xs ys

pub same_self : (x : List ℕ) → same x x ≡ true
unfolding same
same_self [] = refl
same_self (x ∷ xs) = rw (eq-eqb x x refl) (same_self xs)

pub other : ℕ → Bool
other b = not (eqb b equals)

-- a word that is not empty, does not begin with a space and has no `=`
good_name : List ℕ → Bool
good_name w = not (eqb (get_or w 0 space) space) && every other w

unlike : List ℕ → List Field → Bool
unlike w [] = true
unlike w (f ∷ fs) = not (same w (word_text f.name)) && unlike w fs

good_row : List Field → Bool
good_row [] = true
good_row (f ∷ fs) = (ltb f.type number_types && good_name (word_text f.name)) && (unlike (word_text f.name) fs && good_row fs)

-- the same in words
pub record Name (w : List ℕ) : Type 0 where
  pub begins : get_or w 0 space ≡ space → ⊥
  pub inside : every other w ≡ true

abbrev pub Unlike : List ℕ → List Field → Type 0
Unlike w [] = Unit {0}
Unlike w (f ∷ fs) = (w ≡ word_text f.name → ⊥) × Unlike w fs

abbrev pub Row : List Field → Type 0
Row [] = Unit {0}
Row (f ∷ fs) = ((f.type < number_types) × Name (word_text f.name)) × (Unlike (word_text f.name) fs × Row fs)

pub is_false : (b : Bool) → not b ≡ true → b ≡ false
is_false true e = never (sym e)
is_false false e = refl

a_name : (w : List ℕ) → good_name w ≡ true → Name w
unfolding good_name
a_name w e =
    let o = both (not (eqb (get_or w 0 space) space)) (every other w) e in
    record { begins = eqb-false (get_or w 0 space) space (is_false (eqb (get_or w 0 space) space) o.0); inside = o.1 }

all_unlike : (w : List ℕ) (fs : List Field) → unlike w fs ≡ true → Unlike w fs
unfolding unlike
all_unlike w [] e = tt
all_unlike w (f ∷ fs) e =
    let o = both (not (same w (word_text f.name))) (unlike w fs) e in (
      λ q. never (sym (same_self w) ∙ ap (same w) q ∙ is_false (same w (word_text f.name)) o.0),
      all_unlike w fs o.1,
    )

a_row : (fs : List Field) → good_row fs ≡ true → Row fs
unfolding good_row
a_row [] e = tt
a_row (f ∷ fs) e =
    let o = both (ltb f.type number_types && good_name (word_text f.name)) (unlike (word_text f.name) fs && good_row fs) e in
    let p = both (ltb f.type number_types) (good_name (word_text f.name)) o.0 in
    let q = both (unlike (word_text f.name) fs) (good_row fs) o.1 in
    ((ltb-true f.type number_types p.0, a_name (word_text f.name) p.1), (all_unlike (word_text f.name) fs q.0, a_row fs q.1))

pub is_true : (b : Bool) → T b → b ≡ true
is_true true t = refl
is_true false t = absurd t

-- the fields of every kind but BL
pub row_of : (k : ℕ) → 0 < k → k < kind_count → Row (fields_of k)
unfolding kind_of fields_of good_row good_name unlike same word_text other
row_of k l h =
    let t : T (eqb k 0 || good_row (fields_of k)) =
    entry (λ (k : ℕ) (fs : List Field). eqb k 0 || good_row fs) [] listed_fields tt k h in
    a_row (fields_of k) (is_true (good_row (fields_of k)) (rw (ne_eqb k 0 (λ z. omega arith)) at t))

-- two words with `=` behind them that stand at one place are one
pub one_word :
    (s x y : List ℕ) (at : ℕ) → every other x ≡ true → every other y ≡ true → Stands (x ++ (equals ∷ [])) s at → Stands (y ++ (equals ∷ [])) s at → x ≡ y
unfolding other
one_word s [] [] at g h a b = refl
one_word s [] (y ∷ ys) at g h a b =
    let o = both (other y) (every other ys) h in
    let z : y ≡ equals = sym b.1.0 ∙ a.1.0 in
    absurd (eqb-false y equals (is_false (eqb y equals) o.0) z)
one_word s (x ∷ xs) [] at g h a b =
    let o = both (other x) (every other xs) g in
    let z : x ≡ equals = sym a.1.0 ∙ b.1.0 in
    absurd (eqb-false x equals (is_false (eqb x equals) o.0) z)
one_word s (x ∷ xs) (y ∷ ys) at g h a b =
    let o = both (other x) (every other xs) g in
    let p = both (other y) (every other ys) h in
    let e : x ≡ y = sym a.1.0 ∙ b.1.0 in
    rw e (ap (λ (l : List ℕ). y ∷ l) (one_word s xs ys (at + 1) o.1 p.1 a.1.1 b.1.1))
