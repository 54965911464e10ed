-- Acceptance worked out from a list of numbers, by the first that fails a test; and that this is the rows of the table, each exactly then.
-- Assumes nothing.
use Prim.Native.Nat.{ℕ}
use mathlib.Core.Path.{◌≡◌, refl, sym, ap, ◌∙◌}
use mathlib.Core.Logic.{◌↔◌}
use mathlib.Core.Bool.{Bool, true, false}
use mathlib.Core.List.{List, [], ◌∷◌, ◌++◌}
use lib.Dec.{ltb}
use borrow.Author.Tests.{ltb-true, ltb-false, lt-ltb, le-ltb}
use Rattle.terms.specs.Choice.{pick, every}
use Rattle.terms.specs.Refusals.{astray, over_memory}
use Rattle.terms.proofs.Choice.{never, both}
use Rattle.terms.proofs.Every.{both_hold}
use Rattle.kinds.specs.Kinds.{memory_limit}
use Rattle.program.specs.declared.Acceptance.{Acceptance}
use Rattle.program.specs.Acceptance.{refused, granted}
use Rattle.order.specs.Order.{Found, good, wrong, Item}
use Rattle.order.specs.Acceptance.{refusal_for, fares, kinds_in, memory_in, figure_in, is_there, Accepting, stops, strays, overflows, passes}

-- the first of a list that fails a test, if there is one
pub data First : Type 0 where
  none : First
  first : Item → First

abbrev pub first_not : (Item → Bool) → List Item → First
first_not test [] = none
first_not test (i ∷ l) = pick (test i) (first_not test l) (first i)

pub none_fails : (test : Item → Bool) (l : List Item) → every test l ≡ true → first_not test l ≡ none
none_fails test [] h = refl
none_fails test (i ∷ l) h = let o = both (test i) (every test l) h in rw o.0 (none_fails test l o.1)

pub fails_at : (test : Item → Bool) (l : List Item) (i : Item) (r : List Item) → every test l ≡ true → test i ≡ false → first_not test (l ++ (i ∷ r)) ≡ first i
fails_at test [] i r h f = rw f
fails_at test (j ∷ l) i r h f = let o = both (test j) (every test l) h in rw o.0 (fails_at test l i r o.1 f)

-- what it tells of the list
data Split (test : Item → Bool) (l : List Item) : First → Type 0 where
  all : every test l ≡ true → Split test l none
  at : (before after : List Item) (i : Item) → l ≡ before ++ (i ∷ after) → every test before ≡ true → test i ≡ false → Split test l (first i)

split : (test : Item → Bool) (l : List Item) → Split test l (first_not test l)
split test [] = all refl
split test (i ∷ l) = go (test i) refl (first_not test l) (split test l)
  where
    go : (b : Bool) → test i ≡ b → (f : First) → Split test l f → Split test (i ∷ l) (pick b f (first i))
    go false e f s = at [] l i refl refl e
    go true e none (all h) = all (both_hold e h)
    go true e (first j) (at before after k h g f) = at (i ∷ before) after k (ap (◌∷◌ i) h) (both_hold e g) f

-- acceptance by the numbers l
abbrev pub refusal_of : Found → ℕ
refusal_of (good v) = 0
refusal_of (wrong w) = refusal_for w

abbrev by_memory : List Item → Acceptance
by_memory l = pick (ltb memory_limit (memory_in l)) (refused over_memory 0) (granted (memory_in l) (figure_in l))

abbrev pub by_references : List Item → First → Acceptance
by_references l none = by_memory l
by_references l (first i) = refused astray i.place

abbrev by_numbers : List Item → First → Acceptance
by_numbers l none = by_references l (first_not (is_there (kinds_in l)) l)
by_numbers l (first i) = refused (refusal_of i.found) i.place

unfoldable pub accepted_by : List Item → Acceptance
accepted_by l = by_numbers l (first_not fares l)

module _ (l : List Item) (a : Acceptance) where
  -- what it comes to is a row
  by_memory_lem : every fares l ≡ true → every (is_there (kinds_in l)) l ≡ true → (b : Bool) → ltb memory_limit (memory_in l) ≡ b
      → a ≡ pick b (refused over_memory 0) (granted (memory_in l) (figure_in l)) → Accepting l a
  by_memory_lem g t true m e = overflows g t (ltb-true memory_limit (memory_in l) m) e
  by_memory_lem g t false m e = passes g t (ltb-false memory_limit (memory_in l) m) e

  by_references_lem : every fares l ≡ true → (f : First) → Split (is_there (kinds_in l)) l f → a ≡ by_references l f → Accepting l a
  by_references_lem g none (all t) e = by_memory_lem g t (ltb memory_limit (memory_in l)) refl e
  by_references_lem g (first i) (at before after j h t f) e = strays before after i g h t f e

  wrong_one : (before after : List Item) (i : Item) → l ≡ before ++ (i ∷ after) → every fares before ≡ true → (f : Found) → i.found ≡ f → fares i ≡ false
      → a ≡ refused (refusal_of f) i.place → Accepting l a
  wrong_one before after i h g (good v) w f e = never (rw w at f)
  wrong_one before after i h g (wrong w) x f e = stops before after i w h g x e

  by_numbers_lem : (f : First) → Split fares l f → a ≡ by_numbers l f → Accepting l a
  by_numbers_lem none (all g) e = by_references_lem g (first_not (is_there (kinds_in l)) l) (split (is_there (kinds_in l)) l) e
  by_numbers_lem (first i) (at before after j h g f) e = wrong_one before after i h g i.found refl f e

  comes_to : a ≡ accepted_by l → Accepting l a
  unfolding accepted_by
  comes_to e = by_numbers_lem (first_not fares l) (split fares l) e

  -- and a row is what it comes to
  row_of : Accepting l a → a ≡ accepted_by l
  unfolding accepted_by
  row_of (stops before after i w h g x e) =
      let bad : fares i ≡ false = rw x in
      e ∙ rw (h, fails_at fares before i after g bad, x)
  row_of (strays before after i g h t f e) =
      e ∙ sym (rw (none_fails fares l g) (ap (by_references l) (ap (first_not (is_there (kinds_in l))) h ∙ fails_at (is_there (kinds_in l)) before i after t f)))
  row_of (overflows g t m e) = e ∙ rw (none_fails fares l g, none_fails (is_there (kinds_in l)) l t, lt-ltb memory_limit (memory_in l) m)
  row_of (passes g t m e) = e ∙ rw (none_fails fares l g, none_fails (is_there (kinds_in l)) l t, le-ltb memory_limit (memory_in l) m)

  pub rows : a ≡ accepted_by l ↔ Accepting l a
  rows = (comes_to, row_of)
