-- The kind whose letters stand at a place, looked for from kind k on: found, not yet, or there is none. Assumes nothing.
use Prim.Native.Nat.{ℕ, suc, ◌+◌, ◌-◌, ◌<◌, ◌≤◌}
use mathlib.Core.Path.{◌≡◌}
use mathlib.Core.Bool.{true, false}
use mathlib.Core.List.{List, [], ◌∷◌}
use native.Mathlib.Numerals.{add-one}
use native.Mathlib.Omega.{arith}
use lib.ListN.{length}
use lib.Dec.{ltb}
use borrow.Author.Tests.{ltb-true, ltb-false}
use Rattle.std.specs.Prelude.{Option, None, Some}
use Rattle.terms.proofs.Choice.{pick_case}
use Rattle.wire.specs.Facts.{Stands}
use Rattle.numbers.specs.Types.{kind_count}
use Rattle.words.specs.Words.{letters_of, word_text}
use Rattle.words.specs.Standing.{stands_at}
use Rattle.layout.specs.Heads.{kind_from, kind_at}
use Rattle.layout.proofs.Heading.{two_letters, kind_stands}
use Rattle.layout.proofs.Fielding.{stands_within}
use Rattle.lining.specs.Lining.{as_kind}

-- what the code answers, once it is known which it is
pub kind_found : (kind : ℕ) {k : ℕ} → Some k ≡ as_kind kind → (kind ≡ k) × (k < kind_count)
kind_found kind {k} =
    pick_case (λ (r : Option ℕ). Some k ≡ r → (kind ≡ k) × (k < kind_count)) (ltb kind kind_count)
    (λ t e. let a : kind ≡ k = cc in (a, omega (arith, ltb-true kind kind_count t)))
    (λ _ e. let z : ◌≡◌ {A = ℕ} 0 1 = cc in absurd (omega arith))

pub kind_lost : (kind : ℕ) → None ≡ as_kind kind → kind_count ≤ kind
kind_lost kind =
    pick_case (λ (r : Option ℕ). None ≡ r → kind_count ≤ kind) (ltb kind kind_count)
    (λ _ e. let z : ◌≡◌ {A = ℕ} 0 1 = cc in absurd (omega arith))
    (λ t _. ltb-false kind kind_count t)

module _ (s : List ℕ) (at k : ℕ) where
  module _ (h : k < kind_count) where
    pub kind_here : stands_at (word_text (letters_of k)) s at ≡ true → kind_from (kind_count - k) k s at ≡ k
    unfolding kind_from
    kind_here e = let f : kind_count - k ≡ suc (kind_count - (k + 1)) = omega arith in rw (f, e)

    pub kind_later : stands_at (word_text (letters_of k)) s at ≡ false → kind_from (kind_count - k) k s at ≡ kind_from (kind_count - (k + 1)) (k + 1) s at
    unfolding kind_from
    kind_later e = let f : kind_count - k ≡ suc (kind_count - (k + 1)) = omega arith in rw (f, e, add-one k)

  pub kind_nowhere : kind_count ≤ k → kind_from (kind_count - k) k s at ≡ k
  unfolding kind_from
  kind_nowhere h = let f : kind_count - k ≡ 0 = omega arith in rw f

  -- letters that were found stand within
  pub letters_end : kind_at s at ≡ k → k < kind_count → at + length (word_text (letters_of k)) ≤ length s
  unfolding kind_at
  letters_end e h = go (word_text (letters_of k)) (two_letters k h) (kind_stands s at kind_count 0 k e h)
    where
      go : (w : List ℕ) → length w ≡ 2 → Stands w s at → at + length w ≤ length s
      go [] l st = absurd (omega arith)
      go (x ∷ w) l st = stands_within s (x ∷ w) at (omega (arith, st.0)) st
