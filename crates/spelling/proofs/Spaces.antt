-- Spaces from a place on: none, one, or the text has ended. Assumes nothing.
use Prim.Native.Nat.{ℕ, suc, ◌+◌, ◌<◌, ◌≤◌}
use mathlib.Core.Path.{◌≡◌, refl, ap, ◌∙◌}
use mathlib.Core.Logic.{⊎_elim}
use mathlib.Core.List.{List, [], ◌∷◌, ◌++◌}
use native.Mathlib.Nat.{add-zero}
use native.Mathlib.Numerals.{add-one}
use native.Mathlib.Omega.{arith}
use lib.ListN.{length, get_or, drop, length-drop, length-replicate, drop_of_length-le}
use lib.Seq.{drop-cons, drop-drop, get_or-drop}
use lib.Dec.{eqb}
use borrow.Author.Tests.{eq-eqb, ne_eqb, eqb-true, eqb-false}
use Rattle.terms.proofs.Choice.{pick_case, le_or_lt}
use Rattle.wire.specs.Number.{byte_at}
use Rattle.grammar.specs.Grammar.{space, spaces}
use Rattle.grammar.specs.Machine.{Spans}
use Rattle.grammar.proofs.From.{stands_there}
use Rattle.spelling.specs.Spelling.{leading, after_spaces}

-- the spaces that a text begins with, and what is behind them
leading_split : (xs : List ℕ) → xs ≡ spaces (leading xs) ++ drop (leading xs) xs
leading_split [] = refl
leading_split (x ∷ xs) =
    pick_case (λ (n : ℕ). x ∷ xs ≡ spaces n ++ drop n (x ∷ xs)) (eqb x space)
    (λ e. rw (eqb-true x space e) (ap (λ (l : List ℕ). space ∷ l) (leading_split xs))) (λ _. refl)

leading_full : (xs : List ℕ) → get_or (drop (leading xs) xs) 0 0 ≡ space → ⊥
leading_full [] = λ e. omega arith
leading_full (x ∷ xs) =
    pick_case (λ (n : ℕ). get_or (drop n (x ∷ xs)) 0 0 ≡ space → ⊥) (eqb x space) (λ _. leading_full xs) (eqb-false x space)

leading_few : (xs : List ℕ) → leading xs ≤ length xs
leading_few [] = omega arith
leading_few (x ∷ xs) = pick_case (λ (n : ℕ). n ≤ suc (length xs)) (eqb x space) (λ _. omega (arith, leading_few xs)) (λ _. omega arith)

-- spaces from a place on up to another, where none follows
pub record Skipped (s : List ℕ) (at next : ℕ) : Type 0 where
  pub n : ℕ
  pub stands : Spans s at (spaces n) next
  pub full : byte_at s next ≡ space → ⊥

pub skipped : (s : List ℕ) (at : ℕ) {next : ℕ} → next ≡ after_spaces s at → Skipped s at next
unfolding after_spaces
skipped s at {next} e =
    let n = leading (drop at s) in
    let i : next + 0 ≡ next = add-zero next in
    let f : get_or (drop n (drop at s)) 0 0 ≡ byte_at s next = rw (drop-drop n at s, ← e) (get_or-drop next s 0 0 ∙ rw i) in
    record {
      n = n;
      stands = record { stands = stands_there s (spaces n) _ at (leading_split (drop at s)); end = rw (length-replicate n space) e };
      full = λ z. leading_full (drop at s) (f ∙ z);
    }

pub skipped_within : (s : List ℕ) (at : ℕ) {next : ℕ} → at ≤ length s → next ≡ after_spaces s at → (at ≤ next) × (next ≤ length s)
unfolding after_spaces
skipped_within s at h e = (omega arith, omega (arith, leading_few (drop at s), length-drop at s))

module _ (s : List ℕ) (at : ℕ) where
  pub no_more : length s ≤ at → after_spaces s at ≡ at
  unfolding after_spaces
  no_more h = rw (drop_of_length-le s h) (add-zero at)

  pub no_space : (byte_at s at ≡ space → ⊥) → after_spaces s at ≡ at
  unfolding after_spaces
  no_space f = ⊎_elim no_more (λ h. rw (drop-cons s at 0 h, ne_eqb (byte_at s at) space f) (add-zero at)) (le_or_lt (length s) at)

  pub one_space : at < length s → byte_at s at ≡ space → after_spaces s at ≡ after_spaces s (at + 1)
  unfolding after_spaces
  one_space h e = rw (drop-cons s at 0 h, eq-eqb (byte_at s at) space e, add-one at) (omega arith)
