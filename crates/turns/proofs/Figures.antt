-- A block takes at most its figure in steps. Assumes nothing.
use Prim.Native.Nat.{ℕ, ◌≤◌}
use mathlib.Core.Path.{◌≡◌}
use mathlib.Core.Bool.{Bool, false}
use mathlib.Core.List.{List, [], ◌∷◌}
use native.Mathlib.Omega.{arith}
use lib.Dec.{eqb}
use borrow.Author.Tests.{eqb-true, eqb-false}
use Rattle.terms.proofs.Choice.{pick_case}
use Rattle.numbers.specs.Blocks.{Bit, Content, bit, word, number, tree, nodes_in}
use Rattle.kinds.specs.Kinds.{figure_for}
use Rattle.expression.proofs.Laws.{steps_nodes}
use Rattle.rules.specs.Rules.{steps_of}

figure_least : (n : ℕ) → (1 ≤ figure_for n) × (n ≤ figure_for n)
unfolding figure_for
figure_least n = pick_case (λ (k : ℕ). (1 ≤ k) × (n ≤ k)) (eqb n 0) (λ e. omega (arith, eqb-true n 0 e)) (λ e. go n (λ z. clash e z))
  where
    clash : {n : ℕ} → eqb n 0 ≡ false → n ≡ 0 → ⊥
    clash {n} e z = eqb-false n 0 e z

    go : (n : ℕ) → (n ≡ 0 → ⊥) → (1 ≤ n) × (n ≤ n)
    go n h = omega arith

pub steps_figure : (f : Bit → Bool) (cs : List Content) → steps_of f cs ≤ figure_for (nodes_in cs)
steps_figure f [] = (figure_least 0).0
steps_figure f (bit b ∷ cs) = (figure_least (nodes_in (bit b ∷ cs))).0
steps_figure f (word w ∷ cs) = (figure_least (nodes_in (word w ∷ cs))).0
steps_figure f (number n ∷ cs) = (figure_least (nodes_in (number n ∷ cs))).0
steps_figure f (tree t ∷ cs) = omega (arith, steps_nodes f t, (figure_least (nodes_in (tree t ∷ cs))).1)
