-- Only a BL has an expression, so its step figure is its nodes, and that of every other kind is 1. Assumes nothing.
use Prim.Native.Nat.{ℕ, ◌+◌, ◌≤◌}
use mathlib.Core.Path.{◌≡◌, refl}
use mathlib.Core.Bool.{Bool, true, false, ◌||◌}
use mathlib.Core.List.{List, [], ◌∷◌}
use native.Mathlib.Omega.{arith}
use lib.Dec.{T, eqb, ltb, eqb→eq}
use lib.ListN.{get_or, get_or-eq_default}
use borrow.Author.Tests.{eqb-true, ltb-true, ltb-false, ne_eqb}
use Rattle.terms.specs.Choice.{pick}
use Rattle.terms.proofs.Choice.{pick_case}
use Rattle.terms.proofs.Table.{at as entry}
use Rattle.numbers.specs.Blocks.{Expr, ref, inv, gate, Content, nodes, nodes_of}
use Rattle.numbers.specs.Types.{pin, word_pin, kind_count, content_of}
use Rattle.kinds.specs.Kinds.{expression, kind as row, kinds, kind_of, types_of, figure_for}

-- how many expressions there are among fields
abbrev pub trees : List ℕ → ℕ
trees [] = 0
trees (ty ∷ ts) = pick (eqb ty expression) 1 0 + trees ts

-- the nodes of contents: none without an expression, and some with one
pub record Treed (n m : ℕ) : Type 0 where
  pub some : n ≤ m
  pub none : n ≡ 0 → m ≡ 0

pub untreed : Treed 0 0
untreed = record { some = omega arith; none = λ z. refl }

pub no_nodes_lem : (ty v : ℕ) → nodes_of (content_of ty v) ≡ 0
unfolding content_of
no_nodes_lem ty v =
    let P : Content → Type 0 = λ c. nodes_of c ≡ 0 in
    pick_case P (eqb ty pin) (λ _. refl) (λ _. pick_case P (eqb ty word_pin) (λ _. refl) (λ _. refl))

pub nodes_some : (t : Expr) → 1 ≤ nodes t
nodes_some (ref b) = omega arith
nodes_some (inv t) = omega arith
nodes_some (gate op a b) = omega arith

-- of the kinds only BL has an expression, so its figure is its nodes, and that of each other kind is 1
no_trees : (v : ℕ) → eqb v 0 ≡ false → trees (types_of v) ≡ 0
unfolding kind_of
no_trees v e = go (ltb v kind_count) refl
  where
    told : (n : ℕ) → T (eqb v 0 || eqb n 0) → n ≡ 0
    told n t = by (eqb v 0) e t
      where
        by : (b : Bool) → b ≡ false → T (b || eqb n 0) → n ≡ 0
        by true f u = let z : ◌≡◌ {A = ℕ} 0 1 = cc in absurd (omega arith)
        by false f u = eqb→eq n 0 u

    go : (b : Bool) → ltb v kind_count ≡ b → trees (get_or kinds v (row [] 0 false)).types ≡ 0
    go true l = told _ (entry (λ k x. eqb k 0 || eqb (trees x.types) 0) (row [] 0 false) kinds tt v (ltb-true v kind_count l))
    go false l = rw (get_or-eq_default kinds (row [] 0 false) (ltb-false v kind_count l))

pub figure_so : (v n : ℕ) → Treed (trees (types_of v)) n → pick (eqb v 0) 0 1 + n ≡ figure_for n
unfolding figure_for kind_of
figure_so v n t = go (eqb v 0) refl
  where
    go : (b : Bool) → eqb v 0 ≡ b → pick b 0 1 + n ≡ pick (eqb n 0) 1 n
    go true e =
        let z : v ≡ 0 = eqb-true v 0 e in
        let l : 1 ≤ n = rw z at t.some in
        rw (ne_eqb n 0 (λ y. omega arith)) (omega arith)
    go false e = rw (t.none (no_trees v e))
