-- An expression of which as many nodes stand as may be read, and one more: it is read if it is small enough, and else there is a fault, outside.
-- By induction on the expression. Assumes nothing.
use Prim.Native.Nat.{ℕ, zero, suc, ◌+◌, ◌-◌, ◌<◌, ◌≤◌}
use mathlib.Core.Path.{◌≡◌, refl}
use mathlib.Core.Bool.{true}
use mathlib.Core.List.{List, [], ◌∷◌, ◌++◌}
use native.Mathlib.Omega.{arith}
use lib.Dec.{eqb, leb}
use lib.ListN.{length, take}
use lib.Seq.{take_all, take-nil}
use borrow.Author.Tests.{eqb-false, lt-ltb, ne_eqb, le-leb, lt-leb}
use Rattle.terms.specs.Choice.{pick}
use Rattle.terms.proofs.Choice.{pick_case}
use Rattle.wire.specs.Facts.{Stands}
use Rattle.wire.specs.Reading.{Read}
use Rattle.numbers.specs.Blocks.{Expr, ref, inv, gate, nodes, bit_code}
use Rattle.numbers.specs.Types.{node_number, allowed, excepted}
use Rattle.nodes.specs.Reading.{Node, Leaf, One, Two}
use Rattle.nodes.specs.Reading.{head_at, grow, expr_at}
use Rattle.nodes.proofs.Expressions.{step}
use Rattle.writing.specs.Expressions.{operator_first, depth, bytes_of, Proper}
use Rattle.writing.proofs.Back.{ref_back}
use Rattle.parsing.proofs.Trees.{numbers_of}
use Rattle.program.specs.Acceptance.{every_block}
use Rattle.program.proofs.FirstReading.{every_marked}
use Rattle.forms.proofs.Standing.{past, past_both, stands_numbers}
use Rattle.forms.proofs.Numbers.{typed_back}
use Rattle.fronts.proofs.Outside.{Comes, reads, refuses, comes_map, comes_both}

-- an expression within the levels and nodes left
pub record Fits (levels left : ℕ) (t : Expr) : Type 0 where
  pub deep : depth t ≤ levels
  pub few : nodes t ≤ left

-- the first of some numbers and of others behind them
take_both : (n : ℕ) (x y : List ℕ) → take n (x ++ y) ≡ take n x ++ take (n - length x) y
take_both n [] y = let e : n - 0 ≡ n = omega arith in rw (e, take-nil {A = ℕ} n)
take_both zero (v ∷ x) y = let e : 0 - suc (length x) ≡ 0 = omega arith in rw e
take_both (suc n) (v ∷ x) y =
    let e : suc n - suc (length x) ≡ n - length x = omega arith in
    rw (take_both n x y, e)

module _ (s : List ℕ) where
  -- a node, whose number stands: there is a level and a node left for it, or it is outside
  node_comes :
      {P : Type 0} {t : Expr} {next : ℕ} (levels left at v : ℕ) → v < 240 → Stands (bytes_of (v ∷ [])) s at →
      (0 < levels → 0 < left →
      Comes P t next (grow (λ l n. expr_at every_block (levels - 1) l s n) left
      (pick (leb 6 v) (Leaf (v - 6) (past at (v ∷ []))) (pick (eqb v 0) (One (past at (v ∷ []))) (Two v (past at (v ∷ []))))))) →
      Comes P t next (expr_at every_block levels left s at)
  unfolding head_at allowed excepted
  node_comes {P} {t} {next} levels left at v h st f =
      let part : ℕ → ℕ → Read Expr = λ l n. expr_at every_block (levels - 1) l s n in
      let a : allowed node_number 0 v ≡ true = rw (lt-ltb v 240 h) in
      let C : Node → Type 0 = λ n. Comes P t next (grow part left n) in
      rw (step every_block levels left s at, typed_back every_block node_number 0 s at v a (every_marked node_number 0 v a) st)
      (pick_case C (eqb levels 0) (λ _. refuses at refl)
      (λ d. pick_case C (eqb left 0) (λ _. refuses at refl)
      (λ l. f (omega (arith, eqb-false levels 0 d)) (omega (arith, eqb-false left 0 l)))))

  pub tree_comes :
      (t : Expr) → Proper t → (levels left at : ℕ) → Stands (bytes_of (take (suc left) (operator_first t))) s at →
      Comes (Fits levels left t) t (past at (operator_first t)) (expr_at every_block levels left s at)
  tree_comes (ref b) p levels left at st =
      let v = 6 + bit_code b in
      let o = ref_back b p in
      let e : v - 6 ≡ bit_code b = omega arith in
      node_comes levels left at v (omega (arith, o.1)) (stands_numbers (v ∷ []) (take left []) s at st).0
      (λ d l. rw (le-leb 6 v (omega arith), e, o.0) (reads (record { deep = d; few = l }) refl))
  tree_comes (inv t) p levels left at st =
      let x = operator_first t in
      let o = stands_numbers (0 ∷ []) (take left x) s at st in
      node_comes levels left at 0 (omega arith) o.0
      (λ d l. let e : left ≡ suc (left - 1) = omega arith in
      let y = tree_comes t p (levels - 1) (left - 1) (past at (0 ∷ [])) (rw e at o.1) in
      rw (← (past_both (0 ∷ []) x at))
      (comes_map inv (expr_at every_block (levels - 1) (left - 1) s (past at (0 ∷ []))) y
      (λ (f : Fits (levels - 1) (left - 1) t). record { deep = omega (arith, f.deep); few = omega (arith, f.few) })))
  tree_comes (gate g a b) ((low, high), (p, q)) levels left at st =
      let x = operator_first a in
      let y = operator_first b in
      let mid = past at (g ∷ []) in
      let o = stands_numbers (g ∷ []) (take left (x ++ y)) s at st in
      let u = stands_numbers (take left x) (take (left - length x) y) s mid (rw (take_both left x y) at o.1) in
      node_comes levels left at g (omega arith) o.0
      (λ d l. let e : left ≡ suc (left - 1) = omega arith in
      let w : Fits (levels - 1) (left - 1) a → Stands (bytes_of (take (suc (left - 1 - nodes a)) y)) s (past mid x) =
      λ f. let k : left - length x ≡ suc (left - 1 - nodes a) = omega (arith, f.few, numbers_of a) in
      rw (take_all left x (omega (arith, f.few, numbers_of a)), k) at u.1 in
      rw (lt-leb 6 g high, ne_eqb g 0 (λ z. omega arith), ← (past_both (g ∷ []) (x ++ y) at))
      (comes_both (gate g) x y mid (expr_at every_block (levels - 1) (left - 1) s mid) (λ a n. expr_at every_block (levels - 1) (left - 1 - nodes a) s n)
      (tree_comes a p (levels - 1) (left - 1) mid (rw e at u.0))
      (λ f. tree_comes b q (levels - 1) (left - 1 - nodes a) (past mid x) (w f))
      (λ (f : Fits (levels - 1) (left - 1) a) (h : Fits (levels - 1) (left - 1 - nodes a) b).
      record { deep = omega (arith, f.deep, h.deep); few = omega (arith, f.few, h.few) })))
