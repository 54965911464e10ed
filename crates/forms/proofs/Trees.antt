-- An expression that is read is written there as it was read, and is within the levels and nodes left. By induction on the levels. Assumes nothing.
use Prim.Native.Nat.{ℕ, zero, suc, ◌+◌, ◌-◌, ◌<◌, ◌≤◌}
use mathlib.Core.Path.{◌≡◌, refl}
use mathlib.Core.Bool.{true}
use mathlib.Core.List.{List, [], ◌∷◌}
use native.Mathlib.Omega.{arith}
use lib.Dec.{eqb, leb}
use borrow.Author.Tests.{eqb-true, eqb-false, leb-true, leb-false}
use Rattle.terms.specs.Refusals.{outside}
use Rattle.terms.proofs.Choice.{pick_case}
use Rattle.wire.specs.Facts.{Bytes}
use Rattle.wire.specs.Reading.{Read, got, fault}
use Rattle.numbers.specs.Blocks.{Expr, ref, inv, gate, nodes, bit_code}
use Rattle.numbers.specs.Types.{node_number, allowed, bit_ref}
use Rattle.numbers.specs.Reading.{Marks, typed_at}
use Rattle.numbers.proofs.References.{bit_code_lem, allowed_below}
use Rattle.nodes.specs.Reading.{Node, One, Two}
use Rattle.nodes.specs.Reading.{node_of, head_at, grow, expr_at}
use Rattle.writing.specs.Expressions.{operator_first, depth, Proper}
use Rattle.forms.proofs.Standing.{Numbered, numbered_both}
use Rattle.forms.proofs.Formed.{Formed, formed, stopped, formed_then, formed_behind}
use Rattle.forms.proofs.Numbers.{typed_form, bit_in_range}

-- an expression that may be written where so many levels and nodes are left
pub record Tree (levels left : ℕ) (t : Expr) : Type 0 where
  pub proper : Proper t
  pub deep : depth t ≤ levels
  pub few : nodes t ≤ left

module _ (m : Marks) (s : List ℕ) (bytes : Bytes s) where
  abbrev TreeFormed : ℕ → ℕ → ℕ → Read Expr → Type 0
  TreeFormed levels left at r = Formed s operator_first (Tree levels left) at r

  -- a node whose number is v, where d levels are left, and k for its parts
  module _ (part : ℕ → ℕ → Read Expr) (k : ℕ) (h : (l n : ℕ) → TreeFormed k l n (part l n)) (d left at v next : ℕ) (deep : 0 < d → d ≡ suc k)
      (x : Numbered s at (v ∷ []) next) where
    leaf_form : 0 < d → 0 < left → 6 ≤ v → v < 240 → TreeFormed d left at (got (ref (bit_ref (v - 6))) next)
    leaf_form p q low high =
        let e : 6 + bit_code (bit_ref (v - 6)) ≡ v = omega (arith, bit_code_lem (v - 6)) in
        formed {a = ref (bit_ref (v - 6))} {next = next} (rw e x) (record { proper = bit_in_range (v - 6) (omega arith); deep = omega arith; few = omega arith })

    not_form : 0 < d → 0 < left → v ≡ 0 → TreeFormed d left at (grow part left (One next))
    not_form p q z =
        formed_behind s operator_first (Tree d left) x inv (part (left - 1) next) (h (left - 1) next)
        (λ t w. (rw z, record { proper = w.proper; deep = omega (arith, w.deep, deep p); few = omega (arith, w.few) }))

    gate_form : 0 < d → 0 < left → 0 < v → v < 6 → TreeFormed d left at (grow part left (Two v next))
    gate_form p q low high =
        formed_then s operator_first (Tree d left) (part (left - 1) next) _ (h (left - 1) next)
        (λ a n y w. formed_behind s operator_first (Tree d left) (numbered_both s x y) (gate v a) (part (left - 1 - nodes a) n) (h (left - 1 - nodes a) n)
        (λ b u. (
          refl,
          record {
            proper = ((low, high), (w.proper, u.proper));
            deep = omega (arith, w.deep, u.deep, deep p);
            few = omega (arith, w.few, u.few);
          },
        )))

    node_form : v < 240 → TreeFormed d left at (grow part left (node_of d left at (got v next)))
    node_form high =
        let P : Node → Type 0 = λ n. TreeFormed d left at (grow part left n) in
        pick_case P (eqb d 0) (λ _. stopped)
        (λ e. pick_case P (eqb left 0) (λ _. stopped)
        (λ f. let p : 0 < d = omega (arith, eqb-false d 0 e) in
        let q : 0 < left = omega (arith, eqb-false left 0 f) in
        pick_case P (leb 6 v) (λ g. leaf_form p q (leb-true 6 v g) high)
        (λ g. pick_case P (eqb v 0) (λ z. not_form p q (eqb-true v 0 z))
        (λ z. gate_form p q (omega (arith, eqb-false v 0 z)) (leb-false 6 v g)))))

  grow_form :
      (part : ℕ → ℕ → Read Expr) (k : ℕ) → ((l n : ℕ) → TreeFormed k l n (part l n)) → (d left at : ℕ) → (0 < d → d ≡ suc k) → (r : Read ℕ) →
      Formed s (λ v. v ∷ []) (λ v. allowed node_number 0 v ≡ true) at r → TreeFormed d left at (grow part left (node_of d left at r))
  grow_form part k h d left at deep (got v next) (formed x a) = node_form part k h d left at v next deep x (allowed_below node_number 0 v a)
  grow_form part k h d left at deep (fault n p) f = stopped

  pub expr_form : (levels left at : ℕ) → TreeFormed levels left at (expr_at m levels left s at)
  unfolding expr_at head_at
  expr_form zero left at =
      grow_form (λ l n. fault outside n) 0 (λ l n. stopped) 0 left at (λ z. absurd (omega arith)) (typed_at m node_number 0 s at) (typed_form m node_number 0 s at bytes)
  expr_form (suc d) left at =
      grow_form (λ l n. expr_at m d l s n) d (λ l n. expr_form d l n) (suc d) left at (λ _. refl) (typed_at m node_number 0 s at) (typed_form m node_number 0 s at bytes)
