-- The numbers of faults: a reading finds 1, 8, 2, or 3 at an allowed number that is not marked. So no fault has number 0, which stands for no refusal.
-- One law puts two readings after one another. Assumes nothing.
use Prim.Native.Nat.{ℕ, zero, suc, ◌-◌, ◌<◌}
use mathlib.Core.Path.{◌≡◌, refl, subst}
use mathlib.Core.Bool.{true, false}
use mathlib.Core.List.{List, [], ◌∷◌}
use native.Mathlib.Omega.{arith}
use lib.Dec.{eqb, leb, ltb}
use lib.ListN.{length}
use Rattle.wire.specs.Number.{Num, Got, Bad, Cut}
use Rattle.wire.specs.Number.{number_at}
use Rattle.terms.specs.Refusals.{outside, astray}
use Rattle.terms.proofs.Choice.{pick_case, when_case}
use Rattle.numbers.specs.Blocks.{Bit, Expr, nodes}
use Rattle.numbers.specs.Types.{pin, kind_number, block_count, alarm_count, node_number, allowed, setting_of}
use Rattle.kinds.specs.Kinds.{expression, types_of}
use Rattle.wire.specs.Reading.{Read, got, fault, and_then}
use Rattle.numbers.specs.Reading.{Marks, marked, judged, typed_at}
use Rattle.nodes.specs.Reading.{node_of, head_at, grow, expr_at}
use Rattle.block.specs.Reading.{content_at, fields_at, block_at}
use Rattle.nodes.specs.Reading.{Node, Leaf, One, Two, Stop}
use Rattle.program.specs.Program.{blocks_at, references_at, end_at, alarms_at, program_at}

pub data Real (k : Marks) (n : ℕ) : Type 0 where
  plain : 0 < n → (n ≡ astray → ⊥) → Real k n
  strayed : (ty before v : ℕ) → n ≡ astray → allowed ty before v ≡ true → marked k ty v ≡ false → Real k n

module _ (k : Marks) (s : List ℕ) where
  abbrev Fine : {A : Type 0} → Read A → Type 0
  Fine (got a next) = Unit {0}
  Fine (fault n at) = Real k n

  fine_then : {A B : Type 0} (r : Read A) (f : A → ℕ → Read B) → Fine r → ((a : A) (next : ℕ) → Fine (f a next)) → Fine (and_then r f)
  fine_then (got a next) f h g = g a next
  fine_then (fault n at) f h g = h

  judged_fine : (ty before at : ℕ) (m : Num) → Fine (judged k ty before at m)
  judged_fine ty before at Bad = plain (omega arith) (λ z. omega arith)
  judged_fine ty before at Cut = plain (omega arith) (λ z. omega arith)
  judged_fine ty before at (Got v next) =
      pick_case Fine (allowed ty before v)
      (λ a. pick_case Fine (marked k ty v) (λ _. tt) (λ u. strayed ty before v refl a u))
      (λ _. plain (omega arith) (λ z. omega arith))

  typed_fine : (ty before at : ℕ) → Fine (typed_at k ty before s at)
  unfolding typed_at
  typed_fine ty before at = judged_fine ty before at (number_at s at)

  -- a node, and an expression
  abbrev FineNode : Node → Type 0
  FineNode (Leaf r next) = Unit {0}
  FineNode (One next) = Unit {0}
  FineNode (Two op next) = Unit {0}
  FineNode (Stop n at) = Real k n

  node_fine : (d l at : ℕ) (r : Read ℕ) → Fine r → FineNode (node_of d l at r)
  node_fine d l at (fault n p) u = u
  node_fine d l at (got v next) u =
      pick_case FineNode (eqb d 0) (λ _. plain (omega arith) (λ z. omega arith))
      (λ _. pick_case FineNode (eqb l 0) (λ _. plain (omega arith) (λ z. omega arith))
      (λ _. pick_case FineNode (leb 6 v) (λ _. tt) (λ _. pick_case FineNode (eqb v 0) (λ _. tt) (λ _. tt))))

  head_fine : (d l at : ℕ) → FineNode (head_at k d l s at)
  unfolding head_at
  head_fine d l at = node_fine d l at (typed_at k node_number 0 s at) (typed_fine node_number 0 at)

  grow_fine : (part : ℕ → ℕ → Read Expr) → ((l n : ℕ) → Fine (part l n)) → (left : ℕ) (n : Node) → FineNode n → Fine (grow part left n)
  grow_fine part h left (Leaf r next) u = tt
  grow_fine part h left (One next) u = fine_then (part (left - 1) next) _ (h (left - 1) next) (λ t n. tt)
  grow_fine part h left (Two op next) u =
      fine_then (part (left - 1) next) _ (h (left - 1) next)
      (λ a n. fine_then (part (left - 1 - nodes a) n) _ (h (left - 1 - nodes a) n) (λ b m. tt))
  grow_fine part h left (Stop n at) u = u

  expr_fine : (d l at : ℕ) → Fine (expr_at k d l s at)
  unfolding expr_at
  expr_fine zero l at = grow_fine (λ l n. fault outside n) (λ l n. plain (omega arith) (λ z. omega arith)) l (head_at k 0 l s at) (head_fine 0 l at)
  expr_fine (suc d) l at = grow_fine _ (λ l n. expr_fine d l n) l (head_at k (suc d) l s at) (head_fine (suc d) l at)

  content_fine : (ty before at : ℕ) → Fine (content_at k ty before s at)
  unfolding content_at
  content_fine ty before at =
      when_case Fine (eqb ty expression) _ _ (λ _. fine_then (expr_at k 16 63 s at) _ (expr_fine 16 63 at) (λ t n. tt))
      (λ _. fine_then (typed_at k ty before s at) _ (typed_fine ty before at) (λ v n. tt))

  fields_fine : (ts : List ℕ) (before at : ℕ) → Fine (fields_at k ts before s at)
  unfolding fields_at
  fields_fine [] before at = tt
  fields_fine (ty ∷ ts) before at =
      fine_then (content_at k ty before s at) _ (content_fine ty before at)
      (λ c n. fine_then (fields_at k ts (setting_of c) s n) _ (fields_fine ts (setting_of c) n) (λ cs e. tt))

  block_fine : (at : ℕ) → Fine (block_at k s at)
  unfolding block_at
  block_fine at =
      fine_then (typed_at k kind_number 0 s at) _ (typed_fine kind_number 0 at)
      (λ v n. fine_then (fields_at k (types_of v) 0 s n) _ (fields_fine (types_of v) 0 n) (λ cs e. tt))

  blocks_fine : (n at : ℕ) → Fine (blocks_at k n s at)
  unfolding blocks_at
  blocks_fine zero at = tt
  blocks_fine (suc n) at =
      fine_then (block_at k s at) _ (block_fine at) (λ b m. fine_then (blocks_at k n s m) _ (blocks_fine n m) (λ bs e. tt))

  references_fine : (n at : ℕ) → Fine (references_at k n s at)
  unfolding references_at
  references_fine zero at = tt
  references_fine (suc n) at =
      fine_then (typed_at k pin 0 s at) _ (typed_fine pin 0 at)
      (λ v m. fine_then (references_at k n s m) _ (references_fine n m) (λ rs e. tt))

  end_fine : (rs : List Bit) (at : ℕ) → Fine (end_at rs s at)
  unfolding end_at
  end_fine rs at = pick_case Fine (ltb at (length s)) (λ _. plain (omega arith) (λ z. omega arith)) (λ _. tt)

  alarms_fine : (at : ℕ) → Fine (alarms_at k s at)
  unfolding alarms_at
  alarms_fine at =
      fine_then (typed_at k alarm_count 0 s at) _ (typed_fine alarm_count 0 at)
      (λ n m. fine_then (references_at k n s m) _ (references_fine n m) end_fine)

  program_fine : Fine (program_at k s)
  unfolding program_at
  program_fine =
      fine_then (typed_at k block_count 0 s 0) _ (typed_fine block_count 0 0)
      (λ n at. fine_then (blocks_at k n s at) _ (blocks_fine n at) (λ bs at. fine_then (alarms_at k s at) _ (alarms_fine at) (λ rs e. tt)))

pub program_real : (k : Marks) (s : List ℕ) {n at : ℕ} → program_at k s ≡ fault n at → Real k n
program_real k s e = subst (Fine k s) e (program_fine k s)

real : {k : Marks} {n : ℕ} → Real k n → 0 < n
real (plain h l) = h
real (strayed ty before v e a u) = omega arith

pub program_fault : (k : Marks) (s : List ℕ) {n at : ℕ} → program_at k s ≡ fault n at → 0 < n
program_fault k s e = real (program_real k s e)
