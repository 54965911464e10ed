-- Laws of expressions: what a node that is read tells, one level of the tree, and the nodes that it takes. Assumes nothing.
use Prim.Native.Nat.{ℕ, zero, suc, ◌+◌, ◌-◌, ◌<◌, ◌≤◌}
use mathlib.Core.Path.{◌≡◌, refl, subst, ap, ◌∙◌}
use mathlib.Core.List.{List}
use native.Mathlib.Omega.{arith}
use lib.Dec.{eqb, leb}
use borrow.Author.Tests.{eqb-false, leb-true, leb-false}
use Rattle.terms.proofs.Choice.{pick_case}
use Rattle.terms.specs.Refusals.{outside}
use Rattle.numbers.proofs.Typed.{typed_below}
use Rattle.numbers.specs.Blocks.{Expr, inv, gate, nodes}
use Rattle.numbers.specs.Types.{node_number}
use Rattle.wire.specs.Reading.{Read, got, fault, and_then}
use Rattle.numbers.specs.Reading.{Marks, typed_at}
use Rattle.nodes.specs.Reading.{node_of, head_at, grow, expr_at, passed}
use Rattle.nodes.specs.Reading.{Node, Leaf, One, Two, Stop}
use Rattle.nodes.specs.Reading.{Good, Fault}

abbrev Below : ℕ → Read ℕ → Type 0
Below b (got v next) = v < b
Below b (fault n at) = Unit {0}

below_of : (b : ℕ) (r : Read ℕ) → ((v n : ℕ) → r ≡ got v n → v < b) → Below b r
below_of b (got v n) h = h v n refl
below_of b (fault n at) h = tt

-- what a node that is read tells: a level and a node are left, and its number is in range
abbrev pub Sound : ℕ → ℕ → Node → Type 0
Sound d l (Leaf r next) = (0 < d) × ((0 < l) × (r < 234))
Sound d l (One next) = (0 < d) × (0 < l)
Sound d l (Two op next) = (0 < d) × ((0 < l) × ((0 < op) × (op < 6)))
Sound d l (Stop n at) = Unit {0}

sound_of : (d l at : ℕ) (r : Read ℕ) → Below 240 r → Sound d l (node_of d l at r)
sound_of d l at (fault n p) w = tt
sound_of d l at (got v next) w =
    let S : Node → Type 0 = Sound d l in
    pick_case S (eqb d 0) (λ _. tt)
    (λ d0. pick_case S (eqb l 0) (λ _. tt)
    (λ l0. pick_case S (leb 6 v) (λ ge. omega (arith, eqb-false d 0 d0, eqb-false l 0 l0, leb-true 6 v ge))
    (λ l6. pick_case S (eqb v 0) (λ _. omega (arith, eqb-false d 0 d0, eqb-false l 0 l0))
    (λ v0. omega (arith, eqb-false d 0 d0, eqb-false l 0 l0, leb-false 6 v l6, eqb-false v 0 v0)))))

pub sound : (k : Marks) (d l : ℕ) (s : List ℕ) (at : ℕ) {r : Node} → head_at k d l s at ≡ r → Sound d l r
unfolding head_at
sound k d l s at e =
    subst (Sound d l) e
    (sound_of d l at (typed_at k node_number 0 s at) (below_of 240 (typed_at k node_number 0 s at) (λ v n. typed_below k node_number 0 s at)))

-- the same of each node by itself
module _ (k : Marks) (d l : ℕ) (s : List ℕ) (at : ℕ) where
  pub leaf_room : {r next : ℕ} → head_at k d l s at ≡ Leaf r next → (0 < d) × ((0 < l) × (r < 234))
  leaf_room e = sound k d l s at e

  pub one_room : {next : ℕ} → head_at k d l s at ≡ One next → (0 < d) × (0 < l)
  one_room e = sound k d l s at e

  pub two_room : {op next : ℕ} → head_at k d l s at ≡ Two op next → (0 < d) × ((0 < l) × ((0 < op) × (op < 6)))
  two_room e = sound k d l s at e

-- one node, over the readers of its parts at one level less
stop_deep : (f g : ℕ → ℕ → Read Expr) (left : ℕ) (n : Node) → Sound 0 left n → grow f left n ≡ grow g left n
stop_deep f g left (Stop n at) t = refl
stop_deep f g left (Leaf r next) t = absurd (omega arith)
stop_deep f g left (One next) t = absurd (omega arith)
stop_deep f g left (Two op next) t = absurd (omega arith)

pub step :
    (k : Marks) (d left : ℕ) (s : List ℕ) (at : ℕ) →
    expr_at k d left s at ≡ grow (λ l n. expr_at k (d - 1) l s n) left (head_at k d left s at)
unfolding expr_at
step k zero left s at =
    stop_deep (λ l n. fault outside n) (λ l n. expr_at k (0 - 1) l s n) left (head_at k 0 left s at) (sound k 0 left s at refl)
step k (suc d) left s at = let e : suc d - 1 ≡ d = omega arith in simp e

-- passing over a node's parts
pass_one : (l : ℕ) (p : Read Expr) → passed l (and_then p (λ t n. got (inv t) n)) ≡ passed (l - 1) p
pass_one l (got t next) = let e : l - (nodes t + 1) ≡ l - 1 - nodes t = omega arith in rw e
pass_one l (fault n at) = refl

pass_fault :
    (l m : ℕ) (p : Read Expr) (f : Expr → ℕ → Read Expr) {n at : ℕ} → passed m p ≡ Fault n at → passed l (and_then p f) ≡ Fault n at
pass_fault l m (got t next) f h = let z : ◌≡◌ {A = ℕ} 0 1 = cc in absurd (omega arith)
pass_fault l m (fault n at) f h = h

pass_second :
    (l op : ℕ) (a : Expr) (q : Read Expr) →
    passed l (and_then q (λ b m. got (gate op a b) m)) ≡ passed (l - 1 - nodes a) q
pass_second l op a (got b next) = let e : l - (nodes a + nodes b + 1) ≡ l - 1 - nodes a - nodes b = omega arith in rw e
pass_second l op a (fault n at) = refl

pass_two :
    (l op : ℕ) (p : Read Expr) (part : ℕ → ℕ → Read Expr) {next m : ℕ} → passed (l - 1) p ≡ Good next m →
    passed l (and_then p (λ a n. and_then (part (l - 1 - nodes a) n) (λ b n. got (gate op a b) n))) ≡ passed m (part m next)
pass_two l op (got a n) part {next} {m} h =
    let en : n ≡ next = cc in
    let em : l - 1 - nodes a ≡ m = cc in
    rw (pass_second l op a (part (l - 1 - nodes a) n), en, em)
pass_two l op (fault n at) part h = let z : ◌≡◌ {A = ℕ} 0 1 = cc in absurd (omega arith)

-- so that passing over an expression is passing on from its first node
module _ (k : Marks) (d l : ℕ) (s : List ℕ) (at : ℕ) where
  level : passed l (expr_at k d l s at) ≡ passed l (grow (λ m n. expr_at k (d - 1) m s n) l (head_at k d l s at))
  level = ap (passed l) (step k d l s at)

  pub on_stop : {n p : ℕ} → head_at k d l s at ≡ Stop n p → passed l (expr_at k d l s at) ≡ Fault n p
  on_stop e = level ∙ rw e

  pub on_leaf : {r next : ℕ} → head_at k d l s at ≡ Leaf r next → passed l (expr_at k d l s at) ≡ Good next (l - 1)
  on_leaf e = level ∙ rw e

  pub on_one : {next : ℕ} → head_at k d l s at ≡ One next → passed l (expr_at k d l s at) ≡ passed (l - 1) (expr_at k (d - 1) (l - 1) s next)
  on_one {next} e = level ∙ rw e (pass_one l (expr_at k (d - 1) (l - 1) s next))

  pub on_two : {op next n m : ℕ} → head_at k d l s at ≡ Two op next → passed (l - 1) (expr_at k (d - 1) (l - 1) s next) ≡ Good n m
      → passed l (expr_at k d l s at) ≡ passed m (expr_at k (d - 1) m s n)
  on_two {op} {next} e h = level ∙ rw e (pass_two l op (expr_at k (d - 1) (l - 1) s next) (λ m n. expr_at k (d - 1) m s n) h)

  pub on_fault : {op next n p : ℕ} → head_at k d l s at ≡ Two op next → passed (l - 1) (expr_at k (d - 1) (l - 1) s next) ≡ Fault n p
      → passed l (expr_at k d l s at) ≡ Fault n p
  on_fault {op} {next} e h = level ∙ rw e (pass_fault l (l - 1) (expr_at k (d - 1) (l - 1) s next) _ h)

-- and over an operator of two parts whose first is a leaf, from behind the leaf
pub on_two_leaf :
    (k : Marks) (d l : ℕ) (s : List ℕ) (at : ℕ) {op next r n : ℕ} → head_at k d l s at ≡ Two op next → head_at k (d - 1) (l - 1) s next ≡ Leaf r n →
    passed l (expr_at k d l s at) ≡ passed (l - 2) (expr_at k (d - 1) (l - 2) s n)
on_two_leaf k d l s at {next = next} e f =
    let h : l - 1 - 1 ≡ l - 2 = omega arith in
    rw h at (on_two k d l s at e (on_leaf k (d - 1) (l - 1) s next f))

-- an expression has at most the nodes left
abbrev Within : ℕ → Read Expr → Type 0
Within l (got t next) = nodes t ≤ l
Within l (fault n at) = Unit {0}

within_then :
    (l m : ℕ) (p : Read Expr) (f : Expr → ℕ → Read Expr) → Within l p →
    ((t : Expr) (n : ℕ) → nodes t ≤ l → Within m (f t n)) → Within m (and_then p f)
within_then l m (got t n) f h g = g t n h
within_then l m (fault n at) f h g = tt

within_grow :
    (part : ℕ → ℕ → Read Expr) → ((l n : ℕ) → Within l (part l n)) → (d l : ℕ) (r : Node) → Sound d l r → Within l (grow part l r)
within_grow part h d l (Leaf r n) s = omega arith
within_grow part h d l (One n) s = within_then (l - 1) l (part (l - 1) n) _ (h (l - 1) n) (λ t n e. omega arith)
within_grow part h d l (Two op n) s =
    within_then (l - 1) l (part (l - 1) n) _ (h (l - 1) n)
    (λ a n e. within_then (l - 1 - nodes a) l (part (l - 1 - nodes a) n) _ (h (l - 1 - nodes a) n) (λ b n g. omega arith))
within_grow part h d l (Stop n at) s = tt

within : (k : Marks) (d l : ℕ) (s : List ℕ) (at : ℕ) → Within l (expr_at k d l s at)
unfolding expr_at
within k zero l s at = within_grow (λ l n. fault outside n) (λ l n. tt) 0 l (head_at k 0 l s at) (sound k 0 l s at refl)
within k (suc d) l s at = within_grow _ (λ l n. within k d l s n) (suc d) l (head_at k (suc d) l s at) (sound k (suc d) l s at refl)

pub few : (k : Marks) (d l : ℕ) (s : List ℕ) (at : ℕ) {t : Expr} {next : ℕ} → expr_at k d l s at ≡ got t next → nodes t ≤ l
few k d l s at e = subst (Within l) e (within k d l s at)

-- what was passed over
pub data Whole (l : ℕ) (r : Read Expr) (next left : ℕ) : Type 0 where
  whole : (t : Expr) → r ≡ got t next → l - nodes t ≡ left → Whole l r next left

passed_whole : (l : ℕ) (r : Read Expr) {next left : ℕ} → passed l r ≡ Good next left → Whole l r next left
passed_whole l (got t n) h = whole t (cc) (cc)
passed_whole l (fault n at) h = let z : ◌≡◌ {A = ℕ} 0 1 = cc in absurd (omega arith)

passed_stop : (l : ℕ) (r : Read Expr) {n at : ℕ} → passed l r ≡ Fault n at → r ≡ fault n at
passed_stop l (got t n) h = let z : ◌≡◌ {A = ℕ} 0 1 = cc in absurd (omega arith)
passed_stop l (fault n at) h = cc

module _ (k : Marks) (d l : ℕ) (s : List ℕ) (at : ℕ) where
  pub expr_whole : {next left : ℕ} → passed l (expr_at k d l s at) ≡ Good next left → Whole l (expr_at k d l s at) next left
  expr_whole h = passed_whole l (expr_at k d l s at) h

  pub expr_fault : {n p : ℕ} → passed l (expr_at k d l s at) ≡ Fault n p → expr_at k d l s at ≡ fault n p
  expr_fault h = passed_stop l (expr_at k d l s at) h

-- the lemmas by which an expression is passed over, and by which a node is read before its parts
pub ruleset passing = (leaf_room, one_room, two_room, on_stop, on_leaf, on_one, on_two, on_two_leaf, on_fault)

pub ruleset reading = (leaf_room, one_room, two_room, on_leaf, step)
