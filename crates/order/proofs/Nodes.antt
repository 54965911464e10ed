-- Expressions: the reader goes down the tree, the list goes along its nodes, and they meet the same numbers. By induction on the levels left.
-- Assumes nothing.
use Prim.Native.Nat.{ℕ, zero, suc, ◌+◌, ◌-◌, ◌<◌, ◌≤◌}
use mathlib.Core.Path.{◌≡◌, refl, ap}
use mathlib.Core.Bool.{Bool, true, false}
use mathlib.Core.List.{List, [], ◌∷◌}
use native.Mathlib.Omega.{arith}
use lib.Dec.{eqb, leb}
use borrow.Author.Tests.{eqb-true, eqb-false, leb-true, leb-false, lt-ltb, le-ltb, ne_eqb}
use Rattle.terms.specs.Choice.{pick}
use Rattle.terms.specs.Refusals.{outside, astray}
use Rattle.wire.specs.Number.{Num, Got, Bad, Cut}
use Rattle.wire.specs.Number.{number_at}
use Rattle.wire.specs.Reading.{Read, got, fault}
use Rattle.numbers.specs.Blocks.{Expr, inv, gate, nodes}
use Rattle.numbers.specs.Types.{node_number, allowed, excepted}
use Rattle.numbers.specs.Reading.{Marks, marked, judged, typed_at}
use Rattle.nodes.specs.Reading.{Node, Leaf, One, Two, Stop}
use Rattle.nodes.specs.Reading.{most_deep, most_nodes, node_of, head_at, grow, expr_at}
use Rattle.order.specs.Order.{Expected, node, parts, count_of, too_deep, too_many, good, wrong, Item, Spot, item_at, found_of}
use Rattle.order.proofs.Comes.{Weighs, weighs_join, Way, Halts, at_wrong, at_astray, at_both, Comes, reads, halts, nowhere, come_on, come_then, come_map}
use Rattle.order.proofs.Numbers.{weighs_one, judged_any, after, goes_on, stops_at, one_way, not_allowed_lem, halts_bad, halts_cut}

-- the parts of a node
none_left : (v : ℕ) → leb 6 v ≡ true → parts v ≡ 0
none_left v h = let l = leb-true 6 v h in rw (ne_eqb v 0 (λ e. omega arith), le-ltb v 6 l)

one_left : (v : ℕ) → eqb v 0 ≡ true → parts v ≡ 1
one_left v h = rw h

two_left : (v : ℕ) → leb 6 v ≡ false → eqb v 0 ≡ false → parts v ≡ 2
two_left v h k = rw (k, lt-ltb v 6 (leb-false 6 v h))

-- a node under another is counted after it
below : (d n : ℕ) → 0 < d → count_of (node (suc d)) n ≡ suc n
below d n h = rw (ne_eqb (suc d) 1 (λ e. omega arith))

-- what the numbers of an expression are to it, where its first node is the c-th and `left` nodes may still come
pub record Grown (c left : ℕ) (t : Expr) (l : List Item) (q : Spot) : Type 0 where
  pub weighs : Weighs l [] (nodes t) (nodes t)
  pub setting : q.setting ≡ 0
  pub count : q.count + 1 ≡ c + nodes t
  pub few : nodes t ≤ left

module _ (m : Marks) (s : List ℕ) where
  -- a node at depth d, the c-th of its expression, where k levels and `left` nodes are left
  module _ (k d c left : ℕ) (xs : List Expected) (p : Spot) (e : p.expects ≡ node d ∷ xs) (deep : d + k ≡ 17)
      (nth : count_of (node d) p.count ≡ c) (many : c + left ≡ 64) where
    abbrev then : ℕ → ℕ → Spot
    then v next = after m s (node d) xs p e v next

    abbrev Past : ℕ → ℕ → Type 0
    Past v next = Way m s p (item_at (node d) p (good v) ∷ []) (then v next)

    data Case : Node → Type 0 where
      is_leaf : {r next : ℕ} (v : ℕ) → 0 < left → parts v ≡ 0 → Past v next → Case (Leaf r next)
      is_one : {next : ℕ} (v : ℕ) → 0 < k → 0 < left → parts v ≡ 1 → Past v next → Case (One next)
      is_two : {op next : ℕ} (v : ℕ) → 0 < k → 0 < left → parts v ≡ 2 → Past v next → Case (Two op next)
      is_stop : {n at : ℕ} → Halts m s p n at → Case (Stop n at)

    module _ {v next : ℕ} (h : number_at s p.at ≡ Got v next) (a : allowed node_number p.setting v ≡ true) where
      too_deep_lem : k ≡ 0 → found_of (node d) p.setting (count_of (node d) p.count) v ≡ wrong too_deep
      unfolding found_of
      too_deep_lem z = rw (a, lt-ltb most_deep d (omega arith))

      too_many_lem : 0 < k → left ≡ 0 → found_of (node d) p.setting (count_of (node d) p.count) v ≡ wrong too_many
      unfolding found_of
      too_many_lem l z = rw (a, le-ltb most_deep d (omega arith), nth, lt-ltb most_nodes c (omega arith))

      fine : 0 < k → 0 < left → found_of (node d) p.setting (count_of (node d) p.count) v ≡ good v
      unfolding found_of
      fine l n = rw (a, le-ltb most_deep d (omega arith), nth, le-ltb most_nodes c (omega arith))

      -- a reference that is not marked, whatever else may be wrong
      strays : marked m node_number v ≡ false → Halts m s p astray p.at
      strays t = go (eqb k 0) (eqb left 0) refl refl
        where
          go : (x y : Bool) → eqb k 0 ≡ x → eqb left 0 ≡ y → Halts m s p astray p.at
          go true y f g = at_both node_number p.setting v a t (stops_at m s (node d) xs p e h too_deep (too_deep_lem (eqb-true k 0 f))) refl
          go false true f g =
              let l = eqb-false k 0 f in
              at_both node_number p.setting v a t (stops_at m s (node d) xs p e h too_many (too_many_lem (omega arith) (eqb-true left 0 g))) refl
          go false false f g =
              let l = eqb-false k 0 f in
              let n = eqb-false left 0 g in
              at_astray node_number p.setting v a t (goes_on m s (node d) xs p e h (fine (omega arith) (omega arith))) t refl refl

      good_case : marked m node_number v ≡ true → Case (node_of k left p.at (got v next))
      good_case t = go (eqb k 0) (eqb left 0) refl refl
        where
          kind : 0 < k → 0 < left → (x y : Bool) → leb 6 v ≡ x → eqb v 0 ≡ y → Case (pick x (Leaf (v - 6) next) (pick y (One next) (Two v next)))
          kind l n true y f g = is_leaf v n (none_left v f) (one_way m s (node d) xs p e h (fine l n) t)
          kind l n false true f g = is_one v l n (one_left v g) (one_way m s (node d) xs p e h (fine l n) t)
          kind l n false false f g = is_two v l n (two_left v f g) (one_way m s (node d) xs p e h (fine l n) t)

          go : (x y : Bool) → eqb k 0 ≡ x → eqb left 0 ≡ y
              → Case (pick x (Stop outside p.at) (pick y (Stop outside p.at) (pick (leb 6 v) (Leaf (v - 6) next) (pick (eqb v 0) (One next) (Two v next)))))
          go true y f g = is_stop (at_wrong (stops_at m s (node d) xs p e h too_deep (too_deep_lem (eqb-true k 0 f))) refl refl)
          go false true f g =
              let l = eqb-false k 0 f in
              is_stop (at_wrong (stops_at m s (node d) xs p e h too_many (too_many_lem (omega arith) (eqb-true left 0 g))) refl refl)
          go false false f g =
              let l = eqb-false k 0 f in
              let n = eqb-false left 0 g in
              kind (omega arith) (omega arith) (leb 6 v) (eqb v 0) refl refl

    number_case : (n : Num) → number_at s p.at ≡ n → Case (node_of k left p.at (judged m node_number p.setting p.at n))
    number_case Bad h = is_stop (halts_bad m s (node d) xs p e h)
    number_case Cut h = is_stop (halts_cut m s (node d) xs p e h)
    number_case (Got v next) h = go (allowed node_number p.setting v) (marked m node_number v) refl refl
      where
        go : (x y : Bool) → allowed node_number p.setting v ≡ x → marked m node_number v ≡ y
            → Case (node_of k left p.at (pick x (pick y (got v next) (fault astray p.at)) (fault outside p.at)))
        go false y a t = is_stop (not_allowed_lem m s (node d) xs p e h a)
        go true false a t = is_stop (strays h a t)
        go true true a t = good_case h a t

    head_case : Case (head_at m k left s p.at)
    unfolding head_at typed_at allowed excepted
    head_case =
        rw (judged_any m node_number p.setting 0 p.at (λ v. refl) (number_at s p.at)) at (number_case (number_at s p.at) refl)

    -- an expression by its first node, where `part` reads its parts
    module _ (some : 0 < d) (part : ℕ → ℕ → Read Expr)
        (h : (left : ℕ) (ys : List Expected) (q : Spot) → 0 < k → q.expects ≡ node (suc d) ∷ ys → suc q.count + left ≡ 64
        → Comes m s q (λ _. ys) (Grown (suc q.count) left) (part left q.at)) where
      grow_comes : (n : Node) → Case n → Comes m s p (λ _. xs) (Grown c left) (grow part left n)
      grow_comes (Leaf r next) (is_leaf v n f w) =
          reads _ (then v next) w (rw f) refl
          (record { weighs = weighs_one (node d) p v; setting = refl; count = ap (λ (z : ℕ). z + 1) nth; few = n })
      grow_comes (One next) (is_one v l n f w) =
          come_on m s w (λ _. xs) (Grown c left) _
          (come_map m s (λ _. xs) _ inv (part (left - 1) next) (h (left - 1) xs (then v next) l (rw f) (rw nth (omega arith)))
          (λ t k q u. let z : q.count + 1 ≡ suc c + nodes t = rw nth at u.count in
          record {
            weighs = record { kinds = u.weighs.kinds; memory = omega (arith, u.weighs.memory); figure = omega (arith, u.weighs.figure) };
            setting = u.setting;
            count = omega arith;
            few = omega (arith, u.few);
          })
          (λ t. refl))
      grow_comes (Two op next) (is_two v l n f w) =
          come_on m s w (λ _. xs) (Grown c left) _
          (come_then m s (λ _. xs) _ (part (left - 1) next) _
          (h (left - 1) (node (suc d) ∷ xs) (then v next) l (rw f) (rw nth (omega arith)))
          (λ a i q x u. let z : q.count + 1 ≡ suc c + nodes a = rw nth at u.count in
          come_map m s (λ _. xs) _ (gate op a) (part (left - 1 - nodes a) q.at) (h (left - 1 - nodes a) xs q l x (omega (arith, u.few)))
          (λ b j o y. let both = weighs_join u.weighs y.weighs in
          record {
            weighs = record { kinds = both.kinds; memory = omega (arith, both.memory); figure = omega (arith, both.figure) };
            setting = y.setting;
            count = omega (arith, y.count);
            few = omega (arith, u.few, y.few);
          })
          (λ b. refl)))
      grow_comes (Stop n at) (is_stop x) = halts [] p (nowhere m s) x

  pub expr_comes :
      (k d c left : ℕ) (xs : List Expected) (p : Spot) → p.expects ≡ node d ∷ xs → d + k ≡ 17 → 0 < d → count_of (node d) p.count ≡ c → c + left ≡ 64 →
      Comes m s p (λ _. xs) (Grown c left) (expr_at m k left s p.at)
  unfolding expr_at
  expr_comes zero d c left xs p e deep some nth many =
      grow_comes zero d c left xs p e deep nth many some (λ l n. fault outside n) (λ left ys q z. absurd (omega arith)) _ (head_case zero d c left xs p e deep nth many)
  expr_comes (suc k) d c left xs p e deep some nth many =
      grow_comes (suc k) d c left xs p e deep nth many some _
      (λ left ys q _ x y. expr_comes k (suc d) (suc q.count) left ys q x (omega arith) (omega arith) (below d q.count some) y)
      _ (head_case (suc k) d c left xs p e deep nth many)
