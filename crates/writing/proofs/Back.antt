-- Reading what is written of an expression, node by node. Assumes nothing.
use Prim.Native.Nat.{ℕ, suc, ◌+◌, ◌-◌, ◌<◌, ◌≤◌}
use mathlib.Core.Path.{◌≡◌, refl, sym, ◌∙◌}
use mathlib.Core.Bool.{true, ◌&&◌}
use mathlib.Core.List.{List, [], ◌∷◌, ◌++◌, append_assoc, append-nil}
use native.Mathlib.Nat.{add-zero}
use native.Mathlib.Omega.{arith}
use lib.Dec.{eqb}
use lib.ListN.{length, length-append}
use borrow.Author.Tests.{lt-ltb, le-ltb, ne_eqb, le-leb, lt-leb}
use Rattle.terms.specs.Choice.{pick, every}
use Rattle.terms.proofs.Choice.{both}
use Rattle.terms.proofs.Every.{every_join}
use Rattle.wire.specs.Number.{number_at, groups_of}
use Rattle.wire.specs.Facts.{Stands}
use Rattle.wire.specs.Reading.{got}
use Rattle.wire.proofs.Laws.{back}
use Rattle.numbers.specs.Blocks.{Bit, off, on, input, output, Expr, ref, inv, gate, leaves, nodes, bit_code}
use Rattle.numbers.specs.Types.{node_number, allowed, excepted, bit_ref}
use Rattle.numbers.specs.Reading.{Marks, bit_marked, marked, typed_at}
use Rattle.numbers.proofs.References.{marked_operator, marked_leaf}
use Rattle.nodes.specs.Reading.{head_at, expr_at}
use Rattle.nodes.proofs.Expressions.{step}
use Rattle.nodes.specs.Reading.{Leaf, One, Two}
use Rattle.writing.specs.Expressions.{operator_first, depth, bytes_of, InRange, Proper}

-- bytes that stand one after the other
stands_both : (a b s : List ℕ) (at : ℕ) → Stands (a ++ b) s at → Stands a s at × Stands b s (at + length a)
stands_both [] b s at h = (tt, rw (add-zero at) h)
stands_both (x ∷ a) b s at h =
    let o = stands_both a b s (at + 1) h.1.1 in
    let e : at + 1 + length a ≡ at + suc (length a) = omega arith in
    ((h.0, (h.1.0, o.0)), (rw e at o.1))

bytes_append : (a b : List ℕ) → bytes_of (a ++ b) ≡ bytes_of a ++ bytes_of b
bytes_append [] b = refl
bytes_append (v ∷ a) b = rw (bytes_append a b, append_assoc (groups_of 3 v) (bytes_of a) (bytes_of b))

-- a reference in range is the one that its number says
pub ref_back : (b : Bit) → InRange b → (bit_ref (bit_code b) ≡ b) × (bit_code b < 234)
unfolding bit_ref
ref_back off h = (refl, omega arith)
ref_back on h = (refl, omega arith)
ref_back (input i) h =
    let e : i + 2 - 2 ≡ i = omega arith in
    (rw (ne_eqb (i + 2) 0 (λ z. omega arith), ne_eqb (i + 2) 1 (λ z. omega arith), lt-ltb (i + 2) 34 (omega arith), e), omega arith)
ref_back (output k) h =
    let e : k + 34 - 34 ≡ k = omega arith in
    (rw (ne_eqb (k + 34) 0 (λ z. omega arith), ne_eqb (k + 34) 1 (λ z. omega arith), le-ltb (k + 34) 34 (omega arith), e), omega arith)

module _ (m : Marks) (s : List ℕ) (at : ℕ) where
  -- the number of a node
  typed :
      (v : ℕ) → v < 240 → marked m node_number v ≡ true → Stands (groups_of 3 v) s at → typed_at m node_number 0 s at ≡ got v (at + length (groups_of 3 v))
  unfolding typed_at number_at allowed excepted
  typed v h e st = rw (back 3 s at v (omega arith) (omega arith) st, lt-ltb v 240 h, e)

  module _ (levels left : ℕ) (deep : 0 < levels) (some : 0 < left) where
    -- a bit reference, NOT, an operator of two parts
    head_leaf :
        (b : Bit) → InRange b → bit_marked m b ≡ true → Stands (groups_of 3 (6 + bit_code b)) s at →
        head_at m levels left s at ≡ Leaf (bit_code b) (at + length (groups_of 3 (6 + bit_code b)))
    unfolding head_at
    head_leaf b h e st =
        let o = ref_back b h in
        let v = 6 + bit_code b in
        let g : v - 6 ≡ bit_code b = omega arith in
        let q : bit_marked m (bit_ref (v - 6)) ≡ true = rw (g, o.0) e in
        rw (
          typed v (omega (arith, o.1)) (sym (marked_leaf m v (omega arith)) ∙ q) st,
          ne_eqb levels 0 (λ z. omega arith),
          ne_eqb left 0 (λ z. omega arith),
          le-leb 6 v (omega arith),
          g,
        )

    head_operator :
        (v : ℕ) → v < 6 → Stands (groups_of 3 v) s at →
        head_at m levels left s at ≡ pick (eqb v 0) (One (at + length (groups_of 3 v))) (Two v (at + length (groups_of 3 v)))
    unfolding head_at
    head_operator v h st =
        rw (typed v (omega arith) (sym (marked_operator m v h)) st, ne_eqb levels 0 (λ z. omega arith), ne_eqb left 0 (λ z. omega arith), lt-leb 6 v (omega arith))

some_depth : (t : Expr) → 1 ≤ depth t
some_depth (ref b) = omega arith
some_depth (inv t) = omega (arith, some_depth t)
some_depth (gate o a b) = omega (arith, some_depth a)

-- the place behind two texts
behind : (a b : List ℕ) (at : ℕ) → (at + length a) + length b ≡ at + length (a ++ b)
behind a b at = omega (arith, length-append a b)

pub back_of :
    (m : Marks) (levels left : ℕ) (s : List ℕ) (at : ℕ) (t : Expr) → Proper t → every (bit_marked m) (leaves t) ≡ true → depth t ≤ levels →
    nodes t ≤ left → Stands (bytes_of (operator_first t)) s at → expr_at m levels left s at ≡ got t (at + length (bytes_of (operator_first t)))
back_of m levels left s at (ref b) p e d n st =
    let v = groups_of 3 (6 + bit_code b) in
    let k = both (bit_marked m b) true e in
    step m levels left s at
    ∙ rw (head_leaf m s at levels left (omega arith) (omega arith) b p k.0 (stands_both v [] s at st).0, (ref_back b p).0, append-nil v)
back_of m levels left s at (inv t) p e d n st =
    let v = groups_of 3 0 in
    let w = bytes_of (operator_first t) in
    let o = stands_both v w s at st in
    let h = head_operator m s at levels left (omega (arith, some_depth t)) (omega arith) 0 (omega arith) o.0 in
    let x = back_of m (levels - 1) (left - 1) s (at + length v) t p e (omega arith) (omega arith) o.1 in
    step m levels left s at ∙ rw (h, x, behind v w at)
back_of m levels left s at (gate g a b) p e d n st =
    let v = groups_of 3 g in
    let x = bytes_of (operator_first a) in
    let y = bytes_of (operator_first b) in
    let z : bytes_of (operator_first a ++ operator_first b) ≡ x ++ y = bytes_append (operator_first a) (operator_first b) in
    let k : (every (bit_marked m) (leaves a) && every (bit_marked m) (leaves b)) ≡ true = (rw every_join at e) in
    let r = both (every (bit_marked m) (leaves a)) (every (bit_marked m) (leaves b)) k in
    let o = stands_both v (bytes_of (operator_first a ++ operator_first b)) s at st in
    let q = stands_both x y s (at + length v) (rw z at o.1) in
    let h = head_operator m s at levels left (omega (arith, some_depth a)) (omega arith) g p.0.1 o.0 in
    let i = back_of m (levels - 1) (left - 1) s (at + length v) a p.1.0 r.0 (omega arith) (omega arith) q.0 in
    let j = back_of m (levels - 1) (left - 1 - nodes a) s (at + length v + length x) b p.1.1 r.1 (omega arith) (omega arith) q.1 in
    step m levels left s at
    ∙ rw (h, ne_eqb g 0 (λ f. omega arith), i, j, z, behind x y (at + length v), behind v (x ++ y) at)
