-- A block's turn, by what was read of it. Assumes nothing.
use Prim.Native.Nat.{ℕ, ◌+◌, ◌-◌, ◌≤◌}
use mathlib.Core.Path.{◌≡◌, refl}
use mathlib.Core.Bool.{Bool}
use mathlib.Core.List.{List, [], ◌∷◌}
use native.Mathlib.Omega.{arith}
use lib.IntN.{ℤ}
use Rattle.numbers.specs.Blocks.{Bit, Word, Expr, tree, nodes}
use Rattle.numbers.specs.Types.{kind_number}
use Rattle.kinds.specs.Kinds.{kind_of, types_of, mark_for}
use Rattle.wire.specs.Reading.{Read, got, fault, and_then}
use Rattle.numbers.specs.Reading.{Marks, typed_at}
use Rattle.nodes.specs.Reading.{expr_at}
use Rattle.block.specs.Reading.{content_at, fields_at, block_at}
use Rattle.nodes.proofs.Expressions.{few}
use Rattle.expression.specs.Expression.{value, steps, valued}
use Rattle.expression.specs.Expression.{Done, Broken}
use Rattle.place.specs.declared.Place.{Place}
use Rattle.switches.specs.Switches.{bl}
use Rattle.rules.specs.Rules.{rule_of, ruled}
use Rattle.running.specs.Turns.{block_read, turn_of, asked_after}

module _ (k : Marks) (s : List ℕ) (at : ℕ) (f : Bit → Bool) where
  -- the nodes that are left are no more than there were
  pub bl_left : {x : Bool} {q n m : ℕ} → valued f 63 (expr_at k 16 63 s at) ≡ Done x q n m → m ≤ 63
  bl_left {x} {q} {n} {m} h = go (expr_at k 16 63 s at) h
    where
      go : (r : Read Expr) → valued f 63 r ≡ Done x q n m → m ≤ 63
      go (got t n') h = let em : 63 - nodes t ≡ m = cc in omega arith
      go (fault y z) h = let w : ◌≡◌ {A = ℕ} 0 1 = cc in absurd (omega arith)

module _ (k : Marks) (s : List ℕ) (at : ℕ) (f : Bit → Bool) (g : Word → ℤ) (e : ℕ) (p : Place) where
  pub bl_done : {x : Bool} {q n m : ℕ} → valued f 63 (expr_at k 16 63 s at) ≡ Done x q n m
      → got (record { place = bl x p; steps = q; memory = (kind_of 0).memory + (63 - m); mark = mark_for 0; next = n }) n
      ≡ turn_of f g e p (block_read 0 (fields_at k (types_of 0) 0 s at))
  unfolding fields_at content_at kind_of ruled rule_of
  bl_done {x} {q} {n} {m} h = go (expr_at k 16 63 s at) (λ t n. few k 16 63 s at) h
    where
      go : (r : Read Expr) → ((t : Expr) (n : ℕ) → r ≡ got t n → nodes t ≤ 63) → valued f 63 r ≡ Done x q n m
          → got (record { place = bl x p; steps = q; memory = (kind_of 0).memory + (63 - m); mark = mark_for 0; next = n }) n
          ≡ turn_of f g e p (block_read 0 (and_then (and_then r (λ t n. got (tree t) n)) (λ c n. and_then (fields_at k [] 0 s n) (λ cs end. got (c ∷ cs) end))))
      go (got t n') w h =
          let ex : value f t ≡ x = cc in
          let eq : steps f t ≡ q = cc in
          let en : n' ≡ n = cc in
          let em : 63 - nodes t ≡ m = cc in
          let el : 63 - m ≡ nodes t + 0 = omega (arith, w t n' refl) in
          rw (ex, eq, en, el)
      go (fault y z) u h = let w : ◌≡◌ {A = ℕ} 0 1 = cc in absurd (omega arith)

  pub bl_broken : {n q : ℕ} → valued f 63 (expr_at k 16 63 s at) ≡ Broken n q → fault n q ≡ turn_of f g e p (block_read 0 (fields_at k (types_of 0) 0 s at))
  unfolding fields_at content_at kind_of
  bl_broken {n} {q} h = go (expr_at k 16 63 s at) h
    where
      go : (r : Read Expr) → valued f 63 r ≡ Broken n q
          → fault n q
          ≡ turn_of f g e p (block_read 0 (and_then (and_then r (λ t n. got (tree t) n)) (λ c n. and_then (fields_at k [] 0 s n) (λ cs end. got (c ∷ cs) end))))
      go (got t n') h = let w : ◌≡◌ {A = ℕ} 0 1 = cc in absurd (omega arith)
      go (fault y z) h = let a : y ≡ n = cc in let b : z ≡ q = cc in rw (a, b)

  pub turn_of_lem : {v next : ℕ} → typed_at k kind_number 0 s at ≡ got v next
      → turn_of f g e p (block_read v (fields_at k (types_of v) 0 s next)) ≡ turn_of f g e p (block_at k s at)
  unfolding block_at
  turn_of_lem h = rw h

  pub turn_none : {n q : ℕ} → typed_at k kind_number 0 s at ≡ fault n q → fault n q ≡ turn_of f g e p (block_at k s at)
  unfolding block_at
  turn_none h = rw h

-- the blocks that were asked for their words after a block, by what was read of it
module _ (k : Marks) (s : List ℕ) (at : ℕ) (l : List ℕ) where
  pub asked_bl : l ≡ asked_after l (block_read 0 (fields_at k (types_of 0) 0 s at))
  unfolding fields_at content_at kind_of
  asked_bl = go (expr_at k 16 63 s at)
    where
      go : (r : Read Expr)
          → l ≡ asked_after l (block_read 0 (and_then (and_then r (λ t n. got (tree t) n)) (λ c n. and_then (fields_at k [] 0 s n) (λ cs end. got (c ∷ cs) end))))
      go (got t n) = refl
      go (fault y z) = refl

  pub asked_of : {v next : ℕ} → typed_at k kind_number 0 s at ≡ got v next
      → asked_after l (block_read v (fields_at k (types_of v) 0 s next)) ≡ asked_after l (block_at k s at)
  unfolding block_at
  asked_of h = rw h

  pub asked_none : {n q : ℕ} → typed_at k kind_number 0 s at ≡ fault n q → l ≡ asked_after l (block_at k s at)
  unfolding block_at
  asked_none h = rw h
