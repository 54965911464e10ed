-- Laws of the evaluator: what a node makes of its parts' answers, and how many steps there can be. Assumes nothing.
use Prim.Native.Nat.{ℕ, ◌+◌, ◌-◌, ◌*◌, ◌/◌, ◌%◌, ◌^◌, ◌≤◌}
use mathlib.Core.Path.{◌≡◌, refl, sym, ap, ◌∙◌}
use mathlib.Core.Bool.{Bool, true, false, not, ◌&&◌, ◌||◌, beq}
use mathlib.Core.List.{List}
use native.Mathlib.Omega.{arith}
use lib.Dec.{eqb}
use mir.Val.{bool_byte}
use Rattle.terms.specs.Choice.{pick}
use Rattle.terms.proofs.Choice.{pick_case}
use Rattle.numbers.specs.Blocks.{Bit, Expr, ref, inv, gate, nodes}
use Rattle.wire.specs.Reading.{Read, got, fault, and_then}
use Rattle.numbers.specs.Reading.{Marks}
use Rattle.nodes.specs.Reading.{expr_at, passed}
use Rattle.nodes.specs.Reading.{Good, Fault}
use Rattle.nodes.proofs.Expressions.{few}
use Rattle.expression.specs.Expression.{gate_of, skips_of, truth_table, skip_table, value, steps, valued, joined, Done, Broken}
use Rattle.terms.specs.Bits.{digit}

pub steps_nodes : (f : Bit → Bool) (t : Expr) → steps f t ≤ nodes t
steps_nodes f (ref b) = omega arith
steps_nodes f (inv t) = omega (arith, steps_nodes f t)
steps_nodes f (gate op a b) =
    pick_case (λ (n : ℕ). n ≤ nodes a + nodes b + 1) (skips_of op (value f a))
    (λ _. omega (arith, steps_nodes f a)) (λ _. omega (arith, steps_nodes f a, steps_nodes f b))

-- where the second part is skipped, it says nothing
off_and : (x y : Bool) → not x ≡ true → (x && y) ≡ false
off_and true y e = let z : ◌≡◌ {A = ℕ} 0 1 = cc in absurd (omega arith)
off_and false y e = refl

on_or : (x y : Bool) → x ≡ true → (x || y) ≡ true
on_or x y e = rw e

skip_and : (x y z : Bool) → not x ≡ true → (x && y) ≡ (x && z)
skip_and x y z e = off_and x y e ∙ sym (off_and x z e)

skip_or : (x y z : Bool) → x ≡ true → (x || y) ≡ (x || z)
skip_or x y z e = on_or x y e ∙ sym (on_or x z e)

pub skip_same : (op : ℕ) (x y z : Bool) → skips_of op x ≡ true → gate_of op x y ≡ gate_of op x z
unfolding skips_of gate_of
skip_same op x y z = go (eqb op 1) (eqb op 2) (eqb op 3) (eqb op 4)
  where
    go : (p q r s : Bool) → pick p (not x) (pick q x (pick r false (pick s (not x) x))) ≡ true
        → pick p (x && y) (pick q (x || y) (pick r (not (beq x y)) (pick s (not (x && y)) (not (x || y)))))
        ≡ pick p (x && z) (pick q (x || z) (pick r (not (beq x z)) (pick s (not (x && z)) (not (x || z)))))
    go true q r s e = skip_and x y z e
    go false true r s e = skip_or x y z e
    go false false true s e = let w : ◌≡◌ {A = ℕ} 0 1 = cc in absurd (omega arith)
    go false false false true e = ap not (skip_and x y z e)
    go false false false false e = ap not (skip_or x y z e)

-- a bit of a table is the outcome that it stands for
digit_small : (b : Bool) → digit b ≤ 1
digit_small true = omega arith
digit_small false = omega arith

digit_one : (n : ℕ) (b : Bool) → n ≡ digit b → eqb n 1 ≡ b
digit_one n true e = rw e
digit_one n false e = rw e

pub bit_small : (b : Bool) → bool_byte b ≤ 1
bit_small true = omega arith
bit_small false = omega arith

module _ (f : Bool → Bool → Bool) where
  digits_small : ((digit (f false false) ≤ 1) × (digit (f false true) ≤ 1)) × ((digit (f true false) ≤ 1) × (digit (f true true) ≤ 1))
  digits_small = ((digit_small (f false false), digit_small (f false true)), (digit_small (f true false), digit_small (f true true)))

  pub truth_bit : (x y : Bool) → eqb (truth_table f / 2 ^ (2 * bool_byte x + bool_byte y) % 2) 1 ≡ f x y
  truth_bit false false = digit_one (truth_table f / 1 % 2) (f false false) (omega (arith, digits_small))
  truth_bit false true = digit_one (truth_table f / 2 % 2) (f false true) (omega (arith, digits_small))
  truth_bit true false = digit_one (truth_table f / 4 % 2) (f true false) (omega (arith, digits_small))
  truth_bit true true = digit_one (truth_table f / 8 % 2) (f true true) (omega (arith, digits_small))

module _ (f : Bool → Bool) where
  pub skip_bit : (x : Bool) → eqb (skip_table f / 2 ^ bool_byte x % 2) 1 ≡ f x
  skip_bit false = digit_one (skip_table f / 1 % 2) (f false) (omega (arith, digit_small (f false), digit_small (f true)))
  skip_bit true = digit_one (skip_table f / 2 % 2) (f true) (omega (arith, digit_small (f false), digit_small (f true)))

module _ (f : Bit → Bool) where
  -- NOT
  pub value_not :
      (l : ℕ) (p : Read Expr) {x : Bool} {q n m : ℕ} → valued f (l - 1) p ≡ Done x q n m →
      Done (not x) (q + 1) n m ≡ valued f l (and_then p (λ t n. got (inv t) n))
  value_not l (got t n') {x} {q} {n} {m} h =
      let ex : value f t ≡ x = cc in
      let eq : steps f t ≡ q = cc in
      let en : n' ≡ n = cc in
      let em : l - 1 - nodes t ≡ m = cc in
      let e : l - (nodes t + 1) ≡ m = omega arith in
      rw (e, ex, eq, en)
  value_not l (fault n at) h = let z : ◌≡◌ {A = ℕ} 0 1 = cc in absurd (omega arith)

  pub value_broken :
      (l m : ℕ) (p : Read Expr) (g : Expr → ℕ → Read Expr) {n at : ℕ} → valued f m p ≡ Broken n at → valued f l (and_then p g) ≡ Broken n at
  value_broken l m (got t n) g h = let z : ◌≡◌ {A = ℕ} 0 1 = cc in absurd (omega arith)
  value_broken l m (fault n at) g h = h

  -- two parts
  join_gate :
      (l op : ℕ) (a : Expr) (q : Read Expr) →
      valued f l (and_then q (λ b m. got (gate op a b) m)) ≡ joined op (value f a) (steps f a) f (l - 1 - nodes a) q
  join_gate l op a (got b n) = let e : l - (nodes a + nodes b + 1) ≡ l - 1 - nodes a - nodes b = omega arith in rw e
  join_gate l op a (fault n at) = refl

  pub value_two :
      (l op : ℕ) (p : Read Expr) (part : ℕ → ℕ → Read Expr) {x : Bool} {q n m : ℕ} → valued f (l - 1) p ≡ Done x q n m →
      valued f l (and_then p (λ a n. and_then (part (l - 1 - nodes a) n) (λ b n. got (gate op a b) n))) ≡ joined op x q f m (part m n)
  value_two l op (got t n') part {x} {q} {n} {m} h =
      let ex : value f t ≡ x = cc in
      let eq : steps f t ≡ q = cc in
      let en : n' ≡ n = cc in
      let em : l - 1 - nodes t ≡ m = cc in
      rw (join_gate l op t (part (l - 1 - nodes t) n'), ex, eq, en, em)
  value_two l op (fault n at) part h = let z : ◌≡◌ {A = ℕ} 0 1 = cc in absurd (omega arith)

  module _ (k : Marks) (d l : ℕ) (s : List ℕ) (at : ℕ) (op : ℕ) (x : Bool) (p : ℕ) where
    pub join_skipped : {n m : ℕ} → skips_of op x ≡ true → passed l (expr_at k d l s at) ≡ Good n m
        → Done (gate_of op x false) (p + 1) n m ≡ joined op x p f l (expr_at k d l s at)
    join_skipped {n} {m} e h = go (expr_at k d l s at) h
      where
        go : (r : Read Expr) → passed l r ≡ Good n m → Done (gate_of op x false) (p + 1) n m ≡ joined op x p f l r
        go (got t n') h =
            let en : n' ≡ n = cc in
            let em : l - nodes t ≡ m = cc in
            rw (e, skip_same op x (value f t) false e, en, em)
        go (fault n at) h = let z : ◌≡◌ {A = ℕ} 0 1 = cc in absurd (omega arith)

    pub join_lost : {n q : ℕ} → passed l (expr_at k d l s at) ≡ Fault n q → Broken n q ≡ joined op x p f l (expr_at k d l s at)
    join_lost {n} {q} h = go (expr_at k d l s at) h
      where
        go : (r : Read Expr) → passed l r ≡ Fault n q → Broken n q ≡ joined op x p f l r
        go (got t n') h = let z : ◌≡◌ {A = ℕ} 0 1 = cc in absurd (omega arith)
        go (fault n at) h = cc

    pub join_both : {y : Bool} {q n m : ℕ} → skips_of op x ≡ false → valued f l (expr_at k d l s at) ≡ Done y q n m
        → Done (gate_of op x y) (p + q + 1) n m ≡ joined op x p f l (expr_at k d l s at)
    join_both {y} {q} {n} {m} e h = go (expr_at k d l s at) h
      where
        go : (r : Read Expr) → valued f l r ≡ Done y q n m → Done (gate_of op x y) (p + q + 1) n m ≡ joined op x p f l r
        go (got t n') h =
            let ey : value f t ≡ y = cc in
            let eq : steps f t ≡ q = cc in
            let en : n' ≡ n = cc in
            let em : l - nodes t ≡ m = cc in
            rw (e, ey, eq, en, em)
        go (fault n at) h = let z : ◌≡◌ {A = ℕ} 0 1 = cc in absurd (omega arith)

    pub join_broken : {n q : ℕ} → valued f l (expr_at k d l s at) ≡ Broken n q → Broken n q ≡ joined op x p f l (expr_at k d l s at)
    join_broken {n} {q} h = go (expr_at k d l s at) h
      where
        go : (r : Read Expr) → valued f l r ≡ Broken n q → Broken n q ≡ joined op x p f l r
        go (got t n') h = let z : ◌≡◌ {A = ℕ} 0 1 = cc in absurd (omega arith)
        go (fault n at) h = cc

  -- no more steps than nodes were left
  steps_of : (l : ℕ) (r : Read Expr) {x : Bool} {q n m : ℕ} → ((t : Expr) (n : ℕ) → r ≡ got t n → nodes t ≤ l) → valued f l r ≡ Done x q n m → q ≤ l
  steps_of l (got t n) {q = q} h e = let eq : steps f t ≡ q = cc in omega (arith, steps_nodes f t, h t n refl)
  steps_of l (fault n at) h e = let z : ◌≡◌ {A = ℕ} 0 1 = cc in absurd (omega arith)

  pub steps_few : (k : Marks) (d l : ℕ) (s : List ℕ) (at : ℕ) {x : Bool} {q n m : ℕ} → valued f l (expr_at k d l s at) ≡ Done x q n m → q ≤ l
  steps_few k d l s at e = steps_of l (expr_at k d l s at) (λ t n. few k d l s at) e

-- the lemmas by which one node's value follows from its parts' values, and an operator's from its second part's
pub ruleset valuing = (value_not, value_broken, value_two)

pub ruleset joining = (join_skipped, join_both, join_lost, join_broken, steps_few)
