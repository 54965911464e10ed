-- Document 01, "One scan", BL: what an expression comes to, and in how many steps.
use Rattle.std.specs.Prelude.{Bool, true, false, not, ◌&&◌, ◌||◌, List, ℕ, ◌+◌, ◌-◌, ◌*◌, get_or, eqb, Result, Ok, Err}
use Rattle.std.specs.Bool.{beq}
use Rattle.terms.specs.Choice.{pick}
use Rattle.terms.specs.Bits.{digit}
use Rattle.numbers.specs.Blocks.{Bit, Expr, ref, inv, gate, nodes, bit_code}
use Rattle.wire.specs.Reading.{Read, got, fault}
use Rattle.terms.specs.declared.refusal.Fault.{Fault}
use Rattle.terms.specs.Refusals.{number_of}
use Rattle.expression.specs.declared.Value.{Value as ValueFound}

-- "1 AND, 2 OR, 3 XOR, 4 NAND, 5 NOR (two parts)"
unfoldable pub gate_of : ℕ → Bool → Bool → Bool
gate_of op x y =
    pick (eqb op 1) (x && y)
    (pick (eqb op 2) (x || y)
    (pick (eqb op 3) (not (beq x y))
    (pick (eqb op 4) (not (x && y))
    (not (x || y)))))

-- "AND and NAND leave the second part unvisited if the first is off; OR and NOR if it is on; XOR visits both."
unfoldable pub skips_of : ℕ → Bool → Bool
skips_of op x =
    pick (eqb op 1) (not x)
    (pick (eqb op 2) x
    (pick (eqb op 3) false
    (pick (eqb op 4) (not x)
    x)))

-- The same two as numbers (ours): bit 2x + y is what an operator makes of x and y; bit x is whether the second part is skipped after x
abbrev pub truth_table : (Bool → Bool → Bool) → ℕ
truth_table f = digit (f false false) + 2 * digit (f false true) + 4 * digit (f true false) + 8 * digit (f true true)

abbrev pub skip_table : (Bool → Bool) → ℕ
skip_table f = digit (f false) + 2 * digit (f true)

-- the value of an expression, where bit references read as f
abbrev pub value : (Bit → Bool) → Expr → Bool
value f (ref b) = f b
value f (inv t) = not (value f t)
value f (gate op a b) = gate_of op (value f a) (value f b)

-- "Steps are the nodes visited"
abbrev pub steps : (Bit → Bool) → Expr → ℕ
steps f (ref b) = 1
steps f (inv t) = steps f t + 1
steps f (gate op a b) = pick (skips_of op (value f a)) (steps f a + 1) (steps f a + steps f b + 1)

-- A list that has at each number what the bit reference of that number reads as (ours): off, on, 32 inputs, 200 outputs
abbrev pub bit_in : List Bool → Bit → Bool
bit_in l b = get_or l (bit_code b) false

-- the value of an expression, its steps, the place after it and the nodes left; or a refusal and its place
pub data Value : Type 0 where
  Done : Bool → ℕ → ℕ → ℕ → Value
  Broken : ℕ → ℕ → Value

-- the answers of the evaluator, of `left` nodes left
abbrev pub valued : (Bit → Bool) → ℕ → Read Expr → Value
valued f left (got t next) = Done (value f t) (steps f t) next (left - nodes t)
valued f left (fault n at) = Broken n at

-- the same of an operator whose first part came to x in p steps, over its second part
abbrev pub joined : ℕ → Bool → ℕ → (Bit → Bool) → ℕ → Read Expr → Value
joined op x p f left (got t next) =
    Done (gate_of op x (value f t)) (pick (skips_of op x) (p + 1) (p + steps f t + 1)) next (left - nodes t)
joined op x p f left (fault n at) = Broken n at

-- what an answer of the code says
abbrev pub value_of_answer : Result ValueFound Fault → Value
value_of_answer (Ok v) = Done v.on v.steps v.next v.left
value_of_answer (Err f) = Broken (number_of f.refusal) f.at
