-- What is read can be shown: its operators and names are in range. Assumes nothing.
use Prim.Native.Nat.{ℕ, ◌<◌}
use mathlib.Core.List.{List}
use native.Mathlib.Omega.{arith}
use Rattle.numbers.specs.Blocks.{Bit, Expr}
use Rattle.grammar.specs.Grammar.{Name, name_0, name_1, name_I, name_B, Level, Operator, and_sign, nand_sign, xor_sign, or_sign, nor_sign}
use Rattle.grammar.specs.Grammar.{Reads, alone, joined, named, negated, grouped, Formula}
use Rattle.writing.specs.Expressions.{InRange, Proper}

name_in_range : {w : List ℕ} {b : Bit} → Name w b → InRange b
name_in_range name_0 = tt
name_in_range name_1 = tt
name_in_range (name_I h x) = h
name_in_range (name_B h x) = h

sign_in_range : {list : Level} {o : ℕ} {w : List ℕ} → Operator list o w → (0 < o) × (o < 6)
sign_in_range and_sign = omega arith
sign_in_range nand_sign = omega arith
sign_in_range xor_sign = omega arith
sign_in_range or_sign = omega arith
sign_in_range nor_sign = omega arith

reads_proper : {around : ℕ} {l : Level} {s : List ℕ} {t : Expr} → Reads around l s t → Proper t
reads_proper (alone c x) = reads_proper x
reads_proper (joined c x y z) = (sign_in_range y, (reads_proper x, reads_proper z))
reads_proper (named m n x) = name_in_range x
reads_proper (negated m x) = reads_proper x
reads_proper (grouped m n h x) = reads_proper x

pub read_proper : (s : List ℕ) (t : Expr) → Formula s t → Proper t
read_proper s t x = reads_proper x
