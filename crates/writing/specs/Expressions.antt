-- Document 01, "Program bytes": an expression as the numbers that a program holds of it, and as their bytes; and that reading these gives it back.
use Rattle.std.specs.Prelude.{ℕ, suc, ◌+◌, max, ◌<◌, ◌≤◌, ◌≡◌, true, List, [], ◌∷◌, ◌++◌, length}
use Rattle.terms.specs.Choice.{every}
use Rattle.wire.specs.Number.{groups_of}
use Rattle.wire.specs.Facts.{Stands}
use Rattle.wire.specs.Reading.{got}
use Rattle.numbers.specs.Blocks.{Bit, off, on, input, output, Expr, ref, inv, gate, leaves, nodes, bit_code}
use Rattle.numbers.specs.Reading.{Marks, bit_marked}
use Rattle.nodes.specs.Reading.{expr_at}

-- "An expression is written operator first: 0 NOT (one part), 1 AND, 2 OR, 3 XOR, 4 NAND, 5 NOR (two parts), 6 + r the bit reference r."
abbrev pub operator_first : Expr → List ℕ
operator_first (ref b) = (6 + bit_code b) ∷ []
operator_first (inv t) = 0 ∷ operator_first t
operator_first (gate o a b) = o ∷ (operator_first a ++ operator_first b)

-- "the root has depth 1": how deep the deepest node is
abbrev pub depth : Expr → ℕ
depth (ref b) = 1
depth (inv t) = suc (depth t)
depth (gate o a b) = suc (max (depth a) (depth b))

-- "A number is one to three groups of seven bits": numbers one after the other, as bytes
abbrev pub bytes_of : List ℕ → List ℕ
bytes_of [] = []
bytes_of (v ∷ vs) = groups_of 3 v ++ bytes_of vs

-- operators of two parts 1..5, "input bit 0..31", "output of block 0..199"
abbrev pub InRange : Bit → Type 0
InRange off = Unit {0}
InRange on = Unit {0}
InRange (input i) = i < 32
InRange (output k) = k < 200

abbrev pub Proper : Expr → Type 0
Proper (ref b) = InRange b
Proper (inv t) = Proper t
Proper (gate o a b) = ((0 < o) × (o < 6)) × (Proper a × Proper b)

-- where the bytes of an expression stand in a program, they are read as that expression, if the levels and nodes left are enough for it and all that
-- it refers to is marked
pub record ReadBack : Type 0 where
  pub back :
      (m : Marks) (levels left : ℕ) (s : List ℕ) (at : ℕ) (t : Expr) → Proper t → every (bit_marked m) (leaves t) ≡ true → depth t ≤ levels →
      nodes t ≤ left → Stands (bytes_of (operator_first t)) s at → expr_at m levels left s at ≡ got t (at + length (bytes_of (operator_first t)))
