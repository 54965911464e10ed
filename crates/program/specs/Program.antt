-- Document 01, "Program bytes": what the bytes of a whole program mean.
use Rattle.std.specs.Prelude.{List, [], ◌∷◌, ℕ, zero, suc, ◌+◌, length, ltb}
use Rattle.terms.specs.Choice.{pick}
use Rattle.terms.specs.Refusals.{outside}
use Rattle.numbers.specs.Blocks.{Bit, Block}
use Rattle.numbers.specs.Types.{pin, block_count, alarm_count, bit_ref}
use Rattle.kinds.specs.Kinds.{memory_of, figure_of}
use Rattle.wire.specs.Reading.{Read, got, fault, and_then}
use Rattle.numbers.specs.Reading.{Marks, typed_at}
use Rattle.block.specs.Reading.{block_at}

pub record Program : Type 0 where
  pub blocks : List Block
  pub alarms : List Bit

-- "each block as kind and fields": n blocks
unfoldable pub blocks_at : Marks → ℕ → List ℕ → ℕ → Read (List Block)
blocks_at m zero s at = got [] at
blocks_at m (suc n) s at =
    and_then (block_at m s at) (λ b next. and_then (blocks_at m n s next) (λ bs end. got (b ∷ bs) end))

-- "that many bit references": n of them
unfoldable pub references_at : Marks → ℕ → List ℕ → ℕ → Read (List Bit)
references_at m zero s at = got [] at
references_at m (suc n) s at =
    and_then (typed_at m pin 0 s at) (λ v next. and_then (references_at m n s next) (λ rs end. got (bit_ref v ∷ rs) end))

-- "end": "bytes after the end" are outside, and the place is that "of the first extra byte after the end"
unfoldable pub end_at : List Bit → List ℕ → ℕ → Read (List Bit)
end_at rs s at = pick (ltb at (length s)) (fault outside at) (got rs at)

-- "alarm count (0..32); that many bit references; end"
unfoldable pub alarms_at : Marks → List ℕ → ℕ → Read (List Bit)
alarms_at m s at =
    and_then (typed_at m alarm_count 0 s at) (λ n at. and_then (references_at m n s at) (λ rs at. end_at rs s at))

-- what follows the block count: n blocks, the alarms, the end
abbrev pub after_count : Marks → ℕ → List ℕ → ℕ → Read Program
after_count m n s at =
    and_then (blocks_at m n s at) (λ bs at. and_then (alarms_at m s at) (λ rs at. got (record { blocks = bs; alarms = rs }) at))

-- "Order: block count (1..200); each block as kind and fields; alarm count (0..32); that many bit references; end."
unfoldable pub program_at : Marks → List ℕ → Read Program
program_at m s = and_then (typed_at m block_count 0 s 0) (λ n at. after_count m n s at)

-- memory and step figure of the blocks
abbrev pub memory : List Block → ℕ
memory [] = 0
memory (b ∷ bs) = memory_of b + memory bs

abbrev pub figure : List Block → ℕ
figure [] = 0
figure (b ∷ bs) = figure_of b + figure bs
