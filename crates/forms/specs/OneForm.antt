-- Document 01, "Program bytes": a program has one form. Reading what is written gives it back, and what can be read was written so.
use Rattle.std.specs.Prelude.{ℕ, ◌+◌, ◌≡◌, true, List, length}
use Rattle.wire.specs.Facts.{Stands, Bytes}
use Rattle.wire.specs.Reading.{got}
use Rattle.numbers.specs.Blocks.{Block}
use Rattle.numbers.specs.Reading.{Marks, bit_marked, word_marked}
use Rattle.writing.specs.Expressions.{bytes_of}
use Rattle.block.specs.Reading.{block_at}
use Rattle.program.specs.Program.{Program, program_at}
use Rattle.program.specs.Acceptance.{every_block, accepted}
use Rattle.program.specs.References.{block_passes, all_pass}
use Rattle.forms.specs.Written.{block_numbers, written, BlockHolds, ProgramHolds}

-- these bytes are a program as it is written
pub data IsWritten (s : List ℕ) : Type 0 where
  is_written : (p : Program) → program_at every_block s ≡ got p (length s) → s ≡ written p → ProgramHolds p → IsWritten s

pub record OneForm : Type 0 where
  -- reading what is written gives the program back, where every reference is let through, as in the first reading of acceptance
  pub first_back : (p : Program) → ProgramHolds p → program_at every_block (written p) ≡ got p (length (written p))
  -- and by any marks, if all that it refers to is marked
  pub back :
      (m : Marks) (p : Program) → ProgramHolds p → all_pass (bit_marked m) (word_marked m) p ≡ true →
      program_at m (written p) ≡ got p (length (written p))
  -- a program that can be read is the written form of what was read
  pub form :
      (m : Marks) (s : List ℕ) (p : Program) (end : ℕ) → Bytes s → program_at m s ≡ got p end →
      (s ≡ written p) × ((end ≡ length s) × ProgramHolds p)
  -- the same of one block, at any place
  pub block_back :
      (m : Marks) (s : List ℕ) (at : ℕ) (b : Block) → BlockHolds b → block_passes (bit_marked m) (word_marked m) b ≡ true →
      Stands (bytes_of (block_numbers b)) s at → block_at m s at ≡ got b (at + length (bytes_of (block_numbers b)))
  pub block_form :
      (m : Marks) (s : List ℕ) (at : ℕ) (b : Block) (next : ℕ) → Bytes s → block_at m s at ≡ got b next →
      Stands (bytes_of (block_numbers b)) s at × ((next ≡ at + length (bytes_of (block_numbers b))) × BlockHolds b)
  -- an accepted program is one as it is written
  pub accepted_form : (s : List ℕ) → Bytes s → (accepted s).refusal ≡ 0 → IsWritten s
  -- and what is written are bytes
  pub bytes : (p : Program) → Bytes (written p)
