-- Request L4, import: what is stored of a program decides about the whole, and how many bytes it may take.
use Rattle.std.specs.Prelude.{◌≤◌, ◌≡◌, true, List, length, take}
use Rattle.numbers.specs.Blocks.{Bit, Block}
use Rattle.writing.specs.Expressions.{bytes_of}
use Rattle.program.specs.Program.{Program}
use Rattle.program.specs.Acceptance.{accepted}
use Rattle.forms.specs.Written.{block_numbers, written}
use Rattle.fronts.specs.Fronts.{small, most_kept, alarms_front, front, SpeltBlock, Spelt}

pub record FrontDecides : Type 0 where
  -- what acceptance says of the front, it says of the whole program: the same refusal at the same place, or none
  pub decides : (p : Program) → Spelt p → accepted (bytes_of (front p)) ≡ accepted (written p)
  -- a front that is accepted is the whole program
  pub good_whole : (p : Program) → Spelt p → (accepted (bytes_of (front p))).refusal ≡ 0 → bytes_of (front p) ≡ written p
  -- what is kept of a block has room in 130 bytes: a kind and 64 nodes, of at most two bytes each; or at most six numbers of three
  pub kept_short : (b : Block) → SpeltBlock b → length (bytes_of (take most_kept (block_numbers b))) ≤ 130
  -- of a small block that is all of it
  pub small_whole : (b : Block) → SpeltBlock b → small b ≡ true → take most_kept (block_numbers b) ≡ block_numbers b
  -- what is kept of the alarms has room in 97 bytes: a count of one, and 32 numbers of at most three
  pub alarms_short : (rs : List Bit) → length (bytes_of (alarms_front rs)) ≤ 97
