-- `program::read_blocks` meets its contract. The loop's invariant: what is left of the blocks, after those tallied, is the whole.
use Rattle.program.specs.Answers.{blocks_read, read_from}
use Rattle.program.specs.Program.{blocks_at}
use mathlib.Core.Path.{◌≡◌}
use Prim.Native.Nat.{◌-◌, ◌*◌, ◌≤◌}
use Rattle.program.proofs.read_blocks.Given as goal

abbrev pub invariant-loop-i : goal.invariant-loop-i
invariant-loop-i l = record {
  memory_few : l.memory ≤ l.i * 337;
  steps_few : l.steps ≤ l.i * 315;
  left : blocks_read (blocks_at l.marks l.n l.s l.start) ≡ read_from l.i l.own l.memory l.steps (blocks_at l.marks (l.n - l.i) l.s l.at);
}
