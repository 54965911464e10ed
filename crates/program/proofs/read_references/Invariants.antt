-- `program::read_references` meets its contract. The loop's invariant: what is left of the references is the whole.
use Rattle.program.specs.Answers.{end_of}
use Rattle.program.specs.Program.{references_at}
use Prim.Native.Nat.{◌-◌}
use mathlib.Core.Path.{◌≡◌}
use Rattle.program.proofs.read_references.Given as goal

abbrev pub invariant-loop : goal.invariant-loop
invariant-loop l = end_of (references_at l.marks l.n l.s l.start) ≡ end_of (references_at l.marks (l.n - l.counter) l.s l.at)
