-- `alarms::put_names` meets its contract. The loop's invariant: what is left of the names, put after what is put already, is the whole.
use Prim.Native.Nat.{ℕ, ◌+◌, ◌*◌, ◌-◌, ◌≤◌}
use mathlib.Core.List.{List}
use Rattle.wire.specs.Reading.{IsGot}
use Rattle.filling.specs.Filling.{Put}
use Rattle.numbers.specs.Reading.{Marks}
use Rattle.program.specs.Program.{references_at}
use Rattle.alarms.specs.Texts.{names_in}
use Rattle.alarms.proofs.put_names.Given as goal

pub record Going (k : Marks) (s : List ℕ) (start n : ℕ) (l : List ℕ) (to : ℕ) (out : List ℕ) (at end left : ℕ) : Type 0 where
  pub there : IsGot (references_at k left s at)
  pub within : end + 5 * left ≤ to + 5 * n
  pub rest : (m : List ℕ) (e : ℕ) → Put (names_in (references_at k left s at)) out end m e → Put (names_in (references_at k n s start)) l to m e

abbrev pub invariant-loop : goal.invariant-loop
invariant-loop l = Going l.marks l.s l.start l.n l.initial.out l.to l.out l.at l.end (l.n - l.counter)
