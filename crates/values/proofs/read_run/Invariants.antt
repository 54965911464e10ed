-- `values::read_run` meets its contract. The loop's invariant: what is still to come makes the whole run.
use Prim.Native.Nat.{ℕ, ◌+◌, ◌-◌, ◌≤◌}
use mathlib.Core.Path.{◌≡◌}
use mathlib.Core.List.{List}
use lib.ListN.{length}
use Rattle.values.specs.Reading.{run_at}
use Rattle.values.proofs.read_run.Given as goal

pub record Going (s : List ℕ) (at count number : ℕ) : Type 0 where
  pub same : run_at (6 - count) count number s (at + count) ≡ run_at 6 0 0 s at
  pub within : at + count ≤ length s

abbrev pub invariant-loop-count : goal.invariant-loop-count
invariant-loop-count l = Going l.text l.at l.count l.number
