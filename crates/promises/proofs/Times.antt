-- Times in ticks: at least the time, and at most a hundred times it.
use mathlib.Core.Bool.{Bool, true, false}
use Prim.Native.Nat.{ℕ, ◌*◌, ◌≤◌}
use native.Mathlib.Omega.{arith}
use lib.Dec.{eqb}
use Rattle.terms.specs.Choice.{pick}
use Rattle.timers.specs.Timers.{ticks_in}

least : (a b : Bool) (time : ℕ) → time ≤ time * pick a 1 (pick b 10 100)
least true b time = omega arith
least false true time = omega arith
least false false time = omega arith

most : (a b : Bool) (time : ℕ) → time * pick a 1 (pick b 10 100) ≤ time * 100
most true b time = omega arith
most false true time = omega arith
most false false time = omega arith

module _ (unit time : ℕ) where
  pub ticks_least : time ≤ ticks_in unit time
  unfolding ticks_in
  ticks_least = least (eqb unit 0) (eqb unit 1) time

  pub ticks_most : ticks_in unit time ≤ time * 100
  unfolding ticks_in
  ticks_most = most (eqb unit 0) (eqb unit 1) time
