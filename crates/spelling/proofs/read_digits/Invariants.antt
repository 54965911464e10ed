-- `spelling::read_digits` meets its contract. The loop's invariant: what is still to come makes the whole number.
use Prim.Native.Nat.{ℕ, ◌-◌, ◌≤◌}
use mathlib.Core.Path.{◌≡◌}
use mathlib.Core.List.{List}
use Rattle.spelling.specs.Spelling.{digits_at}
use Rattle.spelling.proofs.read_digits.Given as goal

pub record Going (s : List ℕ) (at count least most p n left : ℕ) : Type 0 where
  pub same : digits_at left n least most s p ≡ digits_at count 0 least most s at
  pub few : left ≤ 3
  pub small : n ≤ 999

abbrev pub invariant-loop-i : goal.invariant-loop-i
invariant-loop-i l = Going l.text l.at l.count l.least l.most l.p l.n (l.count - l.i)
