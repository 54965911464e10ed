use Prim.Native.Nat.{◌-◌, ◌/◌}
use native.Mathlib.Omega.{arith}
use Rattle.filling.proofs.Puts.{put_last}
use Rattle.names.proofs.Names.{digits_long, digits_last}
use Rattle.names.proofs.+put_digits.Goals as goal

pub overflow_add-result : goal.overflow_add-result
overflow_add-result t c =
    omega (arith, c.put_digits-last.ensures.place, digits_long (c.args.digits - 1) (c.args.n / 10))

pub returns : goal.returns
returns t c =
    let a = c.args in
    rw (digits_last a.digits a.n (omega arith)) (put_last _ c.put_digits-last.ensures c.put_byte.ensures)
