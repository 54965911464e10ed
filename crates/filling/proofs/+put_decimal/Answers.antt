use Prim.Native.Nat.{◌/◌}
use mathlib.Core.List.{[]}
use native.Mathlib.Omega.{arith}
use Rattle.filling.specs.Filling.{decimal, Put}
use Rattle.filling.proofs.Puts.{put_none, put_last}
use Rattle.filling.proofs.Decimals.{decimal_one, decimal_more, decimal_short}
use Rattle.filling.proofs.+put_decimal.Goals as goal
use Rattle.filling.proofs.+put_decimal.Goals.{then-n-lt10, else-n-lt10}

pub overflow_add-result : goal.overflow_add-result
overflow_add-result t c =
    elim c.if-n-lt10.branch [
      | then-n-lt10 w ↦ omega arith
      | else-n-lt10 w ↦ omega (arith, w.put_decimal-last.ensures.place, decimal_short c.args.n (omega arith))
    ]

pub returns : goal.returns
returns t c =
    let a = c.args in let j = c.if-n-lt10 in
    elim c.if-n-lt10.branch [
      | then-n-lt10 w ↦ let q : Put [] a.out.now a.at j.out j.last = rw (w.out-is, w.last-is) (put_none a.out.now a.at) in
          rw (decimal_one a.n (omega arith)) (put_last _ q c.put_byte.ensures)
      | else-n-lt10 w ↦ let q : Put (decimal (a.n / 10)) a.out.now a.at j.out j.last = rw (w.out-is, w.last-is) w.put_decimal-last.ensures in
          rw (decimal_more a.n (omega arith) (omega arith)) (put_last _ q c.put_byte.ensures)
    ]
