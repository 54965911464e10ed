use Prim.Native.Nat.{◌+◌, ◌-◌, ◌<◌}
use mathlib.Core.Path.{◌≡◌}
use native.Mathlib.Omega.{arith}
use Rattle.filling.proofs.Puts.{put_none, put_then, put_behind}
use Rattle.numbers.specs.Types.{bit_ref}
use Rattle.shown.proofs.Plain.{name_short}
use Rattle.alarms.proofs.Alarms.{first_there, rest_there, names_on, names_end}
use Rattle.alarms.proofs.put_names.Goals as goal

pub loop-preserved : goal.loop-preserved
loop-preserved c =
    let inv = c.loop.invariant in let n = c.args.n in let i = c.loop.counter in let h : 0 < n - i = omega arith in
    let o : n - (i + 1) ≡ n - i - 1 = omega arith in let e = c.read_known-r.ensures in record {
      there = rw o (rest_there _ _ _ h e inv.there);
      within = omega (arith, inv.within, c.put_name-end.ensures.place, name_short (bit_ref c.read_known-r.result.number));
      rest = λ m d q. inv.rest m d (rw (names_on _ _ _ h e inv.there, ← o) (put_then (put_behind c.put_byte.ensures c.put_name-end.ensures) q));
    }

pub loop-init : goal.loop-init
loop-init c =
    let o : c.args.n - 0 ≡ c.args.n = omega arith in
    record { there = rw o c.requires.0; within = omega arith; rest = λ m e p. rw o at p }

pub read_known-r-requires : goal.read_known-r-requires
read_known-r-requires c =
    let l = c.loop in let h : 0 < c.args.n - l.counter = omega arith in
    (omega arith, first_there _ _ l.at h l.invariant.there)

pub overflow_add-end : goal.overflow_add-end
overflow_add-end c =
    omega (arith, c.loop.invariant.within)

pub put_name-end-requires : goal.put_name-end-requires
put_name-end-requires c =
    omega (arith, c.loop.invariant.within)

pub returns : goal.returns
returns c =
    let l = c.loop in let a = c.args in l.invariant.rest _ _ (rw (names_end a.marks.now a.s.now l.at {n = a.n - l.counter} (omega arith)) (put_none _ _))
