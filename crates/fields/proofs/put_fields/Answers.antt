use Prim.Native.Nat.{◌<◌}
use native.Mathlib.Omega.{arith}
use lib.ListN.{length, get_or}
use Rattle.filling.proofs.Puts.{put_none, put_then}
use Rattle.kinds.specs.Kinds.{fields_of}
use Rattle.columns.specs.Columns.{field_of}
use Rattle.columns.proofs.Rows.{fields_few}
use Rattle.fields.proofs.Fields.{codes_on, codes_end}
use Rattle.fields.proofs.Lengths.{field_short}
use Rattle.fields.proofs.put_fields.Goals as goal

pub loop-i-init : goal.loop-i-init
loop-i-init c =
    record { all = c.count_of-count.ensures; within = omega arith; rest = λ m e p. p }

pub loop-i-preserved : goal.loop-i-preserved
loop-i-preserved c =
    let inv = c.loop-i.invariant in let i = c.loop-i.i in let p = rw c.from.ensures at c.put_field-next.ensures in let h : i < length (fields_of c.args.kind) = omega arith in
    record {
      all = inv.all;
      within = omega (arith, inv.within, p.place, field_short (field_of c.args.kind i) (get_or c.args.fields i 0));
      rest = λ m e q. inv.rest m e (rw (codes_on (fields_of c.args.kind) c.args.fields i h (omega (arith, fields_few c.args.kind))) (put_then p q));
    }

pub returns : goal.returns
returns c =
    let l = c.loop-i in l.invariant.rest _ _ (rw (codes_end (fields_of c.args.kind) _ l.i (omega arith)) (put_none _ _))

pub put_field-next-requires : goal.put_field-next-requires
put_field-next-requires c =
    (record { plain = c.requires.0; known = c.requires.1.0; there = omega arith }, omega (arith, c.loop-i.invariant.within, fields_few c.args.kind))

pub count_of-count-requires : goal.count_of-count-requires
count_of-count-requires c =
    c.requires.1.0

pub bounds-fields-from : goal.bounds-fields-from
bounds-fields-from c =
    omega (arith, c.from.ensures, c.loop-i.invariant.all, fields_few c.args.kind)
