use mathlib.Core.Path.{refl, sym, ◌∙◌}
use native.Mathlib.Omega.{arith}
use lib.ListN.{length-set}
use Rattle.kinds.specs.Kinds.{fields_of}
use Rattle.columns.proofs.Rows.{fields_few}
use Rattle.values.proofs.Ranges.{value_got, value_bad}
use Rattle.columns.specs.Columns.{field_of}
use Rattle.layout.specs.Fields.{fields_from}
use Rattle.lining.specs.Lining.{field_at}
use Rattle.lining.proofs.Steps.{field_known, field_inside, all_of, field_lost, field_found, more_follows, none_follows}
use Rattle.lining.proofs.read_fields.Goals as goal

pub loop-i-init : goal.loop-i-init
loop-i-init c =
    let e = c.count_of-count.ensures in record {
      whole = e;
      few = omega (arith, fields_few c.args.kind);
      places = refl;
      inside = c.requires.0;
      same = all_of (fields_from (fields_of c.args.kind) c.args.line.now c.args.start);
    }

pub returns-in_err-n : goal.returns-in_err-n
returns-in_err-n c =
    let l = c.loop-i in c.from_residual.ensures
    ∙ sym (field_lost _ _ l.numbers l.i l.at (omega arith) (value_bad (field_at (field_of c.args.kind l.i) c.args.line.now l.at) c.in_err-n.ensures)) ∙ l.invariant.same

pub loop-i-preserved : goal.loop-i-preserved
loop-i-preserved c =
    let l = c.loop-i in let s = c.args.line.now in let e = value_got (field_at (field_of c.args.kind l.i) s l.at) c.in_ok-n.ensures in
    let k = field_known c.args.kind l.i c.requires.1.0 c.requires.1.1 (omega arith) in
    record {
      whole = l.invariant.whole;
      few = l.invariant.few;
      places = simp length-set l.invariant.places;
      inside = field_inside s l.at _ _ _ l.invariant.inside k.type e;
      same = sym (field_found (fields_of c.args.kind) s l.numbers l.i l.at (omega arith) _ _ e) ∙ l.invariant.same;
    }

pub returns-then-skip_spaces-line : goal.returns-then-skip_spaces-line
returns-then-skip_spaces-line c =
    let l = c.loop-i in sym (more_follows _ _ l.numbers l.i l.at (omega arith) (omega (arith, c.skip_spaces.ensures))) ∙ l.invariant.same

pub returns : goal.returns
returns c =
    let l = c.loop-i in sym (none_follows _ _ l.numbers l.i l.at (omega arith) (omega (arith, c.skip_spaces.ensures))) ∙ l.invariant.same

pub read_field-requires : goal.read_field-requires
read_field-requires c =
    record { at_in_bounds = c.loop-i.invariant.inside; kind_nonzero = (c.requires.1, omega arith) }
