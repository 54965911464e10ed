-- `fields::put_field` meets its contract: left out, or put.
use mathlib.Core.Path.{sym, ◌∙◌}
use native.Mathlib.Omega.{arith}
use Rattle.filling.proofs.Puts.{put_none}
use Rattle.columns.proofs.Rows.{fields_few}
use Rattle.layout.specs.Listed.{field_text}
use Rattle.fields.proofs.Fields.{name_known}
use Rattle.fields.proofs.put_field.Goals as goal

pub returns-then-leaves_out : goal.returns-then-leaves_out
unfolding field_text
returns-then-leaves_out c =
    rw (sym c.leaves_out.ensures ∙ c.if-leaves_out.true) (put_none _ _)

pub returns : goal.returns
unfolding field_text
returns c =
    rw (sym c.leaves_out.ensures ∙ c.if-leaves_out.false, ← c.name_of.ensures, ← c.type_of.ensures) c.put_named.ensures

pub put_named-requires : goal.put_named-requires
put_named-requires c =
    (rw c.name_of.ensures (name_known c.requires.0), c.requires.1)

pub leaves_out-requires : goal.leaves_out-requires
leaves_out-requires c =
    (c.requires.0.known, omega (arith, c.requires.0.there, fields_few c.args.kind))

pub name_of-requires : goal.name_of-requires
name_of-requires c =
    (c.requires.0.known, omega (arith, c.requires.0.there, fields_few c.args.kind))

pub type_of-requires : goal.type_of-requires
type_of-requires c =
    (c.requires.0.known, omega (arith, c.requires.0.there, fields_few c.args.kind))
