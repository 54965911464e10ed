-- `lining::read_field` meets its contract: what stands behind its name, or what it is read as where it is left out.
use mathlib.Core.Path.{sym, ◌∙◌}
use native.Mathlib.Omega.{arith}
use Rattle.columns.proofs.Rows.{fields_few}
use Rattle.columns.specs.Columns.{field_of}
use Rattle.lining.specs.Lining.{field_at}
use Rattle.lining.proofs.Steps.{field_known, value_begins, value_inside, must_stand_lem, may_be_left}
use Rattle.lining.proofs.read_field.Goals as goal

pub is_named-requires : goal.is_named-requires
is_named-requires c =
    let k = field_known c.args.kind c.args.i c.requires.kind_nonzero.0.0 c.requires.kind_nonzero.0.1 c.requires.kind_nonzero.1 in
    (c.requires.at_in_bounds, omega (arith, c.name_of-name.ensures, k.name))

pub word_size-requires : goal.word_size-requires
word_size-requires c =
    let k = field_known c.args.kind c.args.i c.requires.kind_nonzero.0.0 c.requires.kind_nonzero.0.1 c.requires.kind_nonzero.1 in
    omega (arith, c.name_of-name.ensures, k.name)

-- a value begins within
pub overflow_add-p-then-is_named : goal.overflow_add-p-then-is_named
overflow_add-p-then-is_named c =
    let a = c.args in let x =
    value_inside a.line.now a.at _ c.skip_spaces.result c.word_size.result c.skip_spaces.ensures c.word_size.ensures
    (sym c.is_named.ensures ∙ c.if-is_named.true) in
    record { fits = omega arith }

pub overflow_add-p : goal.overflow_add-p
overflow_add-p c =
    record { fits = omega (arith, (overflow_add-p-then-is_named c).fits) }

pub read_value-requires : goal.read_value-requires
read_value-requires c =
    let k = field_known c.args.kind c.args.i c.requires.kind_nonzero.0.0 c.requires.kind_nonzero.0.1 c.requires.kind_nonzero.1 in (
      value_inside c.args.line.now c.args.at _ _ _ c.skip_spaces.ensures c.word_size.ensures
          (sym c.is_named.ensures ∙ c.if-is_named.true),
      omega (arith, c.type_of.ensures, k.type),
    )

pub returns-then-is_named : goal.returns-then-is_named
unfolding field_at
returns-then-is_named c =
    rw (
      ← c.name_of-name.ensures,
      sym c.is_named.ensures ∙ c.if-is_named.true,
      ← (value_begins _ _ _ _ _ c.skip_spaces.ensures c.word_size.ensures),
      ← c.type_of.ensures,
    )
    c.read_value.ensures

pub returns-then-v : goal.returns-then-v
unfolding field_at
returns-then-v c =
    let a = c.args in rw (
      ← c.name_of-name.ensures,
      sym c.is_named.ensures ∙ c.if-is_named.false,
      must_stand_lem a.kind a.i a.at (sym c.left_out_of-v.ensures ∙ c.if-v.true),
    )

pub returns : goal.returns
unfolding field_at
returns c =
    let a = c.args in rw (
      ← c.name_of-name.ensures,
      sym c.is_named.ensures ∙ c.if-is_named.false,
      may_be_left (field_of a.kind a.i).left_out_as a.at (λ e. c.if-v.false (c.left_out_of-v.ensures ∙ e)),
      ← c.left_out_of-v.ensures,
      c.from.ensures,
    )

pub name_of-name-requires : goal.name_of-name-requires
name_of-name-requires c =
    (c.requires.kind_nonzero.0.1, omega (arith, fields_few c.args.kind))

pub type_of-requires : goal.type_of-requires
type_of-requires c =
    (c.requires.kind_nonzero.0.1, omega (arith, fields_few c.args.kind))

pub left_out_of-v-requires : goal.left_out_of-v-requires
left_out_of-v-requires c =
    (c.requires.kind_nonzero.0.1, omega (arith, fields_few c.args.kind))
