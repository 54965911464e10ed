-- `rules::turn_ud` meets its contract: the letters of UD at its fields.
use lib.Dec.{lit<}
use native.Mathlib.Omega.{arith}
use mir.Syntax.{w16}
use mir.Facts.{to_z-of_z}
use Rattle.numbers.specs.Types.{content_of}
use Rattle.kinds.specs.Kinds.{kind_of, types_of}
use Rattle.rules.specs.Rules.{rule_of, ruled}
use Rattle.rules.specs.Rows.{contents}
use Rattle.rules.proofs.Fields.{below}
use Rattle.rules.proofs.turn_ud.Goals as goal

pub bit-u-requires : goal.bit-u-requires
unfolding content_of contents kind_of rule_of ruled
bit-u-requires c =
    below (types_of 8) _ c.requires 0 (lit< tt)

pub bit-d-requires : goal.bit-d-requires
unfolding content_of contents kind_of rule_of ruled
bit-d-requires c =
    below (types_of 8) _ c.requires 1 (lit< tt)

pub bit-set-requires : goal.bit-set-requires
unfolding content_of contents kind_of rule_of ruled
bit-set-requires c =
    below (types_of 8) _ c.requires 2 (lit< tt)

pub bit-c-requires : goal.bit-c-requires
unfolding content_of contents kind_of rule_of ruled
bit-c-requires c =
    below (types_of 8) _ c.requires 3 (lit< tt)

pub overflow_cast-f : goal.overflow_cast-f
unfolding content_of contents kind_of rule_of ruled
overflow_cast-f c =
    omega (arith, below (types_of 8) _ c.requires 4 (lit< tt))

pub returns : goal.returns
unfolding content_of contents kind_of rule_of ruled
returns c =
    rw (
      c.pin.ensures,
      c.pack.ensures,
      c.ud.ensures,
      to_z-of_z {w = w16} {z = c.signed-preset.result} (record { sfits = c.signed-preset.type_inv }),
      c.signed-preset.ensures,
      c.bit-c.ensures,
      c.bit-set.ensures,
      c.bit-d.ensures,
      c.bit-u.ensures,
    )
