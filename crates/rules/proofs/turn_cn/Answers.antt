-- `rules::turn_cn` meets its contract: the letters of CN at its fields.
use lib.Dec.{lit<}
use mir.Syntax.{w16}
use mir.Facts.{to_z-of_z}
use Rattle.numbers.specs.Types.{content_of}
use Rattle.kinds.specs.Kinds.{kind_of, types_of}
use Rattle.rules.specs.Rules.{rule_of, ruled}
use Rattle.rules.specs.Rows.{contents}
use Rattle.rules.proofs.Fields.{below}
use Rattle.terms.proofs.Words.{small_fits}
use Rattle.rules.proofs.turn_cn.Goals as goal

pub bit-i-requires : goal.bit-i-requires
unfolding content_of contents kind_of rule_of ruled
bit-i-requires c =
    below (types_of 7) _ c.requires 0 (lit< tt)

pub bit-c-requires : goal.bit-c-requires
unfolding content_of contents kind_of rule_of ruled
bit-c-requires c =
    below (types_of 7) _ c.requires 1 (lit< tt)

pub overflow_cast-preset : goal.overflow_cast-preset
unfolding content_of contents kind_of rule_of ruled
overflow_cast-preset c =
    small_fits (below (types_of 7) _ c.requires 2 (lit< tt))

pub returns : goal.returns
unfolding content_of contents kind_of rule_of ruled
returns c =
    rw (
      c.pin.ensures,
      c.pack.ensures,
      c.cn.ensures,
      to_z-of_z {w = w16} (small_fits (below (types_of 7) _ c.requires 2 (lit< tt))),
      c.bit-c.ensures,
      c.bit-i.ensures,
    )
