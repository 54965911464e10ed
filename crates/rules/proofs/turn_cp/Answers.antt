-- `rules::turn_cp` meets its contract: the letters of CP at its fields.
use lib.Dec.{lit<}
use mir.Syntax.{w16}
use mir.Facts.{to_z-of_z}
use Rattle.numbers.specs.Types.{content_of}
use Rattle.kinds.specs.Kinds.{kind_of, types_of}
use Rattle.rules.specs.Rules.{rule_of, ruled}
use Rattle.rules.specs.Rows.{contents}
use Rattle.rules.proofs.Fields.{here, below, word_allowed}
use Rattle.rules.proofs.turn_cp.Goals as goal

pub bit-i-requires : goal.bit-i-requires
unfolding content_of contents kind_of rule_of ruled
bit-i-requires c =
    below (types_of 9) _ c.requires 0 (lit< tt)

pub word-a-requires : goal.word-a-requires
unfolding content_of contents kind_of rule_of ruled
word-a-requires c =
    word_allowed _ _ (here (types_of 9) _ c.requires 2 (lit< tt))

pub word-b-requires : goal.word-b-requires
unfolding content_of contents kind_of rule_of ruled
word-b-requires c =
    word_allowed _ _ (here (types_of 9) _ c.requires 3 (lit< tt))

pub returns : goal.returns
unfolding content_of contents kind_of rule_of ruled
returns c =
    rw (
      c.pin.ensures,
      c.pack.ensures,
      c.cp.ensures,
      to_z-of_z {w = w16} {z = c.word-b.result} (record { sfits = c.word-b.type_inv }),
      c.word-b.ensures,
      to_z-of_z {w = w16} {z = c.word-a.result} (record { sfits = c.word-a.type_inv }),
      c.word-a.ensures,
      c.bit-i.ensures,
    )
