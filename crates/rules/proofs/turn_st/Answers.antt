-- `rules::turn_st` meets its contract: the letters of ST at its fields.
use lib.Dec.{lit<}
use mir.Syntax.{w16}
use mir.Facts.{to_z-of_z}
use Rattle.numbers.specs.Types.{content_of}
use Rattle.kinds.specs.Kinds.{kind_of, types_of}
use Rattle.rules.specs.Rules.{rule_of, ruled}
use Rattle.rules.specs.Rows.{contents}
use Rattle.rules.proofs.Fields.{here, below, word_allowed}
use Rattle.rules.proofs.turn_st.Goals as goal

pub bit-i-requires : goal.bit-i-requires
unfolding content_of contents kind_of rule_of ruled
bit-i-requires c =
    below (types_of 12) _ c.requires 0 (lit< tt)

pub word-x-requires : goal.word-x-requires
unfolding content_of contents kind_of rule_of ruled
word-x-requires c =
    word_allowed _ _ (here (types_of 12) _ c.requires 1 (lit< tt))

pub word-h-requires : goal.word-h-requires
unfolding content_of contents kind_of rule_of ruled
word-h-requires c =
    word_allowed _ _ (here (types_of 12) _ c.requires 2 (lit< tt))

pub word-l-requires : goal.word-l-requires
unfolding content_of contents kind_of rule_of ruled
word-l-requires c =
    word_allowed _ _ (here (types_of 12) _ c.requires 3 (lit< tt))

pub returns : goal.returns
unfolding content_of contents kind_of rule_of ruled
returns c =
    rw (
      c.pin.ensures,
      c.pack.ensures,
      c.st.ensures,
      to_z-of_z {w = w16} {z = c.word-l.result} (record { sfits = c.word-l.type_inv }),
      c.word-l.ensures,
      to_z-of_z {w = w16} {z = c.word-h.result} (record { sfits = c.word-h.type_inv }),
      c.word-h.ensures,
      to_z-of_z {w = w16} {z = c.word-x.result} (record { sfits = c.word-x.type_inv }),
      c.word-x.ensures,
      c.bit-i.ensures,
    )
