-- `rules::turn_og` meets its contract: the letters of OG at its fields.
use lib.Dec.{lit<}
use native.Mathlib.Omega.{arith}
use mir.Syntax.{w16}
use mir.Facts.{to_z-of_z}
use Rattle.numbers.specs.Types.{content_of}
use Rattle.kinds.specs.Kinds.{kind_of, types_of}
use Rattle.rules.specs.Rules.{rule_of, ruled}
use Rattle.rules.specs.Rows.{contents}
use Rattle.rules.proofs.Fields.{here, below, word_allowed, divisor_allowed}
use Rattle.terms.proofs.Words.{not_zero_lem}
use Rattle.rules.proofs.turn_og.Goals as goal

pub bit-i-requires : goal.bit-i-requires
unfolding content_of contents kind_of rule_of ruled
bit-i-requires c =
    below (types_of 10) _ c.requires 0 (lit< tt)

pub overflow_cast-f : goal.overflow_cast-f
unfolding content_of contents kind_of rule_of ruled
overflow_cast-f c =
    omega (arith, below (types_of 10) _ c.requires 1 (lit< tt))

pub overflow_cast-f-2 : goal.overflow_cast-f-2
unfolding content_of contents kind_of rule_of ruled
overflow_cast-f-2 c =
    omega (arith, below (types_of 10) _ c.requires 2 (lit< tt))

pub overflow_cast-f-3 : goal.overflow_cast-f-3
unfolding content_of contents kind_of rule_of ruled
overflow_cast-f-3 c =
    omega (arith, below (types_of 10) _ c.requires 3 (lit< tt))

pub word-x-requires : goal.word-x-requires
unfolding content_of contents kind_of rule_of ruled
word-x-requires c =
    word_allowed _ _ (here (types_of 10) _ c.requires 4 (lit< tt))

pub og-requires : goal.og-requires
unfolding content_of contents kind_of rule_of ruled
og-requires c =
    rw (to_z-of_z {w = w16} {z = c.signed-b.result} (record { sfits = c.signed-b.type_inv }), c.signed-b.ensures)
    (not_zero_lem _ (divisor_allowed _ _ (here (types_of 10) _ c.requires 2 (lit< tt))))

pub returns : goal.returns
unfolding content_of contents kind_of rule_of ruled
returns c =
    rw (
      c.pin.ensures,
      c.pack.ensures,
      c.og.ensures,
      to_z-of_z {w = w16} {z = c.word-x.result} (record { sfits = c.word-x.type_inv }),
      c.word-x.ensures,
      to_z-of_z {w = w16} {z = c.signed-c.result} (record { sfits = c.signed-c.type_inv }),
      c.signed-c.ensures,
      to_z-of_z {w = w16} {z = c.signed-b.result} (record { sfits = c.signed-b.type_inv }),
      c.signed-b.ensures,
      to_z-of_z {w = w16} {z = c.signed-a.result} (record { sfits = c.signed-a.type_inv }),
      c.signed-a.ensures,
      c.bit-i.ensures,
    )
