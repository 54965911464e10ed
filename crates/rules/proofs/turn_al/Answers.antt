-- `rules::turn_al` meets its contract: the letters of AL at its fields.
use lib.Dec.{lit<}
use Rattle.numbers.specs.Types.{content_of}
use Rattle.kinds.specs.Kinds.{kind_of, types_of}
use Rattle.rules.specs.Rules.{rule_of, ruled}
use Rattle.rules.specs.Rows.{contents}
use Rattle.rules.proofs.Fields.{below}
use Rattle.rules.proofs.turn_al.Goals as goal

pub bit-i-requires : goal.bit-i-requires
unfolding content_of contents kind_of rule_of ruled
bit-i-requires c =
    below (types_of 3) _ c.requires 0 (lit< tt)

pub bit-c-requires : goal.bit-c-requires
unfolding content_of contents kind_of rule_of ruled
bit-c-requires c =
    below (types_of 3) _ c.requires 1 (lit< tt)

pub returns : goal.returns
unfolding content_of contents kind_of rule_of ruled
returns c =
    rw (c.pin.ensures, c.pack.ensures, c.al.ensures, c.bit-c.ensures, c.bit-i.ensures)
