-- `rules::turn_pl` meets its contract: the letters of PL at its fields.
use lib.Dec.{lit<}
use Rattle.numbers.specs.Types.{content_of}
use Rattle.kinds.specs.Kinds.{kind_of, types_of}
use Rattle.rules.specs.Rules.{rule_of, ruled}
use Rattle.rules.specs.Rows.{contents}
use Rattle.rules.proofs.Fields.{below}
use Rattle.rules.proofs.turn_pl.Goals as goal

pub bit-i-requires : goal.bit-i-requires
unfolding content_of contents kind_of rule_of ruled
bit-i-requires c =
    below (types_of 2) _ c.requires 0 (lit< tt)

pub returns : goal.returns
unfolding content_of contents kind_of rule_of ruled
returns c =
    rw (c.pin.ensures, c.pack.ensures, c.pl.ensures, c.bit-i.ensures)
