-- `rules::turn_sr` meets its contract: the letters of SR at its fields.
use lib.Dec.{lit<}
use Rattle.numbers.specs.Types.{content_of}
use Rattle.kinds.specs.Kinds.{kind_of, types_of}
use Rattle.rules.specs.Rules.{rule_of, ruled}
use Rattle.rules.specs.Rows.{contents}
use Rattle.rules.proofs.Fields.{below}
use Rattle.rules.proofs.turn_sr.Goals as goal

pub bit-s-requires : goal.bit-s-requires
unfolding content_of contents kind_of rule_of ruled
bit-s-requires c =
    below (types_of 1) _ c.requires 0 (lit< tt)

pub bit-r-requires : goal.bit-r-requires
unfolding content_of contents kind_of rule_of ruled
bit-r-requires c =
    below (types_of 1) _ c.requires 1 (lit< tt)

pub returns : goal.returns
unfolding content_of contents kind_of rule_of ruled
returns c =
    rw (c.pin.ensures, c.pack.ensures, c.sr.ensures, c.bit-r.ensures, c.bit-s.ensures)
