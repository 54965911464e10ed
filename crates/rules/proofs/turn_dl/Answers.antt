-- `rules::turn_dl` meets its contract: the letters of DL at its fields.
use lib.Dec.{lit<}
use native.Mathlib.Nat.{le_of_suc-le-suc}
use Rattle.numbers.specs.Types.{content_of}
use Rattle.kinds.specs.Kinds.{kind_of, types_of}
use Rattle.rules.specs.Rules.{rule_of, ruled}
use Rattle.rules.specs.Rows.{contents}
use Rattle.rules.proofs.Fields.{below}
use Rattle.rules.proofs.turn_dl.Goals as goal

pub bit-i-requires : goal.bit-i-requires
unfolding content_of contents kind_of rule_of ruled
bit-i-requires c =
    below (types_of 4) _ c.requires 0 (lit< tt)

pub bit-c-requires : goal.bit-c-requires
unfolding content_of contents kind_of rule_of ruled
bit-c-requires c =
    below (types_of 4) _ c.requires 1 (lit< tt)

pub dl-requires : goal.dl-requires
unfolding content_of contents kind_of rule_of ruled
dl-requires c =
    (le_of_suc-le-suc (below (types_of 4) _ c.requires 3 (lit< tt)), le_of_suc-le-suc (below (types_of 4) _ c.requires 4 (lit< tt)))

pub returns : goal.returns
unfolding content_of contents kind_of rule_of ruled
returns c =
    rw (c.pin.ensures, c.pack.ensures, c.dl.ensures, c.bit-c.ensures, c.bit-i.ensures)
