-- `rules::turn_fl` meets its contract: the letters of FL at its fields.
use lib.Dec.{lit<}
use native.Mathlib.Nat.{le_of_suc-le-suc}
use Rattle.numbers.specs.Types.{content_of}
use Rattle.kinds.specs.Kinds.{kind_of, types_of}
use Rattle.rules.specs.Rules.{rule_of, ruled}
use Rattle.rules.specs.Rows.{contents}
use Rattle.rules.proofs.Fields.{here, below, off_allowed}
use Rattle.rules.proofs.turn_fl.Goals as goal

pub bit-i-requires : goal.bit-i-requires
unfolding content_of contents kind_of rule_of ruled
bit-i-requires c =
    below (types_of 6) _ c.requires 0 (lit< tt)

pub fl-requires : goal.fl-requires
unfolding content_of contents kind_of rule_of ruled
fl-requires c = (
  le_of_suc-le-suc (below (types_of 6) _ c.requires 2 (lit< tt)),
  (le_of_suc-le-suc (below (types_of 6) _ c.requires 3 (lit< tt)), off_allowed _ _ (here (types_of 6) _ c.requires 3 (lit< tt))),
)

pub returns : goal.returns
unfolding content_of contents kind_of rule_of ruled
returns c =
    rw (c.pin.ensures, c.pack.ensures, c.fl.ensures, c.bit-i.ensures)
