-- `promises::each_block` meets its contract: each clause by its law.
use lib.ListN.{length}
use Rattle.rules.specs.Rules.{ruled}
use Rattle.promises.specs.EachBlock.{EachBlock}
use Rattle.promises.proofs.OneScan.{one_block, later}
use Rattle.promises.proofs.Unset.{rule_pins, rule_ticks, rule_word}
use Rattle.promises.proofs.each_block.Goals as goal

all : EachBlock
unfolding ruled
all =
    record {
      reads = λ x p last n h inside. one_block x p.blocks last n (length p.blocks) h inside;
      beyond = λ x p last n h. later x p.blocks last n (length p.blocks) h;
      pins = λ f g e b p k. rw k (rule_pins _ _ _ e p);
      ticks = λ f g e b p k. rule_ticks _ _ _ e p b.kind k;
      word = λ f g e b p k. rule_word _ _ _ e p b.kind k;
    }

pub returns : goal.returns
returns c =
    all
