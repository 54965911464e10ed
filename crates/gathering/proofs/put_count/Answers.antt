-- `gathering::put_count` meets its contract: one byte before place 2, or two.
use Rattle.gathering.proofs.Stored.{count_one, count_two}
use Rattle.gathering.proofs.put_count.Goals as goal

pub returns-then-n-lt128 : goal.returns-then-n-lt128
returns-then-n-lt128 c =
    record { place = count_one _ c.if-n-lt128.true; bytes = c.put_number.ensures.bytes }

pub returns : goal.returns
returns c =
    record {
      place = count_two _ c.if-n-lt128.false c.requires;
      bytes = c.put_number-2.ensures.bytes;
    }
