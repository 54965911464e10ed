-- `typed::as_typed` meets its contract.
use Rattle.typed.proofs.Answering.{answered, one_answer, seven, two, none, numbers, back}
use Rattle.typed.proofs.as_typed.Goals as goal

pub returns : goal.returns
returns c =
    record {
      answered = answered;
      one_answer = one_answer;
      seven = seven;
      two = two;
      none = none;
      numbers = numbers;
      back = back;
    }
