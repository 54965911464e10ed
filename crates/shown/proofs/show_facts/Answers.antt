-- `shown::show_facts` meets its contract; that there is no other reading is the grammar's own theorem.
use Rattle.grammar.proofs.Builds.{one_reading}
use Rattle.shown.specs.Show.{show}
use Rattle.shown.proofs.Accepted.{accepted_proper}
use Rattle.shown.proofs.Back.{reads_back}
use Rattle.shown.proofs.Fewest.{fewest}
use Rattle.shown.proofs.Plain.{short, no_line_end}
use Rattle.shown.proofs.Read.{read_proper}
use Rattle.shown.proofs.show_facts.Goals as goal

pub returns : goal.returns
returns c =
    record {
      reads_back = reads_back;
      only = λ t u x p h. one_reading (show t) t u (reads_back t p h) x;
      fewest = fewest;
      read_proper = read_proper;
      accepted_proper = accepted_proper;
      short = short;
      no_line_end = no_line_end;
    }
