-- `forms::one_form` meets its contract: the laws.
use Rattle.forms.specs.Written.{program_numbers, written}
use Rattle.forms.proofs.Standing.{numbers_bytes}
use Rattle.forms.proofs.Back.{first_back, block_back, program_back}
use Rattle.forms.proofs.Form.{block_form, program_form, accepted_form}
use Rattle.forms.proofs.one_form.Goals as goal

pub returns : goal.returns
unfolding written
returns c =
    record {
      first_back = first_back;
      back = program_back;
      form = program_form;
      block_back = block_back;
      block_form = block_form;
      accepted_form = accepted_form;
      bytes = λ p. numbers_bytes (program_numbers p);
    }
