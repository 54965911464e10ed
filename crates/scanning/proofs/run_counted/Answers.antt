-- `scanning::run_counted` meets its contract: what is loaded, the trial on it, and what of it is stored.
use Rattle.scanning.proofs.run_counted.Goals as goal

pub returns-in_err-r : goal.returns-in_err-r
returns-in_err-r c =
    let e = rw (c.load_bits.ensures, c.load_words.ensures, c.copy_first.ensures, c.copy_first-2.ensures) at c.try_program.ensures.value in
    record { value = rw c.from_residual.ensures (rw c.in_err-r.was at e); after = rw (← e, c.in_err-r.was) }

pub returns : goal.returns
returns c =
    let e = rw (c.load_bits.ensures, c.load_words.ensures, c.copy_first.ensures, c.copy_first-2.ensures) at c.try_program.ensures.value in
    let a = rw (c.load_bits.ensures, c.load_words.ensures, c.copy_first.ensures, c.copy_first-2.ensures) at c.try_program.ensures.after in
    record {
      value = rw c.in_ok-r.was at e;
      after = rw (c.copy_first-3.ensures, c.store_words.ensures, c.copy_first-4.ensures, c.store_outputs.ensures, ← a, ← e, c.in_ok-r.was);
    }
