-- `values::read_word` meets its contract.
use Rattle.std.proofs.Common.{◌+◌, ◌-◌}
use mathlib.Core.Path.{sym, ap, ◌∙◌}
use native.Mathlib.Omega.{arith}
use Rattle.spelling.specs.Spelling.{digits_at}
use Rattle.values.specs.Reading.{word_at}
use Rattle.values.proofs.Ranges.{digits_least, digits_ok, digits_none}
use Rattle.values.proofs.read_word.Goals as goal

pub overflow_sub-result : goal.overflow_sub-result
overflow_sub-result c =
    omega (arith, digits_least _ _ _ _ _ (digits_ok (digits_at 2 0 1 8 c.args.text.now (c.args.at + 1)) c.read_digits.ensures c.in_ok-n-in-65.ensures.value))

pub returns-in_err-n-in-65 : goal.returns-in_err-n-in-65
unfolding word_at
returns-in_err-n-in-65 c =
    let bad = digits_none (digits_at 2 0 1 8 c.args.text.now (c.args.at + 1)) c.read_digits.ensures c.in_err-n-in-65.ensures.value in
    rw c.from_residual.ensures (rw (sym c.byte_at.ensures ∙ c.in-65.is, bad.0))

pub returns-in_ok-n-in-65 : goal.returns-in_ok-n-in-65
unfolding word_at
returns-in_ok-n-in-65 c =
    let got = digits_ok (digits_at 2 0 1 8 c.args.text.now (c.args.at + 1)) c.read_digits.ensures c.in_ok-n-in-65.ensures.value in
    rw (sym c.byte_at.ensures ∙ c.in-65.is, got, ← c.from.ensures)

pub returns-in_err-n-in-87 : goal.returns-in_err-n-in-87
unfolding word_at
returns-in_err-n-in-87 c =
    let bad = digits_none (digits_at 3 0 0 199 c.args.text.now (c.args.at + 1)) c.read_digits-in-87.ensures c.in_err-n-in-87.ensures.value in
    rw c.from_residual-in_err-n-in-87.ensures (rw (sym c.byte_at.ensures ∙ c.in-87.is, bad.1))

pub returns-in_ok-n-in-87 : goal.returns-in_ok-n-in-87
unfolding word_at
returns-in_ok-n-in-87 c =
    let got = digits_ok (digits_at 3 0 0 199 c.args.text.now (c.args.at + 1)) c.read_digits-in-87.ensures c.in_ok-n-in-87.ensures.value in
    rw (sym c.byte_at.ensures ∙ c.in-87.is, got, ← c.from-in-87.ensures)
