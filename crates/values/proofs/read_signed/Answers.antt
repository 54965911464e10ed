-- `values::read_signed` meets its contract.
use Rattle.std.proofs.Common.{◌+◌}
use mathlib.Core.Path.{sym, ◌∙◌}
use native.Mathlib.Omega.{arith}
use borrow.Author.Tests.{ne_eqb}
use Rattle.grammar.proofs.From.{there}
use Rattle.values.specs.Reading.{plain_at, signed_at}
use Rattle.values.proofs.Ranges.{plain_most, value_got, value_bad}
use Rattle.values.proofs.read_signed.Goals as goal

pub read_plain-requires : goal.read_plain-requires
read_plain-requires c =
    let b = c.byte_at in omega (arith, there c.args.text.now c.args.at b.result (omega arith) (sym b.ensures))

pub returns-in_err-n : goal.returns-in_err-n
unfolding signed_at
returns-in_err-n c =
    let bad = value_bad (plain_at c.args.down c.args.text.now (c.args.at + 1)) c.in_err-n.ensures in
    rw c.from_residual.ensures (rw (sym c.byte_at.ensures ∙ c.if-byte_at-eq45.true, bad))

pub returns-then-n-eq0 : goal.returns-then-n-eq0
unfolding signed_at
returns-then-n-eq0 c =
    let got = value_got (plain_at c.args.down c.args.text.now (c.args.at + 1)) c.in_ok-n.ensures in
    rw (sym c.byte_at.ensures ∙ c.if-byte_at-eq45.true, got, c.if-n-eq0.true)

pub overflow_sub-result : goal.overflow_sub-result
overflow_sub-result c =
    let m = plain_most _ _ _ _ _ (value_got _ c.in_ok-n.ensures) in
    omega arith

pub returns-then-byte_at-eq45 : goal.returns-then-byte_at-eq45
unfolding signed_at
returns-then-byte_at-eq45 c =
    let got = value_got (plain_at c.args.down c.args.text.now (c.args.at + 1)) c.in_ok-n.ensures in
    rw (sym c.byte_at.ensures ∙ c.if-byte_at-eq45.true, got, ne_eqb _ _ c.if-n-eq0.false)

pub returns-in_err-n-2 : goal.returns-in_err-n-2
unfolding signed_at
returns-in_err-n-2 c =
    let bad = value_bad (plain_at c.args.up c.args.text.now c.args.at) c.in_err-n-2.ensures in
    rw c.from_residual-in_err-n-2.ensures (rw (← c.byte_at.ensures, ne_eqb _ _ c.if-byte_at-eq45.false, bad))

pub overflow_add-result : goal.overflow_add-result
overflow_add-result c =
    let m = plain_most _ _ _ _ _ (value_got _ c.in_ok-n-2.ensures) in
    omega arith

pub returns : goal.returns
unfolding signed_at
returns c =
    let got = value_got (plain_at c.args.up c.args.text.now c.args.at) c.in_ok-n-2.ensures in
    rw (← c.byte_at.ensures, ne_eqb _ _ c.if-byte_at-eq45.false, got)
