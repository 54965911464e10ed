-- `exporting::export_program` meets its contract, by its three ends.
use mathlib.Core.Path.{ap, ◌∙◌}
use native.Mathlib.Omega.{arith}
use Rattle.exchange.specs.Exchange.{done}
use Rattle.exporting.proofs.Exports.{not_accepted, can_be_read, too_short, handed_over}
use Rattle.exporting.proofs.export_program.Goals as goal

pub returns-then-a-ne0 : goal.returns-then-a-ne0
returns-then-a-ne0 c =
    let given = c.args in let o = not_accepted given.program.now c.accept-a.ensures given.out.now (λ z. omega (arith, c.if-a-ne0.true)) in
    (c.refuse.ensures ∙ o.0, o.1)

pub returns-then-out-length : goal.returns-then-out-length
returns-then-out-length c =
    let given = c.args in let o = too_short given.program.now c.accept-a.ensures given.out.now (omega (arith, c.if-a-ne0.false)) (omega (arith, c.if-out-length.true, c.measure-length.ensures)) in
    (c.refuse-then-out-length.ensures ∙ o.0, o.1)

pub returns : goal.returns
returns c =
    let given = c.args in let o = handed_over given.program.now c.accept-a.ensures given.out.now (omega (arith, c.if-a-ne0.false)) (omega (arith, c.if-out-length.false, c.measure-length.ensures)) in
    (c.finish.ensures ∙ ap done c.measure-length.ensures ∙ o.0, c.put_listing.ensures.bytes ∙ o.1)

pub measure-length-requires : goal.measure-length-requires
measure-length-requires c =
    can_be_read _ c.accept-a.ensures (omega (arith, c.if-a-ne0.false))

pub put_listing-requires : goal.put_listing-requires
put_listing-requires c =
    can_be_read _ c.accept-a.ensures (omega (arith, c.if-a-ne0.false))
