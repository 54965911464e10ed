-- `console::take_in` meets its contract: the refusal, and the take from the log.
use Rattle.calls.proofs.Scans.{good_parts}
use Rattle.calls.proofs.Takes.{no_take, few, by_take, image_taken}
use mathlib.Core.Path.{sym, ◌∙◌}
use Rattle.console.proofs.take_in.Goals as goal

pub returns-then-not-good : goal.returns-then-not-good
returns-then-not-good c =
    let g = no_take _ (sym c.good.ensures ∙ c.if-not-good.true) in
    record { value = c.refuse_take.ensures ∙ g.0; after = g.1 }

pub hand_out-oldest-requires : goal.hand_out-oldest-requires
hand_out-oldest-requires c =
    few _ (good_parts _ (sym c.good.ensures ∙ c.if-not-good.false))

pub returns : goal.returns
returns c =
    let good = good_parts _ (sym c.good.ensures ∙ c.if-not-good.false) in
    let out = c.hand_out-oldest.ensures in
    record { value = rw (c.is_some.ensures, c.unwrap_or.ensures, c.zero.ensures, out.value) (sym (by_take _ good)); after = rw out.after (image_taken _ good c.columns_sized.ensures) }
