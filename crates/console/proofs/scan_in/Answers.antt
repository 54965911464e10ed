-- `console::scan_in` meets its contract: each refusal, and the scan.
use Rattle.image.proofs.Images.{image_parts}
use Rattle.scanning.proofs.Ran.{ran, not_run, told}
use Rattle.calls.proofs.Scans.{good_parts, not_late, by_state, by_time, by_program, by_answer, image_after_lem}
use native.Mathlib.Omega.{arith}
use mathlib.Core.Path.{sym, ◌∙◌}
use Rattle.console.proofs.scan_in.Goals as goal

pub returns-then-not-good : goal.returns-then-not-good
returns-then-not-good c =
    let g = by_state _ _ _ (sym c.good.ensures ∙ c.if-not-good.true) in
    record { value = c.refuse_after.ensures ∙ g.0; after = g.1 }

pub returns-then-is_late : goal.returns-then-is_late
returns-then-is_late c =
    let good = good_parts _ (sym c.good.ensures ∙ c.if-not-good.false) in
    let g = by_time _ _ _ good (sym c.is_late.ensures ∙ c.if-is_late.true) in
    record { value = c.refuse_after-then-is_late.ensures ∙ g.0; after = g.1 }

pub returns-in_default : goal.returns-in_default
returns-in_default c =
    let good = good_parts _ (sym c.good.ensures ∙ c.if-not-good.false) in
    let n = not_run _ _ _ (sym c.run.ensures.value ∙ c.in_default.is) in
    let g = by_program _ _ _ good _ n.0 in
    record { value = c.refuse_after-in_default.ensures ∙ g.0; after = rw (c.run.ensures.after ∙ n.1) g.1 }

pub overflow_add-stamp : goal.overflow_add-stamp
overflow_add-stamp c =
    let fits = (not_late _ _ _ (sym c.is_late.ensures ∙ c.if-is_late.false)).0 in
    omega (arith, fits)

pub close-rises-requires : goal.close-rises-requires
close-rises-requires c =
    let good = good_parts _ (sym c.good.ensures ∙ c.if-not-good.false) in
    ((not_late _ _ _ (sym c.is_late.ensures ∙ c.if-is_late.false)).1, (image_parts _ good.is).alarms)

pub returns : goal.returns
returns c =
    let good = good_parts _ (sym c.good.ensures ∙ c.if-not-good.false) in
    let on_time = sym c.is_late.ensures ∙ c.if-is_late.false in
    let o = sym c.run.ensures.value ∙ c.in-Some.is in
    let r = ran _ _ _ o in
    let a = told _ _ _ r o in record {
      value = rw (c.close-rises.ensures.value, c.from.ensures, a) (sym (by_answer _ _ _ good on_time r));
      after = rw (c.close-rises.ensures.after, c.from.ensures, c.run.ensures.after, a) (image_after_lem _ _ _ good on_time r c.columns_sized.ensures);
    }
