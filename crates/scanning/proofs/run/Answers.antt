-- `scanning::run` meets its contract: the block count, and the trial of what follows.
use Rattle.scanning.proofs.Runs.{no_count, counted}
use Rattle.numbers.proofs.Typed.{typed_below}
use lib.ListN.{length}
use native.Mathlib.Omega.{arith}
use mathlib.Core.Path.{◌≡◌, sym, ◌∙◌}
use borrow.Author.Rules.{rules}
use Rattle.scanning.proofs.run.Goals as goal

pub run_counted-requires : goal.run_counted-requires
run_counted-requires c =
    let e = sym c.in-Ok.ensures in
    omega (arith, typed_below _ _ _ _ _ e)

pub returns-in_default : goal.returns-in_default
returns-in_default c =
    let n = no_count _ _ _ (sym c.in_default.ensures) in
    record { value = c.refused.ensures ∙ n.answer; after = n.columns }

pub returns : goal.returns
returns c =
    let sized = c.columns_sized.ensures in let e = sym c.in-Ok.ensures in
    let eight : length c.args.analogs ≡ 8 = search rules in
    let r = counted _ _ _ eight sized e in
    record { value = c.run_counted.ensures.value ∙ r.answer; after = c.run_counted.ensures.after ∙ r.columns }
