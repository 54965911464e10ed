-- `running::turn_row` meets its contract: the row's numbers are allowed where they stand, and say what was read.
use Rattle.running.proofs.Rows.{ran}
use Rattle.running.proofs.Asks.{low_asks}
use Rattle.block.proofs.Rows.{row_stopped}
use Rattle.terms.proofs.Refusals.{handed_on}
use Rattle.rules.specs.Rows.{contents}
use Rattle.block.specs.Asking.{asking}
use Rattle.kinds.specs.Kinds.{types_of}
use Rattle.expression.specs.Expression.{bit_in}
use mathlib.Core.Path.{◌≡◌, ◌∙◌}
use native.Mathlib.Nat.{add-zero}
use Rattle.running.proofs.turn_row.Goals.{then-kind-ge9, else-kind-ge9}
use Rattle.running.proofs.turn_row.Goals as goal

pub returns-in_err-row : goal.returns-in_err-row
returns-in_err-row c =
    let h = row_stopped _ c.in_err-row.ensures in
    record { value = rw (handed_on _ c.from_residual.ensures.1, h); asks = rw h }

pub apply-requires : goal.apply-requires
apply-requires c =
    (c.requires.0, (ran _ _ c.requires.0 c.requires.1 _ _ _ c.in_ok-row.ensures).allow)

pub returns : goal.returns
returns c =
    -- the blocks asked for, whichever way the test went
    let asked : c.if-kind-ge9.asked ≡ asking (contents (types_of c.args.kind) 0 c.in_ok-row.row.fields) c.args.asked.now =
    elim c.if-kind-ge9.branch [
      | then-kind-ge9 w ↦ w.asked-is ∙ w.ask_words.ensures
      | else-kind-ge9 w ↦ w.asked-is ∙ low_asks _ w.if-kind-ge9.false _ _
    ] in
    let r = ran _ _ c.requires.0 c.requires.1 _ _ _ c.in_ok-row.ensures in record {
      value = rw (r.read, c.apply.ensures, c.memory_of.ensures, c.mark_of.ensures, r.one (bit_in c.args.bits.now), r.bare, add-zero);
      asks = rw r.read asked;
    }
