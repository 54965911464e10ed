-- `hall::take` meets its contract: the state is put into arrays, a take from them is the take from the state, and they are the state after it.
use Prim.Native.Nat.{◌^◌, ◌<◌}
use mathlib.Core.Path.{ap, ◌∙◌}
use borrow.Author.Rules.{rules}
use Rattle.journal.proofs.Places.{length_mapped}
use Rattle.image.specs.Image.{Image, alarms_in, state_in}
use Rattle.calls.proofs.Whole.{Whole}
use Rattle.calls.proofs.States.{take_of_image, after_take_lem, took_fit}
use Rattle.hall.proofs.take.Goals as goal

pub state_in-requires : goal.state_in-requires
state_in-requires c =
    let s = c.args.state in
    let whole : Whole s = record { places = search (rules, length_mapped); entries = search (rules, length_mapped) } in
    let alarms : s.alarms < 2 ^ 32 = search rules in
    let e = rw c.put_state.ensures at c.take_in-a.ensures.after in
    rw (ap (λ (i : Image). alarms_in i.log) e ∙ (after_take_lem s whole alarms).alarms) (took_fit s whole alarms)

pub returns : goal.returns
returns c =
    let s = c.args.state in
    let whole : Whole s = record { places = search (rules, length_mapped); entries = search (rules, length_mapped) } in
    let alarms : s.alarms < 2 ^ 32 = search rules in
    let a = rw c.put_state.ensures at c.take_in-a.ensures.value ∙ take_of_image s whole alarms in
    let e = rw c.put_state.ensures at c.take_in-a.ensures.after in
    let b = c.state_in.ensures ∙ ap state_in e ∙ (after_take_lem s whole alarms).state in
    rw (a, b)
