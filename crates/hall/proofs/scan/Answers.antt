-- `hall::scan` meets its contract: the state is put into arrays, a scan of them is the scan of the state, and they are the state after it.
use Prim.Native.Nat.{◌^◌, ◌<◌}
use mathlib.Core.Path.{◌≡◌, ap, subst, ◌∙◌}
use borrow.Author.Rules.{rules}
use Rattle.journal.proofs.Places.{length_mapped}
use Rattle.image.specs.Image.{Image, alarms_in, state_in}
use Rattle.scanning.specs.Scan.{Inputs, inputs}
use Rattle.calls.specs.declared.ScanAnswer.{ScanAnswer}
use Rattle.calls.specs.Calls.{scan_of}
use Rattle.calls.specs.InPlace.{scan_answer}
use Rattle.calls.proofs.Figures.{scan_bounded}
use Rattle.calls.proofs.Whole.{Whole}
use Rattle.calls.proofs.States.{scan_of_image, after_scan_lem, alarms_fit}
use Rattle.hall.proofs.scan.Goals as goal

pub state_in-requires : goal.state_in-requires
state_in-requires c =
    let s = c.args in
    let whole : Whole s.state = record { places = search (rules, length_mapped); entries = search (rules, length_mapped) } in
    let alarms : s.state.alarms < 2 ^ 32 = search rules in
    let i : Inputs = inputs s.elapsed s.bits s.words in
    let a : c.scan_in-a.result ≡ scan_answer (scan_of s.program.now i s.state) =
    rw c.put_state.ensures at c.scan_in-a.ensures.value ∙ scan_of_image s.state whole alarms s.program.now i in
    let e = rw c.put_state.ensures at c.scan_in-a.ensures.after in
    let f : c.scan_in-a.result.alarms < 2 ^ 32 = search rules in
    rw (ap (λ (i : Image). alarms_in i.log) e ∙ (after_scan_lem s.state whole alarms s.program.now i).alarms)
    (alarms_fit s.state whole alarms s.program.now i (subst (λ (r : ScanAnswer). r.alarms < 2 ^ 32) a f))

pub returns : goal.returns
returns c =
    let s = c.args in
    let whole : Whole s.state = record { places = search (rules, length_mapped); entries = search (rules, length_mapped) } in
    let alarms : s.state.alarms < 2 ^ 32 = search rules in
    let i : Inputs = inputs s.elapsed s.bits s.words in
    let a : c.scan_in-a.result ≡ scan_answer (scan_of s.program.now i s.state) =
    rw c.put_state.ensures at c.scan_in-a.ensures.value ∙ scan_of_image s.state whole alarms s.program.now i in
    let e = rw c.put_state.ensures at c.scan_in-a.ensures.after in
    let b = c.state_in.ensures ∙ ap state_in e ∙ (after_scan_lem s.state whole alarms s.program.now i).state in
    record { value = rw (a, b); bounded = rw a (scan_bounded s.program.now i s.state) }
