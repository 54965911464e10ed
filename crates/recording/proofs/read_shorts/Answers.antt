-- The loop reads one number more each turn.
use Prim.Native.Nat.{suc, ◌<◌}
use lib.Seq.{take_all, take-suc-set}
use native.Mathlib.Numerals.{add-one}
use Rattle.std.proofs.Common.{◌≡◌, ◌-◌, ◌+◌, ◌∙◌, arith, length, length-set, append-nil}
use Rattle.std.proofs.lemmas.Result.{err_from_is_err_and}
use Rattle.recording.specs.Recording.{shorts_at}
use Rattle.recording.proofs.Shorts.{one_more, no_more}
use Rattle.recording.proofs.read_shorts.Goals as goal

pub returns-in_err-v : goal.returns-in_err-v
returns-in_err-v c =
    let p = err_from_is_err_and c.from_residual.result c.from_residual.ensures.1 in
    let e : 11 - c.loop-value.value-index ≡ suc (11 - (c.loop-value.value-index + 1)) = omega arith in
    rw (p.1, p.2, c.loop-value.invariant.1, e) (no_more _ _ _ _ c.in_err-v.ensures)

pub loop-value-preserved : goal.loop-value-preserved
loop-value-preserved c =
    let l = c.loop-value in
    let e : 11 - l.value-index ≡ suc (11 - suc l.value-index) = omega arith in
    let h : l.value-index < length l.value-items = omega arith in
    (simp length-set l.invariant.0, rw (add-one l.value-index, take-suc-set) (l.invariant.1 ∙ rw e (one_more _ _ _ _ c.in_ok-v.ensures)))

pub returns : goal.returns
unfolding shorts_at
returns c =
    let l = c.loop-value in
    let e : 11 - l.value-index ≡ 0 = omega arith in
    let all = take_all l.value-index l.value-items (omega arith) in
    rw (l.invariant.1, e, all, append-nil l.value-items)
