-- `recording::read_shorts` meets its contract. The loop's invariant: what is left, behind the numbers stored, is the whole.
use Rattle.std.proofs.Common.{◌≡◌, ◌-◌, length, take}
use Rattle.recording.specs.Recording.{shorts_at}
use Rattle.recording.proofs.Shorts.{behind}
use Rattle.recording.proofs.read_shorts.Given as goal

abbrev pub invariant-loop-value : goal.invariant-loop-value
invariant-loop-value l =
    (length l.value-items ≡ 11) × (shorts_at 11 l.s l.start ≡ behind (take l.value-index l.value-items) (shorts_at (11 - l.value-index) l.s l.at))
