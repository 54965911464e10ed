-- The loop's invariant: the buffers are as long as they were, and what is kept is small.
use Rattle.std.proofs.Common.{◌≡◌, ◌+◌, ◌<◌, length}
use Rattle.recording.specs.Recording.{program_bytes}
use Rattle.telling.specs.Answers.{Held}
use Rattle.stream.proofs.print_recording.Given as goal

abbrev pub invariant-loop : goal.invariant-loop
invariant-loop g l =
    ((length l.buf ≡ length l.initial.buf) × ((length l.program ≡ length l.initial.program) × (length l.text ≡ length l.initial.text)))
    × ((l.k.kept < 3 + program_bytes) × Held l.k.player l.program)
