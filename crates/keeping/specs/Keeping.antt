-- What is kept of a window that was fed (ours).
use Rattle.std.specs.Prelude.{List, ◌++◌, ◌≡◌, ℕ, ◌+◌, ◌≤◌, ◌<◌, length, drop}
use Rattle.std.proofs.lemmas.List.Edits.{sets}
use Rattle.recording.specs.Recording.{program_bytes}
use Rattle.playback.specs.Playback.{Stage, Fed}
use Rattle.telling.specs.Lines.{lines_for}
use Rattle.telling.specs.Answers.{player_of, Held}
use Rattle.feeding.specs.Answers.{stage_of, program_after}
use Rattle.keeping.specs.declared.Keep.{Keep}

-- a recording had come as far as g, and its window w came to f: the buffer b, of which w is the front, was made d, the program's buffer p was made q, the text's
-- l was made m, and r is the answer; r and q have come as far as f, and what is kept is small
pub record Kept (g : Stage) (f : Fed) (w b d p q l m : List ℕ) (r : Keep) : Type 0 where
  pub buffer : d ≡ f.left ++ drop (length f.left) b
  pub program : q ≡ program_after g w p
  pub lines : m ≡ sets l 0 (lines_for f.came)
  pub answer : r ≡ record { player = player_of f.stage; kept = length f.left; to = length (lines_for f.came) }
  pub stage : stage_of r.player q ≡ f.stage
  pub short : r.kept < 3 + program_bytes
  pub small : Held r.player q
  pub within : r.to ≤ length m
