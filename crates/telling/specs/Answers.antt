-- What is answered and written for the scans of a window.
use Rattle.std.specs.Prelude.{List, ◌≡◌, ℕ, ◌+◌, ◌-◌, ◌*◌, ◌≤◌, length}
use Rattle.std.proofs.lemmas.List.Edits.{sets}
use Rattle.lines.specs.Lines.{line_bytes}
use Rattle.recording.specs.Recording.{least_bytes}
use Rattle.playback.specs.Playback.{Stage, opening, playing, over, Fed}
use Rattle.telling.specs.Lines.{lines_for}
use Rattle.telling.specs.declared.Player.{Player}
use Rattle.telling.specs.declared.Player.TheVariants.{Opening, Playing, Over}
use Rattle.telling.specs.declared.Fed.{Fed as FedAnswer}

-- the player of a recording that has come so far
abbrev pub player_of : Stage → Player
player_of opening = Opening
player_of (playing program st) = Playing (length program) st
player_of over = Over

-- a player's program is within its buffer
abbrev pub Held : Player → List ℕ → Type 0
Held Opening p = Unit {0}
Held (Playing size st) p = size ≤ length p
Held Over p = Unit {0}

-- there is room for the lines of a window: a line for each of its scans, and one more
abbrev pub Roomy : List ℕ → List ℕ → Type 0
Roomy w l = (length w + least_bytes) * line_bytes ≤ length l * least_bytes

-- the window w came to f: l was made m, and r is the answer
pub record Told (f : Fed) (w l m : List ℕ) (r : FedAnswer) : Type 0 where
  pub bytes : m ≡ sets l 0 (lines_for f.came)
  pub answer : r ≡ record { player = player_of f.stage; used = length w - length f.left; to = length (lines_for f.came) }
  pub within : r.to ≤ length m
