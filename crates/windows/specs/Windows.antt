-- A recording that comes in windows comes to the same, however it is cut; and what more bytes may still change of it.
use Rattle.std.specs.Prelude.{Bool, true, false, List, [], ◌∷◌, ◌++◌, ◌≡◌, ℕ, ◌+◌, ◌<◌, length}
use Rattle.terms.specs.Choice.{every}
use Rattle.recording.specs.Recording.{program_bytes}
use Rattle.playback.specs.Playback.{Came, ran, refused, bad_scan, cut_scan, bad_program, cut_program, Stage, opening, fed, finished, course}

-- each window is fed behind what is left of those before it
unfoldable pub in_windows : Stage → List ℕ → List (List ℕ) → List Came
in_windows g left [] = finished g left
in_windows g left (w ∷ ws) = let f = fed g (left ++ w) in f.came ++ in_windows f.stage f.left ws

abbrev pub joined : List (List ℕ) → List ℕ
joined [] = []
joined (w ∷ ws) = w ++ joined ws

-- whether a recording may go on from it if more bytes follow: from a scan that ran, and from what is cut; not from what is badly formed or out of range,
-- nor from a refusal, even with 8, since the length says where the program ends
abbrev pub goes_on : Came → Bool
goes_on (ran x a) = true
goes_on (refused n at) = false
goes_on bad_scan = false
goes_on cut_scan = true
goes_on bad_program = false
goes_on cut_program = true

pub record Windows : Type 0 where
  pub same : (ws : List (List ℕ)) → in_windows opening [] ws ≡ course (joined ws)
  -- what is left is shorter than a length of three bytes and the longest program, so a buffer of that size is never full of it
  pub short : (g : Stage) (l : List ℕ) → length (fed g l).left < 3 + program_bytes
  -- L2: "whether to send again or to throw the file away": where anything is refused, badly formed or out of range, whatever follows changes nothing
  pub closed : (u v : List ℕ) → every goes_on (course u) ≡ false → course (u ++ v) ≡ course u
