-- What is answered and written for a window, and how the next one goes on.
use Rattle.std.specs.Prelude.{List, ◌≡◌, ℕ, take, drop}
use Rattle.std.proofs.lemmas.List.Edits.{sets}
use Rattle.playback.specs.Playback.{Stage, opening, playing, over, Fed, opening_in}
use Rattle.playback.specs.Answers.{copied}
use Rattle.telling.specs.Answers.{Told}
use Rattle.telling.specs.declared.Player.{Player}
use Rattle.telling.specs.declared.Player.TheVariants.{Opening, Playing, Over}
use Rattle.telling.specs.declared.Fed.{Fed as FedAnswer}

-- how far a player and the buffer of its program have come
abbrev pub stage_of : Player → List ℕ → Stage
stage_of Opening p = opening
stage_of (Playing size st) p = playing (take size p) st
stage_of Over p = over

-- the buffer of a program after a window was fed
abbrev pub program_after : Stage → List ℕ → List ℕ → List ℕ
program_after opening w p = sets p 0 (copied (opening_in w))
program_after (playing program st) w p = p
program_after over w p = p

-- the window w came to f, the buffer p of the program was made q, and l was made m; r and q have come as far as f, and what is not used is left
pub record FedOn (g : Stage) (f : Fed) (w p q l m : List ℕ) (r : FedAnswer) : Type 0 where
  pub told : Told f w l m r
  pub program : q ≡ program_after g w p
  pub stage : stage_of r.player q ≡ f.stage
  pub left : drop r.used w ≡ f.left
