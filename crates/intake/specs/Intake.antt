-- What comes of what a read gave (ours).
use Rattle.std.specs.Prelude.{List, [], ◌≡◌, Result, Ok, Err, Option, Some, None, ℕ, ◌+◌, ◌≤◌, length, take}
use Rattle.std.proofs.lemmas.List.Edits.{sets}
use Rattle.playback.specs.Playback.{Stage, over, fed, finished}
use Rattle.telling.specs.Lines.{lines_for}
use Rattle.telling.specs.Answers.{player_of}
use Rattle.keeping.specs.declared.Keep.{Keep}
use Rattle.keeping.specs.Keeping.{Kept}

-- a run that has ended, with a text of so many bytes
abbrev pub ended_at : ℕ → Keep
ended_at to = record { player = player_of over; kept = 0; to = to }

-- it ended where `text` was to be said: that was put over l, which made it m; the buffer and the program's stayed, and r is the answer
pub record Ended (text b d p q l m : List ℕ) (r : Keep) : Type 0 where
  pub buffer : d ≡ b
  pub program : q ≡ p
  pub lines : m ≡ sets l 0 text
  pub answer : r ≡ ended_at (length text)
  pub within : r.to ≤ length m

-- What comes of `got`, where a recording had come as far as g, and the first k bytes of the buffer b were kept.
pub data WentOn {E : Type 0} (got : Result (Option ℕ) E) (g : Stage) (k : ℕ) (b d p q l m : List ℕ) (r : Keep) : Type 0 where
  -- a read that failed says nothing
  fails : (e : E) → got ≡ Err e → Ended [] b d p q l m r → WentOn got g k b d p q l m r
  -- at the end of the input it is told what is left
  ends : got ≡ Ok None → Ended (lines_for (finished g (take k b))) b d p q l m r → WentOn got g k b d p q l m r
  -- n bytes that were read stand behind those that were kept, and all of them are fed
  reads : (n : ℕ) → got ≡ Ok (Some n) → Kept g (fed g (take (k + n) b)) (take (k + n) b) b d p q l m r → WentOn got g k b d p q l m r
