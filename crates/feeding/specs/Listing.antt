-- Document 01, "The listing program": what scanlist prints, bytes for bytes.
use Rattle.std.specs.Prelude.{List, [], ◌∷◌, ◌++◌, ◌≡◌, ℕ}
use Rattle.playback.specs.Playback.{Stage, opening, fed, finished, course}
use Rattle.windows.specs.Windows.{joined}
use Rattle.telling.specs.Lines.{lines_for}

-- what is printed for a recording
unfoldable pub listing : List ℕ → List ℕ
listing s = lines_for (course s)

-- the texts for its windows, one after the other: each is fed behind what is left of those before it
unfoldable pub texts_for : Stage → List ℕ → List (List ℕ) → List ℕ
texts_for g left [] = lines_for (finished g left)
texts_for g left (w ∷ ws) = let f = fed g (left ++ w) in lines_for f.came ++ texts_for f.stage f.left ws

-- however a recording is cut into windows, their texts are its listing
abbrev pub Listed : Type 0
Listed = (ws : List (List ℕ)) → texts_for opening [] ws ≡ listing (joined ws)
