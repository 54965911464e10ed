-- `feeding::listed` meets its contract: the lines of what windows come to, one after the other.
use mathlib.Core.Path.{◌≡◌, refl, sym, ap, ◌∙◌}
use mathlib.Core.List.{List, [], ◌∷◌, ◌++◌, append_assoc}
use Prim.Native.Nat.{ℕ}
use Rattle.playback.specs.Playback.{Came, Stage, Fed, fed}
use Rattle.windows.specs.Windows.{in_windows}
use Rattle.windows.proofs.Feeds.{windows}
use Rattle.telling.specs.Lines.{line_for, lines_for}
use Rattle.feeding.specs.Listing.{listing, texts_for, Listed}
use Rattle.feeding.proofs.listed.Goals as goal

lines_join : (a b : List Came) → lines_for (a ++ b) ≡ lines_for a ++ lines_for b
lines_join [] b = refl
lines_join (c ∷ a) b = rw (lines_join a b) (sym (append_assoc (line_for c) (lines_for a) (lines_for b)))

texts : (ws : List (List ℕ)) (g : Stage) (left : List ℕ) → texts_for g left ws ≡ lines_for (in_windows g left ws)
unfolding texts_for in_windows
texts [] g left = refl
texts (w ∷ ws) g left =
    let f : Fed = fed g (left ++ w) in
    rw (texts ws f.stage f.left) (sym (lines_join f.came (in_windows f.stage f.left ws)))

listed : Listed
unfolding listing
listed ws = texts ws _ [] ∙ ap lines_for (windows.same ws)

pub returns : goal.returns
returns c =
    listed
