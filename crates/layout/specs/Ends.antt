-- The line that begins at a place of a text, by its end (ours).
use Rattle.std.specs.Prelude.{ℕ, ◌+◌, ◌≤◌, ◌≡◌, Bool, true, not, List, [], ◌∷◌, ◌++◌, length, drop, eqb}
use Rattle.terms.specs.Choice.{every}
use Rattle.layout.specs.Layout.{line_feed, carriage_return, LineEnd}

abbrev pub is_inside : ℕ → Bool
is_inside b = not (eqb b line_feed)

-- a line with its end, up to the place `last`, and the place after its end
pub record Split (s : List ℕ) (at last next : ℕ) : Type 0 where
  pub line : List ℕ
  pub end : List ℕ
  pub is_end : LineEnd end
  pub whole : drop at s ≡ line ++ (end ++ drop next s)
  pub inside : every is_inside line ≡ true
  -- a CR before the LF belongs to the end
  pub trimmed : (w : List ℕ) → line ≡ w ++ (carriage_return ∷ []) → end ≡ line_feed ∷ [] → ⊥
  pub length_line : last ≡ at + length line
  pub length_end : next ≡ last + length end
  pub within : next ≤ length s

-- there is no end from a place on
abbrev pub Open : List ℕ → ℕ → Type 0
Open s at = every is_inside (drop at s) ≡ true
