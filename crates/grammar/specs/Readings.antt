-- Request L1: what is promised of the grammar, and where a text that is no formula goes wrong.
use Rattle.std.specs.Prelude.{ℕ, ◌+◌, ◌<◌, ◌≤◌, ◌≡◌, List, ◌++◌, length, take}
use Rattle.numbers.specs.Blocks.{Expr}
use Rattle.grammar.specs.Grammar.{Formula}

-- some good text has this beginning
pub data Begins (s : List ℕ) : Type 0 where
  goes_on : (z : List ℕ) (t : Expr) → Formula (s ++ z) t → Begins s

-- "7 bad text, with the offset of the first byte that no good text with the same beginning could have there .., or the text's length if it only stops
-- too soon"
pub record BadAt (s : List ℕ) (k : ℕ) : Type 0 where
  pub no_reading : (t : Expr) → Formula s t → ⊥
  pub within : k ≤ length s
  pub same_beginning : Begins (take k s)
  pub no_such_byte : k < length s → Begins (take (k + 1) s) → ⊥

-- a text is good, or bad at a place
pub data Judged (s : List ℕ) : Type 0 where
  good : (t : Expr) → Formula s t → Judged s
  bad : (k : ℕ) → BadAt s k → Judged s

-- "Every text has one reading or none", and one that has none is bad at one place
pub record Readings : Type 0 where
  pub judged : (s : List ℕ) → Judged s
  pub one_reading : (s : List ℕ) (t u : Expr) → Formula s t → Formula s u → t ≡ u
  pub one_place : (s : List ℕ) (j k : ℕ) → BadAt s j → BadAt s k → j ≡ k
