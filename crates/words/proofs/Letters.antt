-- The words of a listing: what holds of each, and the table of eight bytes each in which the code has them, by one test each. Assumes nothing.
use Prim.Native.Nat.{ℕ, ◌<◌, ◌≤◌}
use mathlib.Core.Bool.{Bool}
use mathlib.Core.List.{List, []}
use lib.Dec.{leb, leb→le}
use lib.ListN.{length}
use Rattle.terms.proofs.Table.{at}
use Rattle.words.specs.Words.{words, word_count, word_text}

short : ℕ → List ℕ → Bool
short w text = leb (length text) 8

filled : ℕ → List ℕ → Bool
filled w text = leb 1 (length text)

module _ (w : ℕ) (h : w < word_count) where
  pub word_short : length (word_text w) ≤ 8
  unfolding word_text short
  word_short = leb→le _ _ (at short [] words tt w h)

  pub word_filled : 1 ≤ length (word_text w)
  unfolding word_text filled
  word_filled = leb→le _ _ (at filled [] words tt w h)
