-- `recording::words_of` meets its contract: each turn makes the front that is equal longer by one word.
use Rattle.std.proofs.Common.{◌≡◌, length, map, take, drop}
use Rattle.terms.specs.Words.{signed}
use Rattle.recording.proofs.words_of.Given as goal

abbrev pub invariant-loop-i : goal.invariant-loop-i
invariant-loop-i l = (length l.word-items ≡ 8) × (take l.i l.word-items ≡ map signed (take l.i (drop 3 l.values)))
