-- What stands in a line as alarms, as bit references (ours; Layout says what is good).
use Rattle.std.specs.Prelude.{ℕ, zero, suc, ◌+◌, List, [], length, ltb, leb}
use Rattle.terms.specs.Choice.{pick}
use Rattle.spelling.specs.Spelling.{Named}
use Rattle.spelling.specs.Spelling.{Bit, NoName}
use Rattle.spelling.specs.Spelling.{after_spaces, name_at}
use Rattle.words.specs.Words.{alarms, word_text}
use Rattle.words.specs.Standing.{stands_at}
use Rattle.layout.specs.Fields.{Found, found, lost, before}

abbrev pub taken_name : Named → (ℕ → Found) → Found
taken_name (Bit r next) rest = before r (rest next)
taken_name (NoName at) rest = lost

-- names from a place to the end, each behind a space or more: fewer than `left`
unfoldable pub names_from : ℕ → List ℕ → ℕ → Found
names_from zero s at = lost
names_from (suc left) s at =
    pick (leb (length s) (after_spaces s at)) (found [])
    (pick (ltb at (after_spaces s at)) (taken_name (name_at s (after_spaces s at)) (names_from left s)) lost)

-- the names of an alarms' line
unfoldable pub alarms_from : ℕ → List ℕ → Found
alarms_from left s =
    pick (stands_at (word_text alarms) s (after_spaces s 0)) (names_from left s (after_spaces s 0 + length (word_text alarms))) lost
