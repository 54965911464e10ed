-- Request L4, import: the names of an alarms' line one by one, and how many there are (ours; Layout says what is good).
use Rattle.std.specs.Prelude.{ℕ, zero, suc, ◌+◌, List, [], ◌∷◌, length, ltb, leb, Option, None, Some}
use Rattle.terms.specs.Choice.{pick}
use Rattle.spelling.specs.Spelling.{Named}
use Rattle.spelling.specs.Spelling.{Bit as BitName, NoName}
use Rattle.spelling.specs.Spelling.{after_spaces, name_at}
use Rattle.words.specs.Words.{alarms, word_text}
use Rattle.layout.specs.Layout.{most_named}
use Rattle.layout.specs.Fields.{Found, found, lost}
use Rattle.layout.specs.Alarms.{alarms_from}
use Rattle.alarm_line.specs.declared.Alarm.{Alarm}
use Rattle.alarm_line.specs.declared.Alarm.TheVariants.{Bit, End, NoAlarm}

abbrev pub alarm_of : Named → Alarm
alarm_of (BitName r next) = Bit r next
alarm_of (NoName at) = NoAlarm

-- a name behind a space or more, or spaces to the end, or neither
unfoldable pub alarm_at : List ℕ → ℕ → Alarm
alarm_at s at =
    pick (leb (length s) (after_spaces s at)) End
    (pick (ltb at (after_spaces s at)) (alarm_of (name_at s (after_spaces s at))) NoAlarm)

-- a count of names and the place behind the word before them, or none; and how the code answers it
pub data Count : Type 0 where
  Names : ℕ → ℕ → Count
  NoCount : Count

abbrev pub as_count : Count → Option (ℕ × ℕ)
as_count (Names n at) = Some (n, at)
as_count NoCount = None

-- how many names were found behind a place, if a number of a program can count them
abbrev pub counted : ℕ → Found → Count
counted at (found vs) = pick (ltb (length vs) (suc most_named)) (Names (length vs) at) NoCount
counted at lost = NoCount

-- the place behind the word, and the names behind it
unfoldable pub names_place : List ℕ → ℕ
names_place s = after_spaces s 0 + length (word_text alarms)

unfoldable pub counted_in : List ℕ → Count
counted_in s = counted (names_place s) (alarms_from (suc (length s)) s)

abbrev pub named_first : Alarm → (ℕ → List ℕ) → List ℕ
named_first (Bit r next) rest = r ∷ rest next
named_first End rest = []
named_first NoAlarm rest = []

-- the references of the first so many names from a place on
unfoldable pub first_names : ℕ → List ℕ → ℕ → List ℕ
first_names zero s at = []
first_names (suc k) s at = named_first (alarm_at s at) (first_names k s)
