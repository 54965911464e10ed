-- Request L4, import: what is put of an alarms' line.
use Rattle.std.specs.Prelude.{ℕ, ◌≡◌, List, Option, None, Some}
use Rattle.filling.specs.Filling.{Put}
use Rattle.numbers.specs.Blocks.{Bit}
use Rattle.writing.specs.Expressions.{bytes_of}
use Rattle.fronts.specs.Fronts.{alarms_front}
use Rattle.layout.specs.Layout.{AlarmsLine}

-- of the line s, over the buffer l from the place `to` on, which made it m
pub data TakesAlarms (s l : List ℕ) (to : ℕ) (m : List ℕ) : Option ℕ → Type 0 where
  alarms_taken : (rs : List Bit) (next : ℕ) → AlarmsLine s rs → Put (bytes_of (alarms_front rs)) l to m next → TakesAlarms s l to m (Some next)
  -- a line that is none of alarms leaves the buffer as it was
  not_taken : ((rs : List Bit) → AlarmsLine s rs → ⊥) → m ≡ l → TakesAlarms s l to m None
