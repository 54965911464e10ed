-- "No alarm is lost silently": after any calls from fresh with one program, refused calls left out.
use Rattle.std.specs.Prelude.{List, ◌++◌, ◌≡◌, ℕ, ◌+◌, ltb, length, get_or, take}
use Rattle.journal.specs.declared.Entry.{Entry}
use Rattle.journal.specs.declared.Journal.{Journal}
use Rattle.journal.specs.Journal.{zero_entry}
use Rattle.image.specs.declared.State.{State}
use Rattle.image.specs.State.{fresh_state}
use Rattle.calls.specs.Calls.{take_of}
use Rattle.promises.specs.History.{Call, state_after, handed_out, answered_of, Past, fresh_past, past_after, program_of}

-- the entries that a journal holds, oldest first
abbrev pub entries_held : Journal → List Entry
entries_held j = take j.held j.entries

pub record Demand3 (out : List Entry) (s : State) (m : Past) : Type 0 where
  -- "the rises in the history, counted from the bits the alarms name, are exactly the entries taken, held and the number missed"
  pub counted : length m.rises ≡ length out + s.journal.held + s.journal.missed
  -- "Taken then held are, in order, the rises that found one of 32 places free."
  pub order : out ++ entries_held s.journal ≡ m.ledger.kept
  pub taken : length out ≡ m.ledger.taken
  pub places : length (entries_held s.journal) ≡ s.journal.held
  -- "A rise is missed exactly when 32 earlier ones were kept and not yet taken": as the ledger has it
  pub missed : s.journal.missed ≡ length m.ledger.missed
  -- "Each take hands out the oldest."
  pub found : (take_of s).found ≡ ltb m.ledger.taken (length m.ledger.kept)
  pub oldest : (take_of s).entry ≡ get_or m.ledger.kept m.ledger.taken zero_entry

abbrev pub EveryHistory : Type 0
EveryHistory =
    (bytes : List ℕ) (cs : List Call) →
    Demand3 (handed_out bytes fresh_state cs) (state_after bytes fresh_state cs)
    (past_after (program_of bytes) fresh_past (answered_of bytes fresh_state cs))
