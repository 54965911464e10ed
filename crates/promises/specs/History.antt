-- Histories: calls from fresh with one program, states handed on; and what the rules alone, without a journal, say of them.
use Rattle.std.specs.Prelude.{Bool, false, not, ◌&&◌, List, [], ◌∷◌, ◌++◌, map, ℕ, suc, ◌+◌, ◌-◌, ltb, eqb, length, get_or, replicate}
use Rattle.terms.specs.Choice.{pick}
use Rattle.wire.specs.Reading.{Read, got, fault}
use Rattle.program.specs.Program.{Program, program_at}
use Rattle.program.specs.Acceptance.{every_block}
use Rattle.place.specs.declared.Place.{Place}
use Rattle.place.specs.Places.{fresh_place}
use Rattle.journal.specs.declared.Entry.{Entry}
use Rattle.journal.specs.Journal.{entry_of}
use Rattle.image.specs.declared.State.{State}
use Rattle.scanning.specs.Scan.{Inputs, read_bit}
use Rattle.scanning.specs.Run.{places_after}
use Rattle.calls.specs.Calls.{stamp_of, scan_of, take_of}

-- ---- what the controller does

pub data Call : Type 0 where
  scan : Inputs → Call
  take : Call

module _ (bytes : List ℕ) where
  abbrev pub refusal_of : State → Call → ℕ
  refusal_of s (scan x) = (scan_of bytes x s).refusal
  refusal_of s take = (take_of s).refusal

  abbrev pub state_of : State → Call → State
  state_of s (scan x) = (scan_of bytes x s).state
  state_of s take = (take_of s).state

  -- the state after calls, each given the state that the one before it handed back
  unfoldable pub state_after : State → List Call → State
  state_after s [] = s
  state_after s (c ∷ cs) = state_after (state_of s c) cs

  -- what a call hands out, and what calls hand out in all
  abbrev pub entries_of : State → Call → List Entry
  entries_of s (scan x) = []
  entries_of s take = pick (take_of s).found ((take_of s).entry ∷ []) []

  unfoldable pub handed_out : State → List Call → List Entry
  handed_out s [] = []
  handed_out s (c ∷ cs) = entries_of s c ++ handed_out (state_of s c) cs

  -- the calls that were answered: those refused are left out
  unfoldable pub answered_of : State → List Call → List Call
  answered_of s [] = []
  answered_of s (c ∷ cs) = pick (eqb (refusal_of s c) 0) (c ∷ answered_of (state_of s c) cs) (answered_of (state_of s c) cs)

-- ---- what the rules and the alarm bits say

-- Every rise since fresh: those that found a place free, how many of these were taken, and those that did not, all in order.
pub record Ledger : Type 0 where
  pub kept : List Entry
  pub taken : ℕ
  pub missed : List Entry

-- "A rise is missed exactly when 32 earlier ones were kept and not yet taken."
unfoldable pub entered : Ledger → Entry → Ledger
entered l e =
    pick (ltb (length l.kept - l.taken) 32)
    (record { kept = l.kept ++ (e ∷ []); taken = l.taken; missed = l.missed })
    (record { kept = l.kept; taken = l.taken; missed = l.missed ++ (e ∷ []) })

unfoldable pub entered_all : Ledger → List Entry → Ledger
entered_all l [] = l
entered_all l (e ∷ es) = entered_all (entered l e) es

-- "Each take hands out the oldest": the next of those kept, if there is one
unfoldable pub crossed : Ledger → Ledger
crossed l = pick (ltb l.taken (length l.kept)) (record { kept = l.kept; taken = l.taken + 1; missed = l.missed }) l

-- All that the rules know after a history: the places, the time, what the alarms' references read as in the last scan, every rise, and the ledger.
pub record Past : Type 0 where
  pub places : List Place
  pub time : ℕ
  pub bits : List Bool
  pub rises : List Entry
  pub ledger : Ledger

-- before the first scan every alarm's bit is off
unfoldable pub fresh_past : Past
fresh_past =
    record { places = replicate 200 fresh_place; time = 0; bits = []; rises = []; ledger = record { kept = []; taken = 0; missed = [] } }

-- "An alarm rises when its bit is on and was off": the numbers of those that rise, where `bits` are those of the alarms from k on
unfoldable pub rises_at : ℕ → List Bool → List Bool → List ℕ
rises_at k last [] = []
rises_at k last (b ∷ bits) = pick (b && not (get_or last k false)) (k ∷ rises_at (suc k) last bits) (rises_at (suc k) last bits)

-- the places after a scan, the bits that the alarms name, and the rises "as (alarm number, time as just grown)"
module _ (p : Program) (x : Inputs) (m : Past) where
  abbrev pub places_then : List Place
  places_then = places_after x p m.places

  abbrev pub bits_then : List Bool
  bits_then = map (read_bit x places_then) p.alarms

  abbrev pub rises_then : List Entry
  rises_then = map (entry_of (stamp_of x m.time)) (rises_at 0 m.bits bits_then)

  unfoldable pub past_scan : Past
  past_scan =
      record {
        places = places_then;
        time = m.time + x.elapsed;
        bits = bits_then;
        rises = m.rises ++ rises_then;
        ledger = entered_all m.ledger rises_then;
      }

unfoldable pub past_take : Past → Past
past_take m = record { places = m.places; time = m.time; bits = m.bits; rises = m.rises; ledger = crossed m.ledger }

abbrev pub past_call : Program → Past → Call → Past
past_call p m (scan x) = past_scan p x m
past_call p m take = past_take m

unfoldable pub past_after : Program → Past → List Call → Past
past_after p m [] = m
past_after p m (c ∷ cs) = past_after p (past_call p m c) cs

-- the program of some bytes; no scan of bytes that cannot be read is answered
abbrev pub program_in : Read Program → Program
program_in (got p end) = p
program_in (fault n at) = record { blocks = []; alarms = [] }

abbrev pub program_of : List ℕ → Program
program_of bytes = program_in (program_at every_block bytes)
