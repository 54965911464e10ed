-- A state and what the rules know of a history go in step, and an answered scan takes both on. Assumes nothing.
use mathlib.Core.Path.{◌≡◌, sym, ap, ◌∙◌}
use mathlib.Core.Bool.{true}
use mathlib.Core.List.{List}
use Prim.Native.Nat.{ℕ, ◌+◌, ◌≤◌}
use native.Mathlib.Omega.{arith}
use lib.ListN.{length, length-append, length-map}
use Rattle.program.specs.Program.{Program, figure}
use Rattle.program.specs.Acceptance.{accepted}
use Rattle.terms.specs.Bits.{packed}
use Rattle.journal.specs.declared.Entry.{Entry}
use Rattle.journal.specs.Journal.{entry_of, rises_in, risen}
use Rattle.image.specs.declared.State.{State}
use Rattle.image.specs.State.{good_state}
use Rattle.scanning.specs.Scan.{Inputs, read_bit, scan_to, steps_to, alarm_word}
use Rattle.calls.specs.Calls.{answered, stamp_of}
use Rattle.calls.proofs.Figures.{steps_bounded}
use Rattle.promises.specs.History.{Past, rises_at, places_then, bits_then, rises_then, past_scan}
use Rattle.promises.specs.Demand2.{ByTheRules}
use Rattle.promises.proofs.Rises.{rises_from_lem}
use Rattle.promises.proofs.Ledgers.{Keeps, enters_all, in_all, all_more}

-- a state, what the rules know, and what was handed out, after the same history
pub record InStep (s : State) (m : Past) (out : List Entry) : Type 0 where
  pub good : good_state s ≡ true
  pub places : s.places ≡ m.places
  pub time : s.time ≡ m.time
  pub alarms : s.alarms ≡ packed m.bits
  pub keeps : Keeps s.journal m.ledger out
  pub counted : length m.rises ≡ in_all m.ledger

-- ---- an answered scan

module _ (p : Program) (few : length p.alarms ≤ 32) (x : Inputs) {s : State} {m : Past} {out : List Entry} (i : InStep s m out) where
  -- the alarm word is that of the bits that the alarms name
  same_places : scan_to x p.blocks (length p.blocks) s.places ≡ places_then p x m
  same_places = ap (scan_to x p.blocks (length p.blocks)) i.places

  same_word : alarm_word x (scan_to x p.blocks (length p.blocks) s.places) p.alarms ≡ packed (bits_then p x m)
  unfolding alarm_word
  same_word = rw i.places

  -- and the rises that the journal sees in it are those of the bits
  same_rises : rises_in (packed (bits_then p x m)) s.alarms ≡ rises_at 0 m.bits (bits_then p x m)
  same_rises =
      ap (rises_in (packed (bits_then p x m))) i.alarms
      ∙ rises_from_lem m.bits (bits_then p x m) 32 0 (omega (arith, few, length-map p.alarms (read_bit x (places_then p x m))))

  pub scanned_on : good_state (answered p x s).state ≡ true → InStep (answered p x s).state (past_scan p x m) out
  unfolding answered risen past_scan
  scanned_on g =
      record {
        good = g;
        places = same_places;
        time = ap (λ (t : ℕ). t + x.elapsed) i.time;
        alarms = same_word;
        keeps =
            rw (same_word, same_rises, i.time)
            (enters_all i.keeps (stamp_of x m.time) (rises_at 0 m.bits (bits_then p x m)));
        counted = length-append m.rises (rises_then p x m) ∙ omega (arith, i.counted, all_more m.ledger (rises_then p x m));
      }

  pub by_the_rules : (bytes : List ℕ) → (accepted bytes).steps ≡ figure p.blocks → ByTheRules bytes p x m (answered p x s)
  unfolding answered risen
  by_the_rules bytes f =
      record {
        places = same_places;
        time = ap (λ (t : ℕ). t + x.elapsed) i.time;
        alarms = same_word;
        last = same_word;
        steps = ap (steps_to x p.blocks (length p.blocks)) i.places;
        figure = rw f (steps_bounded x p s);
        rises =
            rw (same_word, same_rises)
            (sym (length-map (rises_at 0 m.bits (bits_then p x m)) (entry_of (stamp_of x m.time))));
      }
