-- The controller and what the rules say of a history go in step: each answered call takes both on, a refused one neither. Assumes nothing.
use mathlib.Core.Path.{◌≡◌, refl, sym, ap, subst, ◌∙◌}
use mathlib.Core.Bool.{Bool, true, false}
use mathlib.Core.List.{List, [], ◌∷◌, ◌++◌, append_assoc, append-nil}
use Prim.Native.Nat.{ℕ, ◌<◌}
use native.Mathlib.Omega.{arith}
use borrow.Author.Tests.{ne_eqb}
use lib.Dec.{eqb}
use Rattle.terms.specs.Choice.{pick}
use Rattle.wire.specs.Reading.{got}
use Rattle.program.specs.Program.{Program, figure}
use Rattle.program.specs.Acceptance.{every_block}
use Rattle.program.proofs.FirstReading.{Good, good, accepted_good}
use Rattle.journal.specs.declared.Entry.{Entry}
use Rattle.journal.specs.Journal.{fresh_journal}
use Rattle.image.specs.declared.State.{State}
use Rattle.calls.specs.declared.Scanned.{Scanned}
use Rattle.calls.specs.declared.Handed.{Handed}
use Rattle.image.specs.State.{fresh_state}
use Rattle.scanning.specs.Scan.{Inputs}
use Rattle.calls.specs.Calls.{answered, scan_of, take_of}
use Rattle.promises.specs.History.{Call, scan, take, refusal_of, state_of, state_after, entries_of, handed_out}
use Rattle.promises.specs.History.{answered_of, Past, fresh_past, past_scan, past_take, past_call, past_after, program_of}
use Rattle.promises.specs.Demand1.{RefusedScan, Scanning, refuses_program, refuses_state, refuses_time, refuses_missed, answers, Taking, refuses, hands}
use Rattle.promises.specs.Demand2.{ByTheRules, EveryRun}
use Rattle.promises.specs.Demand3.{Demand3, EveryHistory}
use Rattle.promises.specs.Closure.{Closure}
use Rattle.promises.proofs.ReadPrograms.{alarms_few}
use Rattle.promises.proofs.Refusals.{scan_row, take_row}
use Rattle.promises.proofs.Ledgers.{kept_long, held_long, crossed_same, hands as hands-over}
use Rattle.promises.proofs.Steps.{InStep, scanned_on, by_the_rules}

-- a call that is answered is in the history, a refused one is not
left_out : (p : Program) (m : Past) (c : Call) (b : Bool) (cs : List Call) → past_after p m (pick b (c ∷ cs) cs) ≡ past_after p (pick b (past_call p m c) m) cs
unfolding past_after
left_out p m c true cs = refl
left_out p m c false cs = refl

module _ (closed : Closure) (bytes : List ℕ) where
  -- what the rules know after a call
  abbrev Then : State → Past → Call → Past
  Then s m c = pick (eqb (refusal_of bytes s c) 0) (past_call (program_of bytes) m c) m

  module _ {s : State} {m : Past} {out : List Entry} (i : InStep s m out) where
    -- after a scan, and after a take, whose answer is a
    abbrev ScannedOn : Inputs → Scanned → Type 0
    ScannedOn x a = InStep a.state (pick (eqb a.refusal 0) (past_scan (program_of bytes) x m) m) (out ++ [])

    abbrev TakenOn : Handed → Type 0
    TakenOn a = InStep a.state (pick (eqb a.refusal 0) (past_take m) m) (out ++ pick a.found (a.entry ∷ []) [])

    stays : (x : Inputs) {n at : ℕ} → 0 < n → RefusedScan s n at (scan_of bytes x s) → ScannedOn x (scan_of bytes x s)
    stays x {n} h r = rw (r.state, r.refusal, ne_eqb n 0 (λ z. omega arith), append-nil out) i

    scanned : (x : Inputs) → Scanning bytes x s (scan_of bytes x s) → ScannedOn x (scan_of bytes x s)
    unfolding answered
    scanned x (refuses_program h r) = stays x h r
    scanned x (refuses_state ok g r) = stays x (omega arith) r
    scanned x (refuses_time ok g t r) = stays x (omega arith) r
    scanned x (refuses_missed ok g n r) = stays x (omega arith) r
    scanned x (answers p end ok g t n read a) =
        let few = alarms_few every_block bytes read in
        subst (ScannedOn x) (sym a) (rw (read, append-nil out) (scanned_on p few x i (rw a at (closed.scan bytes x s i.good))))

    took : Taking s (take_of s) → TakenOn (take_of s)
    unfolding past_take
    took (refuses g r) = let w : ◌≡◌ {A = ℕ} 0 1 = cc in absurd (omega arith)
    took (hands g a) =
        let h = hands-over i.keeps in
        subst TakenOn (sym a)
        (record {
          good = rw a at (closed.take s i.good);
          places = i.places;
          time = i.time;
          alarms = i.alarms;
          keeps = h.keeps;
          counted = i.counted ∙ sym (crossed_same m.ledger);
        })

    call_on : (c : Call) → InStep (state_of bytes s c) (Then s m c) (out ++ entries_of bytes s c)
    call_on (scan x) = scanned x (scan_row bytes x s)
    call_on take = took (take_row s)

  calls_on : (cs : List Call) {s : State} {m : Past} {out : List Entry} → InStep s m out
      → InStep (state_after bytes s cs) (past_after (program_of bytes) m (answered_of bytes s cs)) (out ++ handed_out bytes s cs)
  unfolding state_after past_after answered_of handed_out
  calls_on [] {out = out} i = rw (append-nil out) i
  calls_on (c ∷ cs) {s} {m} {out} i =
      let r = calls_on cs (call_on i c) in
      rw (
        left_out (program_of bytes) m c (eqb (refusal_of bytes s c) 0) (answered_of bytes (state_of bytes s c) cs),
        ← append_assoc out (entries_of bytes s c) (handed_out bytes (state_of bytes s c) cs),
      ) r

  begin : InStep fresh_state fresh_past []
  unfolding fresh_state fresh_past fresh_journal
  begin =
      record {
        good = closed.fresh;
        places = refl;
        time = refl;
        alarms = refl;
        keeps = record { long = refl; fit = omega arith; order = refl; taken = refl; missed = refl };
        counted = refl;
      }

  -- ---- the demands

  pub every_step : (cs : List Call)
      → InStep (state_after bytes fresh_state cs) (past_after (program_of bytes) fresh_past (answered_of bytes fresh_state cs)) (handed_out bytes fresh_state cs)
  every_step cs = calls_on cs begin

  next_scan : {s : State} {m : Past} {out : List Entry} → InStep s m out → (x : Inputs) → Scanning bytes x s (scan_of bytes x s) → (scan_of bytes x s).refusal ≡ 0
      → ByTheRules bytes (program_of bytes) x m (scan_of bytes x s)
  next_scan i x (refuses_program h r) z = absurd (omega (arith, r.refusal))
  next_scan i x (refuses_state ok g r) z = absurd (omega (arith, r.refusal))
  next_scan i x (refuses_time ok g t r) z = absurd (omega (arith, r.refusal))
  next_scan i x (refuses_missed ok g n r) z = absurd (omega (arith, r.refusal))
  next_scan {s} {m} i x (answers p end ok g t n read a) z = rw (a, read) (go (accepted_good bytes ok))
    where
      go : Good bytes → ByTheRules bytes p x m (answered p x s)
      go (good q e h f) =
          let same : q ≡ p = same_got (sym h ∙ read) in
          by_the_rules p (alarms_few every_block bytes read) x i bytes (f ∙ ap (λ (y : Program). figure y.blocks) same)
        where
          same_got : {a b : Program} {c d : ℕ} → got a c ≡ got b d → a ≡ b
          same_got w = cc

pub demand_two : Closure → EveryRun
demand_two closed bytes cs =
    let i = every_step closed bytes cs in
    let s = state_after bytes fresh_state cs in
    record { places = i.places; time = i.time; alarms = i.alarms; next = λ x. next_scan closed bytes i x (scan_row bytes x s) }

what_is_held : {s : State} {m : Past} {out : List Entry} → InStep s m out → Taking s (take_of s) → Demand3 out s m
what_is_held i (refuses g r) = let w : ◌≡◌ {A = ℕ} 0 1 = cc in absurd (omega arith)
what_is_held i (hands g a) =
    let k = i.keeps in
    let h = hands-over k in
    record {
      counted = i.counted ∙ omega (arith, kept_long k, k.taken, k.missed);
      order = k.order;
      taken = k.taken;
      places = held_long k;
      missed = k.missed;
      found = ap (λ (t : Handed). t.found) a ∙ h.found;
      oldest = ap (λ (t : Handed). t.entry) a ∙ h.oldest;
    }

pub demand_three : Closure → EveryHistory
demand_three closed bytes cs = what_is_held (every_step closed bytes cs) (take_row (state_after bytes fresh_state cs))
