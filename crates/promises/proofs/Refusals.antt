-- Every scan and every take comes to a row of the table of refusals, or is answered; and each row is what is answered. Assumes nothing.
use mathlib.Core.Path.{◌≡◌, refl, sym, subst, ◌∙◌}
use mathlib.Core.Logic.{◌↔◌}
use mathlib.Core.Bool.{Bool, true, false, or-true}
use mathlib.Core.List.{List}
use Prim.Native.Nat.{ℕ, ◌+◌, ◌-◌, ◌^◌, ◌<◌}
use native.Mathlib.Omega.{arith}
use borrow.Author.Tests.{ltb-true, ltb-false, lt-ltb, le-ltb, eqb-true, eqb-false, ne_eqb}
use lib.Dec.{ltb, eqb}
use Rattle.program.specs.Acceptance.{accepted}
use Rattle.program.proofs.FirstReading.{Good, good, accepted_good}
use Rattle.image.specs.declared.State.{State}
use Rattle.image.specs.State.{good_state, late}
use Rattle.scanning.specs.Scan.{Inputs}
use Rattle.calls.specs.declared.Scanned.{Scanned}
use Rattle.calls.specs.declared.Handed.{Handed}
use Rattle.calls.specs.Calls.{refused_scan, refused_take, scan_of, take_of}
use Rattle.promises.specs.Demand1.{RefusedScan, Scanning, refuses_program, refuses_state, refuses_time, refuses_missed, answers}
use Rattle.promises.specs.Demand1.{RefusedTake, Taking, refuses, hands}

pub refused_so : (s : State) (n at : ℕ) → RefusedScan s n at (refused_scan s n at)
refused_so s n at = record { state = refl; refusal = refl; place = refl; alarms = refl; steps = refl; rises = refl }

-- a refusal has one answer
pub scan_refusal : {s : State} {n at : ℕ} {a : Scanned} → RefusedScan s n at a → a ≡ refused_scan s n at
scan_refusal r =
    λ i. record {
      state = r.state i;
      refusal = r.refusal i;
      place = r.place i;
      alarms = r.alarms i;
      steps = r.steps i;
      rises = r.rises i;
    }

pub take_refusal : {s : State} {n : ℕ} {a : Handed} → RefusedTake s n a → a ≡ refused_take s n
take_refusal r = λ i. record { state = r.state i; refusal = r.refusal i; found = r.found i; entry = r.entry i }

pub positive : {n : ℕ} → (n ≡ 0 → ⊥) → 0 < n
positive h = omega arith

module _ (bytes : List ℕ) (x : Inputs) (s : State) where
  pub scan_row : Scanning bytes x s (scan_of bytes x s)
  unfolding scan_of late
  scan_row = by_program (eqb (accepted bytes).refusal 0) refl
    where
      by_read : (ok : eqb (accepted bytes).refusal 0 ≡ true) (g : good_state s ≡ true) → ltb (2 ^ 64 - 1) (s.time + x.elapsed) ≡ false
          → ltb (2 ^ 64 - 33) s.journal.missed ≡ false → Good bytes → Scanning bytes x s (scan_of bytes x s)
      by_read ok g t m (good p end h f) =
          answers p end (eqb-true _ _ ok) g (ltb-false _ _ t) (ltb-false _ _ m) h (rw (ok, g, t, m, h))

      by_missed : (ok : eqb (accepted bytes).refusal 0 ≡ true) (g : good_state s ≡ true) → ltb (2 ^ 64 - 1) (s.time + x.elapsed) ≡ false
          → (b : Bool) → ltb (2 ^ 64 - 33) s.journal.missed ≡ b → Scanning bytes x s (scan_of bytes x s)
      by_missed ok g t true m = refuses_missed (eqb-true _ _ ok) g (ltb-true _ _ m) (rw (ok, g, t, m) (refused_so s 6 0))
      by_missed ok g t false m = by_read ok g t m (accepted_good bytes (eqb-true _ _ ok))

      by_time : (ok : eqb (accepted bytes).refusal 0 ≡ true) (g : good_state s ≡ true)
          → (b : Bool) → ltb (2 ^ 64 - 1) (s.time + x.elapsed) ≡ b → Scanning bytes x s (scan_of bytes x s)
      by_time ok g true t = refuses_time (eqb-true _ _ ok) g (ltb-true _ _ t) (rw (ok, g, t) (refused_so s 6 0))
      by_time ok g false t = by_missed ok g t (ltb (2 ^ 64 - 33) s.journal.missed) refl

      by_state : (ok : eqb (accepted bytes).refusal 0 ≡ true) (b : Bool) → good_state s ≡ b → Scanning bytes x s (scan_of bytes x s)
      by_state ok false g = refuses_state (eqb-true _ _ ok) g (rw (ok, g) (refused_so s 5 0))
      by_state ok true g = by_time ok g (ltb (2 ^ 64 - 1) (s.time + x.elapsed)) refl

      by_program : (b : Bool) → eqb (accepted bytes).refusal 0 ≡ b → Scanning bytes x s (scan_of bytes x s)
      by_program false ne =
          refuses_program (positive (eqb-false _ _ ne)) (rw ne (refused_so s (accepted bytes).refusal (accepted bytes).place))
      by_program true ok = by_state ok (good_state s) refl

  pub scan_only : {a : Scanned} → Scanning bytes x s a → a ≡ scan_of bytes x s
  unfolding scan_of late
  scan_only (refuses_program n r) = scan_refusal r ∙ rw (ne_eqb (accepted bytes).refusal 0 (λ z. omega arith))
  scan_only (refuses_state ok g r) = scan_refusal r ∙ rw (ok, g)
  scan_only (refuses_time ok g t r) = scan_refusal r ∙ rw (ok, g, lt-ltb (2 ^ 64 - 1) (s.time + x.elapsed) t)
  scan_only (refuses_missed ok g m r) =
      scan_refusal r ∙ rw (ok, g, lt-ltb (2 ^ 64 - 33) s.journal.missed m, or-true (ltb (2 ^ 64 - 1) (s.time + x.elapsed)))
  scan_only (answers p end ok g t m h e) =
      e ∙ rw (ok, g, le-ltb (2 ^ 64 - 1) (s.time + x.elapsed) t, le-ltb (2 ^ 64 - 33) s.journal.missed m, h)

  pub scan_exactly : (a : Scanned) → a ≡ scan_of bytes x s ↔ Scanning bytes x s a
  scan_exactly a = (λ e. subst (Scanning bytes x s) (sym e) scan_row, scan_only)

pub take_row : (s : State) → Taking s (take_of s)
unfolding take_of
take_row s = go (good_state s) refl
  where
    go : (b : Bool) → good_state s ≡ b → Taking s (take_of s)
    go false g = refuses g (rw g (record { state = refl; refusal = refl; found = refl; entry = refl }))
    go true g = hands g (rw g)

pub take_only : (s : State) {a : Handed} → Taking s a → a ≡ take_of s
unfolding take_of
take_only s (refuses g r) = take_refusal r ∙ rw g
take_only s (hands g e) = e ∙ rw g

pub take_exactly : (s : State) (a : Handed) → a ≡ take_of s ↔ Taking s a
take_exactly s a = (λ e. subst (Taking s) (sym e) (take_row s), take_only s)
