-- A good state stays good in every answer: a refusal hands it back, a scan's places and rises and a take keep it good. So no call from
-- fresh is refused with 5: acceptance never refuses with 5, and the state is good. Assumes nothing.
use Prim.Native.Nat.{ℕ}
use mathlib.Core.Path.{◌≡◌, refl, sym, ap, ◌∙◌}
use mathlib.Core.Bool.{true}
use mathlib.Core.List.{List, [], ◌∷◌}
use native.Mathlib.Omega.{arith}
use lib.ListN.{length}
use Rattle.terms.specs.Choice.{every}
use Rattle.terms.proofs.Choice.{both}
use Rattle.terms.proofs.Every.{both_hold}
use Rattle.order.specs.Order.{Wrong, malformed, is_cut, not_allowed, too_deep, too_many, extra, Item}
use Rattle.order.specs.Acceptance.{refusal_for, Accepting, stops, strays, overflows, passes}
use Rattle.order.proofs.Orders.{in_order}
use Rattle.program.specs.declared.Acceptance.{Acceptance}
use Rattle.program.specs.Program.{Program}
use Rattle.program.specs.Acceptance.{every_block, accepted}
use Rattle.journal.specs.Journal.{taken}
use Rattle.image.specs.declared.State.{State}
use Rattle.calls.specs.declared.Scanned.{Scanned}
use Rattle.calls.specs.declared.Handed.{Handed}
use Rattle.image.specs.State.{fresh_state, good_place, good_state}
use Rattle.scanning.specs.Scan.{Inputs}
use Rattle.terms.specs.Refusals.{bad_state}
use Rattle.calls.specs.Calls.{stamp_of, answered, scan_of, handed_by, take_of}
use Rattle.promises.specs.Closure.{Closure}
use Rattle.promises.specs.Demand1.{Scanning, refuses_program}
use Rattle.promises.specs.Demand1.{refuses_state, refuses_time, refuses_missed, answers, Taking, refuses, hands}
use Rattle.promises.specs.History.{Call, scan, take, refusal_of, state_of, state_after}
use Rattle.promises.proofs.Refusals.{scan_row, take_row}
use Rattle.promises.proofs.GoodJournal.{fresh_journal_lem, risen_good, taken_good}
use Rattle.promises.proofs.GoodPlaces.{fresh_places, scan_good}
use Rattle.promises.proofs.ReadPrograms.{Rows, program_rows}

pub fresh_good : good_state fresh_state ≡ true
unfolding fresh_state good_state
fresh_good = both_hold fresh_places fresh_journal_lem

-- ---- a scan

answered_good : (p : Program) → Rows p.blocks → (x : Inputs) (s : State) → good_state s ≡ true → good_state (answered p x s).state ≡ true
unfolding answered good_state
answered_good p rows x s h =
    let o = both (every good_place s.places) _ h in
    both_hold (scan_good x p.blocks rows (length p.blocks) s.places o.0) (risen_good _ s.alarms (stamp_of x s.time) s.journal o.1)

-- acceptance never refuses with 5
wrong_other : (w : Wrong) → refusal_for w ≡ bad_state → ⊥
wrong_other malformed z = omega arith
wrong_other is_cut z = omega arith
wrong_other not_allowed z = omega arith
wrong_other too_deep z = omega arith
wrong_other too_many z = omega arith
wrong_other extra z = omega arith

row_other : {l : List Item} {a : Acceptance} → Accepting l a → a.refusal ≡ bad_state → ⊥
row_other (stops before after i w h g x e) z = wrong_other w (sym (ap (λ (y : Acceptance). y.refusal) e) ∙ z)
row_other (strays before after i g h t f e) z = omega (arith, ap (λ (y : Acceptance). y.refusal) e)
row_other (overflows g t m e) z = omega (arith, ap (λ (y : Acceptance). y.refusal) e)
row_other (passes g t m e) z = omega (arith, ap (λ (y : Acceptance). y.refusal) e)

pub accepted_other : (bytes : List ℕ) → (accepted bytes).refusal ≡ bad_state → ⊥
accepted_other bytes = row_other ((in_order bytes (accepted bytes)).0 refl)

-- what a good state comes to in a scan, and in a take
abbrev ScanKeeps : Scanned → Type 0
ScanKeeps a = (good_state a.state ≡ true) × (a.refusal ≡ bad_state → ⊥)

scan_keeps : (bytes : List ℕ) (x : Inputs) (s : State) → good_state s ≡ true → Scanning bytes x s (scan_of bytes x s) → ScanKeeps (scan_of bytes x s)
unfolding answered
scan_keeps bytes x s h (refuses_program n r) =
    (ap good_state r.state ∙ h, λ e. accepted_other bytes (sym r.refusal ∙ e))
scan_keeps bytes x s h (refuses_state ok g r) = let z : ◌≡◌ {A = ℕ} 0 1 = cc in absurd (omega arith)
scan_keeps bytes x s h (refuses_time ok g t r) = (ap good_state r.state ∙ h, λ e. omega (arith, r.refusal))
scan_keeps bytes x s h (refuses_missed ok g m r) = (ap good_state r.state ∙ h, λ e. omega (arith, r.refusal))
scan_keeps bytes x s h (answers p end ok g t m read a) = rw a (answered_good p (program_rows every_block bytes read) x s h, λ e. omega arith)

-- ---- a take

handed_good : (s : State) → good_state s ≡ true → good_state (handed_by s (taken s.journal)).state ≡ true
unfolding good_state
handed_good s h = let o = both (every good_place s.places) _ h in both_hold o.0 (taken_good s.journal o.1)

abbrev TakeKeeps : Handed → Type 0
TakeKeeps a = (good_state a.state ≡ true) × (a.refusal ≡ bad_state → ⊥)

take_keeps : (s : State) → good_state s ≡ true → Taking s (take_of s) → TakeKeeps (take_of s)
take_keeps s h (refuses g r) = let z : ◌≡◌ {A = ℕ} 0 1 = cc in absurd (omega arith)
take_keeps s h (hands g a) = rw a (handed_good s h, λ e. omega arith)

-- ---- histories

module _ (bytes : List ℕ) where
  call_keeps : (s : State) (c : Call) → good_state s ≡ true → (good_state (state_of bytes s c) ≡ true) × (refusal_of bytes s c ≡ bad_state → ⊥)
  call_keeps s (scan x) h = scan_keeps bytes x s h (scan_row bytes x s)
  call_keeps s take h = take_keeps s h (take_row s)

  calls_keep : (s : State) (cs : List Call) → good_state s ≡ true → good_state (state_after bytes s cs) ≡ true
  unfolding state_after
  calls_keep s [] h = h
  calls_keep s (c ∷ cs) h = calls_keep (state_of bytes s c) cs (call_keeps s c h).0

pub closed : Closure
closed =
    record {
      fresh = fresh_good;
      scan = λ bytes x s h. (scan_keeps bytes x s h (scan_row bytes x s)).0;
      take = λ s h. (take_keeps s h (take_row s)).0;
      never = λ bytes cs c. (call_keeps bytes (state_after bytes fresh_state cs) c (calls_keep bytes fresh_state cs fresh_good)).1;
    }
