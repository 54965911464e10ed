-- A scan and a take leave as many places and entries as there were. Assumes nothing.
use Prim.Native.Nat.{ℕ, zero, suc, ◌-◌, ◌≤◌}
use mathlib.Core.Path.{◌≡◌, refl, ◌∙◌}
use mathlib.Core.Bool.{not}
use mathlib.Core.List.{List, [], ◌∷◌, ◌++◌}
use native.Mathlib.Omega.{arith}
use lib.Dec.{eqb, ltb}
use lib.ListN.{length, take, drop, length-set, length-append, length-drop}
use lib.Seq.{length-take-le}
use borrow.Author.Tests.{eqb-false, not-false}
use Rattle.terms.proofs.Choice.{pick_case}
use Rattle.numbers.specs.Blocks.{Block}
use Rattle.wire.specs.Reading.{Read, got, fault}
use Rattle.program.specs.Program.{Program, program_at}
use Rattle.program.specs.Acceptance.{every_block, accepted}
use Rattle.place.specs.declared.Place.{Place}
use Rattle.journal.specs.declared.Stamp.{Stamp}
use Rattle.journal.specs.declared.Entry.{Entry}
use Rattle.journal.specs.declared.Journal.{Journal}
use Rattle.journal.specs.declared.Taken.{Taken}
use Rattle.journal.specs.Journal.{zero_entry, stored, stored_all, risen, taken}
use Rattle.image.specs.declared.State.{State}
use Rattle.image.specs.State.{good_state, late}
use Rattle.scanning.specs.Scan.{Inputs, scan_to}
use Rattle.calls.specs.declared.Scanned.{Scanned}
use Rattle.calls.specs.declared.Handed.{Handed}
use Rattle.calls.specs.Calls.{refused_scan, stamp_of, answered, answer_of, scan_of, take_of}
use Rattle.calls.proofs.Takes.{held_few}

moved_long : (es : List Entry) (h : ℕ) → length es ≡ 32 → h ≤ 32 → (h ≡ 0 → ⊥) → length (take (h - 1) (drop 1 es) ++ (zero_entry ∷ drop h es)) ≡ 32
moved_long es h e l z =
    let a : length (drop 1 es) ≡ 31 = simp length-drop (omega (arith, e)) in
    let b : h - 1 ≤ length (drop 1 es) = omega arith in
    simp (length-append, length-take-le (h - 1) (drop 1 es) b, length-drop) (omega arith)

taken_long : (j : Journal) → length j.entries ≡ 32 → j.held ≤ 32 → length (taken j).journal.entries ≡ 32
unfolding taken
taken_long j e h =
    pick_case (λ (t : Taken). length t.journal.entries ≡ 32) (eqb j.held 0) (λ _. e) (λ f. moved_long j.entries j.held e h (eqb-false j.held 0 f))

stored_long : (t : Stamp) (j : Journal) (k : ℕ) → length (stored t j k).entries ≡ length j.entries
unfolding stored
stored_long t j k =
    pick_case (λ (r : Journal). length r.entries ≡ length j.entries) (ltb j.held 32) (λ _. simp length-set) (λ _. refl)

all_stored_long : (t : Stamp) (j : Journal) (ks : List ℕ) → length (stored_all t j ks).entries ≡ length j.entries
unfolding stored_all
all_stored_long t j [] = refl
all_stored_long t j (k ∷ ks) = all_stored_long t (stored t j k) ks ∙ stored_long t j k

scanned_long : (x : Inputs) (bs : List Block) (n : ℕ) (ps : List Place) → length (scan_to x bs n ps) ≡ length ps
unfolding scan_to
scanned_long x bs zero ps = refl
scanned_long x bs (suc n) ps = simp length-set (scanned_long x bs n ps)

-- the lengths that a state's type gives it
pub record Whole (s : State) : Type 0 where
  pub places : length s.places ≡ 200
  pub entries : length s.journal.entries ≡ 32

pub took_whole : (s : State) → Whole s → Whole (take_of s).state
unfolding take_of
took_whole s w =
    pick_case (λ (r : Handed). Whole r.state) (not (good_state s)) (λ _. w)
    (λ e. record { places = w.places; entries = taken_long s.journal w.entries (held_few s (not-false (good_state s) e)) })

-- what holds of a refusal and of an answer holds of a scan
pub scan_case :
    (P : Scanned → Type 0) (bytes : List ℕ) (x : Inputs) (s : State)
    → ((n at : ℕ) → P (refused_scan s n at)) → ((p : Program) → P (answered p x s)) → P (scan_of bytes x s)
unfolding scan_of
scan_case P bytes x s f g =
    pick_case P (not (eqb (accepted bytes).refusal 0)) (λ _. f _ _)
    (λ _. pick_case P (not (good_state s)) (λ _. f _ _)
    (λ _. pick_case P (late x.elapsed s.time s.journal.missed) (λ _. f _ _) (λ _. go (program_at every_block bytes))))
  where
    go : (r : Read Program) → P (answer_of x s r)
    go (got p end) = g p
    go (fault n at) = f n at

answered_whole : (p : Program) (x : Inputs) (s : State) → Whole s → Whole (answered p x s).state
unfolding answered risen
answered_whole p x s w =
    record {
      places = scanned_long x p.blocks (length p.blocks) s.places ∙ w.places;
      entries = all_stored_long (stamp_of x s.time) s.journal _ ∙ w.entries;
    }

pub scan_whole : (bytes : List ℕ) (x : Inputs) (s : State) → Whole s → Whole (scan_of bytes x s).state
scan_whole bytes x s w = scan_case (λ (r : Scanned). Whole r.state) bytes x s (λ n at. w) (λ p. answered_whole p x s w)
