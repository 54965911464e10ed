-- Every call on arrays, whatever they hold, comes to a row of the table, and each row is what is answered and left: for what is an image by the
-- rows of its state. Assumes nothing.
use mathlib.Core.Path.{◌≡◌, refl, sym, ap, ◌∙◌}
use mathlib.Core.Logic.{◌↔◌}
use mathlib.Core.Bool.{Bool, true, false}
use mathlib.Core.List.{List}
use Prim.Native.Nat.{ℕ, ◌<◌}
use native.Mathlib.Omega.{arith}
use borrow.Author.Tests.{eqb-true, eqb-false, ne_eqb}
use lib.Dec.{eqb}
use Rattle.terms.specs.Refusals.{bad_state}
use Rattle.terms.proofs.Every.{both_hold}
use Rattle.program.specs.Acceptance.{accepted}
use Rattle.image.specs.State.{fresh_state, good_state}
use Rattle.image.specs.Image.{Image, state_in, image_of, is_image, good_image}
use Rattle.scanning.specs.Scan.{Inputs}
use Rattle.calls.specs.declared.Scanned.{Scanned}
use Rattle.calls.specs.declared.Handed.{Handed}
use Rattle.calls.specs.declared.ScanAnswer.{ScanAnswer}
use Rattle.calls.specs.declared.TakeAnswer.{TakeAnswer}
use Rattle.calls.specs.Calls.{answered, scan_of, take_of}
use Rattle.calls.specs.InPlace.{refused_answer, refused_taken, refused_after, scan_answer, take_answer, scanned_in, after_scan, taken_in, after_take}
use Rattle.image.proofs.Images.{is_image_lem, state_again}
use Rattle.calls.proofs.Scans.{good_parts}
use Rattle.promises.specs.Demand1.{Scanning, refuses_program as v-program, refuses_state as v-state, refuses_time as v-time, refuses_missed as v-missed}
use Rattle.promises.specs.Demand1.{answers as v-answers, Taking, refuses as v-refuses, hands as v-hands}
use Rattle.promises.specs.AnyImage.{RefusedIn, ScanningIn, refuses_program, refuses_image, refuses_time, refuses_missed, answers}
use Rattle.promises.specs.AnyImage.{TakingIn, refuses, hands}
use Rattle.promises.proofs.Refusals.{refused_so, positive, scan_row, scan_only, take_only}
use Rattle.promises.proofs.Closed.{fresh_good}
use Rattle.promises.proofs.Consoles.{kept_fresh}

-- an image of a bad state is not good, and one of a good state is
not_good : (i : Image) → good_state (state_in i) ≡ false → (b : Bool) → is_image i ≡ b → good_image i ≡ false
unfolding good_image
not_good i g true e = rw (e, g)
not_good i g false e = rw e

no_image : (i : Image) → is_image i ≡ false → good_image i ≡ false
unfolding good_image
no_image i e = rw e

is_good_lem : (i : Image) → is_image i ≡ true → good_state (state_in i) ≡ true → good_image i ≡ true
unfolding good_image
is_good_lem i e g = both_hold e g

bad_state_lem : (i : Image) → is_image i ≡ true → good_image i ≡ false → good_state (state_in i) ≡ false
unfolding good_image
bad_state_lem i e h = rw e at h

-- a scan
module _ (bytes : List ℕ) (x : Inputs) (i : Image) where
  by_state : is_image i ≡ true → {a : Scanned} → Scanning bytes x (state_in i) a → scanned_in bytes x i ≡ scan_answer a
  unfolding scanned_in
  by_state e r = rw e (ap scan_answer (sym (scan_only bytes x (state_in i) r)))

  by_none : is_image i ≡ false → scanned_in bytes x i ≡ refused_after (accepted bytes) bad_state
  unfolding scanned_in
  by_none e = rw e

  -- a refused scan leaves the image
  module _ {n at : ℕ} (h : 0 < n) (e : scanned_in bytes x i ≡ refused_answer n at) where
    leaves : after_scan bytes x i ≡ i
    unfolding after_scan
    leaves = rw (e, ne_eqb n 0 (λ z. omega arith))

    so : RefusedIn i n at (scanned_in bytes x i) (after_scan bytes x i)
    so = rw (e, leaves) (record { refusal = refl; place = refl; alarms = refl; steps = refl; rises = refl; image = refl })

    only : {a : ScanAnswer} {j : Image} → RefusedIn i n at a j → (a ≡ scanned_in bytes x i) × (j ≡ after_scan bytes x i)
    only {a} r =
        let q : a ≡ refused_answer n at =
        λ k. record { refusal = r.refusal k; place = r.place k; alarms = r.alarms k; steps = r.steps k; rises = r.rises k } in
        (q ∙ sym e, r.image ∙ sym leaves)

  -- what the four refusals answer
  program_refused : 0 < (accepted bytes).refusal → scanned_in bytes x i ≡ refused_answer (accepted bytes).refusal (accepted bytes).place
  program_refused h = go (is_image i) refl
    where
      go : (b : Bool) → is_image i ≡ b → scanned_in bytes x i ≡ refused_answer (accepted bytes).refusal (accepted bytes).place
      go true e = by_state e (v-program h (refused_so (state_in i) _ _))
      go false e = by_none e ∙ rw (ne_eqb (accepted bytes).refusal 0 (λ z. omega arith))

  image_refused : (accepted bytes).refusal ≡ 0 → good_image i ≡ false → scanned_in bytes x i ≡ refused_answer bad_state 0
  image_refused ok h = go (is_image i) refl
    where
      go : (b : Bool) → is_image i ≡ b → scanned_in bytes x i ≡ refused_answer bad_state 0
      go true e = by_state e (v-state ok (bad_state_lem i e h) (refused_so (state_in i) _ _))
      go false e = by_none e ∙ rw ok

  answered_so : {a : Scanned} → scanned_in bytes x i ≡ scan_answer a → a ≡ scan_of bytes x (state_in i) → a.refusal ≡ 0 → after_scan bytes x i ≡ image_of a.state
  unfolding after_scan
  answered_so e q z = rw (e, z, ← q)

  image_row : ScanningIn bytes x i (scanned_in bytes x i) (after_scan bytes x i)
  unfolding answered
  image_row = go (is_image i) refl (scan_row bytes x (state_in i)) (eqb (accepted bytes).refusal 0) refl
    where
      go : (b : Bool) → is_image i ≡ b → Scanning bytes x (state_in i) (scan_of bytes x (state_in i)) → (c : Bool) → eqb (accepted bytes).refusal 0 ≡ c
          → ScanningIn bytes x i (scanned_in bytes x i) (after_scan bytes x i)
      go false e r false f = let h = positive (eqb-false (accepted bytes).refusal 0 f) in refuses_program h (so h (program_refused h))
      go false e r true f =
          let ok = eqb-true (accepted bytes).refusal 0 f in
          refuses_image ok (no_image i e) (so (omega arith) (image_refused ok (no_image i e)))
      go true e (v-program h r) c f = refuses_program h (so h (program_refused h))
      go true e (v-state ok g r) c f =
          let b = not_good i g true e in
          refuses_image ok b (so (omega arith) (image_refused ok b))
      go true e (v-time ok g t r) c f = refuses_time ok (is_good_lem i e g) t (so (omega arith) (by_state e (v-time ok g t (refused_so (state_in i) _ _))))
      go true e (v-missed ok g m r) c f = refuses_missed ok (is_good_lem i e g) m (so (omega arith) (by_state e (v-missed ok g m (refused_so (state_in i) _ _))))
      go true e (v-answers p end ok g t m h q) c f =
          let a = by_state e (v-answers p end ok g t m h refl) in
          answers p end ok (is_good_lem i e g) t m h a (answered_so a (sym q) refl)

  image_only : {a : ScanAnswer} {j : Image} → ScanningIn bytes x i a j → (a ≡ scanned_in bytes x i) × (j ≡ after_scan bytes x i)
  unfolding answered
  image_only (refuses_program h r) = only h (program_refused h) r
  image_only (refuses_image ok g r) = only (omega arith) (image_refused ok g) r
  image_only (refuses_time ok g t r) =
      let k = good_parts i g in
      only (omega arith) (by_state k.is (v-time ok k.state t (refused_so (state_in i) _ _))) r
  image_only (refuses_missed ok g m r) =
      let k = good_parts i g in
      only (omega arith) (by_state k.is (v-missed ok k.state m (refused_so (state_in i) _ _))) r
  image_only (answers p end ok g t m h q o) =
      let k = good_parts i g in
      let v = v-answers p end ok k.state t m h refl in
      let a = by_state k.is v in
      (q ∙ sym a, o ∙ sym (answered_so a (scan_only bytes x (state_in i) v) refl))

  pub image_scans : (a : ScanAnswer) (j : Image) → ((a ≡ scanned_in bytes x i) × (j ≡ after_scan bytes x i)) ↔ ScanningIn bytes x i a j
  image_scans a j = (λ e. rw (e.0, e.1) image_row, image_only)

-- a take
module _ (i : Image) where
  take_state : is_image i ≡ true → {a : Handed} → Taking (state_in i) a → taken_in i ≡ take_answer a
  unfolding taken_in
  take_state e r = rw e (ap take_answer (sym (take_only (state_in i) r)))

  take_refused : good_image i ≡ false → taken_in i ≡ refused_taken
  unfolding taken_in
  take_refused h = go (is_image i) refl
    where
      go : (b : Bool) → is_image i ≡ b → taken_in i ≡ refused_taken
      go true e = take_state e (v-refuses (bad_state_lem i e h) (record { state = refl; refusal = refl; found = refl; entry = refl }))
      go false e = rw e

  take_leaves : taken_in i ≡ refused_taken → after_take i ≡ i
  unfolding after_take
  take_leaves e = rw e

  hands_so : {a : Handed} → taken_in i ≡ take_answer a → a ≡ take_of (state_in i) → a.refusal ≡ 0 → after_take i ≡ image_of a.state
  unfolding after_take
  hands_so e q z = rw (e, z, ← q)

  take_row_of : TakingIn i (taken_in i) (after_take i)
  take_row_of = go (good_image i) refl
    where
      go : (b : Bool) → good_image i ≡ b → TakingIn i (taken_in i) (after_take i)
      go false h =
          let e = take_refused h in
          refuses h (rw (e, take_leaves e) (record { refusal = refl; found = refl; entry = refl; image = refl }))
      go true h =
          let k = good_parts i h in
          let v = v-hands k.state refl in
          let a = take_state k.is v in
          hands h a (hands_so a (take_only (state_in i) v) refl)

  take_only_of : {a : TakeAnswer} {j : Image} → TakingIn i a j → (a ≡ taken_in i) × (j ≡ after_take i)
  take_only_of {a} (refuses h r) =
      let e = take_refused h in
      let q : a ≡ refused_taken = λ k. record { refusal = r.refusal k; found = r.found k; entry = r.entry k } in
      (q ∙ sym e, r.image ∙ sym (take_leaves e))
  take_only_of (hands h q o) =
      let k = good_parts i h in
      let v = v-hands k.state refl in
      let a = take_state k.is v in
      (q ∙ sym a, o ∙ sym (hands_so a (take_only (state_in i) v) refl))

  pub image_takes : (a : TakeAnswer) (j : Image) → ((a ≡ taken_in i) × (j ≡ after_take i)) ↔ TakingIn i a j
  image_takes a j = (λ e. rw (e.0, e.1) take_row_of, take_only_of)

-- fresh
pub image_fresh : good_image (image_of fresh_state) ≡ true
image_fresh =
    let w = kept_fresh.whole in
    is_good_lem (image_of fresh_state) (is_image_lem fresh_state kept_fresh.alarms) (rw (state_again fresh_state w.places w.entries) fresh_good)
