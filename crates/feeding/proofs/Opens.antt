-- A window in which a recording opens. Assumes nothing.
use Prim.Native.Nat.{ℕ, ◌+◌, ◌≤◌}
use mathlib.Core.Path.{◌≡◌, refl, sym, ap, ◌∙◌}
use mathlib.Core.List.{List, append-nil}
use native.Mathlib.Omega.{arith}
use lib.ListN.{length, take, drop}
use lib.Seq.{sets, sets-eq, length-sets, take_at}
use Rattle.std.specs.Prelude.{Result, Ok, Err}
use Rattle.text.specs.Text.{Put}
use Rattle.text.proofs.Texts.{put_length}
use Rattle.image.specs.State.{fresh_state}
use Rattle.recording.specs.Recording.{program_bytes}
use Rattle.playback.specs.Playback.{Came, bad_program, refused, opening, over, Fed, pausing, ending, fed}
use Rattle.playback.specs.Playback.{played}
use Rattle.playback.specs.Playback.{Opening, opens, refuses_it, fails_it, waits_it, opening_in, opened_to}
use Rattle.playback.specs.Answers.{opened_as, copied, OpenedIn}
use Rattle.playback.specs.declared.Halt.{Halt}
use Rattle.playback.specs.declared.Halt.TheVariants.{Refused, Bad, Waits}
use Rattle.playback.proofs.Openings.{opens_fit}
use Rattle.telling.specs.Lines.{line_for}
use Rattle.feeding.specs.Answers.{stage_of, FedOn}
use Rattle.telling.specs.Answers.{player_of, Roomy, Told}
use Rattle.telling.specs.declared.Fed.{Fed as FedAnswer}
use Rattle.telling.proofs.Turns.{told_so, came_short}
use Rattle.feeding.proofs.Stages.{stage_told, left_told}

-- a program that was copied to the front of a buffer is there
copied_there : (program p : List ℕ) → length program ≤ length p → take (length program) (sets p 0 program) ≡ program
copied_there program p h = rw (sets-eq program p 0 (omega arith)) (take_at program (drop (0 + length program) p) (length program) refl)

-- what was opened, by the answer
is_waiting : (o : Opening) → opened_as o ≡ Err Waits → o ≡ waits_it
is_waiting (opens program next) e = cc
is_waiting (refuses_it n at) e = cc
is_waiting fails_it e = cc
is_waiting waits_it e = refl

is_bad : (o : Opening) → opened_as o ≡ Err Bad → o ≡ fails_it
is_bad (opens program next) e = cc
is_bad (refuses_it n at) e = cc
is_bad fails_it e = refl
is_bad waits_it e = cc

is_refused : (o : Opening) {n at : ℕ} → opened_as o ≡ Err (Refused n at) → o ≡ refuses_it n at
is_refused (opens program next) e = cc
is_refused (refuses_it k p) e = cc
is_refused fails_it e = cc
is_refused waits_it e = cc

data Open (o : Opening) (size next : ℕ) : Type 0 where
  open_at : (program : List ℕ) → o ≡ opens program next → length program ≡ size → Open o size next

is_open : (o : Opening) {size next : ℕ} → opened_as o ≡ Ok (size, next) → Open o size next
is_open (opens program k) {size} {next} e =
    let same : ◌≡◌ {A = ℕ × ℕ} (length program, k) (size, next) = cc in
    let k_is : k ≡ next = ap (λ (x : ℕ × ℕ). x.1) same in
    open_at program (rw k_is) (ap (λ (x : ℕ × ℕ). x.0) same)
is_open (refuses_it k p) e = cc
is_open fails_it e = cc
is_open waits_it e = cc

module _ (w p : List ℕ) {q : List ℕ} {o : Result (ℕ × ℕ) Halt} (h : OpenedIn (opening_in w) p q o) where
  abbrev FedSo : List ℕ → List ℕ → FedAnswer → Type 0
  FedSo l m r = FedOn opening (fed opening w) w p q l m r

  so : {f : Fed} {l m : List ℕ} {r : FedAnswer} → fed opening w ≡ f → Told f w l m r → stage_of r.player q ≡ f.stage → FedSo l m r
  so {f} {l} {m} {r} e t s =
      let told : Told (fed opening w) w l m r = rw e t in
      record { told = told; program = h.program; stage = rw e s; left = left_told opening w told }

  comes : {x : Opening} → opening_in w ≡ x → fed opening w ≡ opened_to w x
  unfolding fed
  comes e = ap (opened_to w) e

  pub waits_open : {l : List ℕ} → o ≡ Err Waits → FedSo l l (record { player = player_of opening; used = 0; to = 0 })
  waits_open e =
      so (comes (is_waiting (opening_in w) (sym h.answer ∙ e)))
      (told_so (pausing opening w) w refl (record { bytes = refl; place = refl }) refl (omega arith) (omega arith)) refl

  -- a line fits
  line_fits : {l m : List ℕ} {to : ℕ} (c : Came) → Roomy w l → Put (line_for c) l 0 m to → to ≤ length m
  line_fits c roomy put = omega (arith, roomy, came_short c, put.place, put_length put)

  pub bad_open : {l m : List ℕ} {to : ℕ} → Roomy w l → o ≡ Err Bad → Put (line_for bad_program) l 0 m to
      → FedSo l m (record { player = player_of over; used = length w; to = to })
  bad_open roomy e put =
      so (comes (is_bad (opening_in w) (sym h.answer ∙ e)))
      (told_so (ending bad_program) w (append-nil (line_for bad_program)) put refl (omega arith) (line_fits bad_program roomy put)) refl

  pub refused_open : {n at : ℕ} {l m : List ℕ} {to : ℕ} → Roomy w l → o ≡ Err (Refused n at) → Put (line_for (refused n at)) l 0 m to
      → FedSo l m (record { player = player_of over; used = length w; to = to })
  refused_open {n} {at} roomy e put =
      so (comes (is_refused (opening_in w) (sym h.answer ∙ e)))
      (told_so (ending (refused n at)) w (append-nil (line_for (refused n at))) put refl (omega arith) (line_fits (refused n at) roomy put)) refl

  module _ {size next : ℕ} (e : o ≡ Ok (size, next)) (room : program_bytes ≤ length p) where
    opened : Open (opening_in w) size next
    opened = is_open (opening_in w) (sym h.answer ∙ e)

    pub open_fits : (size ≤ length q) × (next ≤ length w)
    open_fits = go opened
      where
        go : Open (opening_in w) size next → (size ≤ length q) × (next ≤ length w)
        go (open_at program z n) =
            let f = opens_fit w z in
            (omega (arith, f.0, ap length h.program ∙ length-sets p 0 (copied (opening_in w))), f.1)

    pub plays_open : {l m : List ℕ} {r : FedAnswer} → Told (played (take size q) fresh_state (drop next w)) w l m r → FedSo l m r
    plays_open {l} {m} {r} t = go opened
      where
        go : Open (opening_in w) size next → FedSo l m r
        go (open_at program z n) =
            let f = opens_fit w z in
            let copy : q ≡ sets p 0 program = h.program ∙ ap (λ (x : Opening). sets p 0 (copied x)) z in
            let there : take (length program) q ≡ program = rw copy (copied_there program p (omega (arith, f.0))) in
            let told : Told (played program fresh_state (drop next w)) w l m r = rw (sym n, there) at t in
            so (comes z) told (stage_told program q fresh_state (drop next w) there told)
