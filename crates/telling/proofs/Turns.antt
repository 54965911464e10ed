-- The loop over the scans of a window: by each turn the text so far grows by a line, and what is left of the window comes to the rest. Assumes nothing.
use Prim.Native.Nat.{ℕ, suc, ◌+◌, ◌-◌, ◌*◌, ◌≤◌, ◌<◌}
use mathlib.Core.Path.{◌≡◌, refl, sym, ap, subst, ◌∙◌}
use mathlib.Core.Bool.{Bool, true, false}
use mathlib.Core.List.{List, [], ◌++◌, append-nil, append_assoc}
use native.Mathlib.Omega.{arith}
use native.Mathlib.Nat.{zero-add}
use lib.Dec.{eqb}
use lib.ListN.{length, drop, length-drop}
use lib.Seq.{drop-drop}
use Rattle.std.specs.Prelude.{Result, Ok, Err}
use Rattle.terms.specs.Choice.{pick}
use Rattle.text.specs.Text.{Put}
use Rattle.text.proofs.Texts.{put_then, put_length}
use Rattle.lines.specs.Lines.{line_bytes}
use Rattle.lines.proofs.Lines.{line_short, refused_short}
use Rattle.image.specs.declared.State.{State}
use Rattle.calls.specs.declared.Scanned.{Scanned}
use Rattle.scanning.specs.Scan.{Inputs}
use Rattle.calls.specs.Calls.{scan_of}
use Rattle.recording.specs.Recording.{Part, whole, bad, cut, scan_at, least_bytes}
use Rattle.recording.proofs.Ends.{Takes, scan_takes}
use Rattle.recording.proofs.Moves.{shifted, scan_left}
use Rattle.playback.specs.Playback.{Came, ran, refused, bad_scan, cut_scan, bad_program, cut_program, Stage, playing, over, Fed, pausing, ending, before}
use Rattle.playback.specs.Playback.{runs, refuses, turn_by, turn_of, played_by, played_in, played}
use Rattle.playback.specs.Answers.{turned}
use Rattle.playback.specs.declared.Halt.{Halt}
use Rattle.playback.specs.declared.Halt.TheVariants.{Refused, Bad, Waits}
use Rattle.windows.proofs.Plays.{all_of}
use Rattle.telling.specs.Lines.{line_of, line_for, lines_for}
use Rattle.telling.specs.Answers.{player_of, Roomy, Told}

-- what is told of a window, from the text, the stage and the bytes used
pub told_so : (f : Fed) (window : List ℕ) {l m text : List ℕ} {g : Stage} {used to : ℕ} → lines_for f.came ≡ text → Put text l 0 m to → g ≡ f.stage →
    used ≡ length window - length f.left → to ≤ length m → Told f window l m (record { player = player_of g; used = used; to = to })
told_so f window {l} {m} {text} {g} {used} {to} e p s u h =
    let player : player_of g ≡ player_of f.stage = ap player_of s in
    let place : to ≡ length (lines_for f.came) = rw e (p.place ∙ zero-add (length text)) in
    record { bytes = rw e p.bytes; answer = λ i. record { player = player i; used = u i; to = place i }; within = h }

-- no line is longer than the longest
pub came_short : (c : Came) → length (line_for c) ≤ line_bytes
came_short (ran x a) = line_short a.state.time a.steps a.state.journal.held a.state.journal.missed
came_short (refused n at) = refused_short n at
came_short bad_scan = omega arith
came_short cut_scan = omega arith
came_short bad_program = omega arith
came_short cut_program = omega arith

module _ (program window : List ℕ) where
  -- what the scans from a place on come to, by the turn of the first
  abbrev CameTo : State → ℕ → Result (Scanned × ℕ) Halt → Fed → Type 0
  CameTo st at (Ok t) f =
      (x : Inputs) × (f ≡ before (ran x t.0) (played program t.0.state (drop t.1 window))) × (at + least_bytes ≤ t.1) × (t.1 ≤ length window)
  CameTo st at (Err (Refused n place)) f = f ≡ ending (refused n place)
  CameTo st at (Err Bad) f = f ≡ ending bad_scan
  CameTo st at (Err Waits) f = f ≡ pausing (playing program st) (drop at window)

  module _ (st : State) (at : ℕ) (h : at ≤ length window) where
    first : played program st (drop at window)
        ≡ played_by program st (drop at window) (λ s k. played_in (length (drop at window)) program s (drop k (drop at window)))
        (turn_of program st (scan_at (drop at window) 0))
    unfolding played_in
    first = sym (all_of program (suc (length (drop at window))) st (drop at window) (omega arith))

    by_scan : (q : Part Inputs) → Takes (drop at window) least_bytes 0 q →
        CameTo st at (turned (turn_of program st (shifted at q)))
        (played_by program st (drop at window) (λ s k. played_in (length (drop at window)) program s (drop k (drop at window))) (turn_of program st q))
    unfolding turn_by
    by_scan (whole x k) e = go (eqb (scan_of program x st).refusal 0)
      where
        long : length (drop at window) ≡ length window - at
        long = length-drop at window

        go : (b : Bool) → let a = scan_of program x st in
            CameTo st at (turned (pick b (runs x a (at + k)) (refuses a)))
            (played_by program st (drop at window) (λ s k. played_in (length (drop at window)) program s (drop k (drop at window))) (pick b (runs x a k) (refuses a)))
        go true =
            let a = scan_of program x st in
            let rest : played_in (length (drop at window)) program a.state (drop k (drop at window)) ≡ played program a.state (drop (at + k) window) =
            all_of program (length (drop at window)) a.state (drop k (drop at window)) (simp length-drop (omega arith))
            ∙ ap (played program a.state) (drop-drop k at window) in
            (x, ap (before (ran x a)) rest, omega (arith, e.0), omega (arith, e.1.1, long))
        go false = refl
    by_scan bad e = refl
    by_scan cut e = refl

    pub came_to : {t : Result (Scanned × ℕ) Halt} → t ≡ turned (turn_of program st (scan_at window at)) → CameTo st at t (played program st (drop at window))
    came_to e =
        rw (e, scan_left window at, first) (by_scan (scan_at (drop at window) 0) (scan_takes (drop at window) 0 (omega arith)))

  -- how the loop stands: `text` is written, and what is left of the window comes to the rest of f
  module _ (f : Fed) (l : List ℕ) where
    pub record Going (m : List ℕ) (at : ℕ) (st : State) (to : ℕ) : Type 0 where
      pub text : List ℕ
      pub put : Put text l 0 m to
      pub room : to * least_bytes ≤ at * line_bytes
      pub within : at ≤ length window
      pub lines : lines_for f.came ≡ text ++ lines_for (played program st (drop at window)).came
      pub stage : f.stage ≡ (played program st (drop at window)).stage
      pub left : f.left ≡ (played program st (drop at window)).left

    module _ {m : List ℕ} {at : ℕ} {st : State} {to : ℕ} (g : Going m at st to) where
      by : {t : Result (Scanned × ℕ) Halt} → t ≡ turned (turn_of program st (scan_at window at)) → CameTo st at t (played program st (drop at window))
      by e = came_to st at g.within e

      pub goes_on : {a : Scanned} {next : ℕ} {m2 : List ℕ} {to2 : ℕ} → Ok (a, next) ≡ turned (turn_of program st (scan_at window at))
          → Put (line_of a) m to m2 to2 → Going m2 next a.state to2
      goes_on {a} {next} {m2} {to2} h p =
          let c = by h in
          let short = came_short (ran c.0 a) in
          let rest : Fed = played program a.state (drop next window) in
          record {
            text = g.text ++ line_of a;
            put = put_then g.put p;
            room = omega (arith, p.place, short, g.room, c.2);
            within = c.3;
            lines = g.lines ∙ ap (λ (r : Fed). g.text ++ lines_for r.came) c.1 ∙ sym (append_assoc g.text (line_of a) (lines_for rest.came));
            stage = g.stage ∙ ap (λ (r : Fed). r.stage) c.1;
            left = g.left ∙ ap (λ (r : Fed). r.left) c.1;
          }

      pub falls : {a : Scanned} {next : ℕ} → Ok (a, next) ≡ turned (turn_of program st (scan_at window at)) → (at < next) × (next ≤ length window)
      falls h = let c = by h in (omega (arith, c.2), c.3)

      pub waits_on : Roomy window l → Err Waits ≡ turned (turn_of program st (scan_at window at)) → Told f window l m (record { player = player_of (playing program st); used = at; to = to })
      waits_on roomy h =
          let z = by h in
          let stage : f.stage ≡ playing program st = g.stage ∙ ap (λ (r : Fed). r.stage) z in
          let left : f.left ≡ drop at window = g.left ∙ ap (λ (r : Fed). r.left) z in
          let used : at ≡ length window - length f.left = rw left (simp length-drop (omega (arith, g.within))) in
          told_so f window (g.lines ∙ ap (λ (r : Fed). g.text ++ lines_for r.came) z ∙ append-nil g.text) g.put (sym stage) used
          (omega (arith, roomy, g.room, g.within, put_length g.put))

      ends_so : {c : Came} {m2 : List ℕ} {to2 : ℕ} → Roomy window l → played program st (drop at window) ≡ ending c → Put (line_for c) m to m2 to2
          → Told f window l m2 (record { player = player_of over; used = length window; to = to2 })
      ends_so {c} roomy z p =
          let stage : f.stage ≡ over = g.stage ∙ ap (λ (r : Fed). r.stage) z in
          let left : f.left ≡ [] = g.left ∙ ap (λ (r : Fed). r.left) z in
          let used : length window ≡ length window - length f.left = rw left (omega arith) in
          let lines : lines_for f.came ≡ g.text ++ line_for c =
          g.lines ∙ ap (λ (r : Fed). g.text ++ lines_for r.came) z ∙ ap (λ (r : List ℕ). g.text ++ r) (append-nil (line_for c)) in
          told_so f window lines (put_then g.put p) (sym stage) used
          (omega (arith, roomy, g.room, g.within, p.place, came_short c, put_length g.put, put_length p))

      pub fails_so : {m2 : List ℕ} {to2 : ℕ} → Roomy window l → Err Bad ≡ turned (turn_of program st (scan_at window at)) → Put (line_for bad_scan) m to m2 to2
          → Told f window l m2 (record { player = player_of over; used = length window; to = to2 })
      fails_so roomy h p = ends_so roomy (by h) p

      pub refuses_so : {n place : ℕ} {m2 : List ℕ} {to2 : ℕ} → Roomy window l → Err (Refused n place) ≡ turned (turn_of program st (scan_at window at))
          → Put (line_for (refused n place)) m to m2 to2
          → Told f window l m2 (record { player = player_of over; used = length window; to = to2 })
      refuses_so roomy h p = ends_so roomy (by h) p

  -- before the first turn
  pub starts : (st : State) (start : ℕ) (l : List ℕ) → start ≤ length window → Going (played program st (drop start window)) l l start st 0
  starts st start l h =
      record { text = []; put = record { bytes = refl; place = refl }; room = omega arith; within = h; lines = refl; stage = refl; left = refl }
