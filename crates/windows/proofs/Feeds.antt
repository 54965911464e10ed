-- Feeds one after another are one feed of all their bytes, so a recording comes to the same however it is cut into windows. Assumes nothing.
use Prim.Native.Nat.{ℕ, ◌+◌, ◌≤◌, ◌<◌}
use mathlib.Core.Path.{◌≡◌, refl, sym, ◌∙◌}
use mathlib.Core.Bool.{Bool, true, false}
use mathlib.Core.List.{List, [], ◌∷◌, ◌++◌, append-nil, append_assoc}
use native.Mathlib.Omega.{arith}
use lib.Dec.{eqb}
use lib.ListN.{length, take, drop, length-drop}
use lib.Seq.{take-append-le, drop-append-le}
use Rattle.terms.specs.Choice.{pick, every}
use Rattle.terms.proofs.Choice.{never}
use Rattle.terms.proofs.Every.{every_append}
use Rattle.wire.specs.Number.{groups_at, number_at}
use Rattle.program.specs.Acceptance.{accepted}
use Rattle.image.specs.State.{fresh_state}
use Rattle.recording.specs.Recording.{Part, whole, bad, cut, length_in, program_bytes}
use Rattle.recording.proofs.Heads.{Fit, length_fits}
use Rattle.recording.proofs.Prefixes.{Stays, length_stays}
use Rattle.playback.specs.Playback.{Came, refused, bad_program, Stage, opening, playing, over, Fed, pausing}
use Rattle.playback.specs.Playback.{opens, refuses_it, opened_by, opened_of, opening_in, opened_to, fed, finished, course}
use Rattle.windows.specs.Windows.{in_windows, joined, goes_on, Windows}
use Rattle.windows.proofs.Plays.{and_fed, after_end, played_join, Settled, end_settled, played_settled}

-- the opening, of u and of more bytes
opened_join : (u v program : List ℕ) (next : ℕ) → next ≤ length u
    → opened_to (u ++ v) (opened_by program next) ≡ and_fed (opened_to u (opened_by program next)) (λ g l. fed g (l ++ v))
unfolding opened_by
opened_join u v program next h = go (eqb (accepted program).refusal 0)
  where
    go : (b : Bool) → let o = pick b (opens program next) (refuses_it (accepted program).refusal (accepted program).place) in
        opened_to (u ++ v) o ≡ and_fed (opened_to u o) (λ g l. fed g (l ++ v))
    go true = rw (drop-append-le next u v h) (played_join program fresh_state (drop next u) v)
    go false = after_end (refused (accepted program).refusal (accepted program).place) v

opening_join : (u v : List ℕ) (p q : Part ℕ) → Stays p q → Fit u p → q ≡ length_in (u ++ v)
    → opened_to (u ++ v) (opened_of (u ++ v) q) ≡ and_fed (opened_to u (opened_of u p)) (λ g l. fed g (l ++ v))
unfolding fed opening_in
opening_join u v (whole n at) q e f z =
    let same : take n (drop at (u ++ v)) ≡ take n (drop at u) =
    rw (drop-append-le at u v (omega arith)) (take-append-le n (drop at u) v (simp length-drop (omega arith))) in
    rw (e, same) (opened_join u v (take n (drop at u)) (at + n) f.1)
opening_join u v bad q e f z = rw e (after_end bad_program v)
opening_join u v cut q e f z = rw z

fed_join : (g : Stage) (u v : List ℕ) → fed g (u ++ v) ≡ and_fed (fed g u) (λ g l. fed g (l ++ v))
unfolding fed opening_in
fed_join opening u v = opening_join u v (length_in u) (length_in (u ++ v)) (length_stays u v) (length_fits u) refl
fed_join (playing program st) u v = played_join program st u v
fed_join over u v = refl

-- what is left is fed no further
opened_settled : (l program : List ℕ) (next : ℕ) → Settled (opened_to l (opened_by program next))
unfolding opened_by
opened_settled l program next = go (eqb (accepted program).refusal 0)
  where
    go : (b : Bool) → Settled (opened_to l (pick b (opens program next) (refuses_it (accepted program).refusal (accepted program).place)))
    go true = played_settled program fresh_state (drop next l)
    go false = end_settled _

record Left (f : Fed) : Type 0 where
  rests : fed f.stage f.left ≡ pausing f.stage f.left
  short : length f.left < 3 + program_bytes
  closes : every goes_on f.came ≡ false → f.stage ≡ over

left_of : {f : Fed} → Settled f → Left f
left_of s = record { rests = s.rests; short = omega (arith, s.short); closes = s.closes }

opening_left : (l : List ℕ) (p : Part ℕ) → length_in l ≡ p → Fit l p → Left (opened_to l (opened_of l p))
unfolding fed opening_in
opening_left l (whole n at) e f = left_of (opened_settled l (take n (drop at l)) (at + n))
opening_left l bad e f = left_of (end_settled bad_program)
opening_left l cut e f = record { rests = rw e; short = f; closes = λ g. never g }

left : (g : Stage) (l : List ℕ) → Left (fed g l)
unfolding fed opening_in
left opening l = opening_left l (length_in l) refl (length_fits l)
left (playing program st) l = left_of (played_settled program st l)
left over l = record { rests = refl; short = omega arith; closes = λ _. refl }

-- windows
abbrev result : Fed → List Came
result f = f.came ++ finished f.stage f.left

in_windows_lem : (ws : List (List ℕ)) (g : Stage) (l : List ℕ) → fed g l ≡ pausing g l → in_windows g l ws ≡ result (fed g (l ++ joined ws))
unfolding in_windows
in_windows_lem [] g l e = rw (append-nil l, e)
in_windows_lem (w ∷ ws) g l e =
    let f : Fed = fed g (l ++ w) in
    let ih = in_windows_lem ws f.stage f.left (left g (l ++ w)).rests in
    let h : Fed = fed f.stage (f.left ++ joined ws) in
    rw (ih, sym (append_assoc l w (joined ws)), fed_join g (l ++ w) (joined ws)) (sym (append_assoc f.came h.came (finished h.stage h.left)))

-- what the end of the input comes to goes on, so what does not came before
ends_go_on : (g : Stage) (l : List ℕ) → every goes_on (finished g l) ≡ true
ends_go_on opening l = refl
ends_go_on (playing program st) [] = refl
ends_go_on (playing program st) (b ∷ l) = refl
ends_go_on over l = refl

closed_before : (f : Fed) → every goes_on (result f) ≡ false → every goes_on f.came ≡ false
closed_before f e = go (every goes_on f.came) refl
  where
    go : (b : Bool) → every goes_on f.came ≡ b → every goes_on f.came ≡ false
    go true h = never (sym (every_append goes_on f.came (finished f.stage f.left) h (ends_go_on f.stage f.left)) ∙ e)
    go false h = h

-- what follows then is not looked at
closed_on : (f : Fed) (v : List ℕ) → f.stage ≡ over → result (and_fed f (λ g l. fed g (l ++ v))) ≡ result f
unfolding fed
closed_on f v e = rw (e, append-nil f.came) (append-nil f.came)

closed_stays : (u v : List ℕ) → every goes_on (course u) ≡ false → course (u ++ v) ≡ course u
unfolding course
closed_stays u v e =
    rw (fed_join opening u v) (closed_on (fed opening u) v ((left opening u).closes (closed_before (fed opening u) e)))

-- before the first
nothing : fed opening [] ≡ pausing opening []
unfolding fed opening_in length_in number_at groups_at
nothing = refl

pub windows : Windows
unfolding course
windows =
    record {
      same = λ ws. in_windows_lem ws opening [] nothing;
      short = λ g l. (left g l).short;
      closed = closed_stays;
    }
