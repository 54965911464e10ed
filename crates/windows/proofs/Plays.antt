-- Scans played one after the other: fuel that is enough makes no difference, and bytes that follow are played after those at hand. Assumes nothing.
use Prim.Native.Nat.{ℕ, zero, suc, ◌≤◌, ◌<◌}
use mathlib.Core.Path.{◌≡◌, refl, sym, ap, subst, ◌∙◌}
use mathlib.Core.Bool.{Bool, true, false}
use mathlib.Core.List.{List, [], ◌∷◌, ◌++◌}
use native.Mathlib.Omega.{arith}
use lib.Dec.{eqb}
use lib.ListN.{length, drop, length-append, length-drop}
use lib.Seq.{drop-append-le}
use Rattle.terms.specs.Choice.{pick, every}
use Rattle.terms.proofs.Choice.{never}
use Rattle.image.specs.declared.State.{State}
use Rattle.scanning.specs.Scan.{Inputs}
use Rattle.calls.specs.Calls.{scan_of}
use Rattle.wire.specs.Number.{groups_at, number_at}
use Rattle.recording.specs.Recording.{Part, whole, bad, cut, shorts_at, scan_at}
use Rattle.recording.proofs.Ends.{Takes, scan_takes}
use Rattle.recording.proofs.Prefixes.{Stays, scan_stays}
use Rattle.playback.specs.Playback.{Came, ran, refused, bad_scan, Stage, playing, over, Fed, pausing, ending, before}
use Rattle.playback.specs.Playback.{runs, refuses, turn_by, turn_of, played_by, played_in, played, fed}
use Rattle.windows.specs.Windows.{goes_on}

-- no bytes are no scan yet
none : scan_at [] 0 ≡ cut
unfolding scan_at shorts_at number_at groups_at
none = refl

empty : (l : List ℕ) → length l ≤ 0 → l ≡ []
empty [] h = refl
empty (b ∷ l) h = absurd (omega arith)

-- one feed after another
abbrev pub and_fed : Fed → (Stage → List ℕ → Fed) → Fed
and_fed f g = let h = g f.stage f.left in record { came = f.came ++ h.came; stage = h.stage; left = h.left }

-- a feed that ends is not changed by what follows
pub after_end : (c : Came) (v : List ℕ) → ending c ≡ and_fed (ending c) (λ g l. fed g (l ++ v))
unfolding fed
after_end c v = refl

module _ (program : List ℕ) where
  -- what comes of a turn goes by the scan that stands there
  by_scan : (st : State) (l : List ℕ) (f g : State → ℕ → Fed) (p : Part Inputs) → ((x : Inputs) (k : ℕ) → p ≡ whole x k → (s : State) → f s k ≡ g s k)
      → played_by program st l f (turn_of program st p) ≡ played_by program st l g (turn_of program st p)
  unfolding turn_by
  by_scan st l f g (whole x k) h = go (eqb (scan_of program x st).refusal 0)
    where
      go : (b : Bool) → let a = scan_of program x st in
          played_by program st l f (pick b (runs x a k) (refuses a))
          ≡ played_by program st l g (pick b (runs x a k) (refuses a))
      go true = ap (before (ran x (scan_of program x st))) (h x k refl (scan_of program x st).state)
      go false = refl
  by_scan st l f g bad h = refl
  by_scan st l f g cut h = refl

  -- a scan that is run leaves fewer bytes
  fewer : (l : List ℕ) (n : ℕ) {x : Inputs} {k : ℕ} → length l ≤ suc n → scan_at l 0 ≡ whole x k → length (drop k l) ≤ n
  fewer l n h e = let t = subst (Takes l 11 0) e (scan_takes l 0 (omega arith)) in simp length-drop (omega (arith, t.0, t.1.1))

  enough : (n m : ℕ) (st : State) (l : List ℕ) → length l ≤ n → length l ≤ m → played_in n program st l ≡ played_in m program st l
  unfolding played_in
  enough zero zero st l h k = refl
  enough zero (suc m) st l h k = rw (empty l h, none)
  enough (suc n) zero st l h k = rw (empty l k, none)
  enough (suc n) (suc m) st l h k =
      by_scan st l _ _ (scan_at l 0) (λ x j e s. enough n m s (drop j l) (fewer l n h e) (fewer l m k e))

  pub all_of : (n : ℕ) (st : State) (l : List ℕ) → length l ≤ n → played_in n program st l ≡ played program st l
  unfolding played
  all_of n st l h = enough n (length l) st l h (omega arith)

  -- one that waits goes on with what follows
  after_pause : (m : ℕ) (st : State) (u v : List ℕ) → length (u ++ v) ≤ m
      → played_in m program st (u ++ v) ≡ and_fed (pausing (playing program st) u) (λ g l. fed g (l ++ v))
  unfolding fed
  after_pause m st u v h = all_of m st (u ++ v) h

  -- one scan that is run or refused, of u and of more bytes alike
  run_on : (n m : ℕ) (st : State) (u v : List ℕ) (x : Inputs) (k : ℕ) → k ≤ length u → let a = scan_of program x st in
      (played_in m program a.state (drop k u ++ v) ≡ and_fed (played_in n program a.state (drop k u)) (λ g l. fed g (l ++ v))) →
      played_by program st (u ++ v) (λ s o. played_in m program s (drop o (u ++ v))) (turn_by x k a)
      ≡ and_fed (played_by program st u (λ s o. played_in n program s (drop o u)) (turn_by x k a)) (λ g l. fed g (l ++ v))
  unfolding turn_by
  run_on n m st u v x k w e = go (eqb (scan_of program x st).refusal 0)
    where
      go : (b : Bool) → let a = scan_of program x st in
          played_by program st (u ++ v) (λ s o. played_in m program s (drop o (u ++ v))) (pick b (runs x a k) (refuses a))
          ≡ and_fed (played_by program st u (λ s o. played_in n program s (drop o u)) (pick b (runs x a k) (refuses a))) (λ g l. fed g (l ++ v))
      go true = rw (drop-append-le k u v w) (ap (before (ran x (scan_of program x st))) e)
      go false = after_end (refused (scan_of program x st).refusal (scan_of program x st).place) v

  join_in : (n m : ℕ) (st : State) (u v : List ℕ) → length u ≤ n → length (u ++ v) ≤ m
      → played_in m program st (u ++ v) ≡ and_fed (played_in n program st u) (λ g l. fed g (l ++ v))
  unfolding played_in
  join_in zero m st u v h k = after_pause m st u v k
  join_in (suc n) zero st u v h k =
      let z : length u ≤ 0 = omega (arith, length-append u v) in
      after_pause zero st u v k ∙ ap (λ (f : Fed). and_fed f (λ g l. fed g (l ++ v))) (enough zero (suc n) st u z h)
  join_in (suc n) (suc m) st u v h k =
      by_part (scan_at u 0) refl (scan_stays u v 0) (λ s w i j. join_in n m s w v i j)
    where
      by_part : (p : Part Inputs) → scan_at u 0 ≡ p → Stays p (scan_at (u ++ v) 0)
          → ((s : State) (w : List ℕ) → length w ≤ n → length (w ++ v) ≤ m → played_in m program s (w ++ v) ≡ and_fed (played_in n program s w) (λ g l. fed g (l ++ v)))
          → played_in (suc m) program st (u ++ v) ≡ and_fed (played_by program st u (λ s o. played_in n program s (drop o u)) (turn_of program st p)) (λ g l. fed g (l ++ v))
      by_part (whole x j) e s ih =
          let t = subst (Takes u 11 0) e (scan_takes u 0 (omega arith)) in
          let d : length (drop j u ++ v) ≤ m = rw (sym (drop-append-le j u v t.1.1)) (fewer (u ++ v) m k s) in
          rw s (run_on n m st u v x j t.1.1 (ih (scan_of program x st).state (drop j u) (fewer u n h e) d))
      by_part bad e s ih = rw s (after_end bad_scan v)
      by_part cut e s ih = after_pause (suc m) st u v k

  pub played_join : (st : State) (u v : List ℕ) → played program st (u ++ v) ≡ and_fed (played program st u) (λ g l. fed g (l ++ v))
  unfolding played
  played_join st u v = join_in (length u) (length (u ++ v)) st u v (omega arith) (omega arith)

-- what is left is played no further, and is shorter than the longest scan, eleven numbers of three bytes; and what does not go on ends the run
pub record Settled (f : Fed) : Type 0 where
  pub rests : fed f.stage f.left ≡ pausing f.stage f.left
  pub short : length f.left < 33
  pub closes : every goes_on f.came ≡ false → f.stage ≡ over

pub end_settled : (c : Came) → Settled (ending c)
unfolding fed
end_settled c = record { rests = refl; short = omega arith; closes = λ _. refl }

module _ (program : List ℕ) where
  waiting : (st : State) (l : List ℕ) → scan_at l 0 ≡ cut → Settled (pausing (playing program st) l)
  unfolding fed played_in
  waiting st l e =
      let z : played program st l ≡ played_in (suc (length l)) program st l = sym (all_of program (suc (length l)) st l (omega arith)) in
      record { rests = z ∙ rw e; short = subst (Takes l 11 0) e (scan_takes l 0 (omega arith)); closes = λ f. never f }

  settled_in : (n : ℕ) (st : State) (l : List ℕ) → length l ≤ n → Settled (played_in n program st l)
  unfolding played_in turn_by
  settled_in zero st l h = waiting st l (ap (λ (s : List ℕ). scan_at s 0) (empty l h) ∙ none)
  settled_in (suc n) st l h = by_part (scan_at l 0) refl (λ s k i. settled_in n s (drop k l) i)
    where
      by_part : (p : Part Inputs) → scan_at l 0 ≡ p → ((s : State) (k : ℕ) → length (drop k l) ≤ n → Settled (played_in n program s (drop k l)))
          → Settled (played_by program st l (λ s k. played_in n program s (drop k l)) (turn_of program st p))
      by_part (whole x k) e ih = go (eqb (scan_of program x st).refusal 0)
        where
          go : (b : Bool) → let a = scan_of program x st in
              Settled (played_by program st l (λ s k. played_in n program s (drop k l)) (pick b (runs x a k) (refuses a)))
          go true = let s = ih (scan_of program x st).state k (fewer program l n h e) in record { rests = s.rests; short = s.short; closes = s.closes }
          go false = end_settled _
      by_part bad e ih = end_settled bad_scan
      by_part cut e ih = waiting st l e

  pub played_settled : (st : State) (l : List ℕ) → Settled (played program st l)
  unfolding played
  played_settled st l = settled_in (length l) st l (omega arith)
