-- Where the acceptor stops is where a text is bad, and that is one place. Assumes nothing.
use Prim.Native.Nat.{ℕ, zero, suc, ◌+◌, ◌*◌, ◌-◌, ◌<◌, ◌≤◌}
use mathlib.Core.Path.{◌≡◌, refl, sym, ap, subst, ◌∙◌}
use mathlib.Core.List.{List, [], ◌∷◌, ◌++◌, append_assoc}
use mathlib.Core.Bool.{◌&&◌}
use mathlib.Core.Logic.{◌⊎◌, inl, inr, ⊎_elim}
use native.Mathlib.Nat.{add-zero, mul_assoc, mul_left_comm}
use native.Mathlib.Numerals.{add-one}
use native.Mathlib.Omega.{arith, by_contra}
use lib.ListN.{length, drop, take}
use lib.Seq.{take-add}
use lib.Dec.{ltb, eqb}
use Rattle.terms.proofs.Choice.{pick_case, both}
use Rattle.grammar.specs.Readings.{Begins, goes_on, BadAt, Judged, good, bad}
use Rattle.grammar.specs.Machine.{State, want, had, banged, digits, dead, tens, may_be, is_digit, to_come, in_number, closes, step, Seen}
use Rattle.grammar.specs.Machine.{whole, stop, ended, alive, scan, from}
use Rattle.grammar.proofs.Machines.{run, run_append}
use Rattle.grammar.proofs.Complete.{some_tens, may, may_be_lem, next_digit, passes}
use Rattle.grammar.proofs.Sound.{Good, reading, sound}

-- dead stays dead
run_dead : (xs : List ℕ) → run step dead xs ≡ dead
unfolding run step
run_dead [] = refl
run_dead (x ∷ xs) = run_dead xs

pub not_dead : {d : ℕ} {st : State} → st ≡ had d → st ≡ dead → ⊥
not_dead e f = let z : ◌≡◌ {A = ℕ} 0 1 = cc in omega arith

-- a state that is not dead goes on
dead_or : (st : State) → (st ≡ dead) ⊎ ((at : ℕ) (r : Seen) → alive st at r ≡ r)
dead_or (want d) = inr (λ at r. refl)
dead_or (had d) = inr (λ at r. refl)
dead_or (banged d) = inr (λ at r. refl)
dead_or (digits k n least most d) = inr (λ at r. refl)
dead_or dead = inl refl

-- over a text that does not kill it
pub scan_on :
    (w z : List ℕ) (st end : State) (at : ℕ) → run step st w ≡ end → (end ≡ dead → ⊥) → scan st at (w ++ z) ≡ scan end (at + length w) z
unfolding run scan
scan_on [] z st end at e live = rw (add-zero at, e)
scan_on (x ∷ w) z st end at e live =
    ⊎_elim (λ d. absurd (live (sym e ∙ ap (λ (q : State). run step q w) d ∙ run_dead w)))
    (λ a. let i : (at + 1) + length w ≡ at + suc (length w) = omega arith in
    a at _ ∙ (rw i at (scan_on w z (step st x) end (at + 1) e live)))
    (dead_or (step st x))

-- how a text can be finished from a state on
data Ends (st : State) : Type 0 where
  ends : (z : List ℕ) → run step st z ≡ had 0 → Ends st

one_more : {st end : State} (x : ℕ) → step st x ≡ end → Ends end → Ends st
unfolding run
one_more x e (ends z f) = ends (x ∷ z) (rw e f)

ends_had : (d : ℕ) → Ends (had d)
unfolding run step closes
ends_had zero = ends [] refl
ends_had (suc d) = one_more 41 refl (ends_had d)

ends_want : (d : ℕ) → Ends (want d)
unfolding step
ends_want d = one_more 48 refl (ends_had d)

-- what is kept of a state that is not dead: of a number in a name, that it can be finished
abbrev Live : State → Type 0
Live (want d) = Unit {0}
Live (had d) = Unit {0}
Live (banged d) = Unit {0}
Live (digits k n least most d) = (least ≤ 1) × ((1 ≤ most) × (n * tens (suc k) ≤ most))
Live dead = ⊥

live_on : (st : State) → Live st → (at : ℕ) (r : Seen) → alive st at r ≡ r
live_on st l = ⊎_elim (λ e. absurd (subst Live e l)) (λ a. a) (dead_or st)

-- a digit with which the number can still be finished: 0, or 1 where it would be too small
ends_digits : (k n least most d : ℕ) → least ≤ 1 → 1 ≤ most → n * tens (suc k) ≤ most → Ends (digits k n least most d)
unfolding tens to_come
ends_digits zero zero least most d l m h =
    one_more 49 (next_digit 0 0 least most d 1 (omega arith) (may least most 0 1 (omega arith) (omega arith))) (ends_had d)
ends_digits zero (suc n) least most d l m h =
    one_more 48 (next_digit 0 (suc n) least most d 0 (omega arith) (may least most 0 (10 * suc n + 0) (omega arith) (omega arith))) (ends_had d)
ends_digits (suc k) n least most d l m h =
    let p = tens k in
    let g : (10 * n + 0) * (10 * p) ≤ most = omega (arith, mul_assoc 10 n (10 * p), mul_left_comm n 10 (10 * p)) in
    one_more 48 (next_digit (suc k) n least most d 0 (omega arith) (may least most (suc k) (10 * n + 0) g (omega (arith, some_tens k))))
    (ends_digits k (10 * n + 0) least most d l m g)

finishes : (st : State) → Live st → Ends st
unfolding step
finishes (want d) l = ends_want d
finishes (had d) l = ends_had d
finishes (banged d) l = one_more 38 refl (ends_want d)
finishes (digits k n least most d) l = ends_digits k n least most d l.0 l.1.0 l.1.1
finishes dead l = absurd l

-- a step from a live state is dead or live
abbrev Next : State → Type 0
Next st = (st ≡ dead) ⊎ Live st

live_number : (k n least most d : ℕ) → least ≤ 1 → 1 ≤ most → n * tens k ≤ most → Live (to_come k n least most d)
unfolding to_come
live_number zero n least most d l m h = tt
live_number (suc k) n least most d l m h = (l, (m, h))

live_close : (d : ℕ) → Next (closes d)
unfolding closes
live_close zero = inl refl
live_close (suc d) = inr tt

live_step : (st : State) (x : ℕ) → Live st → Next (step st x)
unfolding step in_number
live_step (want d) x l =
    pick_case Next (eqb x 32) (λ _. inr tt)
    (λ _. pick_case Next (eqb x 33) (λ _. inr tt)
    (λ _. pick_case Next (eqb x 40) (λ _. pick_case Next (ltb d 16) (λ _. inr tt) (λ _. inl refl))
    (λ _. pick_case Next (eqb x 48) (λ _. inr tt)
    (λ _. pick_case Next (eqb x 49) (λ _. inr tt)
    (λ _. pick_case Next (eqb x 73) (λ _. inr (live_number 2 0 1 32 d (omega arith) (omega arith) (omega arith)))
    (λ _. pick_case Next (eqb x 66) (λ _. inr (live_number 3 0 0 199 d (omega arith) (omega arith) (omega arith))) (λ _. inl refl)))))))
live_step (had d) x l =
    pick_case Next (eqb x 32) (λ _. inr tt)
    (λ _. pick_case Next (eqb x 33) (λ _. inr tt)
    (λ _. pick_case Next (eqb x 38) (λ _. inr tt)
    (λ _. pick_case Next (eqb x 94) (λ _. inr tt)
    (λ _. pick_case Next (eqb x 124) (λ _. inr tt) (λ _. pick_case Next (eqb x 41) (λ _. live_close d) (λ _. inl refl))))))
live_step (banged d) x l =
    pick_case Next (eqb x 38) (λ _. inr tt) (λ _. pick_case Next (eqb x 124) (λ _. inr tt) (λ _. inl refl))
live_step (digits k n least most d) x l =
    let v = 10 * n + (x - 48) in
    pick_case Next (is_digit x && may_be least most k v)
    (λ e. inr (live_number k v least most d l.0 l.1.0 (may_be_lem least most k v (both (is_digit x) (may_be least most k v) e).1).0))
    (λ _. inl refl)
live_step dead x l = absurd l

ended_at : (st : State) (p k : ℕ) → ended st p ≡ stop k → (p ≡ k) × (st ≡ had 0 → ⊥)
ended_at (want d) p k e = (cc, λ f. let z : ◌≡◌ {A = ℕ} 0 1 = cc in omega arith)
ended_at (had zero) p k e = let z : ◌≡◌ {A = ℕ} 0 1 = cc in absurd (omega arith)
ended_at (had (suc d)) p k e = (cc, λ f. let z : suc d ≡ 0 = cc in omega arith)
ended_at (banged d) p k e = (cc, λ f. let z : ◌≡◌ {A = ℕ} 0 1 = cc in omega arith)
ended_at (digits i n least most d) p k e = (cc, λ f. let z : ◌≡◌ {A = ℕ} 0 1 = cc in omega arith)
ended_at dead p k e = (cc, λ f. let z : ◌≡◌ {A = ℕ} 0 1 = cc in omega arith)

-- a text stops at k, m bytes on: these m bytes can be finished, with one more they cannot, and the whole is not passed over
record Stops (st : State) (p : ℕ) (xs : List ℕ) (k : ℕ) : Type 0 where
  m : ℕ
  at : k ≡ p + m
  inside : m ≤ length xs
  finished : Ends (run step st (take m xs))
  no_more : m < length xs → run step st (take (suc m) xs) ≡ dead
  not_whole : run step st xs ≡ had 0 → ⊥

stops : (xs : List ℕ) (st : State) (p k : ℕ) → Live st → scan st p xs ≡ stop k → Stops st p xs k
unfolding scan run
stops [] st p k l e =
    let o = ended_at st p k e in
    record { m = 0; at = omega (arith, o.0); inside = omega arith; finished = finishes st l; no_more = λ h. absurd (omega arith); not_whole = o.1 }
stops (x ∷ xs) st p k l e =
    ⊎_elim
    (λ d. let f : stop p ≡ stop k = (rw d at e) in
    let g : p ≡ k = cc in
    record {
      m = 0;
      at = omega arith;
      inside = omega arith;
      finished = finishes st l;
      no_more = λ h. d;
      not_whole = λ w. not_dead w (ap (λ (q : State). run step q xs) d ∙ run_dead xs);
    })
    (λ a. let r = stops xs (step st x) (p + 1) k a (sym (live_on (step st x) a _ _) ∙ e) in
    record {
      m = suc r.m;
      at = omega (arith, r.at);
      inside = omega (arith, r.inside);
      finished = r.finished;
      no_more = λ h. r.no_more (omega arith);
      not_whole = r.not_whole;
    })
    (live_step st x l)

begins : (s : List ℕ) → Ends (run step (want 0) s) → Begins s
begins s (ends z e) = go (sound (s ++ z) (run_append step (want 0) s z ∙ e))
  where
    go : Good (s ++ z) → Begins s
    go (reading t x) = goes_on z t x

not_begun : (s : List ℕ) → run step (want 0) s ≡ dead → Begins s → ⊥
not_begun s e (goes_on z t x) =
    not_dead (sym (run_append step (want 0) s z) ∙ (passes x).there) (ap (λ (q : State). run step q z) e ∙ run_dead z)

pub bad_at : (s : List ℕ) (k : ℕ) → from s (want 0) 0 ≡ stop k → BadAt s k
unfolding from
bad_at s k e =
    let r = stops s (want 0) 0 k tt e in
    let q : r.m ≡ k = omega (arith, r.at) in
    record {
      no_reading = λ t x. r.not_whole (passes x).there;
      within = omega (arith, r.inside);
      same_beginning = begins (take k s) (rw q at r.finished);
      no_such_byte = λ h. not_begun (take (k + 1) s) (rw (add-one k, ← q) (r.no_more (omega arith)));
    }

ended_whole : (st : State) (p : ℕ) → ended st p ≡ whole → st ≡ had 0
ended_whole (want d) p e = let z : ◌≡◌ {A = ℕ} 0 1 = cc in absurd (omega arith)
ended_whole (had zero) p e = refl
ended_whole (had (suc d)) p e = let z : ◌≡◌ {A = ℕ} 0 1 = cc in absurd (omega arith)
ended_whole (banged d) p e = let z : ◌≡◌ {A = ℕ} 0 1 = cc in absurd (omega arith)
ended_whole (digits k n least most d) p e = let z : ◌≡◌ {A = ℕ} 0 1 = cc in absurd (omega arith)
ended_whole dead p e = let z : ◌≡◌ {A = ℕ} 0 1 = cc in absurd (omega arith)

to_end : (xs : List ℕ) (st : State) (p : ℕ) → Live st → scan st p xs ≡ whole → run step st xs ≡ had 0
unfolding scan run
to_end [] st p l e = ended_whole st p e
to_end (x ∷ xs) st p l e =
    ⊎_elim (λ d. let f : stop p ≡ whole = (rw d at e) in let z : ◌≡◌ {A = ℕ} 0 1 = cc in absurd (omega arith))
    (λ a. to_end xs (step st x) (p + 1) a (sym (live_on (step st x) a _ _) ∙ e)) (live_step st x l)

pub judged : (s : List ℕ) → Judged s
unfolding from
judged s = go (from s (want 0) 0) refl
  where
    is_good_lem : Good s → Judged s
    is_good_lem (reading t x) = good t x

    go : (r : Seen) → from s (want 0) 0 ≡ r → Judged s
    go whole e = is_good_lem (sound s (to_end s (want 0) 0 tt e))
    go (stop k) e = bad k (bad_at s k e)

-- a beginning of a beginning of a good text is one
shorter : (s : List ℕ) (m n : ℕ) → Begins (take (m + n) s) → Begins (take m s)
shorter s m n (goes_on z t x) =
    goes_on (take n (drop m s) ++ z) t (rw (← append_assoc (take m s) (take n (drop m s)) z, ← take-add m n s) x)

not_before : (s : List ℕ) (j k : ℕ) → BadAt s j → BadAt s k → j < k → ⊥
not_before s j k x y h =
    x.no_such_byte (omega (arith, y.within))
    (shorter s (j + 1) (k - (j + 1)) (let e : (j + 1) + (k - (j + 1)) ≡ k = omega arith in rw e y.same_beginning))

pub one_place : (s : List ℕ) (j k : ℕ) → BadAt s j → BadAt s k → j ≡ k
one_place s j k x y =
    let a : k ≤ j = by_contra k j (not_before s j k x y) in
    let b : j ≤ k = by_contra j k (not_before s k j y x) in
    omega arith
