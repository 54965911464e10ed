-- Names counted one by one: what is counted already, and what is found from here on, make the whole. Assumes nothing.
use Prim.Native.Nat.{ℕ, suc, ◌+◌, ◌-◌, ◌<◌, ◌≤◌}
use mathlib.Core.Path.{◌≡◌, refl, sym, ap, ◌∙◌}
use mathlib.Core.Bool.{Bool, true, false, not}
use mathlib.Core.List.{List, []}
use native.Mathlib.Nat.{add-zero, zero-add}
use native.Mathlib.Omega.{arith}
use lib.Dec.{ltb}
use lib.ListN.{length}
use borrow.Author.Tests.{lt-ltb, le-ltb, not-true, not-false}
use Rattle.std.specs.Prelude.{Option, None, Some}
use Rattle.terms.proofs.Choice.{pairs}
use Rattle.terms.specs.Choice.{pick}
use Rattle.spelling.specs.Spelling.{after_spaces}
use Rattle.spelling.proofs.Spaces.{skipped_within}
use Rattle.words.specs.Words.{alarms, word_text}
use Rattle.words.specs.Standing.{stands_at}
use Rattle.words.proofs.Standing.{stands_exactly}
use Rattle.layout.specs.Layout.{most_named}
use Rattle.layout.specs.Fields.{Found, found, lost, before}
use Rattle.layout.specs.Alarms.{names_from, alarms_from}
use Rattle.layout.proofs.Fielding.{stands_within}
use Rattle.alarm_line.specs.declared.Alarm.{Alarm}
use Rattle.alarm_line.specs.declared.Alarm.TheVariants.{Bit, End, NoAlarm}
use Rattle.alarm_line.specs.Naming.{Count}
use Rattle.alarm_line.specs.Naming.{Names, NoCount}
use Rattle.alarm_line.specs.Naming.{alarm_at, counted, as_count, names_place, counted_in}
use Rattle.alarm_line.proofs.Naming.{onward, names_by, alarm_within}

-- n names behind a place are counted, and these are found
unfoldable pub counted_on : ℕ → ℕ → Found → Count
counted_on at n (found vs) = pick (ltb (n + length vs) (suc most_named)) (Names (n + length vs) at) NoCount
counted_on at n lost = NoCount

none_yet : (at : ℕ) (x : Found) → counted_on at 0 x ≡ counted at x
unfolding counted_on
none_yet at (found vs) = rw (zero-add (length vs))
none_yet at lost = refl

one_more : (at n r : ℕ) (x : Found) → counted_on at n (before r x) ≡ counted_on at (n + 1) x
unfolding counted_on
one_more at n r (found vs) = let e : n + suc (length vs) ≡ n + 1 + length vs = omega arith in rw e
one_more at n r lost = refl

no_more : (at n : ℕ) → n < suc most_named → counted_on at n (found []) ≡ Names n at
unfolding counted_on
no_more at n h = rw (add-zero n, lt-ltb n (suc most_named) h)

too_many : (at n : ℕ) (x : Found) → suc most_named ≤ n → counted_on at n x ≡ NoCount
unfolding counted_on
too_many at n (found vs) h = rw (le-ltb (n + length vs) (suc most_named) (omega arith))
too_many at n lost h = refl

-- n names of a line are counted, those from the place `at` up to the place p
pub record Going (s : List ℕ) (at p n : ℕ) : Type 0 where
  pub within : p ≤ length s
  pub few : n ≤ p
  pub same : counted_on at n (names_from (suc (length s) - n) s p) ≡ counted_in s

module _ (s : List ℕ) where
  -- the word, or not
  module _ {p : ℕ} {b : Bool} (e : p ≡ after_spaces s 0) (f : b ≡ stands_at (word_text alarms) s p) where
    pub wordless : not b ≡ true → NoCount ≡ counted_in s
    unfolding counted_in alarms_from
    wordless t = rw (← e, ← f, not-true b t)

    module _ (t : not b ≡ false) {size : ℕ} (g : size ≡ length (word_text alarms)) where
      stands : stands_at (word_text alarms) s p ≡ true
      stands = sym f ∙ not-false b t

      pub names_within : p + size ≤ length s
      names_within =
          let i = skipped_within s 0 (omega arith) e in
          rw g (stands_within s (word_text alarms) p i.1 ((stands_exactly (word_text alarms) s p).0 stands))

      behind : counted (p + size) (names_from (suc (length s)) s (p + size)) ≡ counted_in s
      unfolding counted_in alarms_from names_place
      behind = rw (← e, ← g, stands)

      pub starts : Going s (p + size) (p + size) 0
      starts =
          let z : suc (length s) - 0 ≡ suc (length s) = omega arith in
          record {
            within = names_within;
            few = omega arith;
            same = rw z (none_yet (p + size) (names_from (suc (length s)) s (p + size)) ∙ behind);
          }

  module _ {at p n : ℕ} (g : Going s at p n) where
    -- by what stands here
    by_alarm : {a : Alarm} → alarm_at s p ≡ a → counted_on at n (onward a (names_from (suc (length s) - (n + 1)) s)) ≡ counted_in s
    by_alarm {a} e =
        let f : suc (length s) - n ≡ suc (suc (length s) - (n + 1)) = omega (arith, g.within, g.few) in
        sym (ap (counted_on at n) (names_by (suc (length s) - (n + 1)) s p e)) ∙ (rw f at g.same)

    pub goes_on : {r next : ℕ} → alarm_at s p ≡ Bit r next → Going s at next (n + 1)
    goes_on {r} {next} e =
        let w = alarm_within s p r next g.within e in
        record {
          within = w.1;
          few = omega (arith, g.few, w.0);
          same = sym (one_more at n r (names_from (suc (length s) - (n + 1)) s next)) ∙ by_alarm e;
        }

    pub all_counted : n < suc most_named → alarm_at s p ≡ End → Names n at ≡ counted_in s
    all_counted h e = sym (no_more at n h) ∙ by_alarm e

    pub broken : alarm_at s p ≡ NoAlarm → NoCount ≡ counted_in s
    unfolding counted_on
    broken e = by_alarm e

    pub uncountable : suc most_named ≤ n → NoCount ≡ counted_in s
    uncountable h = sym (too_many at n (names_from (suc (length s) - n) s p) h) ∙ g.same

-- what the code answers, once it is known which it is
pub count_had : (x : Count) {n at : ℕ} → Some (n, at) ≡ as_count x → x ≡ Names n at
count_had (Names m k) {n} {at} e = let p : ◌≡◌ {A = ℕ × ℕ} (n, at) (m, k) = cc in let q = pairs p in cc
count_had NoCount e = let z : ◌≡◌ {A = ℕ} 0 1 = cc in absurd (omega arith)

pub count_none : (x : Count) → None ≡ as_count x → x ≡ NoCount
count_none (Names m k) e = let z : ◌≡◌ {A = ℕ} 0 1 = cc in absurd (omega arith)
count_none NoCount e = refl
