-- The names of an alarms' line one by one: what stands at a place decides what is found from there on. Assumes nothing.
use Prim.Native.Nat.{ℕ, zero, suc, ◌<◌, ◌≤◌}
use mathlib.Core.Path.{◌≡◌, refl, sym, ap, ◌∙◌}
use mathlib.Core.Bool.{Bool, true, false}
use mathlib.Core.List.{List, [], ◌∷◌}
use native.Mathlib.Omega.{arith}
use lib.Dec.{ltb, leb}
use lib.ListN.{length}
use borrow.Author.Tests.{ltb-true}
use Rattle.terms.specs.Choice.{pick}
use Rattle.terms.proofs.Choice.{pick_case}
use Rattle.numbers.specs.Types.{bit_ref}
use Rattle.spelling.specs.Spelling.{Named}
use Rattle.spelling.specs.Spelling.{Bit as BitName, NoName}
use Rattle.spelling.specs.Spelling.{after_spaces, name_at}
use Rattle.spelling.proofs.Spaces.{skipped_within}
use Rattle.shown.specs.Show.{name_of}
use Rattle.layout.specs.Fields.{Found, found, lost, before}
use Rattle.layout.specs.Alarms.{taken_name, names_from}
use Rattle.layout.proofs.Names.{name_told}
use Rattle.layout.proofs.Fielding.{stands_within}
use Rattle.alarm_line.specs.declared.Alarm.{Alarm}
use Rattle.alarm_line.specs.declared.Alarm.TheVariants.{Bit, End, NoAlarm}
use Rattle.alarm_line.specs.Naming.{alarm_of, alarm_at, named_first, first_names}

-- what is found from a place on, by what stands there
abbrev pub onward : Alarm → (ℕ → Found) → Found
onward (Bit r next) rest = before r (rest next)
onward End rest = found []
onward NoAlarm rest = lost

by_tests :
    (a b : Bool) (n : Named) (rest : ℕ → Found) →
    pick a (found []) (pick b (taken_name n rest) lost) ≡ onward (pick a End (pick b (alarm_of n) NoAlarm)) rest
by_tests true b n rest = refl
by_tests false true (BitName r next) rest = refl
by_tests false true (NoName at) rest = refl
by_tests false false n rest = refl

pub names_by : (left : ℕ) (s : List ℕ) (at : ℕ) {a : Alarm} → alarm_at s at ≡ a → names_from (suc left) s at ≡ onward a (names_from left s)
unfolding names_from alarm_at
names_by left s at e =
    by_tests (leb (length s) (after_spaces s at)) (ltb at (after_spaces s at)) (name_at s (after_spaces s at)) (names_from left s)
    ∙ ap (λ (a : Alarm). onward a (names_from left s)) e

module _ (s : List ℕ) (at r next : ℕ) (h : at ≤ length s) where
  abbrev Within : Type 0
  Within = (at < next) × (next ≤ length s)

  named_within : at < after_spaces s at → (n : Named) → name_at s (after_spaces s at) ≡ n → alarm_of n ≡ Bit r next → Within
  named_within l (NoName q) e f = let z : ◌≡◌ {A = ℕ} 0 1 = cc in absurd (omega arith)
  named_within l (BitName v q) e f =
      let g : q ≡ next = cc in
      let p = after_spaces s at in
      let i = skipped_within s at {next = p} h refl in
      let n = (name_told s p v q e).0 in
      let w = stands_within s (name_of (bit_ref v)) p i.1 n.stands in
      (omega (arith, n.end), omega (arith, n.end))

  -- a name goes on, and not past the end
  pub alarm_within : alarm_at s at ≡ Bit r next → Within
  unfolding alarm_at
  alarm_within =
      pick_case (λ (a : Alarm). a ≡ Bit r next → Within) (leb (length s) (after_spaces s at))
      (λ _ f. let z : ◌≡◌ {A = ℕ} 0 1 = cc in absurd (omega arith))
      (λ _. pick_case (λ (a : Alarm). a ≡ Bit r next → Within) (ltb at (after_spaces s at))
      (λ t. named_within (ltb-true at (after_spaces s at) t) (name_at s (after_spaces s at)) refl)
      (λ _ f. let z : ◌≡◌ {A = ℕ} 0 1 = cc in absurd (omega arith)))

-- the first so many names, by what stands at a place
pub first_by : (k : ℕ) (s : List ℕ) (at : ℕ) {a : Alarm} → alarm_at s at ≡ a → first_names (suc k) s at ≡ named_first a (first_names k s)
unfolding first_names
first_by k s at e = rw e

-- of names that are found, the first, as many as they are, are all
abbrev AllFirst : ℕ → List ℕ → ℕ → List ℕ → Type 0
AllFirst left s at vs = names_from left s at ≡ found vs → first_names (length vs) s at ≡ vs

module _ (left : ℕ) (s : List ℕ) (rest : (to : ℕ) (us : List ℕ) → AllFirst left s to us) (at : ℕ) (vs : List ℕ) where
  one_first :
      (r next : ℕ) → alarm_at s at ≡ Bit r next → (x : Found) → names_from left s next ≡ x → before r x ≡ found vs →
      first_names (length vs) s at ≡ vs
  one_first r next a lost e f = let z : ◌≡◌ {A = ℕ} 0 1 = cc in absurd (omega arith)
  one_first r next a (found us) e f =
      let g : r ∷ us ≡ vs = cc in
      rw (← g) (first_by (length us) s at a ∙ ap (λ (l : List ℕ). r ∷ l) (rest next us e))

  by_alarm : (a : Alarm) → alarm_at s at ≡ a → onward a (names_from left s) ≡ found vs → first_names (length vs) s at ≡ vs
  unfolding first_names
  by_alarm (Bit r next) a f = one_first r next a (names_from left s next) refl f
  by_alarm End a f = let g : [] ≡ vs = cc in rw (← g)
  by_alarm NoAlarm a f = let z : ◌≡◌ {A = ℕ} 0 1 = cc in absurd (omega arith)

pub first_all : (left : ℕ) (s : List ℕ) (at : ℕ) (vs : List ℕ) → AllFirst left s at vs
unfolding names_from
first_all zero s at vs e = let z : ◌≡◌ {A = ℕ} 0 1 = cc in absurd (omega arith)
first_all (suc left) s at vs e = by_alarm left s (first_all left s) at vs (alarm_at s at) refl (sym (names_by left s at refl) ∙ e)
