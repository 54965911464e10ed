-- The references of names put one by one: those that are left make the whole. Assumes nothing.
use Prim.Native.Nat.{ℕ, suc, ◌+◌, ◌*◌, ◌-◌, ◌<◌, ◌≤◌}
use mathlib.Core.Path.{◌≡◌, refl}
use mathlib.Core.List.{List, []}
use native.Mathlib.Omega.{arith}
use Rattle.wire.specs.Number.{groups_of}
use Rattle.writing.specs.Expressions.{bytes_of}
use Rattle.filling.specs.Filling.{Put}
use Rattle.storing.proofs.Rest.{Rest, rest_all, rest_then, rest_none}
use Rattle.storing.proofs.Bytes.{number_near}
use Rattle.alarm_line.specs.declared.Alarm.{Alarm}
use Rattle.alarm_line.specs.declared.Alarm.TheVariants.{Bit, End, NoAlarm}
use Rattle.alarm_line.specs.Naming.{alarm_at, named_first, first_names}
use Rattle.alarm_line.proofs.Naming.{first_by}

-- of the first names from a place of a line on, to be put over l, `left` are not put yet: those from the place p on; so far it is m, up to the place q
pub record Going (s : List ℕ) (at count : ℕ) (l : List ℕ) (to : ℕ) (m : List ℕ) (p q left : ℕ) : Type 0 where
  pub near : q + 3 * left ≤ to + 3 * count
  pub rest : Rest (bytes_of (first_names left s p)) m q (bytes_of (first_names count s at)) l to

module _ (s : List ℕ) (at count : ℕ) (l : List ℕ) (to : ℕ) where
  abbrev Whole : List ℕ → ℕ → Type 0
  Whole m q = Put (bytes_of (first_names count s at)) l to m q

  pub starts : Going s at count l to l at to count
  starts = record { near = omega arith; rest = rest_all }

  module _ {m : List ℕ} {p q left : ℕ} (g : Going s at count l to m p q left) where
    by_alarm :
        {a : Alarm} → 0 < left → alarm_at s p ≡ a →
        Rest (bytes_of (named_first a (first_names (left - 1) s))) m q (bytes_of (first_names count s at)) l to
    by_alarm h e =
        let f : left ≡ suc (left - 1) = omega arith in
        rw (f, first_by (left - 1) s p e) at g.rest

    pub goes_on : {n : List ℕ} {r next k : ℕ} → 0 < left → alarm_at s p ≡ Bit r next → Put (groups_of 3 r) m q n k → Going s at count l to n next k (left - 1)
    goes_on {r = r} h e x = record { near = omega (arith, g.near, number_near r x); rest = rest_then (by_alarm h e) x }

    pub all_put : left ≤ 0 → Whole m q
    unfolding first_names
    all_put h = let e : left ≡ 0 = omega arith in rest_none (rw e at g.rest)

    -- where no name stands, there is no more
    pub no_name : {a : Alarm} → 0 < left → alarm_at s p ≡ a → ((r next : ℕ) → a ≡ Bit r next → ⊥) → Whole m q
    no_name {a} h e n = rest_none (rw (none a n) at (by_alarm h e))
      where
        none : (a : Alarm) → ((r next : ℕ) → a ≡ Bit r next → ⊥) → named_first a (first_names (left - 1) s) ≡ []
        none (Bit r next) n = absurd (n r next refl)
        none End n = refl
        none NoAlarm n = refl
