-- The table of rules, row by row: what holds of each kind's rule, and of the places that no kind has, holds of the rule of any number. Assumes
-- nothing.
use Prim.Native.Nat.{ℕ, zero, suc, ◌+◌}
use mathlib.Core.Path.{◌≡◌}
use mathlib.Core.List.{List, [], ◌∷◌}
use native.Mathlib.Omega.{arith}
use native.Mathlib.Nat.{zero-add}
use lib.ListN.{get_or}
use Rattle.rules.specs.Rules.{Rule, rules, rule_of}

abbrev pub stays : Rule
stays pin word set e p = p

module _ (P : ℕ → Rule → Type 0) where
  infixr 20 ◌also◌
  pub data Each : ℕ → List Rule → Type 0 where
    done : {i : ℕ} → Each i []
    ◌also◌ : {i : ℕ} {r : Rule} {rs : List Rule} → P i r → Each (suc i) rs → Each i (r ∷ rs)

  module _ (past : (k : ℕ) → P k stays) where
    each_at : {i : ℕ} {rs : List Rule} → Each i rs → (kind : ℕ) → P (i + kind) (get_or rs kind stays)
    each_at (done {i}) kind = past (i + kind)
    each_at (◌also◌ {i} k ks) zero = let z : i + 0 ≡ i = omega arith in rw z k
    each_at (◌also◌ {i} k ks) (suc kind) = let z : i + suc kind ≡ suc i + kind = omega arith in rw z (each_at ks kind)

    pub of_each : Each 0 rules → (kind : ℕ) → P kind (rule_of kind)
    unfolding rule_of
    of_each ks kind = rw (zero-add kind) at (each_at ks kind)
