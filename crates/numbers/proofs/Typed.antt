-- What a number that is read tells: it is allowed where it stands, so that it is below its type's limit. Assumes nothing.
use Prim.Native.Nat.{ℕ, ◌<◌}
use mathlib.Core.Path.{◌≡◌, subst}
use mathlib.Core.Bool.{true}
use mathlib.Core.List.{List}
use lib.ListN.{get_or}
use Rattle.terms.proofs.Choice.{pick_case}
use Rattle.wire.specs.Number.{Num, Got, Bad, Cut}
use Rattle.wire.specs.Number.{number_at}
use Rattle.wire.specs.Reading.{Read, got, fault}
use Rattle.numbers.specs.Types.{limits, allowed}
use Rattle.numbers.specs.Reading.{Marks, marked, judged, typed_at}
use Rattle.numbers.proofs.References.{allowed_below}

-- a number that is read is allowed where it stands
abbrev Allowed : ℕ → ℕ → Read ℕ → Type 0
Allowed ty before (got v next) = allowed ty before v ≡ true
Allowed ty before (fault n at) = Unit {0}

judged_allowed : (k : Marks) (ty before at : ℕ) (m : Num) → Allowed ty before (judged k ty before at m)
judged_allowed k ty before at Bad = tt
judged_allowed k ty before at Cut = tt
judged_allowed k ty before at (Got v next) =
    let A : Read ℕ → Type 0 = Allowed ty before in
    pick_case A (allowed ty before v) (λ e. pick_case A (marked k ty v) (λ _. e) (λ _. tt)) (λ _. tt)

pub typed_allowed : (k : Marks) (ty before : ℕ) (s : List ℕ) (at : ℕ) {v next : ℕ} → typed_at k ty before s at ≡ got v next → allowed ty before v ≡ true
unfolding typed_at
typed_allowed k ty before s at e = subst (Allowed ty before) e (judged_allowed k ty before at (number_at s at))

-- so that it is below its type's limit
pub typed_below : (k : Marks) (ty before : ℕ) (s : List ℕ) (at : ℕ) {v next : ℕ} → typed_at k ty before s at ≡ got v next → v < get_or limits ty 0
typed_below k ty before s at e = allowed_below ty before _ (typed_allowed k ty before s at e)
