-- Each number of refusal stands for one refusal, and so a rendering that tells a fault by its number tells which fault it is. Assumes nothing.
use Rattle.std.proofs.Common.{◌≡◌, ℕ, List, [], ◌∷◌, get_or, refl, sym, ap, ◌∙◌}
use Rattle.std.specs.Prelude.{Result, Ok, Err}
use Rattle.std.specs.Result.{IsErrAnd}
use Rattle.terms.specs.Refusals.{number_of}
use Rattle.terms.specs.declared.refusal.Fault.{Fault}
use Rattle.terms.specs.declared.refusal.Refusal.{Refusal}
use Rattle.terms.specs.declared.refusal.Refusal.TheVariants.{BadNumber, Outside, Astray, OverMemory, BadState, TooFar, BadText, CutNumber, ShortBuffer}

-- the refusals by their numbers; 0, 9, 10 and 11 are none
abbrev by_number : List Refusal
by_number =
    BadText ∷ BadNumber ∷ Outside ∷ Astray ∷ OverMemory ∷ BadState ∷ TooFar ∷ BadText ∷ CutNumber ∷ BadText ∷ BadText ∷ BadText ∷ ShortBuffer ∷ []

abbrev pub refusal_of : ℕ → Refusal
refusal_of n = get_or by_number n BadText

pub refusal_back : (r : Refusal) → refusal_of (number_of r) ≡ r
refusal_back BadNumber = refl
refusal_back Outside = refl
refusal_back Astray = refl
refusal_back OverMemory = refl
refusal_back BadState = refl
refusal_back TooFar = refl
refusal_back BadText = refl
refusal_back CutNumber = refl
refusal_back ShortBuffer = refl

abbrev pub fault_of : ℕ → ℕ → Fault
fault_of n at = record { refusal = refusal_of n; at = at }

pub fault_back : (f : Fault) → fault_of (number_of f.refusal) f.at ≡ f
fault_back f = rw (refusal_back f.refusal)

-- what can be undone gives one answer
pub undone : {A B : Type 0} (f : A → B) (g : B → A) → ((a : A) → g (f a) ≡ a) → (a b : A) → f a ≡ f b → a ≡ b
undone f g back a b e = sym (back a) ∙ ap g e ∙ back b

-- what a `?` hands on
pub handed_on : {T E : Type 0} (r : Result T E) {f : E} → IsErrAnd r (λ e. e ≡ f) → r ≡ Err f
handed_on (Ok x) h = absurd h
handed_on (Err e) h = ap Err h
