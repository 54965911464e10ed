-- Any machine that goes over a text byte by byte: over one text after another, over spaces, over the digits of a number. Assumes nothing.
use Prim.Native.Nat.{ℕ, zero, suc, ◌+◌, ◌*◌, ◌<◌}
use mathlib.Core.Path.{◌≡◌, refl, ap, ◌∙◌}
use mathlib.Core.List.{List, [], ◌∷◌, ◌++◌}
use native.Mathlib.Omega.{arith}
use Rattle.grammar.specs.Grammar.{space, digit, spaces, Decimal, no_digits, one_more}

unfoldable pub run : {S : Type 0} → (S → ℕ → S) → S → List ℕ → S
run step st [] = st
run step st (x ∷ xs) = run step (step st x) xs

-- it goes over a text from one state to another
pub record Goes {S : Type 0} (step : S → ℕ → S) (st : S) (w : List ℕ) (end : S) : Type 0 where
  pub there : run step st w ≡ end

module _ {S : Type 0} (step : S → ℕ → S) where
  pub run_append : (st : S) (a b : List ℕ) → run step st (a ++ b) ≡ run step (run step st a) b
  unfolding run
  run_append st [] b = refl
  run_append st (x ∷ a) b = run_append (step st x) a b

infixr 20 ◌then◌
pub ◌then◌ :
    {S : Type 0} {step : S → ℕ → S} {st mid end : S} {a b : List ℕ} → Goes step st a mid → Goes step mid b end → Goes step st (a ++ b) end
◌then◌ {step = step} {st = st} {a = a} {b = b} x y = record { there = run_append step st a b ∙ rw x.there y.there }

module _ {S : Type 0} (step : S → ℕ → S) where
  pub over_spaces : (st : S) → step st space ≡ st → (n : ℕ) → Goes step st (spaces n) st
  unfolding run
  over_spaces st e zero = record { there = refl }
  over_spaces st e (suc n) = record { there = ap (λ (q : S). run step q (spaces n)) e ∙ (over_spaces st e n).there }

  -- in `at l n` there are l digits to come of a number that is n so far, and it may go on if `Fits l n`
  module _
      (at : ℕ → ℕ → S) (Fits : ℕ → ℕ → Type 0) (fitted : (l n d : ℕ) → d < 10 → Fits l (10 * n + d) → Fits (suc l) n)
      (one_on : (l n d : ℕ) → d < 10 → Fits l (10 * n + d) → step (at (suc l) n) (digit d) ≡ at l (10 * n + d)) where
    pub over_digits : (l : ℕ) {j n : ℕ} {w : List ℕ} → Decimal j n w → Fits l n → Goes step (at (j + l) 0) w (at l n)
    unfolding run
    over_digits l no_digits f = let e : 0 + l ≡ l = omega arith in rw e (record { there = refl })
    over_digits l (one_more {k = j} {n = n} d h x) f =
        let e : suc j + l ≡ j + suc l = omega arith in
        rw e (over_digits (suc l) x (fitted l n d h f) then record { there = one_on l n d h f })
