-- What stands at a place behind a part, by the grammar: an operator, or the place where the acceptor stops. Assumes nothing.
use Prim.Native.Nat.{ℕ, ◌+◌, ◌<◌}
use mathlib.Core.Path.{◌≡◌, refl, sym, ap, ◌∙◌}
use mathlib.Core.Bool.{Bool, true, false}
use mathlib.Core.List.{List, [], ◌∷◌}
use native.Mathlib.Omega.{arith}
use lib.Dec.{eqb}
use borrow.Author.Tests.{eqb-true}
use Rattle.std.specs.Prelude.{Option, None, Some, Ok, Err}
use Rattle.terms.specs.Choice.{pick}
use Rattle.terms.proofs.Choice.{pick_case, pairs}
use Rattle.wire.specs.Number.{byte_at}
use Rattle.grammar.specs.Grammar.{closing, Level, or_list, xor_list, and_list, part, Operator, and_sign, nand_sign, xor_sign, or_sign, nor_sign}
use Rattle.grammar.specs.Machine.{State, had, banged, dead, closes, step, stop, from, Spans}
use Rattle.grammar.proofs.From.{byte, after, there, halts}
use Rattle.spelling.specs.Spelling.{Sign}
use Rattle.spelling.specs.Spelling.{Of, Nothing, Broken}
use Rattle.spelling.specs.Spelling.{number_of, level_of, of_level, banged_at, sign_at, as_sign}
use Rattle.spelling.proofs.Names.{eats}

-- an operator at a place, of the list that it belongs to
pub record Signed (s : List ℕ) (list : Level) (at o next : ℕ) : Type 0 where
  pub text : List ℕ
  pub sign : Operator list o text
  pub stands : Spans s at text next

level_back : (l : Level) → level_of (number_of l) ≡ l
level_back or_list = refl
level_back xor_list = refl
level_back and_list = refl
level_back part = refl

module _ (s : List ℕ) (level at o next : ℕ) where
  -- the level looked for is the operator's
  of_level_lem :
      (its : Level) (op end : ℕ) (w : List ℕ) → Operator its op w → Spans s at w end → of_level level (number_of its) op end ≡ Of o next →
      Signed s (level_of level) at o next
  of_level_lem its op end w x st =
      pick_case (λ (r : Sign). r ≡ Of o next → Signed s (level_of level) at o next) (eqb level (number_of its))
      (λ e f.
      let a : op ≡ o = cc in
      let b : end ≡ next = cc in
      let c : its ≡ level_of level = sym (ap level_of (eqb-true level (number_of its) e) ∙ level_back its) in
      record { text = w; sign = rw (← c, ← a) x; stands = rw (← b) st })
      (λ _ f. let z : ◌≡◌ {A = ℕ} 0 1 = cc in absurd (omega arith))

  one_byte : (x : ℕ) → 0 < x → byte_at s at ≡ x → Spans s at (x ∷ []) (at + 1)
  one_byte x h e = byte s at x (there s at x h e) e

  two_bytes : (x : ℕ) → 0 < x → byte_at s at ≡ 33 → byte_at s (at + 1) ≡ x → Spans s at (33 ∷ (x ∷ [])) (at + 1 + 1)
  two_bytes x h e f = after s (one_byte 33 (omega arith) e) (byte s (at + 1) x (there s (at + 1) x h f) f)

  pub sign_of : sign_at level s at ≡ Of o next → Signed s (level_of level) at o next
  unfolding sign_at banged_at
  sign_of =
      let P : Sign → Type 0 = λ r. r ≡ Of o next → Signed s (level_of level) at o next in
      let b = byte_at s at in
      let c = byte_at s (at + 1) in
      pick_case P (eqb b 38) (λ e. of_level_lem and_list 1 (at + 1) (38 ∷ []) and_sign (one_byte 38 (omega arith) (eqb-true b 38 e)))
      (λ _. pick_case P (eqb b 94) (λ e. of_level_lem xor_list 3 (at + 1) (94 ∷ []) xor_sign (one_byte 94 (omega arith) (eqb-true b 94 e)))
      (λ _. pick_case P (eqb b 124) (λ e. of_level_lem or_list 2 (at + 1) (124 ∷ []) or_sign (one_byte 124 (omega arith) (eqb-true b 124 e)))
      (λ _. pick_case P (eqb b 33)
      (λ e. pick_case P (eqb c 38)
      (λ f. of_level_lem and_list 4 (at + 1 + 1) (33 ∷ (38 ∷ [])) nand_sign (two_bytes 38 (omega arith) (eqb-true b 33 e) (eqb-true c 38 f)))
      (λ _. pick_case P (eqb c 124)
      (λ f. of_level_lem or_list 5 (at + 1 + 1) (33 ∷ (124 ∷ [])) nor_sign (two_bytes 124 (omega arith) (eqb-true b 33 e) (eqb-true c 124 f)))
      (λ _ f. let z : ◌≡◌ {A = ℕ} 0 1 = cc in absurd (omega arith))))
      (λ _ f. let z : ◌≡◌ {A = ℕ} 0 1 = cc in absurd (omega arith)))))

-- a `!` with neither sign behind it
no_break : (l m o n k : ℕ) → of_level l m o n ≡ Broken k → ⊥
no_break l m o n k =
    pick_case (λ (r : Sign). r ≡ Broken k → ⊥) (eqb l m) (λ _ f. let z : ◌≡◌ {A = ℕ} 0 1 = cc in omega arith)
    (λ _ f. let z : ◌≡◌ {A = ℕ} 0 1 = cc in omega arith)

pub sign_broken : (s : List ℕ) (level at k d : ℕ) → sign_at level s at ≡ Broken k → from s (had d) at ≡ stop k
unfolding sign_at banged_at step
sign_broken s level at k d =
    let P : Sign → Type 0 = λ r. r ≡ Broken k → from s (had d) at ≡ stop k in
    let b = byte_at s at in
    let c = byte_at s (at + 1) in
    pick_case P (eqb b 38) (λ _ f. absurd (no_break level 2 1 (at + 1) k f))
    (λ _. pick_case P (eqb b 94) (λ _ f. absurd (no_break level 1 3 (at + 1) k f))
    (λ _. pick_case P (eqb b 124) (λ _ f. absurd (no_break level 0 2 (at + 1) k f))
    (λ _. pick_case P (eqb b 33)
    (λ e. pick_case P (eqb c 38) (λ _ f. absurd (no_break level 2 4 (at + 1 + 1) k f))
    (λ n38. pick_case P (eqb c 124) (λ _ f. absurd (no_break level 0 5 (at + 1 + 1) k f))
    (λ n124 f.
    let a : at + 1 ≡ k = cc in
    eats s (had d) (banged d) at (there s at 33 (omega arith) (eqb-true b 33 e)) (rw (eqb-true b 33 e)) (λ z. let y : ◌≡◌ {A = ℕ} 0 1 = cc in omega arith)
    ∙ halts s (banged d) (at + 1) (rw (n38, n124)) refl ∙ ap stop a)))
    (λ _ f. let z : ◌≡◌ {A = ℕ} 0 1 = cc in absurd (omega arith)))))

-- where neither a space nor an operator of any level stands, only `)` does not kill the acceptor
pub no_sign :
    (s : List ℕ) (at d : ℕ) → (byte_at s at ≡ 32 → ⊥) → sign_at 2 s at ≡ Nothing → sign_at 1 s at ≡ Nothing → sign_at 0 s at ≡ Nothing →
    step (had d) (byte_at s at) ≡ pick (eqb (byte_at s at) closing) (closes d) dead
unfolding sign_at banged_at step
no_sign s at d n32 a x o =
    let b = byte_at s at in
    let P : State → Type 0 = λ st. st ≡ pick (eqb b closing) (closes d) dead in
    pick_case P (eqb b 32) (λ e. absurd (n32 (eqb-true b 32 e)))
    (λ _. pick_case P (eqb b 33) (λ e. absurd (banged_not (eqb-true b 33 e)))
    (λ _. pick_case P (eqb b 38) (λ e. absurd (not_none (rw (eqb-true b 38 e) at a)))
    (λ _. pick_case P (eqb b 94) (λ e. absurd (not_none (rw (eqb-true b 94 e) at x)))
    (λ _. pick_case P (eqb b 124) (λ e. absurd (not_none (rw (eqb-true b 124 e) at o))) (λ _. refl)))))
  where
    not_none : {op n : ℕ} → Of op n ≡ Nothing → ⊥
    not_none f = let z : ◌≡◌ {A = ℕ} 0 1 = cc in omega arith

    by :
        (t u : Bool) → pick t (Of 4 (at + 1 + 1)) (pick u Nothing (Broken (at + 1))) ≡ Nothing →
        pick t Nothing (pick u (Of 5 (at + 1 + 1)) (Broken (at + 1))) ≡ Nothing → ⊥
    by true u f g = not_none f
    by false true f g = not_none g
    by false false f g = let z : ◌≡◌ {A = ℕ} 0 1 = cc in omega arith

    banged_not : byte_at s at ≡ 33 → ⊥
    banged_not e = by (eqb (byte_at s (at + 1)) 38) (eqb (byte_at s (at + 1)) 124) (rw e at a) (rw e at o)

-- what the code answers, once it is known which it is
pub sign_has : (x : Sign) {o n : ℕ} {r : Option (ℕ × ℕ)} → Ok r ≡ as_sign x → r ≡ Some (o, n) → x ≡ Of o n
sign_has (Of p m) {o} {n} e f = let p : ◌≡◌ {A = ℕ × ℕ} (o, n) (p, m) = cc in let q = pairs p in cc
sign_has Nothing e f = let z : ◌≡◌ {A = ℕ} 0 1 = cc in absurd (omega arith)
sign_has (Broken k) e f = let z : ◌≡◌ {A = ℕ} 0 1 = cc in absurd (omega arith)

pub sign_none : (x : Sign) {r : Option (ℕ × ℕ)} → Ok r ≡ as_sign x → r ≡ None → x ≡ Nothing
sign_none (Of p m) e f = let z : ◌≡◌ {A = ℕ} 0 1 = cc in absurd (omega arith)
sign_none Nothing e f = refl
sign_none (Broken k) e f = let z : ◌≡◌ {A = ℕ} 0 1 = cc in absurd (omega arith)

pub sign_bad : (x : Sign) {k : ℕ} → Err k ≡ as_sign x → x ≡ Broken k
sign_bad (Of p m) e = let z : ◌≡◌ {A = ℕ} 0 1 = cc in absurd (omega arith)
sign_bad Nothing e = let z : ◌≡◌ {A = ℕ} 0 1 = cc in absurd (omega arith)
sign_bad (Broken k) e = cc
