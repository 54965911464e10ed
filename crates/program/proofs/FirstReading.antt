-- The first reading, which lets every reference through, finds no reference astray; and what acceptance says of a program that it does not refuse.
-- Assumes nothing.
use Prim.Native.Nat.{ℕ, ◌-◌, ◌<◌}
use mathlib.Core.Path.{◌≡◌, refl, sym, ◌∙◌}
use mathlib.Core.Bool.{Bool, true, false}
use mathlib.Core.List.{List, [], ◌∷◌}
use native.Mathlib.Omega.{arith}
use lib.Dec.{eqb, ltb}
use lib.ListN.{get_or-replicate}
use borrow.Author.Tests.{eqb-true}
use Rattle.terms.specs.Choice.{pick}
use Rattle.terms.specs.Refusals.{astray, over_memory}
use Rattle.terms.proofs.Choice.{pick_case}
use Rattle.wire.specs.Reading.{Read, got, fault}
use Rattle.numbers.specs.Blocks.{Content, bit, word, refs_pass}
use Rattle.numbers.specs.Types.{pin, word_pin, node_number, allowed, bit_ref, word_ref, content_of, said_by}
use Rattle.numbers.specs.Reading.{bit_marked, word_marked, marked}
use Rattle.numbers.proofs.References.{bit_cases, word_cases, allowed_below}
use Rattle.kinds.specs.Kinds.{memory_limit}
use Rattle.program.specs.Program.{Program, program_at, memory, figure}
use Rattle.program.specs.Acceptance.{refused, granted, every_block, marks_of, by_memory, by_references, accepted}
use Rattle.program.proofs.Faults.{Real, plain, strayed, program_real, program_fault}

-- where every block is marked, so is all that an allowed number refers to
every_bit : (v : ℕ) → v < 234 → refs_pass (bit_marked every_block) (word_marked every_block) (bit (bit_ref v) ∷ []) ≡ true
every_bit v h =
    bit_cases (λ b. refs_pass (bit_marked every_block) (word_marked every_block) (bit b ∷ []) ≡ true) v (λ _. refl) (λ _. refl) (λ _ _. refl)
    (λ g. rw (get_or-replicate {A = ℕ} 200 (v - 34) 2 0 (omega arith)))

every_word : (v : ℕ) → refs_pass (bit_marked every_block) (word_marked every_block) (word (word_ref v) ∷ []) ≡ true
every_word v =
    word_cases (λ w. refs_pass (bit_marked every_block) (word_marked every_block) (word w ∷ []) ≡ true) v (λ _. refl)
    (λ g h. rw (get_or-replicate {A = ℕ} 200 (v - 8) 2 0 (omega arith))) (λ _. refl)

pub every_marked : (ty before v : ℕ) → allowed ty before v ≡ true → marked every_block ty v ≡ true
unfolding marked said_by content_of
every_marked ty before v a =
    let below = allowed_below ty before v a in
    let P : Content → Type 0 = λ c. refs_pass (bit_marked every_block) (word_marked every_block) (c ∷ []) ≡ true in
    pick_case P (eqb ty node_number)
    (λ e. pick_case P (ltb v 6) (λ _. refl)
    (λ _. every_bit (v - 6) (let l : v < 240 = rw (eqb-true ty node_number e) at below in omega arith)))
    (λ _. pick_case P (eqb ty pin) (λ e. every_bit v (rw (eqb-true ty pin e) at below))
    (λ _. pick_case P (eqb ty word_pin) (λ _. every_word v) (λ _. refl)))

not_astray : {n : ℕ} → Real every_block n → n ≡ astray → ⊥
not_astray (plain h l) z = l z
not_astray (strayed ty before v e a u) _ =
    let z : true ≡ false = sym (every_marked ty before v a) ∙ u in
    let w : ◌≡◌ {A = ℕ} 0 1 = cc in absurd (omega arith)

pub reads_all : (s : List ℕ) {n at : ℕ} → program_at every_block s ≡ fault n at → n ≡ astray → ⊥
reads_all s e = not_astray (program_real every_block s e)

-- what acceptance says of a program that it does not refuse
pub data Good (s : List ℕ) : Type 0 where
  good : (p : Program) (end : ℕ) → program_at every_block s ≡ got p end → (accepted s).steps ≡ figure p.blocks → Good s

pub accepted_good : (s : List ℕ) → (accepted s).refusal ≡ 0 → Good s
unfolding accepted
accepted_good s e = first (program_at every_block s) refl e
  where
    over : (b : Bool) (m f : ℕ) → (pick b (refused over_memory 0) (granted m f)).refusal ≡ 0 → (pick b (refused over_memory 0) (granted m f)).steps ≡ f
    over true m f e = absurd (omega arith)
    over false m f e = refl

    second : (p : Program) (end : ℕ) → program_at every_block s ≡ got p end → (r : Read Program) → program_at (marks_of p.blocks) s ≡ r
        → (by_memory p r).refusal ≡ 0 → (by_memory p r).steps ≡ figure p.blocks
    second p end h (got q m) w e = over (ltb memory_limit (memory p.blocks)) (memory p.blocks) (figure p.blocks) e
    second p end h (fault n at) w e = absurd (omega (arith, program_fault (marks_of p.blocks) s w))

    first : (r : Read Program) → program_at every_block s ≡ r → (by_references s r).refusal ≡ 0 → Good s
    first (got p end) h e = good p end h (rw h (second p end h (program_at (marks_of p.blocks) s) refl e))
    first (fault n at) h e = absurd (omega (arith, program_fault every_block s h))
