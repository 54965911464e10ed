-- One reading that knows only how many blocks there are tells whether a program is accepted, and reads the program itself. Assumes nothing.
use Prim.Native.Nat.{ℕ, ◌≤◌}
use mathlib.Core.Path.{◌≡◌, refl, sym, subst, ◌∙◌}
use mathlib.Core.Bool.{Bool, true, false, not, ◌&&◌}
use mathlib.Core.List.{List}
use native.Mathlib.Omega.{arith}
use lib.Dec.{eqb, leb, ltb}
use lib.ListN.{length}
use borrow.Author.Tests.{ne_eqb}
use Rattle.kinds.specs.Kinds.{memory_limit}
use Rattle.terms.specs.Choice.{pick}
use Rattle.terms.specs.Refusals.{over_memory}
use Rattle.numbers.specs.Types.{block_count}
use Rattle.wire.specs.Reading.{Read, got, fault}
use Rattle.numbers.specs.Reading.{Marks, bit_marked, word_marked, typed_at}
use Rattle.wire.proofs.Gives.{Gives, gives_by, gives_then, gives_after}
use Rattle.numbers.proofs.References.{leb_not}
use Rattle.numbers.proofs.Typed.{typed_below}
use Rattle.program.specs.Program.{Program, blocks_at, alarms_at, program_at, memory, figure}
use Rattle.program.specs.Acceptance.{refused, granted, every_block, marks_of, by_memory, accepted}
use Rattle.program.specs.References.{all_pass, all_there}
use Rattle.program.specs.Trial.{first_blocks, passes_trial, trial_passes}
use Rattle.program.proofs.Blocks.{blocks_long}
use Rattle.program.proofs.Faults.{program_fault}
use Rattle.program.proofs.FirstReading.{reads_all}
use Rattle.program.proofs.Again.{Again, same, stray}
use Rattle.program.proofs.Rereading.{program_again}
use Rattle.program.proofs.Marks.{second}
use Rattle.program.proofs.Asked.{there_answers}

-- what is read by any knowledge is read where every reference is let through
pub read_by_any : (k : Marks) (s : List ℕ) {p : Program} {end : ℕ} → program_at k s ≡ got p end → program_at every_block s ≡ got p end
read_by_any k s {p} {end} e = go (rw e at (program_again k every_block s))
  where
    go : Again (all_pass (bit_marked every_block) (word_marked every_block) p) p end (program_at every_block s) → program_at every_block s ≡ got p end
    go (same t h) = h
    go (stray t at h) = absurd (reads_all s h refl)

-- a program has as many blocks as its count says
program_long : (k : Marks) (s : List ℕ) {n at : ℕ} → typed_at k block_count 0 s 0 ≡ got n at → Gives (λ p. length p.blocks ≡ n) (program_at k s)
unfolding program_at
program_long k s {n} {at} e =
    rw e
    (gives_then (λ bs. length bs ≡ n) (λ p. length p.blocks ≡ n) (blocks_at k n s at) _
    (gives_by _ (blocks_at k n s at) (λ bs m h. blocks_long k n s at h))
    (λ bs m h. gives_after (λ p. length p.blocks ≡ n) (alarms_at k s m) _ (λ rs end. h)))

-- acceptance of a program that is read, by its references and its memory
over : (b : Bool) (m f : ℕ) → eqb (pick b (refused over_memory 0) (granted m f)).refusal 0 ≡ not b
over true m f = refl
over false m f = refl

pub accepted_by_lem : (s : List ℕ) (p : Program) {end : ℕ} → program_at every_block s ≡ got p end
    → eqb (accepted s).refusal 0 ≡ (all_there p && leb (memory p.blocks) memory_limit)
unfolding accepted
accepted_by_lem s p {end} e = rw e (go (second s p e))
  where
    go : Again (all_there p) p end (program_at (marks_of p.blocks) s)
        → eqb (by_memory p (program_at (marks_of p.blocks) s)).refusal 0 ≡ (all_there p && leb (memory p.blocks) memory_limit)
    go (same t h) = rw (t, h, leb_not (memory p.blocks) memory_limit) (over (ltb memory_limit (memory p.blocks)) (memory p.blocks) (figure p.blocks))
    go (stray t at h) = rw (t, h)

-- the one reading tells whether the program is accepted
pub trial : (s : List ℕ) {n at : ℕ} → typed_at every_block block_count 0 s 0 ≡ got n at → eqb (accepted s).refusal 0 ≡ trial_passes (program_at (first_blocks n) s)
unfolding accepted trial_passes passes_trial
trial s {n} {at} count = whole (program_at every_block s) refl
  where
    no_trial_lem : (x z : ℕ) → program_at every_block s ≡ fault x z → (r : Read Program) → program_at (first_blocks n) s ≡ r → false ≡ trial_passes r
    no_trial_lem x z e (got p end) h =
        let u : ◌≡◌ {A = Read Program} (fault x z) (got p end) = sym e ∙ read_by_any (first_blocks n) s h in
        let w : ◌≡◌ {A = ℕ} 0 1 = cc in absurd (omega arith)
    no_trial_lem x z e (fault y w) h = refl

    again : (p : Program) {end : ℕ} → length p.blocks ≡ n → length p.blocks ≤ 200
        → Again (all_pass (bit_marked (first_blocks n)) (word_marked (first_blocks n)) p) p end (program_at (first_blocks n) s)
        → (all_there p && leb (memory p.blocks) memory_limit) ≡ trial_passes (program_at (first_blocks n) s)
    again p l few (same t h) = rw (h, there_answers p few, l, t)
    again p l few (stray t at h) = rw (h, there_answers p few, l, t)

    whole : (r : Read Program) → program_at every_block s ≡ r → eqb (accepted s).refusal 0 ≡ trial_passes (program_at (first_blocks n) s)
    whole (got p end) e =
        let l : length p.blocks ≡ n = subst (Gives (λ p. length p.blocks ≡ n)) e (program_long every_block s count) in
        let few : length p.blocks ≤ 200 = omega (arith, typed_below every_block block_count 0 s 0 count) in
        accepted_by_lem s p e ∙ again p l few (rw e at (program_again every_block (first_blocks n) s))
    whole (fault x z) e =
        let real = program_fault every_block s e in
        rw (e, ne_eqb x 0 (λ w. omega arith)) (no_trial_lem x z e (program_at (first_blocks n) s) refl)
