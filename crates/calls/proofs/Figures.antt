-- The steps of a scan are at most the figure of acceptance. Assumes nothing.
use Prim.Native.Nat.{ℕ, zero, suc, ◌+◌, ◌≤◌}
use mathlib.Core.Path.{◌≡◌, refl, ap, ◌∙◌}
use mathlib.Core.Bool.{Bool, true, false}
use mathlib.Core.List.{List, [], ◌∷◌, ◌++◌}
use native.Mathlib.Omega.{arith}
use lib.Dec.{eqb}
use lib.ListN.{length, take}
use lib.Seq.{take-suc, take_all}
use borrow.Author.Tests.{eqb-true}
use Rattle.numbers.specs.Blocks.{Block, block_of}
use Rattle.program.specs.Program.{Program, program_at, figure}
use Rattle.program.specs.Acceptance.{every_block, accepted}
use Rattle.program.proofs.FirstReading.{Good, good, accepted_good}
use Rattle.place.specs.declared.Place.{Place}
use Rattle.turns.proofs.Figures.{steps_figure}
use Rattle.image.specs.declared.State.{State}
use Rattle.image.specs.State.{good_state, late}
use Rattle.scanning.specs.Scan.{Inputs, read_bit, scan_to, steps_to}
use Rattle.calls.specs.Calls.{answered, answer_of, scan_of}

-- the first n blocks together
figure_append : (cs bs : List Block) → figure (cs ++ bs) ≡ figure cs + figure bs
figure_append [] bs = omega arith
figure_append (c ∷ cs) bs = omega (arith, figure_append cs bs)

steps_most : (x : Inputs) (bs : List Block) (ps : List Place) (n : ℕ) → n ≤ length bs → steps_to x bs n ps ≤ figure (take n bs)
unfolding steps_to
steps_most x bs ps zero h = omega arith
steps_most x bs ps (suc n) h =
    let o = steps_figure (read_bit x (scan_to x bs n ps)) (block_of bs n).fields in
    let i = steps_most x bs ps n (omega arith) in
    let e : figure (take (suc n) bs) ≡ figure (take n bs) + figure (block_of bs n ∷ []) =
    ap figure (take-suc bs n _ (omega arith)) ∙ figure_append (take n bs) (block_of bs n ∷ []) in
    omega arith

pub steps_bounded : (x : Inputs) (p : Program) (s : State) → (answered p x s).steps ≤ figure p.blocks
unfolding answered
steps_bounded x p s = rw (take_all (length p.blocks) p.blocks (omega arith)) at (steps_most x p.blocks s.places (length p.blocks) (omega arith))

-- a refused scan has no steps, whatever it is refused for, and an answered one those of its blocks
pub scan_bounded : (bytes : List ℕ) (x : Inputs) (s : State) → (scan_of bytes x s).steps ≤ (accepted bytes).steps
unfolding scan_of
scan_bounded bytes x s = go (eqb (accepted bytes).refusal 0) refl (good_state s) refl (late x.elapsed s.time s.journal.missed) refl
  where
    answer : Good bytes → (answer_of x s (program_at every_block bytes)).steps ≤ (accepted bytes).steps
    answer (good p end h f) = rw (h, f) (steps_bounded x p s)

    go : (a : Bool) → eqb (accepted bytes).refusal 0 ≡ a → (b : Bool) → good_state s ≡ b
        → (c : Bool) → late x.elapsed s.time s.journal.missed ≡ c → (scan_of bytes x s).steps ≤ (accepted bytes).steps
    go false e b f c g = rw e (omega arith)
    go true e false f true g = simp (e, f, g) (omega arith)
    go true e false f false g = simp (e, f, g) (omega arith)
    go true e true f true g = simp (e, f, g) (omega arith)
    go true e true f false g = rw (e, f, g) (answer (accepted_good bytes (eqb-true (accepted bytes).refusal 0 e)))
