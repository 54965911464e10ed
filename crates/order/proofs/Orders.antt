-- Acceptance by the numbers of a program in reading order: by the first reading they are all good up to where it stops, and by the second the first
-- that is not there is where that stops. Assumes nothing.
use Prim.Native.Nat.{ℕ, ◌-◌}
use mathlib.Core.Path.{◌≡◌, refl, sym, ap, fun_ext, ◌∙◌}
use mathlib.Core.Bool.{false}
use mathlib.Core.List.{List, [], ◌∷◌, ◌++◌, append-nil}
use lib.ListN.{length}
use Rattle.terms.specs.Choice.{every}
use Rattle.terms.proofs.Choice.{never}
use Rattle.wire.specs.Reading.{Read, got, fault}
use Rattle.numbers.specs.Blocks.{Block}
use Rattle.numbers.specs.Reading.{Marks, bit_marked, word_marked, marked}
use Rattle.program.specs.Program.{Program, program_at}
use Rattle.program.specs.Acceptance.{refused, every_block, marks_of, accepted}
use Rattle.program.specs.References.{bit_there, word_there, kinds_of}
use Rattle.program.proofs.FirstReading.{every_marked}
use Rattle.program.proofs.Marks.{marked_bits, marked_words}
use Rattle.order.specs.Order.{Item, Spot, goes, stops, ends, turn_at, numbers_from, front, numbers_in}
use Rattle.order.specs.Acceptance.{kinds_in, is_there, fares, InOrder}
use Rattle.order.proofs.Rows.{none, first, first_not, none_fails, fails_at, refusal_of, by_references, accepted_by, rows}
use Rattle.order.proofs.Passes.{stop_wrong, all_good, whole, not_all_good, ends_wrong}
use Rattle.order.proofs.Comes.{marks, Way, at_wrong, at_astray, at_both, Comes, reads, halts}
use Rattle.order.proofs.Programs.{Whole, program_comes}

-- what the marks of a program's blocks mark is there
there_marked : (s : List ℕ) (bs : List Block) (l : List Item) → kinds_in l ≡ kinds_of bs → is_there (kinds_in l) ≡ marks (marks_of bs) s
unfolding marked
there_marked s bs l e = fun_ext at
  where
    at : (i : Item) → is_there (kinds_in l) i ≡ marks (marks_of bs) s i
    at i =
        let b : bit_marked (marks_of bs) ≡ bit_there (kinds_of bs) = fun_ext (marked_bits bs) in
        let w : word_marked (marks_of bs) ≡ word_there (kinds_of bs) = fun_ext (marked_words bs) in
        rw (e, b, w)

module _ (s : List ℕ) where
  -- the list stops at a wrong number
  stopped : {l : List Item} {q : Spot} {i : Item} {m : Marks} → Way m s front l q → turn_at s q ≡ stops i
      → accepted_by (numbers_in s) ≡ refused (refusal_of i.found) i.place
  unfolding accepted_by
  stopped {l} {q} {i} w e =
      rw (ends_wrong s w.passes e, fails_at fares l i [] (all_good s w.passes) (stop_wrong s q e))

  module _ (p : Program) (end : ℕ) (l : List Item) (q : Spot) (w : Way every_block s front l q) (u : Whole every_block s p l q)
      (r : program_at every_block s ≡ got p end) where
    -- the program was read, so the list has good numbers alone
    all : numbers_in s ≡ l
    all = whole s w.passes ∙ rw u.1 (append-nil l)

    passed : accepted_by (numbers_in s) ≡ by_references l (first_not (is_there (kinds_in l)) l)
    unfolding accepted_by
    passed = rw (all, none_fails fares l (all_good s w.passes))

    there : is_there (kinds_in l) ≡ marks (marks_of p.blocks) s
    there = there_marked s p.blocks l u.0.kinds

    -- no wrong number is among them
    no_wrong : {k : List Item} {o : Spot} {i : Item} → Way (marks_of p.blocks) s front k o → turn_at s o ≡ stops i → ⊥
    no_wrong a e = not_all_good s a.passes e (ap (every fares) all ∙ all_good s w.passes)

    -- by the second reading, every reference is there
    found : {k : List Item} {o : Spot} → Way (marks_of p.blocks) s front k o → turn_at s o ≡ ends → first_not (is_there (kinds_in l)) l ≡ none
    found {k} a e =
        let n : k ≡ l = sym (append-nil k) ∙ sym (whole s a.passes ∙ rw e) ∙ all in
        none_fails (is_there (kinds_in l)) l (rw there (rw n at a.there))

    -- or the first that is not is where it halts
    lost : {k : List Item} {o z : Spot} {i : Item} → Way (marks_of p.blocks) s front k o → turn_at s o ≡ goes i z → marks (marks_of p.blocks) s i ≡ false
        → first_not (is_there (kinds_in l)) l ≡ first i
    lost {k} {o} {z} {i} a e f =
        let rest : List Item = numbers_from (length s - length k) s z in
        let n : l ≡ k ++ (i ∷ rest) = sym all ∙ whole s a.passes ∙ rw e in
        ap (first_not (is_there (kinds_in l))) n ∙ rw there (fails_at (marks (marks_of p.blocks) s) k i rest a.there f)

    second : (r2 : Read Program) → program_at (marks_of p.blocks) s ≡ r2
        → Comes (marks_of p.blocks) s front (λ _. []) (Whole (marks_of p.blocks) s) r2 → accepted s ≡ accepted_by (numbers_in s)
    unfolding accepted
    second (got p2 end2) e (reads k o a x y v) =
        rw (r, e, passed, found a v.1, u.0.memory, u.0.figure)
    second (fault n at) e (halts k o a (at_wrong f g h)) = absurd (no_wrong a f)
    second (fault n at) e (halts k o a (at_both ty b v t f g h)) = absurd (no_wrong a g)
    second (fault n at) e (halts k o a (at_astray ty b v t f g h x y)) = rw (r, e, passed, lost a g h, x, y)

  by_first : (r : Read Program) → program_at every_block s ≡ r → Comes every_block s front (λ _. []) (Whole every_block s) r → accepted s ≡ accepted_by (numbers_in s)
  unfolding accepted
  by_first (got p end) e (reads l q w x y u) =
      second p end l q w u e (program_at (marks_of p.blocks) s) refl (program_comes (marks_of p.blocks) s)
  by_first (fault n at) e (halts l q w (at_wrong f g h)) = rw (e, stopped w f, g, h)
  by_first (fault n at) e (halts l q w (at_both ty b v t f g h)) = never (sym (every_marked ty b v t) ∙ f)
  by_first (fault n at) e (halts l q w (at_astray ty b v t f g h x y)) = never (sym (every_marked ty b v t) ∙ f)

pub in_order : InOrder
in_order s a = rw (by_first s (program_at every_block s) refl (program_comes every_block s)) (rows (numbers_in s) a)
