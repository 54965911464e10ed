-- The marks of a program's own blocks tell which of its references are there; so the second reading stops exactly if one is astray. Assumes nothing.
use Prim.Native.Nat.{ℕ, zero, suc, ◌-◌}
use mathlib.Core.Path.{◌≡◌, refl, ap, fun_ext, ◌∙◌}
use mathlib.Core.Bool.{Bool, true, false, not, ◌&&◌}
use mathlib.Core.List.{List, [], ◌∷◌, ◌++◌, map}
use native.Mathlib.Omega.{arith}
use lib.Dec.{eqb, ltb, leb-suc-suc}
use lib.ListN.{length, get_or, replicate}
use borrow.Author.Tests.{le-ltb, lt-ltb}
use Rattle.terms.specs.Choice.{pick}
use Rattle.wire.specs.Reading.{got}
use Rattle.numbers.specs.Blocks.{Bit, off, on, input, output, Word, analog, word_of, constant, Block}
use Rattle.numbers.specs.Reading.{bit_marked, word_marked}
use Rattle.kinds.specs.Kinds.{kind_of, mark_for, mark_of}
use Rattle.program.specs.Program.{Program, program_at}
use Rattle.program.specs.Acceptance.{every_block, marks_of}
use Rattle.program.specs.References.{all_pass, bit_there, word_there, kinds_of, all_there}
use Rattle.program.proofs.Again.{Again}
use Rattle.program.proofs.Rereading.{program_again}

-- the marks of the blocks of a program tell which of them are there, and have a word
pub mark_at : (bs : List Block) (n i : ℕ) → let ks = kinds_of bs in
    get_or (map mark_of bs ++ replicate n 0) i 0 ≡ pick (ltb i (length ks)) (mark_for (get_or ks i 0)) 0
mark_at [] zero i = rw (le-ltb i 0 (omega arith))
mark_at [] (suc n) zero = refl
mark_at [] (suc n) (suc i) = mark_at [] n i ∙ rw (le-ltb i 0 (omega arith), le-ltb (suc i) 0 (omega arith))
mark_at (b ∷ bs) n zero = rw (lt-ltb 0 (suc (length (kinds_of bs))) (omega arith))
mark_at (b ∷ bs) n (suc i) = rw (leb-suc-suc (suc i) (length (kinds_of bs))) (mark_at bs n i)

mark_tells : (there has : Bool) → (not (eqb (pick there (pick has 2 1) 0) 0) ≡ there) × (eqb (pick there (pick has 2 1) 0) 2 ≡ (there && has))
mark_tells true true = (refl, refl)
mark_tells true false = (refl, refl)
mark_tells false has = (refl, refl)

pub marked_bits : (bs : List Block) (b : Bit) → bit_marked (marks_of bs) b ≡ bit_there (kinds_of bs) b
unfolding marks_of mark_for
marked_bits bs off = refl
marked_bits bs on = refl
marked_bits bs (input i) = refl
marked_bits bs (output i) = rw (mark_at bs (200 - length bs) i) (mark_tells (ltb i (length (kinds_of bs))) (kind_of (get_or (kinds_of bs) i 0)).has_word).0

pub marked_words : (bs : List Block) (w : Word) → word_marked (marks_of bs) w ≡ word_there (kinds_of bs) w
unfolding marks_of mark_for
marked_words bs (analog i) = refl
marked_words bs (word_of i) = rw (mark_at bs (200 - length bs) i) (mark_tells (ltb i (length (kinds_of bs))) (kind_of (get_or (kinds_of bs) i 0)).has_word).1
marked_words bs (constant n) = refl

marked_there : (p : Program) → all_pass (bit_marked (marks_of p.blocks)) (word_marked (marks_of p.blocks)) p ≡ all_there p
unfolding all_there
marked_there p =
    let b : bit_marked (marks_of p.blocks) ≡ bit_there (kinds_of p.blocks) = fun_ext (marked_bits p.blocks) in
    let w : word_marked (marks_of p.blocks) ≡ word_there (kinds_of p.blocks) = fun_ext (marked_words p.blocks) in
    rw (b, w)

pub second :
    (s : List ℕ) (p : Program) {end : ℕ} → program_at every_block s ≡ got p end → Again (all_there p) p end (program_at (marks_of p.blocks) s)
second s p e = rw (marked_there p) at (rw e at (program_again every_block (marks_of p.blocks) s))

-- as many kinds as blocks
pub kinds_long : (bs : List Block) → length (kinds_of bs) ≡ length bs
kinds_long [] = refl
kinds_long (b ∷ bs) = ap suc (kinds_long bs)
