-- Blocks read to the first that cannot be: they are all of them where all can be, and each of them was read. Assumes nothing.
use Prim.Native.Nat.{ℕ, zero, suc, ◌<◌}
use mathlib.Core.Path.{◌≡◌, refl, ap, ◌∙◌}
use mathlib.Core.List.{List, ◌∷◌}
use native.Mathlib.Omega.{arith}
use native.Mathlib.Nat.{le_of_suc-le-suc, not-suc-le-zero}
use lib.ListN.{length}
use Rattle.numbers.specs.Blocks.{Block, block_of}
use Rattle.wire.specs.Reading.{Read, got, fault, and_then}
use Rattle.numbers.specs.Reading.{Marks}
use Rattle.block.specs.Reading.{block_at}
use Rattle.program.specs.Program.{blocks_at}
use Rattle.turns.specs.Arrays.{while_read, blocks_while}

pub while_all : (k : Marks) (n : ℕ) (s : List ℕ) (at : ℕ) {bs : List Block} {end : ℕ} → blocks_at k n s at ≡ got bs end → blocks_while k n s at ≡ bs
unfolding blocks_at blocks_while
while_all k zero s at e = cc
while_all k (suc n) s at {bs} {end} e = go (λ next cs m h. while_all k n s next h) (block_at k s at) e
  where
    Shorter : Type 0
    Shorter = (next : ℕ) (cs : List Block) (m : ℕ) → blocks_at k n s next ≡ got cs m → blocks_while k n s next ≡ cs

    rest : Shorter → (b : Block) (next : ℕ) (r : Read (List Block)) → blocks_at k n s next ≡ r → and_then r (λ cs m. got (b ∷ cs) m) ≡ got bs end
        → b ∷ blocks_while k n s next ≡ bs
    rest w b next (got cs m) h e = let c : b ∷ cs ≡ bs = cc in ap (λ (l : List Block). b ∷ l) (w next cs m h) ∙ c
    rest w b next (fault x y) h e = let z : ◌≡◌ {A = ℕ} 0 1 = cc in absurd (omega arith)

    go : Shorter → (r : Read Block) → and_then r (λ b next. and_then (blocks_at k n s next) (λ cs m. got (b ∷ cs) m)) ≡ got bs end
        → while_read r (λ b next. b ∷ blocks_while k n s next) ≡ bs
    go w (got b next) e = rest w b next (blocks_at k n s next) refl e
    go w (fault x y) e = let z : ◌≡◌ {A = ℕ} 0 1 = cc in absurd (omega arith)

-- a block that was read at some place
pub data WasRead (k : Marks) (s : List ℕ) (b : Block) : Type 0 where
  was_read : (at next : ℕ) → block_at k s at ≡ got b next → WasRead k s b

pub while_read_lem : (k : Marks) (n : ℕ) (s : List ℕ) (at i : ℕ) → i < length (blocks_while k n s at) → WasRead k s (block_of (blocks_while k n s at) i)
unfolding blocks_while
while_read_lem k zero s at i h = absurd (not-suc-le-zero h)
while_read_lem k (suc n) s at i h = go (λ next i l. while_read_lem k n s next i l) (block_at k s at) refl i h
  where
    go : ((next i : ℕ) → i < length (blocks_while k n s next) → WasRead k s (block_of (blocks_while k n s next) i))
        → (r : Read Block) → block_at k s at ≡ r → (i : ℕ) → i < length (while_read r (λ b next. b ∷ blocks_while k n s next))
        → WasRead k s (block_of (while_read r (λ b next. b ∷ blocks_while k n s next)) i)
    go w (got b next) e zero h = was_read at next e
    go w (got b next) e (suc i) h = w next i (le_of_suc-le-suc h)
    go w (fault x y) e i h = absurd (not-suc-le-zero h)
