-- A program that was read, block by block: its lines are that of its first block, then those of the rest. Assumes nothing.
use Prim.Native.Nat.{ℕ, suc, ◌+◌, ◌-◌, ◌<◌, ◌≤◌}
use mathlib.Core.Path.{◌≡◌, refl, ap, ◌∙◌}
use mathlib.Core.List.{List, ◌∷◌, ◌++◌}
use native.Mathlib.Nat.{sub-zero}
use native.Mathlib.Numerals.{add-one}
use native.Mathlib.Omega.{arith}
use Rattle.wire.specs.Reading.{Read, got, fault, and_then, IsGot, is_got, next_of}
use Rattle.numbers.specs.Blocks.{Bit, Block}
use Rattle.numbers.specs.Types.{block_count}
use Rattle.numbers.specs.Reading.{Marks, typed_at}
use Rattle.block.specs.Reading.{block_at}
use Rattle.program.specs.Program.{Program, blocks_at, alarms_at, after_count, program_at}
use Rattle.known.proofs.Places.{got_first}
use Rattle.layout.specs.Listed.{lines_text, listed}
use Rattle.listing.specs.Lines.{line_in}
use Rattle.alarms.specs.Texts.{alarms_in}
use Rattle.exporting.specs.Texts.{lines_in, listed_in}

-- a program with one block more at its front
with_block : Block → Read Program → Read Program
with_block b r = and_then r (λ p end. got (record { blocks = b ∷ p.blocks; alarms = p.alarms }) end)

module _ (k : Marks) (s : List ℕ) (at n i : ℕ) where
  -- a block is left
  module _ (h : i < n) (g : IsGot (after_count k (n - i) s at)) where
    one_more : n - i ≡ suc (n - (i + 1))
    one_more = omega arith

    pub block_there : IsGot (block_at k s at)
    unfolding blocks_at
    block_there = got_first (block_at k s at) _ (rw one_more at (got_first (blocks_at k (n - i) s at) _ g))

    by_block : {b : Block} {next : ℕ} → block_at k s at ≡ got b next → after_count k (n - i) s at ≡ with_block b (after_count k (n - (i + 1)) s next)
    unfolding blocks_at with_block
    by_block {b} {next} e = ap (λ (x : ℕ). after_count k x s at) one_more ∙ rw e (go (blocks_at k (n - (i + 1)) s next))
      where
        alarmed :
            (bs : List Block) (q : Read (List Bit)) →
            and_then q (λ rs end. got (record { blocks = b ∷ bs; alarms = rs }) end) ≡ with_block b (and_then q (λ rs end. got (record { blocks = bs; alarms = rs }) end))
        alarmed bs (got rs m) = refl
        alarmed bs (fault m p) = refl

        go :
            (r : Read (List Block)) →
            and_then (and_then r (λ bs end. got (b ∷ bs) end)) (λ bs m. and_then (alarms_at k s m) (λ rs end. got (record { blocks = bs; alarms = rs }) end))
            ≡ with_block b (and_then r (λ bs m. and_then (alarms_at k s m) (λ rs end. got (record { blocks = bs; alarms = rs }) end)))
        go (got bs m) = alarmed bs (alarms_at k s m)
        go (fault m p) = refl

    abbrev rest : Read Program
    rest = after_count k (n - (i + 1)) s (next_of (block_at k s at))

    pub rest_there : IsGot rest
    unfolding with_block
    rest_there = go block_there
      where
        go : IsGot (block_at k s at) → IsGot rest
        go (is_got b next e) = rw e (got_first (after_count k (n - (i + 1)) s next) _ (rw (by_block e) at g))

    pub lines_on : lines_in i (after_count k (n - i) s at) ≡ line_in i (block_at k s at) ++ lines_in (i + 1) rest
    unfolding with_block lines_text
    lines_on = go block_there rest_there
      where
        behind :
            (b : Block) (next : ℕ) → block_at k s at ≡ got b next → IsGot (after_count k (n - (i + 1)) s next) →
            lines_in i (after_count k (n - i) s at) ≡ line_in i (block_at k s at) ++ lines_in (i + 1) rest
        behind b next e (is_got p m f) = rw (by_block e, e, f, add-one i)

        go : IsGot (block_at k s at) → IsGot rest → lines_in i (after_count k (n - i) s at) ≡ line_in i (block_at k s at) ++ lines_in (i + 1) rest
        go (is_got b next e) w = behind b next e (rw e at w)

  -- no block is left
  module _ (h : n ≤ i) (g : IsGot (after_count k (n - i) s at)) where
    none_left : n - i ≡ 0
    none_left = omega arith

    pub alarms_there : IsGot (alarms_at k s at)
    unfolding blocks_at
    alarms_there = got_first (alarms_at k s at) _ (rw none_left at g)

    pub lines_end : lines_in i (after_count k (n - i) s at) ≡ alarms_in (alarms_at k s at)
    unfolding blocks_at lines_text
    lines_end = rw none_left (go alarms_there)
      where
        go : IsGot (alarms_at k s at) → lines_in i (after_count k 0 s at) ≡ alarms_in (alarms_at k s at)
        go (is_got rs m f) = rw f

-- the whole program, by the count of its blocks
module _ (k : Marks) (s : List ℕ) where
  pub count_there : IsGot (program_at k s) → IsGot (typed_at k block_count 0 s 0)
  unfolding program_at
  count_there g = got_first (typed_at k block_count 0 s 0) _ g

  module _ {n at : ℕ} (e : typed_at k block_count 0 s 0 ≡ got n at) where
    pub by_count : program_at k s ≡ after_count k (n - 0) s at
    unfolding program_at
    by_count = rw (e, sub-zero n)

    pub listed_from : lines_in 0 (after_count k (n - 0) s at) ≡ listed_in (program_at k s)
    unfolding listed
    listed_from = rw by_count (go (after_count k (n - 0) s at))
      where
        go : (r : Read Program) → lines_in 0 r ≡ listed_in r
        go (got p end) = refl
        go (fault m p) = refl
