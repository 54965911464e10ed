-- "Exactly the block rules", clause by clause: what one block of a scan reads, and what a scan leaves as it was.
use Rattle.std.specs.Prelude.{Bool, true, false, ◌||◌, List, ◌≡◌, ℕ, ◌<◌, ◌≤◌, eqb, ltb, length, get_or, ℤ, pos}
use Rattle.terms.specs.Choice.{pick}
use Rattle.terms.specs.Words.{constant_of}
use Rattle.numbers.specs.Blocks.{Bit, off, on, input, output, Word, analog, word_of, constant, Block, block_of}
use Rattle.kinds.specs.Kinds.{kind_of}
use Rattle.program.specs.Program.{Program}
use Rattle.place.specs.declared.Place.{Place}
use Rattle.rules.specs.Rules.{ruled}
use Rattle.scanning.specs.Scan.{Inputs, input_bit, place_of}
use Rattle.scanning.specs.Run.{places_after}

-- "A reference to a lower block reads this scan's output or word, to itself or a higher one the last scan's.": the place of block k as block n
-- reads it, where the last scan left the places `last` and this one leaves `this`
module _ (x : Inputs) (last this : List Place) (n : ℕ) where
  abbrev pub place_seen : ℕ → Place
  place_seen k = pick (ltb k n) (place_of this k) (place_of last k)

  abbrev pub bit_seen : Bit → Bool
  bit_seen off = false
  bit_seen on = true
  bit_seen (input i) = input_bit x i
  bit_seen (output k) = (place_seen k).out

  abbrev pub word_seen : Word → ℤ
  word_seen (analog i) = get_or x.words i (pos 0)
  word_seen (word_of k) = (place_seen k).word
  word_seen (constant v) = constant_of v

-- DL, OS and FL count ticks
abbrev pub counts : ℕ → Bool
counts kind = eqb kind 4 || (eqb kind 5 || eqb kind 6)

pub record EachBlock : Type 0 where
  -- the place of each block after a scan is its rule's, on what it reads and on its place of the last scan
  pub reads :
      (x : Inputs) (p : Program) (last : List Place) (n : ℕ) → n < length p.blocks → n < length last →
      let this = places_after x p last in
      place_of this n ≡ ruled (bit_seen x last this n) (word_seen x last this n) x.elapsed (block_of p.blocks n) (place_of last n)
  -- "Places beyond the program stay the same"
  pub beyond : (x : Inputs) (p : Program) (last : List Place) (n : ℕ) → length p.blocks ≤ n → place_of (places_after x p last) n ≡ place_of last n
  -- "as do fields that a kind below does not set": last pins of a BL, ticks where none are counted, the word of a kind without one
  pub pins : (f : Bit → Bool) (g : Word → ℤ) (e : ℕ) (b : Block) (p : Place) → b.kind ≡ 0 → (ruled f g e b p).pins ≡ p.pins
  pub ticks : (f : Bit → Bool) (g : Word → ℤ) (e : ℕ) (b : Block) (p : Place) → counts b.kind ≡ false → (ruled f g e b p).ticks ≡ p.ticks
  pub word : (f : Bit → Bool) (g : Word → ℤ) (e : ℕ) (b : Block) (p : Place) → (kind_of b.kind).has_word ≡ false → (ruled f g e b p).word ≡ p.word
