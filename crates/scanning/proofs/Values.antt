-- The arrays of a scan have at each number what the reference of that number reads as. Assumes nothing.
use Prim.Native.Nat.{ℕ, suc, ◌+◌, ◌<◌}
use mathlib.Core.Path.{◌≡◌, refl}
use mathlib.Core.Bool.{true, false}
use mathlib.Core.List.{List, map}
use native.Mathlib.Omega.{arith}
use lib.IntN.{pos}
use lib.ListN.{length, get_or, get_or-append, get_or-map}
use lib.Seq.{get_or-append-add}
use borrow.Author.Tests.{ltb-true}
use Rattle.terms.specs.Bits.{bit_of}
use Rattle.numbers.specs.Blocks.{Bit, off, on, input, output, Word, analog, word_of, constant}
use Rattle.program.proofs.Fitting.{bit_fits, word_fits}
use Rattle.expression.specs.Expression.{bit_in}
use Rattle.place.specs.declared.Place.{Place}
use Rattle.place.specs.Places.{fresh_place}
use Rattle.rules.specs.Rules.{word_in}
use Rattle.image.specs.Image.{listed, word_of_place}
use Rattle.image.proofs.Listed.{listed_long, listed_at}
use Rattle.scanning.specs.Scan.{Inputs, input_bit, place_of, read_bit, read_word}
use Rattle.loading.specs.Inputs.{input_bits}
use Rattle.scanning.specs.Loading.{out_of, loaded}

module _ (x : Inputs) (ps : List Place) where
  at_input : (i : ℕ) → i < 32 → get_or (loaded x ps).bits (i + 2) false ≡ input_bit x i
  unfolding loaded input_bits
  at_input i h =
      let e : i + 2 ≡ suc (suc i) = omega arith in
      let l : length (listed 32 0 (bit_of x.bits)) ≡ 32 = listed_long 32 0 (bit_of x.bits) in
      let z : 0 + i ≡ i = omega arith in
      rw (e, get_or-append (listed 32 0 (bit_of x.bits)) (map out_of ps) false i (omega arith), listed_at 32 0 (bit_of x.bits) i false h, z)

  pub at_output : (k : ℕ) → get_or (loaded x ps).bits (k + 34) false ≡ (place_of ps k).out
  unfolding loaded input_bits
  at_output k =
      let e : k + 34 ≡ suc (suc (length (listed 32 0 (bit_of x.bits)) + k)) = omega (arith, listed_long 32 0 (bit_of x.bits)) in
      rw (e, get_or-append-add (listed 32 0 (bit_of x.bits)) (map out_of ps) k false) (get_or-map out_of ps k fresh_place)

  pub bit_values : (r : Bit) → bit_fits r ≡ true → bit_in (loaded x ps).bits r ≡ read_bit x ps r
  unfolding loaded input_bits
  bit_values off h = refl
  bit_values on h = refl
  bit_values (input i) h = at_input i (ltb-true i 32 h)
  bit_values (output k) h = at_output k

  module _ (eight : length x.words ≡ 8) where
    at_analog : (i : ℕ) → i < 8 → get_or (loaded x ps).words i (pos 0) ≡ get_or x.words i (pos 0)
    unfolding loaded
    at_analog i h = get_or-append x.words (map word_of_place ps) (pos 0) i (omega arith)

    pub at_word : (k : ℕ) → get_or (loaded x ps).words (k + 8) (pos 0) ≡ (place_of ps k).word
    unfolding loaded
    at_word k =
        let e : k + 8 ≡ length x.words + k = omega arith in
        rw (e, get_or-append-add x.words (map word_of_place ps) k (pos 0)) (get_or-map word_of_place ps k fresh_place)

    pub word_values : (w : Word) → word_fits w ≡ true → word_in (loaded x ps).words w ≡ read_word x ps w
    word_values (analog i) h = at_analog i (ltb-true i 8 h)
    word_values (word_of k) h = at_word k
    word_values (constant n) h = refl
