-- The arrays of a scan stand for its places: after the turns of any blocks that were read, in the steps of these turns, and in the alarm word
-- at their end. Assumes nothing.
use Prim.Native.Nat.{ℕ, zero, suc, ◌≤◌, ◌<◌}
use mathlib.Core.Path.{◌≡◌, refl, ap}
use mathlib.Core.List.{List, [], ◌∷◌, map}
use mathlib.Core.Bool.{true}
use native.Mathlib.Omega.{arith}
use lib.ListN.{length, set, get_or-map}
use Rattle.terms.specs.Choice.{every}
use Rattle.terms.specs.Bits.{packed}
use Rattle.numbers.specs.Blocks.{Bit, Block, block_of, refs_pass}
use Rattle.numbers.specs.Reading.{Marks}
use Rattle.program.proofs.Fitting.{bit_fits, word_fits, block_fits}
use Rattle.expression.specs.Expression.{bit_in}
use Rattle.place.specs.declared.Place.{Place}
use Rattle.place.specs.Places.{fresh_place}
use Rattle.rules.specs.Rules.{word_in, ruled}
use Rattle.rules.proofs.Agree.{Turn, same_turn, bits_agree}
use Rattle.image.specs.Image.{pins_of, ticks_of, word_of_place}
use Rattle.turns.specs.Arrays.{place_at, store_at, turns_to, turn_steps, blocks_while}
use Rattle.turns.proofs.Blocks.{WasRead, was_read, while_read_lem}
use Rattle.scanning.specs.Scan.{Inputs, place_of, read_bit, read_word, scan_to, steps_to, alarm_word}
use Rattle.loading.specs.Inputs.{input_bits}
use Rattle.scanning.specs.Loading.{out_of, loaded}
use Rattle.copies.proofs.Splicing.{set_behind}
use Rattle.loading.proofs.Inputs.{inputs_length}
use Rattle.scanning.proofs.Values.{at_output, bit_values, at_word, word_values}

-- the alarm word of references that fit
pub alarms_loaded : (x : Inputs) (qs : List Place) (rs : List Bit) → every bit_fits rs ≡ true → packed (map (bit_in (loaded x qs).bits) rs) ≡ alarm_word x qs rs
unfolding alarm_word
alarms_loaded x qs rs h = ap packed (bits_agree bit_fits (bit_in (loaded x qs).bits) (read_bit x qs) (bit_values x qs) rs h)

map_set : {A B : Type 0} (f : A → B) (l : List A) (i : ℕ) (x : A) → set (map f l) i (f x) ≡ map f (set l i x)
map_set f [] i x = refl
map_set f (y ∷ l) zero x = refl
map_set f (y ∷ l) (suc i) x = ap (λ (m : List _). f y ∷ m) (map_set f l i x)

module _ (x : Inputs) (eight : length x.words ≡ 8) where
  -- one place of them
  pub place_loaded : (ps : List Place) (i : ℕ) → place_at (loaded x ps) i ≡ place_of ps i
  unfolding loaded
  place_loaded ps i = rw (at_output x ps i, at_word x ps eight i, get_or-map pins_of ps i fresh_place, get_or-map ticks_of ps i fresh_place)

  pub store_loaded : (ps : List Place) (i : ℕ) (p : Place) → store_at (loaded x ps) i p ≡ loaded x (set ps i p)
  unfolding loaded
  store_loaded ps i p =
      rw (
        set_behind (input_bits x.bits) (map out_of ps) 34 i p.out (inputs_length x.bits),
        set_behind x.words (map word_of_place ps) 8 i p.word eight,
        map_set out_of ps i p,
        map_set word_of_place ps i p,
        map_set ticks_of ps i p,
        map_set pins_of ps i p,
      )

  module _ (m : Marks) (n : ℕ) (s : List ℕ) (at : ℕ) (ps : List Place) where
    abbrev blocks : List Block
    blocks = blocks_while m n s at

    fits : (i : ℕ) → i < length blocks → refs_pass bit_fits word_fits (block_of blocks i).fields ≡ true
    fits i h = go (while_read_lem m n s at i h)
      where
        go : {b : Block} → WasRead m s b → refs_pass bit_fits word_fits b.fields ≡ true
        go (was_read at next e) = block_fits m s at e

    -- one turn
    turn : (qs : List Place) (i : ℕ) → i < length blocks
        → Turn bit_fits (bit_in (loaded x qs).bits) (read_bit x qs) (bit_values x qs) word_fits (word_in (loaded x qs).words) (read_word x qs)
        (word_values x qs eight) (block_of blocks i)
    turn qs i h = same_turn bit_fits _ _ (bit_values x qs) word_fits _ _ (word_values x qs eight) (block_of blocks i) (fits i h)

    pub turns_loaded : (i : ℕ) → i ≤ length blocks → turns_to x.elapsed blocks i (loaded x ps) ≡ loaded x (scan_to x blocks i ps)
    unfolding turns_to scan_to
    turns_loaded zero h = refl
    turns_loaded (suc i) h =
        let qs : List Place = scan_to x blocks i ps in
        rw (turns_loaded i (omega arith), place_loaded qs i, (turn qs i (omega arith)).place x.elapsed (place_of qs i))
        (store_loaded qs i (ruled (read_bit x qs) (read_word x qs) x.elapsed (block_of blocks i) (place_of qs i)))

    pub steps_loaded : (i : ℕ) → i ≤ length blocks → turn_steps x.elapsed blocks i (loaded x ps) ≡ steps_to x blocks i ps
    unfolding turn_steps steps_to
    steps_loaded zero h = refl
    steps_loaded (suc i) h = rw (steps_loaded i (omega arith), turns_loaded i (omega arith), (turn (scan_to x blocks i ps) i (omega arith)).steps)
