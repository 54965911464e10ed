-- One scan, block by block: the places below a block are this scan's, the others the last scan's. Assumes nothing.
use Prim.Native.Nat.{ℕ, zero, suc, ◌+◌, ◌-◌, ◌<◌, ◌≤◌}
use mathlib.Core.Path.{◌≡◌, refl, sym, ap, fun_ext, ◌∙◌}
use mathlib.Core.List.{List}
use native.Mathlib.Omega.{arith}
use native.Mathlib.Nat.{zero-add}
use lib.Dec.{ltb}
use lib.ListN.{length, length-set}
use lib.Seq.{get_or-set_same, get_or-set_other}
use borrow.Author.Tests.{ltb-true, ltb-false}
use Rattle.terms.proofs.Choice.{pick_case}
use Rattle.numbers.specs.Blocks.{Bit, off, on, input, output, Word, analog, word_of, constant, Block, block_of}
use Rattle.place.specs.declared.Place.{Place}
use Rattle.place.specs.Places.{fresh_place}
use Rattle.rules.specs.Rules.{ruled}
use Rattle.scanning.specs.Scan.{Inputs, place_of, read_bit, read_word, scan_to}
use Rattle.promises.specs.EachBlock.{place_seen, bit_seen, word_seen}

module _ (x : Inputs) (bs : List Block) (last : List Place) where
  -- a place is the last scan's until its block has had its turn
  pub later : (k n : ℕ) → n ≤ k → place_of (scan_to x bs n last) k ≡ place_of last k
  unfolding scan_to
  later k zero h = refl
  later k (suc n) h = get_or-set_other (scan_to x bs n last) n k _ fresh_place (λ e. omega arith) ∙ later k n (omega arith)

  -- and stays as its turn has left it
  earlier : (k n j : ℕ) → k < n → place_of (scan_to x bs (j + n) last) k ≡ place_of (scan_to x bs n last) k
  unfolding scan_to
  earlier k n zero h = rw (zero-add n)
  earlier k n (suc j) h =
      let e : suc j + n ≡ suc (j + n) = omega arith in
      rw e (get_or-set_other (scan_to x bs (j + n) last) (j + n) k _ fresh_place (λ z. omega arith) ∙ earlier k n j h)

  until : (k n all : ℕ) → n ≤ all → k < n → place_of (scan_to x bs all last) k ≡ place_of (scan_to x bs n last) k
  until k n all h l = let e : all - n + n ≡ all = omega arith in rw e at (earlier k n (all - n) l)

  long : (n : ℕ) → length (scan_to x bs n last) ≡ length last
  unfolding scan_to
  long zero = refl
  long (suc n) = length-set (scan_to x bs n last) n _ ∙ long n

  -- so block n reads this scan's places below it, and the last scan's from itself on
  module _ (n all : ℕ) (h : n ≤ all) where
    seen : (k : ℕ) → place_of (scan_to x bs n last) k ≡ place_seen x last (scan_to x bs all last) n k
    seen k =
        pick_case (λ (q : Place). place_of (scan_to x bs n last) k ≡ q) (ltb k n)
        (λ l. sym (until k n all h (ltb-true k n l))) (λ l. later k n (ltb-false k n l))

    bits : (b : Bit) → read_bit x (scan_to x bs n last) b ≡ bit_seen x last (scan_to x bs all last) n b
    bits off = refl
    bits on = refl
    bits (input i) = refl
    bits (output k) = ap (λ (q : Place). q.out) (seen k)

    words : (w : Word) → read_word x (scan_to x bs n last) w ≡ word_seen x last (scan_to x bs all last) n w
    words (analog i) = refl
    words (word_of k) = ap (λ (q : Place). q.word) (seen k)
    words (constant v) = refl

  pub one_block :
      (n all : ℕ) → n < all → n < length last → let this = scan_to x bs all last in
      place_of this n ≡ ruled (bit_seen x last this n) (word_seen x last this n) x.elapsed (block_of bs n) (place_of last n)
  unfolding scan_to
  one_block n all h inside =
      let qs = scan_to x bs n last in
      let f : read_bit x qs ≡ bit_seen x last (scan_to x bs all last) n = fun_ext (bits n all (omega arith)) in
      let g : read_word x qs ≡ word_seen x last (scan_to x bs all last) n = fun_ext (words n all (omega arith)) in
      let turn = get_or-set_same qs n (ruled (read_bit x qs) (read_word x qs) x.elapsed (block_of bs n) (place_of qs n)) fresh_place (omega (arith, long n)) in
      until n (suc n) all (omega arith) (omega arith) ∙ turn ∙ rw (f, g, later n n (omega arith))
