-- A scan of blocks whose references are all there depends on their own places alone. Assumes nothing.
use Prim.Native.Nat.{ℕ, zero, suc, ◌<◌, ◌≤◌}
use mathlib.Core.Path.{◌≡◌, refl, sym, ap, ◌∙◌}
use mathlib.Core.Bool.{Bool, true}
use mathlib.Core.List.{List, [], ◌∷◌}
use native.Mathlib.Omega.{arith}
use native.Mathlib.Nat.{le_of_suc-le-suc, not-suc-le-zero}
use lib.Dec.{ltb}
use lib.ListN.{length, get_or, take}
use lib.Seq.{get_or-take, take-set-lt}
use borrow.Author.Tests.{ltb-true}
use Rattle.terms.specs.Choice.{every}
use Rattle.terms.specs.Bits.{packed}
use Rattle.terms.proofs.Choice.{both}
use Rattle.numbers.specs.Blocks.{Bit, off, on, input, output, Word, analog, word_of, constant, Block, block_of}
use Rattle.program.specs.References.{block_passes, bit_there, word_there, kinds_of}
use Rattle.program.proofs.Marks.{kinds_long}
use Rattle.place.specs.declared.Place.{Place}
use Rattle.place.specs.Places.{fresh_place}
use Rattle.rules.proofs.Agree.{Turn, same_turn, bits_agree}
use Rattle.scanning.specs.Scan.{Inputs, place_of, read_bit, read_word, scan_to, steps_to, alarm_word}

-- one of some blocks that all pass a test
pub each_passes : (t : Block → Bool) (bs : List Block) → every t bs ≡ true → (i : ℕ) → i < length bs → t (block_of bs i) ≡ true
each_passes t [] h i l = absurd (not-suc-le-zero l)
each_passes t (b ∷ bs) h zero l = (both (t b) (every t bs) h).0
each_passes t (b ∷ bs) h (suc i) l = each_passes t bs (both (t b) (every t bs) h).1 i (le_of_suc-le-suc l)

-- blocks bs, on places that are alike up to their number
module _ (x : Inputs) (bs : List Block) where
  abbrev Alike : List Place → List Place → Type 0
  Alike ps qs = take (length bs) ps ≡ take (length bs) qs

  place_alike : (ps qs : List Place) → Alike ps qs → (k : ℕ) → k < length bs → place_of ps k ≡ place_of qs k
  place_alike ps qs e k h =
      sym (get_or-take (length bs) ps k fresh_place h) ∙ ap (λ (l : List Place). get_or l k fresh_place) e ∙ get_or-take (length bs) qs k fresh_place h

  inside : (k : ℕ) → ltb k (length (kinds_of bs)) ≡ true → k < length bs
  inside k h = rw (kinds_long bs) at (ltb-true k (length (kinds_of bs)) h)

  module _ (ps qs : List Place) (e : Alike ps qs) where
    bits_alike : (r : Bit) → bit_there (kinds_of bs) r ≡ true → read_bit x ps r ≡ read_bit x qs r
    bits_alike off h = refl
    bits_alike on h = refl
    bits_alike (input i) h = refl
    bits_alike (output k) h = ap (λ (p : Place). p.out) (place_alike ps qs e k (inside k h))

    words_alike : (w : Word) → word_there (kinds_of bs) w ≡ true → read_word x ps w ≡ read_word x qs w
    words_alike (analog i) h = refl
    words_alike (word_of k) h = ap (λ (p : Place). p.word) (place_alike ps qs e k (inside k (both _ _ h).0))
    words_alike (constant n) h = refl

    -- the alarm word
    pub alarms_alike : (rs : List Bit) → every (bit_there (kinds_of bs)) rs ≡ true → alarm_word x ps rs ≡ alarm_word x qs rs
    unfolding alarm_word
    alarms_alike rs h = ap packed (bits_agree (bit_there (kinds_of bs)) (read_bit x ps) (read_bit x qs) bits_alike rs h)

    one_turn : (i : ℕ) → block_passes (bit_there (kinds_of bs)) (word_there (kinds_of bs)) (block_of bs i) ≡ true
        → Turn (bit_there (kinds_of bs)) (read_bit x ps) (read_bit x qs) bits_alike (word_there (kinds_of bs)) (read_word x ps) (read_word x qs) words_alike (block_of bs i)
    one_turn i h = same_turn (bit_there (kinds_of bs)) _ _ bits_alike (word_there (kinds_of bs)) _ _ words_alike (block_of bs i) h

  module _ (there : every (block_passes (bit_there (kinds_of bs)) (word_there (kinds_of bs))) bs ≡ true) (ps qs : List Place) (e : Alike ps qs) where
    pub scans_alike : (i : ℕ) → i ≤ length bs → Alike (scan_to x bs i ps) (scan_to x bs i qs)
    unfolding scan_to
    scans_alike zero h = e
    scans_alike (suc i) h =
        let f = scans_alike i (omega arith) in
        let us : List Place = scan_to x bs i ps in
        let cs : List Place = scan_to x bs i qs in
        rw (
          take-set-lt (length bs) us i _ (omega arith),
          take-set-lt (length bs) cs i _ (omega arith),
          f,
          place_alike us cs f i (omega arith),
          (one_turn us cs f i (each_passes _ bs there i (omega arith))).place x.elapsed (place_of cs i),
        )

    pub steps_alike : (i : ℕ) → i ≤ length bs → steps_to x bs i ps ≡ steps_to x bs i qs
    unfolding steps_to
    steps_alike zero h = refl
    steps_alike (suc i) h =
        let t = one_turn (scan_to x bs i ps) (scan_to x bs i qs) (scans_alike i (omega arith)) i (each_passes _ bs there i (omega arith)) in
        rw (steps_alike i (omega arith), t.steps)
