-- An image and its state: columns and a state come back. Assumes nothing.
use mathlib.Core.Path.{◌≡◌, refl, sym, ap, ap₂, ◌∙◌}
use mathlib.Core.Bool.{Bool, true, false}
use mathlib.Core.List.{List, [], ◌∷◌, map}
use Prim.Native.Nat.{ℕ, ◌^◌, ◌<◌, ◌≤◌}
use native.Mathlib.Omega.{arith}
use lib.Dec.{eqb, leb}
use lib.ListN.{length}
use borrow.Author.Tests.{eqb-true, eqb-false, ltb-true, lt-ltb, leb-true}
use Rattle.terms.specs.Choice.{every}
use Rattle.terms.specs.Bits.{digit}
use Rattle.terms.proofs.Choice.{both}
use Rattle.place.specs.declared.Place.{Place}
use Rattle.image.specs.declared.State.{State}
use Rattle.image.specs.Image.{Columns, Image, is_on, places_in, alarms_in, state_in, output_of, columns_of, image_of, at_most, is_image}
use Rattle.image.specs.Lent.{SizedColumns}
use Rattle.image.proofs.Columns.{pins_of_places, outputs_of_places, ticks_of_places, words_of_places}
use Rattle.image.proofs.Columns.{places_of_columns, entries_of_columns}

-- outputs that are bits, and an alarm word that fits
pub record Imaged (i : Image) : Type 0 where
  pub bits : every (at_most 1) i.columns.outputs ≡ true
  pub alarms : alarms_in i.log < 2 ^ 32

pub image_parts : (i : Image) → is_image i ≡ true → Imaged i
unfolding is_image
image_parts i e = let b = both _ _ e in record { bits = b.0; alarms = ltb-true _ _ b.1 }

pub image_whole : (i : Image) → Imaged i → is_image i ≡ true
unfolding is_image
image_whole i m = rw (m.bits, lt-ltb _ _ m.alarms)

-- an output that is a bit comes back
bit_again : (n : ℕ) → n ≤ 1 → digit (is_on n) ≡ n
bit_again n h = go (eqb n 1) refl
  where
    go : (b : Bool) → eqb n 1 ≡ b → digit b ≡ n
    go true e = sym (eqb-true n 1 e)
    go false e = let k : n ≡ 1 → ⊥ = eqb-false n 1 e in omega arith

bits_again : (l : List ℕ) → every (at_most 1) l ≡ true → map digit (map is_on l) ≡ l
bits_again [] e = refl
bits_again (n ∷ l) e =
    let h = both (leb n 1) (every (at_most 1) l) e in
    ap₂ (λ (x : ℕ) (m : List ℕ). x ∷ m) (bit_again n (leb-true n 1 h.0)) (bits_again l h.1)

byte_is_bit : (b : Bool) → leb (digit b) 1 ≡ true
byte_is_bit true = refl
byte_is_bit false = refl

bytes_are_bits : (ps : List Place) → every (at_most 1) (map output_of ps) ≡ true
bytes_are_bits [] = refl
bytes_are_bits (p ∷ ps) = rw (byte_is_bit p.out) (bytes_are_bits ps)

pub outputs_by_bits : (ps : List Place) → map output_of ps ≡ map digit (map (λ (p : Place). p.out) ps)
outputs_by_bits [] = refl
outputs_by_bits (p ∷ ps) = ap (λ (l : List ℕ). output_of p ∷ l) (outputs_by_bits ps)

-- columns, by the lengths that their types give them
pub columns_again : (c : Columns) → SizedColumns c → every (at_most 1) c.outputs ≡ true → columns_of (places_in c) ≡ c
columns_again c s e =
    let o = outputs_by_bits (places_in c) ∙ ap (map digit) (outputs_of_places c s.outputs) ∙ bits_again c.outputs e in
    rw (ticks_of_places c s.ticks, words_of_places c s.words, pins_of_places c s.pins, o)

-- a state, by what its type tells of it
module _ (s : State) (places : length s.places ≡ 200) (entries : length s.journal.entries ≡ 32) where
  pub state_again : state_in (image_of s) ≡ s
  state_again = rw (places_of_columns s.places places, entries_of_columns s.journal.entries entries)

pub is_image_lem : (s : State) → s.alarms < 2 ^ 32 → is_image (image_of s) ≡ true
is_image_lem s a = image_whole (image_of s) (record { bits = bytes_are_bits s.places; alarms = a })
