-- The first n places of the columns: what is loaded are the arrays of places that are alike up to n, and what is stored depends on these n alone.
-- Assumes nothing.
use Prim.Native.Nat.{ℕ, zero, suc, ◌≤◌}
use mathlib.Core.Path.{◌≡◌, refl, sym, ap, ap₂, ◌∙◌}
use mathlib.Core.List.{List, [], ◌∷◌, ◌++◌, map}
use lib.ListN.{length, take, drop, replicate}
use lib.Seq.{length-take-le, take_at, drop_at}
use Rattle.terms.specs.Bits.{digit}
use Rattle.place.specs.declared.Place.{Place}
use Rattle.place.specs.Places.{fresh_place}
use Rattle.image.specs.Image.{Columns, place_in, places_in, ticks_of, word_of_place, pins_of, output_of}
use Rattle.image.specs.Lent.{SizedColumns}
use Rattle.image.proofs.Listed.{listed_long}
use Rattle.image.proofs.Columns.{pins_of_places, ticks_of_places, words_of_places, outputs_of_places}
use Rattle.image.proofs.Images.{outputs_by_bits}
use Rattle.scanning.specs.Scan.{Inputs}
use Rattle.copies.specs.Copies.{over, first_of}
use Rattle.loading.specs.Inputs.{input_bits}
use Rattle.scanning.specs.Loading.{out_of, loaded, loaded_first, stored_from, stored_in}
use Rattle.loading.proofs.Inputs.{inputs_length}

-- a function of the elements of a list, and the front and the rest of it
take_map : {A B : Type 0} (f : A → B) (n : ℕ) (l : List A) → take n (map f l) ≡ map f (take n l)
take_map f zero l = refl
take_map f (suc n) [] = refl
take_map f (suc n) (x ∷ l) = ap (λ (m : List _). f x ∷ m) (take_map f n l)

pub drop_map : {A B : Type 0} (f : A → B) (n : ℕ) (l : List A) → drop n (map f l) ≡ map f (drop n l)
drop_map f zero l = refl
drop_map f (suc n) [] = refl
drop_map f (suc n) (x ∷ l) = drop_map f n l

map_join : {A B : Type 0} (f : A → B) (a b : List A) → map f (a ++ b) ≡ map f a ++ map f b
map_join f [] b = refl
map_join f (x ∷ a) b = ap (λ (m : List _). f x ∷ m) (map_join f a b)

map_replicate : {A B : Type 0} (f : A → B) (n : ℕ) (x : A) → map f (replicate n x) ≡ replicate n (f x)
map_replicate f zero x = refl
map_replicate f (suc n) x = ap (λ (m : List _). f x ∷ m) (map_replicate f n x)

map_first : {A B : Type 0} (f : A → B) (n : ℕ) (d : A) (l : List A) → map f (first_of n d l) ≡ first_of n (f d) (map f l)
map_first f n d l =
    map_join f (take n l) (drop n (replicate 200 d))
    ∙ ap₂ (λ (a b : List _). a ++ b) (sym (take_map f n l)) (sym (drop_map f n (replicate 200 d)) ∙ ap (drop n) (map_replicate f 200 d))

-- the first n places, and fresh ones
abbrev pub first_places : ℕ → List Place → List Place
first_places n ps = first_of n fresh_place ps

pub first_alike : (n : ℕ) (ps : List Place) → n ≤ length ps → take n (first_places n ps) ≡ take n ps
first_alike n ps h = take_at (take n ps) (drop n (replicate 200 fresh_place)) n (length-take-le n ps h)

module _ (x : Inputs) (n : ℕ) (c : Columns) where
  pub places_long : length (places_in c) ≡ 200
  unfolding places_in
  places_long = listed_long 200 0 (place_in c)

  pub first_loaded : SizedColumns c → loaded_first n x c ≡ loaded x (first_places n (places_in c))
  unfolding loaded
  first_loaded s =
      let v = map_first out_of n fresh_place (places_in c) ∙ ap (first_of n _) (outputs_of_places c s.outputs) in
      let w = map_first word_of_place n fresh_place (places_in c) ∙ ap (first_of n _) (words_of_places c s.words) in
      let t = map_first ticks_of n fresh_place (places_in c) ∙ ap (first_of n _) (ticks_of_places c s.ticks) in
      let q = map_first pins_of n fresh_place (places_in c) ∙ ap (first_of n _) (pins_of_places c s.pins) in
      rw (v, w, t, q)

  over_alike : {A : Type 0} (f : Place → A) (ps qs : List Place) (l : List A) → take n ps ≡ take n qs → over n (map f ps) l ≡ over n (map f qs) l
  over_alike f ps qs l e = ap (λ (m : List _). m ++ drop n l) (take_map f n ps ∙ ap (map f) e ∙ sym (take_map f n qs))

  pub stored_alike : length x.words ≡ 8 → (ps qs : List Place) → take n ps ≡ take n qs → stored_from n (loaded x ps) c ≡ stored_in n qs c
  unfolding loaded
  stored_alike eight ps qs e =
      let w : drop 8 (x.words ++ map word_of_place ps) ≡ map word_of_place ps = drop_at x.words _ 8 eight in
      let o : map digit (drop 34 (input_bits x.bits ++ map out_of ps)) ≡ map output_of ps =
      ap (map digit) (drop_at (input_bits x.bits) _ 34 (inputs_length x.bits)) ∙ sym (outputs_by_bits ps) in
      rw (
        w,
        o,
        over_alike ticks_of ps qs c.ticks e,
        over_alike word_of_place ps qs c.words e,
        over_alike pins_of ps qs c.pins e,
        over_alike output_of ps qs c.outputs e,
      )
