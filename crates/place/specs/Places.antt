-- Document 01, "State" (a place), and what "One scan" and L3 say of last pins. A rule sees the values at its pins and words, its settings, the elapsed
-- ticks E and its old place p, and nothing else. It leaves the last pins to `pinned`.
use Rattle.std.specs.Prelude.{Bool, false, not, ◌&&◌, ◌||◌, ℕ, ◌/◌, ◌%◌, ℤ, pos, eqb}
use Rattle.std.specs.Bool.{beq}
use Rattle.place.specs.declared.Place.{Place}

-- "For each of 200 places: last pins (4 bits, in a byte), output bit, ticks, word (16 bits, signed)." "Fresh is all zero and off."
abbrev pub fresh_place : Place
fresh_place = record { pins = 0; out = false; ticks = 0; word = pos 0 }

-- The one definition that makes a place anew: what is not named stays as it was in p.
abbrev pub put : ℕ → Bool → ℕ → ℤ → Place → Place
put n o t w p = record { pins = n; out = o; ticks = t; word = w }

abbrev pub out_to : Bool → Place → Place
out_to o p = put p.pins o p.ticks p.word p

abbrev pub timed_to : Bool → ℕ → Place → Place
timed_to o t p = put p.pins o t p.word p

abbrev pub word_to : Bool → ℤ → Place → Place
word_to o w p = put p.pins o p.ticks w p

abbrev pub pinned : ℕ → Place → Place
pinned n p = put n p.out p.ticks p.word p

-- "first lowest": the first and the second of the last pins
abbrev pub first_was : Place → Bool
first_was p = eqb (p.pins % 2) 1

abbrev pub second_was : Place → Bool
second_was p = eqb (p.pins / 2 % 2) 1

-- "'Rises' means on now, off in last pins; 'falls' the reverse."
abbrev pub rises : Bool → Bool → Bool
rises is_on wasOn = is_on && not wasOn

abbrev pub falls : Bool → Bool → Bool
falls is_on wasOn = not is_on && wasOn

-- "differs": I from the output, in DL, and a pin from its last, in L3
abbrev pub differs : Bool → Bool → Bool
differs a b = not (beq a b)

-- L3: "I or C differs from its last pin"; they are the first two
abbrev pub either_differs : Bool → Bool → Place → Bool
either_differs first second p = differs first (first_was p) || differs second (second_was p)
