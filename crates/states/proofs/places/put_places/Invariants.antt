-- `states::places::put_places` meets its contract: each turn makes the known front of all four columns longer by one.
use mathlib.Core.Path.{◌≡◌}
use mathlib.Core.List.{map}
use lib.ListN.{length, take}
use Rattle.image.specs.Image.{pins_of, output_of, ticks_of, word_of_place}
use Rattle.states.proofs.places.put_places.Given as goal

abbrev pub invariant-loop-i : goal.invariant-loop-i
invariant-loop-i l = (((length l.ticks ≡ 200) × (length l.words ≡ 200)) × ((length l.pins ≡ 200) × (length l.outputs ≡ 200)))
    × (((take l.i l.ticks ≡ map ticks_of (take l.i l.ps)) × (take l.i l.words ≡ map word_of_place (take l.i l.ps)))
    × ((take l.i l.pins ≡ map pins_of (take l.i l.ps)) × (take l.i l.outputs ≡ map output_of (take l.i l.ps))))
