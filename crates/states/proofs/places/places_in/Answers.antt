-- `states::places::places_in` meets its contract: each place is made of its numbers.
use borrow.Author.Rules.{rules}
use Rattle.image.specs.Image.{columns, place_in, places_in}
use Rattle.image.proofs.Made.{listed_made}
use Rattle.states.proofs.places.places_in.Goals as goal

pub returns : goal.returns
unfolding places_in
returns c =
    listed_made _ _ (place_in (columns c.args.ticks.now c.args.words.now c.args.pins.now c.args.outputs.now)) (λ k y q h. search rules) c.from_fn.result 200 c.from_fn.ensures.items
