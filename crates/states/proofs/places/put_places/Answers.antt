use native.Mathlib.Omega.{arith}
use borrow.Author.Rules.{rules}
use mathlib.Core.Path.{◌≡◌, ◌∙◌}
use lib.ListN.{length, get_or, length-set}
use mir.Facts.{to_z-of_z}
use mir.Val.{SFits}
use mir.Syntax.{w16}
use Rattle.terms.proofs.Bits.{as_byte}
use Rattle.place.specs.Places.{fresh_place}
use Rattle.journal.proofs.Places.{length_mapped}
use Rattle.image.proofs.Walks.{map_turn, map_end}
use Rattle.image.specs.Image.{pins_of, output_of, ticks_of, word_of_place}
use Rattle.states.proofs.places.put_places.Goals as goal

pub loop-i-preserved : goal.loop-i-preserved
loop-i-preserved c =
    let ps = c.args.ps in let n : length ps ≡ 200 = search (rules, length_mapped) in
    let i = c.loop-i.i in let f : SFits w16 (get_or ps i fresh_place).word = search rules in
    let long = c.loop-i.invariant.0 in let front = c.loop-i.invariant.1 in (
      ((simp length-set long.0.0, simp length-set long.0.1), (simp length-set long.1.0, simp length-set long.1.1)),
      (
        (
          map_turn ticks_of ps fresh_place c.loop-i.ticks i (omega arith) (omega arith) front.0.0,
          rw (to_z-of_z f) (map_turn word_of_place ps fresh_place c.loop-i.words i (omega arith) (omega arith) front.0.1),
        ),
        (
          map_turn pins_of ps fresh_place c.loop-i.pins i (omega arith) (omega arith) front.1.0,
          rw (c.from.ensures, as_byte (get_or ps i fresh_place).out) (map_turn output_of ps fresh_place c.loop-i.outputs i (omega arith) (omega arith) front.1.1),
        ),
      ),
    )

pub returns : goal.returns
returns c =
    let ps = c.args.ps in let n : length ps ≡ 200 = search (rules, length_mapped) in
    let i = c.loop-i.i in let front = c.loop-i.invariant.1 in rw (
      map_end ticks_of ps c.loop-i.ticks i (omega arith) (omega arith) front.0.0,
      map_end word_of_place ps c.loop-i.words i (omega arith) (omega arith) front.0.1,
      map_end pins_of ps c.loop-i.pins i (omega arith) (omega arith) front.1.0,
      map_end output_of ps c.loop-i.outputs i (omega arith) (omega arith) front.1.1,
    )
