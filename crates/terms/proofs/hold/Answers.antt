-- `terms::hold` meets its contract: the same two tests, on the number that the bits stand for.
use mir.Facts.{to_z-of_z}
use lib.IntN.{negsuc}
use Rattle.terms.specs.Words.{hold_word}
use Rattle.terms.proofs.Sizes.{in_word, test_low, test_high}
use Rattle.terms.proofs.hold.Goals as goal

pub returns-then-z-ltminus32768 : goal.returns-then-z-ltminus32768
unfolding hold_word
returns-then-z-ltminus32768 c = rw (test_low c.ranges.z (negsuc 32767) c.if-z-ltminus32768.true)

pub returns-then-z-gt32767 : goal.returns-then-z-gt32767
unfolding hold_word
returns-then-z-gt32767 c =
    let f = c.ranges.z in
    rw (test_low f (negsuc 32767) c.if-z-ltminus32768.false, test_high f (lib.IntN.pos 32767) c.if-z-gt32767.true)

pub returns : goal.returns
unfolding hold_word
returns c =
    let f = c.ranges.z in
    let l = test_low f (negsuc 32767) c.if-z-ltminus32768.false in
    let h = test_high f (lib.IntN.pos 32767) c.if-z-gt32767.false in
    rw (to_z-of_z f, to_z-of_z (in_word _ l h), l, h)
