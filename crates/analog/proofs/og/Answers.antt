-- `analog::og` meets its contract: the number that `scale` gives, held, and whether holding changed it.
use Rattle.terms.proofs.Sizes.{up_fits}
use Rattle.analog.proofs.Holding.{same_bits}
use mir.Facts.{to_z-of_z}
use mir.Val.{SFits}
use mir.Syntax.{w16, w32}
use Rattle.analog.specs.Analog.{og}
use Rattle.analog.proofs.og.Goals as goal

pub returns : goal.returns
unfolding og
returns c =
    let f = c.ranges in let s : SFits w32 c.scale-z.result = record { sfits = c.scale-z.type_inv } in
    let z = rw (to_z-of_z f.a, to_z-of_z f.x, to_z-of_z f.b, to_z-of_z f.c) at c.scale-z.ensures in
    let h : SFits w16 c.hold-word.result = record { sfits = c.hold-word.type_inv } in
    let w = rw (to_z-of_z s, z) at c.hold-word.ensures in
    rw (c.if-not-i.false, c.from.ensures, to_z-of_z h, same_bits _ _ (up_fits h) s, w, z)
