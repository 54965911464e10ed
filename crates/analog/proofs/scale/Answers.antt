-- `analog::scale` meets its contract: product, quotient and sum fit 32 bits, so that each step is the number's own.
use Rattle.terms.proofs.Sizes.{up, up_fits, nonzero_bits, product_fits, quot_fits, sum_fits}
use mir.Facts.{to_z-of_z}
use Rattle.analog.specs.Analog.{scaled}
use Rattle.analog.proofs.scale.Goals as goal

pub nonzero_div-result : goal.nonzero_div-result
nonzero_div-result c =
    let f = c.ranges in let p = product_fits f.a f.x in
    (rw (c.from-3.ensures, to_z-of_z f.b) (nonzero_bits _ (up_fits f.b) c.requires), rw (c.from.ensures, c.from-2.ensures, c.from-3.ensures, up f.a, up f.x, to_z-of_z p, up f.b) (quot_fits f.a f.x f.b))

pub overflow_add-result : goal.overflow_add-result
overflow_add-result c =
    let f = c.ranges in let p = product_fits f.a f.x in
    let q = quot_fits f.a f.x f.b in
    rw (c.from.ensures, c.from-2.ensures, c.from-3.ensures, c.from-4.ensures, up f.a, up f.x, to_z-of_z p, up f.b, to_z-of_z q, up f.c) (sum_fits f.a f.x f.b f.c)

pub returns : goal.returns
unfolding scaled
returns c =
    let f = c.ranges in let p = product_fits f.a f.x in
    let q = quot_fits f.a f.x f.b in
    let s = sum_fits f.a f.x f.b f.c in
    rw (c.from.ensures, c.from-2.ensures, c.from-3.ensures, c.from-4.ensures, up f.a, up f.x, to_z-of_z p, up f.b, to_z-of_z q, up f.c, to_z-of_z s)
