-- `stream::print_recording` meets its contract: what is kept leaves room in each buffer.
use Rattle.std.proofs.Common.{refl, ap, ◌∙◌, arith}
use Rattle.keeping.specs.declared.Keep.{Keep}
use Rattle.intake.proofs.Goes.{went_small}
use Rattle.stream.proofs.Rooms.{roomy_too}
use Rattle.stream.proofs.print_recording.Goals as goal

pub loop-init : goal.loop-init
loop-init g c =
    let e = c.started-k.ensures in
    let kept = ap (λ (k : Keep). k.kept) e in
    ((refl, (refl, refl)), (omega (arith, kept), rw (ap (λ (k : Keep). k.player) e) tt))

pub read_on-got-requires : goal.read_on-got-requires
read_on-got-requires g c = omega (arith, c.requires.0, c.«loop».invariant.0.0, c.«loop».invariant.1.0)

pub go_on-k-requires : goal.go_on-k-requires
go_on-k-requires g c =
    let inv = c.«loop».invariant in
    let long = c.read_on-got.auto.buf ∙ inv.0.0 in
    let roomy = roomy_too c.args.buf.now c.read_on-got.new.buf c.args.text.now c.«loop».text long inv.0.1.1 c.requires.1.1 in
    (omega (arith, c.requires.0, long, inv.1.0), (c.read_on-got.ensures.1, (omega (arith, c.requires.1.0, inv.0.1.0), (inv.1.1, roomy))))
