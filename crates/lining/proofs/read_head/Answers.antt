-- `lining::read_head` meets its contract: the name of the block, a space or more, and the letters of a kind.
use Prim.Native.Nat.{◌+◌}
use native.Mathlib.Omega.{arith}
use borrow.Author.Tests.{le-ltb, lt-ltb, eq-eqb, ne_eqb}
use Rattle.spelling.specs.Spelling.{name_at}
use Rattle.spelling.proofs.Names.{name_ok, name_off}
use Rattle.layout.specs.Heads.{kind_at, letters_at, heading_of}
use Rattle.lining.proofs.Finding.{kind_found, kind_lost, letters_end}
use Rattle.lining.proofs.read_head.Goals as goal

pub returns-in_err-r : goal.returns-in_err-r
unfolding heading_of
returns-in_err-r c =
    let n = name_off (name_at c.args.line.now c.skip_spaces.result) c.read_name.ensures c.in_err-r.ensures.value in
    rw c.from_residual.ensures (rw (← c.skip_spaces.ensures, n.1))

pub returns-then-r-from : goal.returns-then-r-from
unfolding heading_of
returns-then-r-from c =
    let i = c.args.i in
    let r = c.in_ok-r.r in
    let from = c.from.ensures in
    let n = name_ok (name_at c.args.line.now c.skip_spaces.result) c.read_name.ensures c.in_ok-r.ensures.value in
    rw (← c.skip_spaces.ensures, n, ne_eqb r (34 + i) (λ e. omega (arith, c.if-r-from.true)))

pub returns-then-at-next : goal.returns-then-at-next
unfolding heading_of
returns-then-at-next c =
    let i = c.args.i in
    let from = c.from.ensures in
    let n = name_ok (name_at c.args.line.now c.skip_spaces.result) c.read_name.ensures c.in_ok-r.ensures.value in
    rw (← c.skip_spaces.ensures, n, ← c.skip_spaces-at.ensures, eq-eqb c.in_ok-r.r (34 + i) (omega arith), le-ltb _ _ c.if-at-next.true)

pub returns-in_err-k : goal.returns-in_err-k
unfolding heading_of letters_at
returns-in_err-k c =
    let s = c.args.line.now in
    let i = c.args.i in
    let from = c.from.ensures in
    let n = name_ok (name_at s c.skip_spaces.result) c.read_name.ensures c.in_ok-r.ensures.value in
    let k = kind_lost (kind_at s c.skip_spaces-at.result) c.in_err-k.ensures in
    rw c.from_residual-in_err-k.ensures
    (rw (
      ← c.skip_spaces.ensures,
      n,
      ← c.skip_spaces-at.ensures,
      eq-eqb c.in_ok-r.r (34 + i) (omega arith),
      lt-ltb _ _ c.if-at-next.false,
      le-ltb (kind_at s c.skip_spaces-at.result) 13 k,
    ))

pub overflow_add-result : goal.overflow_add-result
overflow_add-result c =
    let k = kind_found (kind_at c.args.line.now c.skip_spaces-at.result) c.in_ok-k.ensures in
    let x = letters_end c.args.line.now c.skip_spaces-at.result c.in_ok-k.k k.0 k.1 in
    record { fits = omega (arith, c.word_size.ensures) }

pub returns : goal.returns
unfolding heading_of letters_at
returns c =
    let s = c.args.line.now in
    let i = c.args.i in
    let from = c.from.ensures in
    let n = name_ok (name_at s c.skip_spaces.result) c.read_name.ensures c.in_ok-r.ensures.value in
    let k = kind_found (kind_at s c.skip_spaces-at.result) c.in_ok-k.ensures in
    rw (
      ← c.skip_spaces.ensures,
      n,
      ← c.skip_spaces-at.ensures,
      eq-eqb c.in_ok-r.r (34 + i) (omega arith),
      lt-ltb _ _ c.if-at-next.false,
      k.0,
      lt-ltb c.in_ok-k.k 13 k.1,
      ← c.word_size.ensures,
    )
