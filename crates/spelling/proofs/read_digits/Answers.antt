use Rattle.std.proofs.Common.{◌≡◌, sym, ap, ◌∙◌, ◌*◌, ◌+◌, ◌-◌, ◌≤◌, arith}
use Rattle.spelling.specs.Spelling.{as_digits}
use Rattle.spelling.proofs.Numbers.{digit_is, digit_most, product, still_small, no_digit, too_large, too_small, goes_on, ends}
use Rattle.spelling.proofs.read_digits.Goals as goal
use Rattle.spelling.proofs.read_digits.Goals.{then-most-first-via-then-most-first, then-most-first-via-else-most-first+then-first-unit}

pub returns-then-not-is_ascii_digit : goal.returns-then-not-is_ascii_digit
returns-then-not-is_ascii_digit c =
    let l = c.loop-i in
    ap as_digits (sym (no_digit _ l.p l.n _ _ (c.args.count - l.i) (omega arith) (digit_is c.args.text.now l.p c.byte_at-b.ensures c.is_ascii_digit.ensures.value c.if-not-is_ascii_digit.true))
    ∙ l.invariant.same)

pub overflow_mul-first : goal.overflow_mul-first
overflow_mul-first c =
    let l = c.loop-i in
    let n = 10 * l.n + c.from.result in
    let few : c.args.count - 1 - l.i ≤ 2 = omega (arith, l.invariant.few) in
    let small = digit_most c.args.text.now l.p (digit_is c.args.text.now l.p c.byte_at-b.ensures c.is_ascii_digit.ensures.value c.if-not-is_ascii_digit.false) in
    let e = c.byte_at-b.ensures in
    omega (arith, product n _ _ c.tens_of-unit.ensures few (omega (arith, l.invariant.small)))

pub returns-then-most-first : goal.returns-then-most-first
returns-then-most-first c =
    let l = c.loop-i in
    let d = digit_is c.args.text.now l.p c.byte_at-b.ensures c.is_ascii_digit.ensures.value c.if-not-is_ascii_digit.false in
    let e = c.byte_at-b.ensures in
    let i : c.args.count - 1 - l.i ≡ c.args.count - l.i - 1 = omega arith in
    let unit = rw i at c.tens_of-unit.ensures in
    ap as_digits (elim c.then-most-first.branch [
      | then-most-first-via-then-most-first w ↦ sym (too_large _ l.p l.n _ _ (c.args.count - l.i) (omega arith) d (omega arith) unit w.if-most-first.true)
      | then-most-first-via-else-most-first+then-first-unit w ↦ sym (too_small _ l.p l.n _ _ (c.args.count - l.i) (omega arith) d (omega arith) unit w.if-most-first.false w.if-first-unit.true)
    ] ∙ l.invariant.same)

pub loop-i-preserved : goal.loop-i-preserved
loop-i-preserved c =
    let l = c.loop-i in
    let e = c.byte_at-b.ensures in
    let d = digit_is c.args.text.now l.p c.byte_at-b.ensures c.is_ascii_digit.ensures.value c.if-not-is_ascii_digit.false in
    let i : c.args.count - 1 - l.i ≡ c.args.count - l.i - 1 = omega arith in
    let j : c.args.count - l.i - 1 ≡ c.args.count - (l.i + 1) = omega arith in
    let unit = rw i at c.tens_of-unit.ensures in
    let fits = c.if-most-first.false in
    record {
      same = rw (← j) (sym (goes_on _ l.p l.n _ _ (c.args.count - l.i) (omega arith) d (omega arith) unit fits c.if-first-unit.false) ∙ l.invariant.same);
      few = omega (arith, l.invariant.few);
      small = omega (arith, still_small _ _ _ _ unit fits);
    }

pub returns : goal.returns
returns c =
    let l = c.loop-i in
    ap as_digits (sym (ends _ l.p l.n _ _ (c.args.count - l.i) (omega arith)) ∙ l.invariant.same)
