use Prim.Native.Nat.{ℕ, ◌-◌, ◌+◌, ◌<◌, ◌≤◌}
use mathlib.Core.Path.{◌≡◌, refl, sym, ap, ◌∙◌}
use mathlib.Core.List.{List}
use native.Mathlib.Omega.{arith}
use Rattle.grammar.proofs.From.{there}
use Rattle.spelling.proofs.Numbers.{digit_is, digit_most, digit_here}
use Rattle.values.specs.declared.Run.{Run}
use Rattle.values.specs.Reading.{run_at}
use Rattle.values.proofs.Runs.{ends, no_digit, goes_on, number_grows, number_small}
use Rattle.values.proofs.read_run.Invariants.{Going}
use Rattle.values.proofs.read_run.Goals as goal

-- no number on the way is larger than the last
small : (s : List ℕ) (at count number : ℕ) → Going s at count number → count ≤ 6 → number < 1000000
small s at count number g h =
    let e : (run_at (6 - count) count number s (at + count)).number ≡ (run_at 6 0 0 s at).number = ap (λ (r : Run). r.number) g.same in
    omega (arith, number_grows (6 - count) count number s (at + count), number_small 6 0 0 s at (omega arith))

pub returns-then-not-is_ascii_digit : goal.returns-then-not-is_ascii_digit
returns-then-not-is_ascii_digit c =
    let l = c.loop-count in
    let d = digit_is c.args.text.now (c.args.at + l.count) c.byte_at-b.ensures c.is_ascii_digit.ensures.value c.if-not-is_ascii_digit.true in
    sym (no_digit _ (c.args.at + l.count) (6 - l.count) l.count l.number (omega arith) d) ∙ l.invariant.same

pub overflow_mul-number : goal.overflow_mul-number
overflow_mul-number c = omega (arith, small _ _ _ _ c.loop-count.invariant (omega arith))

pub overflow_add-number : goal.overflow_add-number
overflow_add-number c = omega (arith, small _ _ _ _ c.loop-count.invariant (omega arith))

pub loop-count-preserved : goal.loop-count-preserved
loop-count-preserved c =
    let l = c.loop-count in
    let s = c.args.text.now in
    let p = c.args.at + l.count in
    let d = digit_is s p c.byte_at-b.ensures c.is_ascii_digit.ensures.value c.if-not-is_ascii_digit.false in
    let e = c.byte_at-b.ensures in
    let i : 6 - l.count - 1 ≡ 6 - (l.count + 1) = omega arith in
    let j : p + 1 ≡ c.args.at + (l.count + 1) = omega arith in
    record {
      same = rw (← i, ← j) (sym (goes_on s p (6 - l.count) l.count l.number (omega arith) d (omega arith)) ∙ l.invariant.same);
      within = omega (arith, digit_here s p d);
    }

pub returns : goal.returns
returns c =
    let l = c.loop-count in
    let e : l.count ≡ 6 = omega arith in
    ap (λ (k : ℕ). record { count = k; number = l.number }) (sym e)
    ∙ sym (ends _ (c.args.at + l.count) (6 - l.count) l.count l.number (omega arith)) ∙ l.invariant.same
