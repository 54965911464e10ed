use Rattle.turns.proofs.Going.{begin, small, go_on, stop, after, done}
use Rattle.turns.specs.Arrays.{Arrays, arrays, place_at}
use lib.IntN.{pos}
use lib.ListN.{get_or}
use mathlib.Core.Bool.{false}
use mir.Val.{to_z, of_z}
use mir.Facts.{to_z-of_z}
use mir.Val.{SFits}
use mir.Syntax.{w16}
use borrow.Author.Rules.{rules}
use native.Mathlib.Omega.{arith}
use mathlib.Core.Path.{◌≡◌, refl, sym, ◌∙◌}
use Prim.Native.Nat.{ℕ, ◌+◌}
use Rattle.turns.proofs.turns.Goals as goal

-- the word that is read is the word that is there
word_kept : (a : Arrays) (i : ℕ) → SFits w16 (get_or a.words (i + 8) (pos 0))
    → record
    { pins = get_or a.pins i 0; out = get_or a.bits (i + 34) false; ticks = get_or a.ticks i 0; word = to_z w16 (of_z w16 (get_or a.words (i + 8) (pos 0))) }
    ≡ place_at a i
word_kept a i f = rw (to_z-of_z f)

pub loop-i-init : goal.loop-i-init
loop-i-init c =
    begin _ _ _ _ _ _

pub returns-in_default : goal.returns-in_default
returns-in_default c =
    let l = c.loop-i in let f : SFits w16 (get_or l.words (l.i + 8) (pos 0)) = search rules in
    let h = stop _ _ _ _ _ _ l.invariant (omega arith) (word_kept (arrays l.bits l.words l.ticks l.pins) l.i f) c.in_default.ensures.value in
    record { value = h.0; after = h.1 }

pub overflow_add-steps : goal.overflow_add-steps
overflow_add-steps c =
    let l = c.loop-i in let f : SFits w16 (get_or l.words (l.i + 8) (pos 0)) = search rules in
    let w = word_kept (arrays l.bits l.words l.ticks l.pins) l.i f in
    omega (arith, l.invariant.few, small _ _ _ _ _ _ l.invariant (omega arith) w c.in-Ok.ensures.value)

pub overflow_add-memory : goal.overflow_add-memory
overflow_add-memory c =
    let l = c.loop-i in let f : SFits w16 (get_or l.words (l.i + 8) (pos 0)) = search rules in
    let w = word_kept (arrays l.bits l.words l.ticks l.pins) l.i f in
    omega (arith, l.invariant.light, small _ _ _ _ _ _ l.invariant (omega arith) w c.in-Ok.ensures.value)

pub loop-i-preserved : goal.loop-i-preserved
loop-i-preserved c =
    let l = c.loop-i in let f : SFits w16 (get_or l.words (l.i + 8) (pos 0)) = search rules in
    let w : SFits w16 c.in-Ok.t.place.word = search rules in
    rw (to_z-of_z w)
    (go_on _ _ _ _ _ _ l.invariant (omega arith) (word_kept (arrays l.bits l.words l.ticks l.pins) l.i f) (omega arith)
    c.in-Ok.ensures.value c.in-Ok.ensures.asks)

pub returns-then-answered : goal.returns-then-answered
returns-then-answered c =
    let g = c.loop-i.invariant in record { value = done _ _ _ _ _ _ g (omega arith) (sym c.if-answered.true ∙ c.all_answer-answered.ensures) refl; after = after _ _ _ _ _ _ g (omega arith) }

pub returns-else-answered : goal.returns-else-answered
returns-else-answered c =
    let g = c.loop-i.invariant in record { value = done _ _ _ _ _ _ g (omega arith) (sym c.if-answered.false ∙ c.all_answer-answered.ensures) refl; after = after _ _ _ _ _ _ g (omega arith) }
