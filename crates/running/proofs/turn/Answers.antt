-- `running::turn` meets its contract: by the block's kind.
use Rattle.rules.specs.Rules.{word_in}
use Rattle.running.proofs.Turning.{turn_of_lem, turn_none, asked_bl, asked_of, asked_none}
use Rattle.numbers.proofs.Typed.{typed_below}
use Rattle.terms.proofs.Refusals.{handed_on}
use native.Mathlib.Omega.{arith}
use mathlib.Core.Path.{◌∙◌, sym}
use Rattle.running.proofs.turn.Goals as goal

pub returns-in_err-v : goal.returns-in_err-v
returns-in_err-v c =
    let h = sym c.in_err-v.ensures in
    record { value = rw (handed_on _ c.from_residual.ensures.1) (turn_none _ _ _ _ _ _ _ h); asks = asked_none _ _ _ _ h }

pub returns-then-v-eq0 : goal.returns-then-v-eq0
returns-then-v-eq0 c =
    let a = c.args in let z = c.if-v-eq0.true in let h = rw z at (sym c.in_ok-v.ensures) in
    record { value = c.turn_bl.ensures (word_in a.words.now) a.e ∙ turn_of_lem _ _ _ _ _ _ _ h; asks = asked_bl _ _ _ _ ∙ asked_of _ _ _ _ h }

pub overflow_cast-kind : goal.overflow_cast-kind
overflow_cast-kind c =
    omega (arith, typed_below _ _ _ _ _ (sym c.in_ok-v.ensures))

pub turn_row-requires : goal.turn_row-requires
turn_row-requires c =
    (typed_below _ _ _ _ _ (sym c.in_ok-v.ensures), omega arith)

pub returns : goal.returns
returns c =
    let h = sym c.in_ok-v.ensures in
    record { value = c.turn_row.ensures.value ∙ turn_of_lem _ _ _ _ _ _ _ h; asks = c.turn_row.ensures.asks ∙ asked_of _ _ _ _ h }
