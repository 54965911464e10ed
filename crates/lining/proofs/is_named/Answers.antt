-- `lining::is_named` meets its contract: a space or more, the word, and `=`.
use mathlib.Core.Path.{sym, ◌∙◌}
use native.Mathlib.Omega.{arith}
use borrow.Author.Tests.{le-ltb, lt-ltb}
use Rattle.terms.proofs.Choice.{never}
use Rattle.spelling.proofs.Spaces.{skipped_within}
use Rattle.words.specs.Words.{word_text}
use Rattle.words.proofs.Standing.{stands_exactly}
use Rattle.layout.specs.Fields.{named_at}
use Rattle.layout.proofs.Fielding.{stands_within}
use Rattle.lining.proofs.is_named.Goals as goal
use Rattle.lining.proofs.is_named.Goals.{then-at-p, else-at-p}

pub overflow_add-p : goal.overflow_add-p
overflow_add-p c =
    let s = c.args.line.now in
    let w = skipped_within s c.args.at c.requires.0 c.skip_spaces-p.ensures in
    elim c.if-at-p.branch [
      | then-at-p v ↦
          let x =
          stands_within s (word_text c.args.name) c.skip_spaces-p.result w.1 ((stands_exactly _ _ _).0 (sym v.word_at.ensures ∙ (sym v.value-is ∙ c.if-word_at.true))) in
          record { fits = omega (arith, c.word_size.ensures) }
      | else-at-p v ↦ never (sym c.if-word_at.true ∙ v.value-is ∙ le-ltb _ _ v.if-at-p.false)
    ]

pub returns-then-word_at : goal.returns-then-word_at
unfolding named_at
returns-then-word_at c =
    elim c.if-at-p.branch [
      | then-at-p v ↦
          rw (
            ← c.skip_spaces-p.ensures,
            lt-ltb _ _ v.if-at-p.true,
            sym v.word_at.ensures ∙ (sym v.value-is ∙ c.if-word_at.true),
            ← c.word_size.ensures,
            ← c.byte_at.ensures,
          )
      | else-at-p v ↦ never (sym c.if-word_at.true ∙ v.value-is ∙ le-ltb _ _ v.if-at-p.false)
    ]

pub returns-else-word_at : goal.returns-else-word_at
unfolding named_at
returns-else-word_at c =
    c.if-word_at.false ∙ elim c.if-at-p.branch [
      | then-at-p v ↦ rw (← c.skip_spaces-p.ensures, lt-ltb _ _ v.if-at-p.true, sym v.word_at.ensures ∙ (sym v.value-is ∙ c.if-word_at.false))
      | else-at-p v ↦ rw (← c.skip_spaces-p.ensures, le-ltb _ _ v.if-at-p.false)
    ]
