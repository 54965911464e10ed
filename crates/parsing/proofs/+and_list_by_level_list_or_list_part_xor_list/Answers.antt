-- or-list, xor-list, and-list and part meet their contracts: each way through them is a law of Lists or Parts.
use Rattle.std.proofs.Common.{sym, ◌∙◌, arith}
use Rattle.std.proofs.lemmas.Result.{err_from_is_err_and}
use Rattle.spelling.specs.Spelling.{sign_at}
use Rattle.spelling.proofs.Names.{name_good, name_has, no_name}
use Rattle.spelling.proofs.Signs.{sign_of, sign_has, sign_none, sign_bad}
use Rattle.spelling.proofs.Spaces.{skipped, skipped_within}
use Rattle.parsing.proofs.Lists.{made, no_sign_of, begins, ends, breaks, later, reaches, sums, goes_on}
use Rattle.parsing.proofs.Parts.{no_nots, inside, one_not, too_many, inner_fits, into, unclosed, closed, called, called_small, uncalled}
use Rattle.parsing.proofs.+and_list_by_level_list_or_list_part_xor_list.Goals as goal

pub list-loop-op-init : goal.list-loop-op-init
list-loop-op-init t c = begins c.args.text.now (made c.args.level c.requires.level_bound) c.in_ok-whole.ensures

pub list-returns-in_err-op : goal.list-returns-in_err-op
list-returns-in_err-op t c = let p = err_from_is_err_and c.from_residual-in_err-op.result c.from_residual-in_err-op.ensures.1 in rw (p.1, p.2) (breaks c.args.text.now (made c.args.level c.requires.level_bound) c.loop-op.invariant c.args.level (sign_bad _ c.in_err-op.ensures))

pub list-overflow_add-first : goal.list-overflow_add-first
list-overflow_add-first t c = let o = later c.args.text.now (made c.args.level c.requires.level_bound) c.loop-op.invariant (sign_of c.args.text.now c.args.level _ _ _ (sign_has (sign_at c.args.level c.args.text.now c.loop-op.whole.next) c.in_ok-op.ensures c.in-Some.is)) c.requires.ready in omega (arith, o.1.behind, o.1.within)

pub list-overflow_add-first-in-Some : goal.list-overflow_add-first-in-Some
list-overflow_add-first-in-Some t c = let o = later c.args.text.now (made c.args.level c.requires.level_bound) c.loop-op.invariant (sign_of c.args.text.now c.args.level _ _ _ (sign_has (sign_at c.args.level c.args.text.now c.loop-op.whole.next) c.in_ok-op.ensures c.in-Some.is)) c.requires.ready in omega (arith, o.1.behind, o.1.within)

pub list-by_level-requires-in-Some : goal.list-by_level-requires-in-Some
list-by_level-requires-in-Some t c = let o = later c.args.text.now (made c.args.level c.requires.level_bound) c.loop-op.invariant (sign_of c.args.text.now c.args.level _ _ _ (sign_has (sign_at c.args.level c.args.text.now c.loop-op.whole.next) c.in_ok-op.ensures c.in-Some.is)) c.requires.ready in (omega (arith, c.requires.level_bound, o.0, o.1.within), (o.1, omega (arith, c.requires.level_bound)))

pub list-returns-in_err-item : goal.list-returns-in_err-item
list-returns-in_err-item t c = let p = err_from_is_err_and c.from_residual-in_err-item.result c.from_residual-in_err-item.ensures.1 in rw (p.1, p.2) (reaches c.args.text.now (made c.args.level c.requires.level_bound) c.loop-op.invariant (sign_of c.args.text.now c.args.level _ _ _ (sign_has (sign_at c.args.level c.args.text.now c.loop-op.whole.next) c.in_ok-op.ensures c.in-Some.is)) ∙ c.in_err-item.ensures)

pub list-overflow_add-whole : goal.list-overflow_add-whole
list-overflow_add-whole t c = omega (arith, (sums c.args.text.now (made c.args.level c.requires.level_bound) c.loop-op.invariant (sign_of c.args.text.now c.args.level _ _ _ (sign_has (sign_at c.args.level c.args.text.now c.loop-op.whole.next) c.in_ok-op.ensures c.in-Some.is)) c.requires.ready c.in_ok-item.ensures).0)

pub list-overflow_add-whole-in-Some : goal.list-overflow_add-whole-in-Some
list-overflow_add-whole-in-Some t c = omega (arith, (sums c.args.text.now (made c.args.level c.requires.level_bound) c.loop-op.invariant (sign_of c.args.text.now c.args.level _ _ _ (sign_has (sign_at c.args.level c.args.text.now c.loop-op.whole.next) c.in_ok-op.ensures c.in-Some.is)) c.requires.ready c.in_ok-item.ensures).0)

pub list-over-requires : goal.list-over-requires
list-over-requires t c = omega (arith, (sums c.args.text.now (made c.args.level c.requires.level_bound) c.loop-op.invariant (sign_of c.args.text.now c.args.level _ _ _ (sign_has (sign_at c.args.level c.args.text.now c.loop-op.whole.next) c.in_ok-op.ensures c.in-Some.is)) c.requires.ready c.in_ok-item.ensures).1.0)

pub list-loop-op-smaller : goal.list-loop-op-smaller
list-loop-op-smaller t c = let i = c.in_ok-item.ensures in omega (arith, (sums c.args.text.now (made c.args.level c.requires.level_bound) c.loop-op.invariant (sign_of c.args.text.now c.args.level _ _ _ (sign_has (sign_at c.args.level c.args.text.now c.loop-op.whole.next) c.in_ok-op.ensures c.in-Some.is)) c.requires.ready c.in_ok-item.ensures).1.1, i.within)

pub list-loop-op-preserved : goal.list-loop-op-preserved
list-loop-op-preserved t c = goes_on c.args.text.now (made c.args.level c.requires.level_bound) c.loop-op.invariant (sign_of c.args.text.now c.args.level _ _ _ (sign_has (sign_at c.args.level c.args.text.now c.loop-op.whole.next) c.in_ok-op.ensures c.in-Some.is)) c.insert.ensures c.in_ok-item.ensures c.over.ensures

pub list-returns : goal.list-returns
list-returns t c = ends c.args.text.now (made c.args.level c.requires.level_bound) c.in_ok-whole.ensures c.loop-op.invariant (no_sign_of c.args.text.now c.args.level _ c.requires.level_bound (sign_none _ c.in_ok-op.ensures c.in_default.is))

pub part-loop-b-init : goal.part-loop-b-init
part-loop-b-init t c = no_nots c.args.text.now c.requires.within (skipped c.args.text.now _ c.skip_spaces-p.ensures) c.byte_at-b.ensures

pub part-loop-b-smaller : goal.part-loop-b-smaller
part-loop-b-smaller t c = let h = inside c.args.text.now c.loop-b.invariant 33 (omega arith) c.loop-b-test.true in omega (arith, h, (skipped c.args.text.now _ c.skip_spaces-p-in-loop-b.ensures).stands.end, skipped_within c.args.text.now _ (omega (arith, h)) c.skip_spaces-p-in-loop-b.ensures)

pub part-loop-b-preserved : goal.part-loop-b-preserved
part-loop-b-preserved t c = one_not c.args.text.now c.loop-b.invariant c.loop-b-test.true c.put.ensures (skipped c.args.text.now _ c.skip_spaces-p-in-loop-b.ensures) c.byte_at-b-in-loop-b.ensures

pub part-returns-then-around-ge-MOST_OPEN : goal.part-returns-then-around-ge-MOST_OPEN
part-returns-then-around-ge-MOST_OPEN t c = too_many c.args.text.now c.loop-b.invariant c.if-b-eq40.true c.if-around-ge-MOST_OPEN.true

pub part-returns-then-byte_at-ne41 : goal.part-returns-then-byte_at-ne41
part-returns-then-byte_at-ne41 t c = unclosed c.args.text.now c.loop-b.invariant c.if-b-eq40.true c.if-around-ge-MOST_OPEN.false c.in_ok-inner.ensures (λ z. c.if-byte_at-ne41.true (c.byte_at.ensures ∙ z))

pub part-overflow_add-result : goal.part-overflow_add-result
part-overflow_add-result t c = omega (arith, inner_fits c.args.text.now c.loop-b.invariant c.in_ok-inner.ensures)

pub part-overflow_add-result-then-b-eq40 : goal.part-overflow_add-result-then-b-eq40
part-overflow_add-result-then-b-eq40 t c = omega (arith, inner_fits c.args.text.now c.loop-b.invariant c.in_ok-inner.ensures)

pub part-returns-in_err-inner : goal.part-returns-in_err-inner
part-returns-in_err-inner t c = let p = err_from_is_err_and c.from_residual.result c.from_residual.ensures.1 in rw (p.1, p.2) (into c.args.text.now c.loop-b.invariant c.if-b-eq40.true c.if-around-ge-MOST_OPEN.false ∙ c.in_err-inner.ensures)

pub part-returns-then-b-eq40 : goal.part-returns-then-b-eq40
part-returns-then-b-eq40 t c = closed c.args.text.now c.loop-b.invariant c.if-b-eq40.true c.if-around-ge-MOST_OPEN.false c.in_ok-inner.ensures (sym c.byte_at.ensures ∙ c.if-byte_at-ne41.false) (skipped c.args.text.now _ c.skip_spaces.ensures)

pub part-overflow_add-r : goal.part-overflow_add-r
part-overflow_add-r t c = omega (arith, called_small _ (name_good c.args.text.now _ _ _ (name_has _ c.in_ok-r.ensures)))

pub part-overflow_cast-r : goal.part-overflow_cast-r
part-overflow_cast-r t c = omega (arith, called_small _ (name_good c.args.text.now _ _ _ (name_has _ c.in_ok-r.ensures)))

pub part-returns-in_err-r : goal.part-returns-in_err-r
part-returns-in_err-r t c = let p = err_from_is_err_and c.from_residual-in_err-r.result c.from_residual-in_err-r.ensures.1 in rw (p.1, p.2) (uncalled c.args.text.now c.loop-b.invariant c.loop-b-test.false c.if-b-eq40.false (no_name _ c.in_err-r.ensures))

pub part-returns : goal.part-returns
part-returns t c = called c.args.text.now c.loop-b.invariant (name_good c.args.text.now _ _ _ (name_has _ c.in_ok-r.ensures)) c.put-2.ensures (skipped c.args.text.now _ c.skip_spaces-2.ensures)
