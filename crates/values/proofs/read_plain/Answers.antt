-- `values::read_plain` meets its contract.
use native.Mathlib.Omega.{arith}
use borrow.Author.Tests.{eq-eqb, ne_eqb, le-leb, lt-leb}
use Rattle.values.specs.Reading.{plain_of, plain_at}
use Rattle.values.proofs.Runs.{number_small}
use Rattle.values.proofs.read_plain.Goals as goal
use Rattle.values.proofs.read_plain.Goals.{then-r-size_of-via-then-r-size_of, then-r-size_of-via-else-r-size_of+then-most-r}

pub size_of-requires : goal.size_of-requires
size_of-requires c =
    rw c.read_run-r.ensures (number_small 6 0 0 c.args.text.now c.args.at (omega arith))

pub returns-then-r-size_of : goal.returns-then-r-size_of
unfolding plain_at plain_of
returns-then-r-size_of c =
    let run = c.read_run-r in
    elim c.then-r-size_of.branch [
      | then-r-size_of-via-then-r-size_of w ↦
          rw (← run.ensures, ← c.size_of.ensures, ne_eqb run.result.count c.size_of.result (λ e. omega (arith, w.if-r-size_of.true)))
      | then-r-size_of-via-else-r-size_of+then-most-r w ↦
          rw (← run.ensures, ← c.size_of.ensures, eq-eqb run.result.count c.size_of.result (omega arith), lt-leb _ _ w.if-most-r.true)
    ]

pub returns : goal.returns
unfolding plain_at plain_of
returns c =
    let run = c.read_run-r in rw (
      ← run.ensures,
      ← c.size_of.ensures,
      eq-eqb run.result.count c.size_of.result (omega arith),
      le-leb _ _ c.if-most-r.false,
    )
