-- `columns::left_out_of` meets its contract: only a bit pin may be left out.
use mathlib.Core.Path.{refl}
use native.Mathlib.Omega.{arith}
use borrow.Author.Tests.{eq-eqb, ne_eqb}
use Rattle.columns.specs.Columns.{field_of}
use Rattle.columns.proofs.Rows.{left_out}
use Rattle.columns.proofs.left_out_of.Goals as goal

pub returns-then-type_of-eq-PIN : goal.returns-then-type_of-eq-PIN
returns-then-type_of-eq-PIN c =
    let a = c.args in rw (left_out a.kind a.i, eq-eqb (field_of a.kind a.i).type 0 (omega (arith, c.type_of.ensures))) refl

pub returns-else-type_of-eq-PIN : goal.returns-else-type_of-eq-PIN
returns-else-type_of-eq-PIN c =
    let a = c.args in rw (left_out a.kind a.i, ne_eqb (field_of a.kind a.i).type 0 (λ e. omega (arith, c.type_of.ensures))) refl
