-- The answers of the calls as a C program reads them, and its inputs as document 01 has them: the same numbers in wider fields.
use Rattle.std.specs.Prelude.{ℕ, List}
use Rattle.terms.specs.Bits.{digit}
use Rattle.program.specs.declared.Acceptance.{Acceptance as Accepted}
use Rattle.scanning.specs.Scan.{Inputs as ScanInputs}
use Rattle.calls.specs.declared.ScanAnswer.{ScanAnswer}
use Rattle.calls.specs.declared.TakeAnswer.{TakeAnswer}
use Rattle.formula.specs.declared.Expression.{Expression as Answer}
use Rattle.formula.specs.Answers.{Answers}
use Rattle.lanwezik.specs.declared.Acceptance.{Acceptance}
use Rattle.lanwezik.specs.declared.Inputs.{Inputs}
use Rattle.lanwezik.specs.declared.Scanned.{Scanned}
use Rattle.lanwezik.specs.declared.Given.{Given}
use Rattle.lanwezik.specs.declared.Expression.{Expression}

abbrev pub acceptance : Accepted → Acceptance
acceptance a = record { refusal = a.refusal; memory = a.memory; steps = a.steps; place = a.place }

abbrev pub inputs_of : Inputs → ScanInputs
inputs_of x = record { elapsed = x.elapsed; bits = x.bits; words = x.analogs }

abbrev pub scanned : ScanAnswer → Scanned
scanned a = record { refusal = a.refusal; alarms = a.alarms; steps = a.steps; rises = a.rises; place = a.place }

-- 1 if an entry was found, else 0
abbrev pub given : TakeAnswer → Given
given a = record { refusal = a.refusal; found = digit a.found; number = a.entry.number; time = a.entry.stamp.time }

abbrev pub expression : Answer → Expression
expression a = record { refusal = a.refusal; count = a.count; place = a.place; nodes = a.nodes }

-- what is answered of a formula
pub data Formulas (s : List ℕ) : Expression → Type 0 where
  formulas : (a : Answer) → Answers s a → Formulas s (expression a)
