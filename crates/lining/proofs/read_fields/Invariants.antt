-- `lining::read_fields` meets its contract. The loop's invariant: what is found from field i on, with the numbers so far before it, is what is found of all.
use Prim.Native.Nat.{ℕ, ◌≤◌}
use mathlib.Core.Path.{◌≡◌}
use mathlib.Core.List.{List}
use lib.ListN.{length, drop}
use Rattle.kinds.specs.Kinds.{Field, fields_of}
use Rattle.layout.specs.Fields.{fields_from}
use Rattle.lining.specs.Lining.{as_row}
use Rattle.lining.proofs.Steps.{onto}
use Rattle.lining.proofs.read_fields.Given as goal

pub record Going (fs : List Field) (s : List ℕ) (start count : ℕ) (numbers : List ℕ) (at i : ℕ) : Type 0 where
  pub whole : count ≡ length fs
  pub few : count ≤ 5
  pub places : length numbers ≡ 5
  pub inside : at ≤ length s
  pub same : onto numbers i (fields_from (drop i fs) s at) ≡ as_row (fields_from fs s start)

abbrev pub invariant-loop-i : goal.invariant-loop-i
invariant-loop-i l = Going (fields_of l.kind) l.line l.start l.count l.numbers l.at l.i
