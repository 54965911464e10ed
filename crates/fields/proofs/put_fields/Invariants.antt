-- `fields::put_fields` meets its contract. The loop's invariant: what is left of the fields, put after what is put already, is the whole.
use Prim.Native.Nat.{ℕ, ◌+◌, ◌*◌, ◌≤◌}
use mathlib.Core.Path.{◌≡◌}
use mathlib.Core.List.{List}
use lib.ListN.{length, drop}
use Rattle.filling.specs.Filling.{Put}
use Rattle.kinds.specs.Kinds.{Field, fields_of}
use Rattle.fields.specs.Codes.{codes_text}
use Rattle.fields.proofs.put_fields.Given as goal

pub record Going (l : List ℕ) (to : ℕ) (fs : List Field) (vs : List ℕ) (count : ℕ) (out : List ℕ) (next i : ℕ) : Type 0 where
  pub all : count ≡ length fs
  pub within : next ≤ to + 31 * i
  pub rest : (m : List ℕ) (e : ℕ) → Put (codes_text (drop i fs) (drop i vs)) out next m e → Put (codes_text fs vs) l to m e

abbrev pub invariant-loop-i : goal.invariant-loop-i
invariant-loop-i l = Going l.initial.out l.to (fields_of l.kind) l.fields l.count l.out l.next l.i
