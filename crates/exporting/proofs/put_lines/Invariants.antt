-- `exporting::put_lines` meets its contract. The loop's invariant: what is left of the lines, put after what is put already, is the whole listing.
use Prim.Native.Nat.{ℕ, ◌-◌, ◌*◌, ◌≤◌}
use mathlib.Core.List.{List}
use Rattle.wire.specs.Reading.{IsGot}
use Rattle.filling.specs.Filling.{Put}
use Rattle.numbers.specs.Reading.{Marks}
use Rattle.program.specs.Program.{after_count, program_at}
use Rattle.exporting.specs.Texts.{lines_in, listed_in}
use Rattle.exporting.proofs.put_lines.Given as goal

pub record Going (k : Marks) (s : List ℕ) (l : List ℕ) (count : ℕ) (out : List ℕ) (at to i : ℕ) : Type 0 where
  pub there : IsGot (after_count k (count - i) s at)
  pub rest : (m : List ℕ) (e : ℕ) → Put (lines_in i (after_count k (count - i) s at)) out to m e → Put (listed_in (program_at k s)) l 0 m e
  pub few : count ≤ 200
  pub within : to ≤ 500 * i

abbrev pub invariant-loop-i : goal.invariant-loop-i
invariant-loop-i l = Going l.marks l.s l.initial.out l.count l.out l.at l.to l.i
