-- Request L4, import: a text read line by line, and what is stored of the program that it stands for (ours).
use Rattle.std.specs.Prelude.{ℕ, ◌+◌, ◌-◌, ◌≤◌, ◌≡◌, List, length, take, drop, Result, Ok, Err}
use Rattle.std.proofs.lemmas.List.Edits.{sets}
use Rattle.wire.specs.Number.{groups_of}
use Rattle.writing.specs.Expressions.{bytes_of}
use Rattle.program.specs.Program.{Program}
use Rattle.fronts.specs.Fronts.{front}
use Rattle.layout.specs.Layout.{Listing}
use Rattle.layout.specs.Lines.{BadLine}
use Rattle.gathering.specs.declared.Gathered.{Gathered}

-- two places for the count of blocks, 130 for each of 200 blocks, 97 for the alarms, and one to spare
abbrev pub room_size : ℕ
room_size = 26100

-- the front of a listing's program stands in the room m, from a place up to another; or the text has a first bad line
pub data Gathers (s m : List ℕ) : Result Gathered ℕ → Type 0 where
  gathers :
      (p : Program) (from to : ℕ) → Listing s p → from ≤ to → to ≤ length m → take (to - from) (drop from m) ≡ bytes_of (front p) → Gathers s m (Ok (record { from = from; to = to }))
  no_listing : (k : ℕ) → BadLine s k → Gathers s m (Err k)

-- a count put so that it ends before place 2
pub record Counts (n : ℕ) (l m : List ℕ) (from : ℕ) : Type 0 where
  pub place : from + length (groups_of 3 n) ≡ 2
  pub bytes : m ≡ sets l from (groups_of 3 n)
