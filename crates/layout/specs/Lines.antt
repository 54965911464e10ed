-- Request L4: where a text that is no listing goes wrong, and what is promised of the form.
use Rattle.std.specs.Prelude.{ℕ, ◌-◌, ◌<◌, ◌≤◌, ◌≡◌, List, ◌++◌, length, take}
use Rattle.wire.specs.Number.{byte_at}
use Rattle.program.specs.Program.{Program}
use Rattle.layout.specs.Layout.{line_feed, Listing}

-- some listing has this beginning
pub data Begins (s : List ℕ) : Type 0 where
  goes_on : (z : List ℕ) (p : Program) → Listing (s ++ z) p → Begins s

-- a line ends just before this place
abbrev pub EndsLine : List ℕ → ℕ → Type 0
EndsLine s e = (0 < e) × ((e ≤ length s) × (byte_at s (e - 1) ≡ line_feed))

-- a line begins at this place
pub data LineAt (s : List ℕ) : ℕ → Type 0 where
  first_line : LineAt s 0
  next_line : (k : ℕ) → EndsLine s k → LineAt s k

-- "7 with the offset of the first bad line": some listing has the lines before it, and none goes on with this line, if it has an end
pub record BadLine (s : List ℕ) (k : ℕ) : Type 0 where
  pub no_reading : (p : Program) → Listing s p → ⊥
  pub line : LineAt s k
  pub lines_before : Begins (take k s)
  pub no_such_line : (e : ℕ) → k < e → EndsLine s e → Begins (take e s) → ⊥

-- a text is a listing, or its first bad line begins at a place
pub data Judged (s : List ℕ) : Type 0 where
  good : (p : Program) → Listing s p → Judged s
  bad : (k : ℕ) → BadLine s k → Judged s

-- every text is one of the two, and in one way
pub record OneListing : Type 0 where
  pub judged : (s : List ℕ) → Judged s
  pub one_program : (s : List ℕ) (p q : Program) → Listing s p → Listing s q → p ≡ q
  pub one_place : (s : List ℕ) (j k : ℕ) → BadLine s j → BadLine s k → j ≡ k
