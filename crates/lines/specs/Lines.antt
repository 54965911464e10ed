-- Document 01, "The listing program": the lines that scanlist prints.
use Rattle.std.specs.Prelude.{List, [], ◌∷◌, ◌++◌, ℕ}
use Rattle.text.specs.Text.{decimal, space, newline}

-- the longest line: four numbers of 20 digits, each ended by a byte
abbrev pub line_bytes : ℕ
line_bytes = 84

-- "Per scan it prints time, steps, held, missed, in decimal with single spaces."
unfoldable pub line_with : ℕ → ℕ → ℕ → ℕ → List ℕ
line_with time steps held missed =
    decimal time ++ (space ∷ (decimal steps ++ (space ∷ (decimal held ++ (space ∷ (decimal missed ++ (newline ∷ [])))))))

-- "refused N at P"
unfoldable pub refused_line : ℕ → ℕ → List ℕ
refused_line n at =
    -- r e f u s e d
    114 ∷ 101 ∷ 102 ∷ 117 ∷ 115 ∷ 101 ∷ 100 ∷ space ∷ (decimal n ++ (space ∷ 97 ∷ 116 ∷ space ∷ (decimal at ++ (newline ∷ []))))

-- "bad scan"
abbrev pub bad_scan : List ℕ
bad_scan = 98 ∷ 97 ∷ 100 ∷ space ∷ 115 ∷ 99 ∷ 97 ∷ 110 ∷ newline ∷ []

-- "bad program"
abbrev pub bad_program : List ℕ
bad_program = 98 ∷ 97 ∷ 100 ∷ space ∷ 112 ∷ 114 ∷ 111 ∷ 103 ∷ 114 ∷ 97 ∷ 109 ∷ newline ∷ []
