-- Document 01, "The listing program": text as bytes, and what it is to put text into a buffer.
use Rattle.std.specs.Prelude.{◌≡◌, List, [], ◌∷◌, ◌++◌, ℕ, zero, suc, ◌+◌, ◌%◌, ◌/◌, length, ltb}
use Rattle.std.proofs.lemmas.List.Edits.{sets}
use Rattle.terms.specs.Choice.{pick}

-- "in decimal": n in at most k digits, the first not 0 but for the number 0
unfoldable pub digits_of : ℕ → ℕ → List ℕ
digits_of zero n = []
digits_of (suc k) n = pick (ltb n 10) ((48 + n) ∷ []) (digits_of k (n / 10) ++ ((48 + n % 10) ∷ []))

-- a number of 64 bits has at most 20 digits
abbrev pub decimal : ℕ → List ℕ
decimal n = digits_of 20 n

abbrev pub space : ℕ
space = 32

abbrev pub newline : ℕ
newline = 10

-- a text was written over l from a place on, and nothing else, which made it m; next is the place after it
pub record Put (text l : List ℕ) (at : ℕ) (m : List ℕ) (next : ℕ) : Type 0 where
  pub bytes : m ≡ sets l at text
  pub place : next ≡ at + length text
