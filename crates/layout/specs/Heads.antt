-- What a line begins with: the number of a block and the letters of its kind (ours; Layout says what is good).
use Rattle.std.specs.Prelude.{ℕ, zero, suc, ◌+◌, ◌&&◌, List, length, ltb, eqb}
use Rattle.terms.specs.Choice.{pick}
use Rattle.numbers.specs.Types.{kind_count}
use Rattle.spelling.specs.Spelling.{Named}
use Rattle.spelling.specs.Spelling.{Bit, NoName}
use Rattle.spelling.specs.Spelling.{after_spaces, name_at}
use Rattle.words.specs.Words.{letters_of, word_text}
use Rattle.words.specs.Standing.{stands_at}

-- the first kind from k on whose letters stand at a place, of `left` kinds; else the number after the last
unfoldable pub kind_from : ℕ → ℕ → List ℕ → ℕ → ℕ
kind_from zero k s at = k
kind_from (suc left) k s at = pick (stands_at (word_text (letters_of k)) s at) k (kind_from left (suc k) s at)

unfoldable pub kind_at : List ℕ → ℕ → ℕ
kind_at s at = kind_from kind_count 0 s at

-- a kind and the place behind its letters, or none
pub data Heading : Type 0 where
  of_kind : ℕ → ℕ → Heading
  no_kind : Heading

unfoldable pub letters_at : List ℕ → ℕ → Heading
letters_at s at = pick (ltb (kind_at s at) kind_count) (of_kind (kind_at s at) (at + length (word_text (letters_of (kind_at s at))))) no_kind

-- behind the number of block i, a space or more and the letters
abbrev pub behind_number : ℕ → List ℕ → Named → Heading
behind_number i s (NoName at) = no_kind
behind_number i s (Bit r next) =
    pick (eqb r (34 + i) && ltb next (after_spaces s next)) (letters_at s (after_spaces s next)) no_kind

unfoldable pub heading_of : ℕ → List ℕ → Heading
heading_of i s = behind_number i s (name_at s (after_spaces s 0))
