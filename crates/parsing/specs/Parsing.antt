-- What the functions below the calls answer (ours); no promise needs it.
use Rattle.std.specs.Prelude.{ℕ, ◌≤◌, ◌≡◌, List, length, Result, Ok, Err}
use Rattle.std.proofs.lemmas.List.Edits.{sets}
use Rattle.wire.specs.Number.{byte_at}
use Rattle.numbers.specs.Blocks.{Expr, nodes}
use Rattle.writing.specs.Expressions.{operator_first, depth}
use Rattle.grammar.specs.Grammar.{space, Level, or_list, xor_list, and_list, part, Reads}
use Rattle.grammar.specs.Machine.{want, stop, from, Spans}
use Rattle.spelling.specs.Spelling.{Nothing}
use Rattle.spelling.specs.Spelling.{number_of, sign_at}
use Rattle.parsing.specs.declared.Piece.{Piece}

-- a place of the text, and one for the next node that is no further
pub record Ready (s : List ℕ) (at first : ℕ) : Type 0 where
  pub within : at ≤ length s
  pub behind : first ≤ at

-- neither a space nor an operator of this level or a tighter one stands here
abbrev pub NoSpace : List ℕ → ℕ → Type 0
NoSpace s at = byte_at s at ≡ space → ⊥

abbrev pub NoSign : Level → List ℕ → ℕ → Type 0
NoSign level s at = sign_at (number_of level) s at ≡ Nothing

abbrev pub Free : Level → List ℕ → ℕ → Type 0
Free part s at = NoSpace s at
Free and_list s at = NoSpace s at × NoSign and_list s at
Free xor_list s at = (NoSpace s at × NoSign and_list s at) × NoSign xor_list s at
Free or_list s at = ((NoSpace s at × NoSign and_list s at) × NoSign xor_list s at) × NoSign or_list s at

-- a text that reads at this level stands from a place up to another; its node numbers were put over l from a place on, which made it m
pub record Took (s : List ℕ) (around : ℕ) (level : Level) (at first : ℕ) (l m : List ℕ) (next count deep : ℕ) : Type 0 where
  pub text : List ℕ
  pub tree : Expr
  pub reads : Reads around level text tree
  pub stands : Spans s at text next
  pub put : m ≡ sets l first (operator_first tree)
  pub counted : count ≡ nodes tree
  pub measured : deep ≡ depth tree
  pub free : Free level s next
  pub within : next ≤ length s

-- read, or bad at the place where the acceptor stops
abbrev pub Parses : List ℕ → ℕ → Level → ℕ → ℕ → List ℕ → List ℕ → Result Piece ℕ → Type 0
Parses s around level at first l m (Ok r) = Took s around level at first l m r.next r.count r.deep
Parses s around level at first l m (Err k) = from s (want around) at ≡ stop k
