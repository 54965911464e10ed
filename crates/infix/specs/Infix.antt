-- Request L4: what is put of an expression as text, from the bytes of a program. The text is that of `shown`.
use Rattle.std.specs.Prelude.{ℕ, ◌+◌, ◌*◌, ◌-◌, ◌≤◌, ◌≡◌, Bool, List, [], ◌∷◌, ◌++◌}
use Rattle.terms.specs.Choice.{pick}
use Rattle.wire.specs.Reading.{Read, got, fault}
use Rattle.numbers.specs.Blocks.{Expr, nodes}
use Rattle.grammar.specs.Grammar.{space}
use Rattle.filling.specs.Filling.{Put}
use Rattle.shown.specs.Show.{sign_of, show_at, show}
use Rattle.infix.specs.declared.Written.{Written}

-- an operator of two parts with a space on both sides
abbrev pub spaced : ℕ → List ℕ
spaced o = space ∷ (sign_of o ++ (space ∷ []))

-- a byte, if it is asked for
unfoldable pub byte_if : Bool → ℕ → List ℕ
byte_if asked byte = pick asked (byte ∷ []) []

-- a node takes no more bytes than `( !& )`
abbrev pub most_of_node : ℕ
most_of_node = 6

-- the text of an expression was put into l, which made it m; the answer is the place behind its bytes, the nodes left, the place behind its text
pub record Infixed (level : ℕ) (t : Expr) (next left : ℕ) (l : List ℕ) (to : ℕ) (m : List ℕ) (r : Written) : Type 0 where
  pub text : Put (show_at level t) l to m r.to
  pub place : r.next ≡ next
  pub rest : r.left ≡ left - nodes t

-- if there is an expression; where there is none, the places after what was put can still be counted
pub record Writes (level left : ℕ) (x : Read Expr) (l : List ℕ) (to : ℕ) (m : List ℕ) (r : Written) : Type 0 where
  pub within : r.to + most_of_node * r.left ≤ to + most_of_node * left
  pub whole : (t : Expr) (next : ℕ) → x ≡ got t next → Infixed level t next left l to m r

-- the text of what was read as a whole expression; where nothing was, there is none
abbrev pub text_in : Read Expr → List ℕ
text_in (got t next) = show t
text_in (fault n at) = []
