-- Request L4, "import the listing to the same bytes": what is answered of a text, and what the lent buffer holds then.
use Rattle.std.specs.Prelude.{ℕ, ◌≡◌, List, eqb}
use Rattle.terms.specs.Choice.{pick}
use Rattle.terms.specs.Refusals.{bad_text}
use Rattle.program.specs.Program.{Program}
use Rattle.program.specs.declared.Acceptance.{Acceptance}
use Rattle.program.specs.Acceptance.{accepted}
use Rattle.forms.specs.Written.{written}
use Rattle.exchange.specs.declared.Exchange.{Exchange}
use Rattle.exchange.specs.Exchange.{refused, handed, filled}
use Rattle.layout.specs.Layout.{Listing}
use Rattle.layout.specs.Lines.{BadLine}

-- "then 01's in their order, with places counted in the bytes the listing stands for; .. last 12 at 0, the lent buffer is shorter than the exact
-- result, and nothing is written": x are those bytes, a what acceptance says of them, l the buffer
abbrev pub by_acceptance : Acceptance → List ℕ → List ℕ → Exchange
by_acceptance a x l = pick (eqb a.refusal 0) (handed x l) (refused a.refusal a.place)

abbrev pub into_buffer : Acceptance → List ℕ → List ℕ → List ℕ
into_buffer a x l = pick (eqb a.refusal 0) (filled x l) l

unfoldable pub imported_as : Program → List ℕ → Exchange
imported_as p l = by_acceptance (accepted (written p)) (written p) l

unfoldable pub imported_into : Program → List ℕ → List ℕ
imported_into p l = into_buffer (accepted (written p)) (written p) l

-- "on import 7 with the offset of the first bad line": the answer r to the text s, and the buffer m that was l
pub data Imports (s l : List ℕ) (m : List ℕ) (r : Exchange) : Type 0 where
  bad_listing : (k : ℕ) → BadLine s k → r ≡ refused bad_text k → m ≡ l → Imports s l m r
  a_listing : (p : Program) → Listing s p → r ≡ imported_as p l → m ≡ imported_into p l → Imports s l m r

-- what is answered of the bytes x themselves
pub record Hands (x l m : List ℕ) (r : Exchange) : Type 0 where
  pub answer : r ≡ by_acceptance (accepted x) x l
  pub buffer : m ≡ into_buffer (accepted x) x l
