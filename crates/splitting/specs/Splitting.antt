-- Request L4, import: what is answered of the line that begins at a place of a text (ours).
use Rattle.std.specs.Prelude.{ℕ, List, Option, None, Some}
use Rattle.layout.specs.Ends.{Split, Open}
use Rattle.splitting.specs.declared.Line.{Line}

pub data Splits (s : List ℕ) (at : ℕ) : Option Line → Type 0 where
  splits : (last next : ℕ) → Split s at last next → Splits s at (Some (record { last = last; next = next }))
  unended : Open s at → Splits s at None
