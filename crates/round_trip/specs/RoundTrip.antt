-- Request L4, "Whole programs as a listing": what is promised of export and import together.
use Rattle.std.specs.Prelude.{ℕ, ◌<◌, ◌≡◌, ◌↔◌, true, List, take}
use Rattle.wire.specs.Facts.{Bytes}
use Rattle.wire.specs.Reading.{got}
use Rattle.numbers.specs.Types.{pin, kind_count}
use Rattle.kinds.specs.Kinds.{Field, fields_of}
use Rattle.program.specs.Program.{Program, program_at}
use Rattle.program.specs.Acceptance.{every_block}
use Rattle.forms.specs.Written.{Each}
use Rattle.exchange.specs.declared.Exchange.{Exchange}
use Rattle.exchange.specs.Exchange.{done, handed, filled}
use Rattle.layout.specs.Layout.{Listing}
use Rattle.layout.specs.Lines.{BadLine}
use Rattle.layout.specs.Listed.{leaves_out, listed}
use Rattle.exporting.specs.Exported.{exported, exported_into}
use Rattle.importing.specs.Imports.{Imports}

-- "leaves out a bit pin that is off", and nothing else
abbrev pub LeftOutIfOff : Field → Type 0
LeftOutIfOff f = (v : ℕ) → leaves_out f.left_out_as v ≡ true ↔ ((f.type ≡ pin) × (v ≡ 0))

pub record RoundTrip : Type 0 where
  -- what is exported has the form of a listing, and stands for the program
  pub in_form : (s : List ℕ) (p : Program) (end : ℕ) → Bytes s → program_at every_block s ≡ got p end → Listing (listed p) p
  -- "import after export gives the bytes back": s was exported into the buffer l, as n bytes; these are imported into a buffer k, as s itself is
  -- handed over
  pub back :
      (s l k m : List ℕ) (n : ℕ) (r : Exchange) → Bytes s → exported s l ≡ done n → Imports (take n (exported_into s l)) k m r →
      (r ≡ handed s k) × (m ≡ filled s k)
  pub left_out : (kind : ℕ) → kind < kind_count → Each LeftOutIfOff (fields_of kind)
  -- a text stands for one program, or its first bad line is at one place
  pub one_program : (s : List ℕ) (p q : Program) → Listing s p → Listing s q → p ≡ q
  pub one_place : (s : List ℕ) (j k : ℕ) → BadLine s j → BadLine s k → j ≡ k
