-- Request L4, "Export any accepted program": the listing that a program is exported as.
use Rattle.std.specs.Prelude.{ℕ, suc, Bool, false, ◌&&◌, List, [], ◌∷◌, ◌++◌, eqb}
use Rattle.terms.specs.Choice.{pick}
use Rattle.numbers.specs.Blocks.{Bit, output, Content, bit, word, number, tree, Block, code_of}
use Rattle.grammar.specs.Grammar.{space}
use Rattle.shown.specs.Show.{name_of, show}
use Rattle.words.specs.Words.{alarms, letters_of, word_text}
use Rattle.values.specs.Values.{value_text}
use Rattle.kinds.specs.Kinds.{LeftOut, never, reads, Field, fields_of}
use Rattle.program.specs.Program.{Program}
use Rattle.layout.specs.Layout.{equals, line_feed}

-- "leaves out a bit pin that is off": v is off, and so is what is read of the field if it is left out
abbrev pub leaves_out : LeftOut → ℕ → Bool
leaves_out never v = false
leaves_out (reads r) v = eqb v 0 && eqb r 0

-- "fields by name": one space before each
unfoldable pub field_text : Field → ℕ → List ℕ
field_text f v = pick (leaves_out f.left_out_as v) [] (space ∷ (word_text f.name ++ (equals ∷ value_text f.type v)))

-- "and expression in L1's form"
abbrev pub content_text : Field → Content → List ℕ
content_text f (bit b) = field_text f (code_of (bit b))
content_text f (word w) = field_text f (code_of (word w))
content_text f (number n) = field_text f n
content_text f (tree t) = space ∷ show t

unfoldable pub fields_text : List Field → List Content → List ℕ
fields_text [] cs = []
fields_text (f ∷ fs) [] = []
fields_text (f ∷ fs) (c ∷ cs) = content_text f c ++ fields_text fs cs

-- "one line a block with kind, fields by name and expression", of block i
unfoldable pub line_text : ℕ → Block → List ℕ
line_text i b = name_of (output i) ++ (space ∷ (word_text (letters_of b.kind) ++ (fields_text (fields_of b.kind) b.fields ++ (line_feed ∷ []))))

-- "then the alarms": an alarm that is off is written
unfoldable pub names_text : List Bit → List ℕ
names_text [] = []
names_text (b ∷ rs) = space ∷ (name_of b ++ names_text rs)

unfoldable pub alarms_text : List Bit → List ℕ
alarms_text rs = word_text alarms ++ (names_text rs ++ (line_feed ∷ []))

-- the lines from that of block i on
unfoldable pub lines_text : ℕ → List Block → List Bit → List ℕ
lines_text i [] rs = alarms_text rs
lines_text i (b ∷ bs) rs = line_text i b ++ lines_text (suc i) bs rs

unfoldable pub listed : Program → List ℕ
listed p = lines_text 0 p.blocks p.alarms
