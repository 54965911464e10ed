-- Request L4, "Whole programs as a listing": the form of the lines, written on its own. It says which texts are listings and which program each stands
-- for, and nothing of how a text is read. docs/LISTING.md tells the same in words.
use Rattle.std.specs.Prelude.{ℕ, suc, ◌<◌, ◌≡◌, true, List, [], ◌∷◌, ◌++◌, length}
use Rattle.numbers.specs.Blocks.{Bit, output, Expr, Content, tree, Block}
use Rattle.numbers.specs.Types.{kind_count, content_of}
use Rattle.writing.specs.Expressions.{InRange}
use Rattle.grammar.specs.Grammar.{space, spaces, Formula}
use Rattle.shown.specs.Show.{name_of}
use Rattle.words.specs.Words.{alarms, letters_of, word_text}
use Rattle.values.specs.Values.{value_text, in_field}
use Rattle.kinds.specs.Kinds.{expression, reads, Field, fields_of}
use Rattle.program.specs.Program.{Program}

-- the bytes, in ASCII: = and the two that end a line
abbrev pub equals : ℕ
equals = 61

abbrev pub line_feed : ℕ
line_feed = 10

abbrev pub carriage_return : ℕ
carriage_return = 13

-- "kind, fields by name and expression in L1's form": the fields of a row of the table of kinds. Each has a space or more before it, and spaces may stand
-- at the end.
pub data Fields : List Field → List Content → List ℕ → Type 0 where
  no_more : (n : ℕ) → Fields [] [] (spaces n)
  given :
      {f : Field} {fs : List Field} {cs : List Content} {w : List ℕ} (n v : ℕ) → in_field f.type v ≡ true → Fields fs cs w →
      Fields (f ∷ fs) (content_of f.type v ∷ cs) (spaces (suc n) ++ (word_text f.name ++ (equals ∷ (value_text f.type v ++ w))))
  -- "A bit pin left out is read as off."
  left_out :
      {f : Field} {fs : List Field} {cs : List Content} {w : List ℕ} (v : ℕ) → f.left_out_as ≡ reads v → Fields fs cs w →
      Fields (f ∷ fs) (content_of f.type v ∷ cs) w
  formula :
      {f : Field} {t : Expr} {w : List ℕ} → f.type ≡ expression → Formula w t → Fields (f ∷ []) (tree t ∷ []) (space ∷ w)

-- "one line a block": its number, its kind's letters, its fields
pub data BlockLine : ℕ → List ℕ → Block → Type 0 where
  block_line :
      {i kind : ℕ} {cs : List Content} {w : List ℕ} (m n : ℕ) → i < 200 → kind < kind_count → Fields (fields_of kind) cs w →
      BlockLine i (spaces m ++ (name_of (output i) ++ (spaces (suc n) ++ (word_text (letters_of kind) ++ w)))) (record { kind = kind; fields = cs })

-- bit references by name, each with a space or more before it
pub data Names : List Bit → List ℕ → Type 0 where
  no_names : (n : ℕ) → Names [] (spaces n)
  one_name : {b : Bit} {rs : List Bit} {w : List ℕ} (n : ℕ) → InRange b → Names rs w → Names (b ∷ rs) (spaces (suc n) ++ (name_of b ++ w))

-- how many alarms a number of a program can count (ours; acceptance allows 32)
abbrev pub most_named : ℕ
most_named = 2097151

-- "then the alarms"
pub data AlarmsLine : List ℕ → List Bit → Type 0 where
  alarms_line : {rs : List Bit} {w : List ℕ} (m : ℕ) → length rs < suc most_named → Names rs w → AlarmsLine (spaces m ++ (word_text alarms ++ w)) rs

-- every line has an end (ours): LF, or CR LF as mail makes of it
pub data LineEnd : List ℕ → Type 0 where
  lf : LineEnd (line_feed ∷ [])
  cr_lf : LineEnd (carriage_return ∷ line_feed ∷ [])

-- the lines from that of block i on, and what they stand for
pub data Lines : ℕ → List ℕ → List Block → List Bit → Type 0 where
  one_block :
      {i : ℕ} {w e s : List ℕ} {b : Block} {bs : List Block} {rs : List Bit} → BlockLine i w b → LineEnd e → Lines (suc i) s bs rs →
      Lines i (w ++ (e ++ s)) (b ∷ bs) rs
  the_alarms : {i : ℕ} {w e : List ℕ} {rs : List Bit} → AlarmsLine w rs → LineEnd e → Lines i (w ++ e) [] rs

-- a listing, and the program that it stands for
abbrev pub Listing : List ℕ → Program → Type 0
Listing s p = Lines 0 s p.blocks p.alarms
