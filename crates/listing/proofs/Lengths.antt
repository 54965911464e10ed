-- How long the beginning of a line is, and the fields of a block. Assumes nothing.
use Prim.Native.Nat.{ℕ, ◌+◌, ◌*◌, ◌≤◌}
use mathlib.Core.List.{List, [], ◌∷◌, ◌++◌}
use native.Mathlib.Omega.{arith}
use lib.ListN.{length, length-append}
use Rattle.numbers.specs.Blocks.{Bit, Content, bit, word, number, tree, nodes_of, nodes_in, code_of}
use Rattle.grammar.specs.Grammar.{space}
use Rattle.shown.specs.Show.{name_of}
use Rattle.shown.proofs.Plain.{name_short, short}
use Rattle.words.specs.Words.{word_text}
use Rattle.kinds.specs.Kinds.{Field}
use Rattle.layout.specs.Listed.{content_text, fields_text}
use Rattle.fields.proofs.Lengths.{any_word_short, field_short}

-- the beginning of a line
pub head_short : (b : Bit) (w : ℕ) → length (name_of b ++ (space ∷ word_text w)) ≤ 13
head_short b w = omega (arith, length-append (name_of b) (space ∷ word_text w), name_short b, any_word_short w)

content_short : (f : Field) (c : Content) → length (content_text f c) ≤ 31 + 5 * nodes_of c
content_short f (bit b) = omega (arith, field_short f (code_of (bit b)))
content_short f (word w) = omega (arith, field_short f (code_of (word w)))
content_short f (number n) = omega (arith, field_short f n)
content_short f (tree t) = omega (arith, short 0 t)

pub fields_short : (fs : List Field) (cs : List Content) → length (fields_text fs cs) ≤ 31 * length fs + 5 * nodes_in cs
unfolding fields_text
fields_short [] cs = omega arith
fields_short (f ∷ fs) [] = omega arith
fields_short (f ∷ fs) (c ∷ cs) = omega (arith, length-append (content_text f c) (fields_text fs cs), content_short f c, fields_short fs cs)
