-- A block that was read, by its kind and its row; and its line from its beginning, its fields and its end. Assumes nothing.
use Prim.Native.Nat.{ℕ, ◌+◌, ◌<◌, ◌≤◌}
use mathlib.Core.Path.{◌≡◌, refl}
use mathlib.Core.List.{List, [], ◌∷◌, ◌++◌, append_assoc}
use native.Mathlib.Omega.{arith}
use lib.ListN.{length, set, length-append}
use Rattle.wire.specs.Reading.{Read, got, fault, and_then, IsGot, is_got, next_of}
use Rattle.filling.specs.Filling.{Put}
use Rattle.filling.proofs.Puts.{put_none, put_then, put_behind}
use Rattle.numbers.specs.Blocks.{output, Content, Block}
use Rattle.numbers.specs.Types.{kind_number, kind_count}
use Rattle.numbers.specs.Reading.{Marks, typed_at}
use Rattle.numbers.proofs.Typed.{typed_below}
use Rattle.grammar.specs.Grammar.{space}
use Rattle.shown.specs.Show.{name_of}
use Rattle.shown.proofs.Plain.{name_short}
use Rattle.words.specs.Words.{letters_of, word_text}
use Rattle.kinds.specs.Kinds.{fields_of, types_of}
use Rattle.block.specs.Reading.{fields_at, block_at}
use Rattle.known.proofs.Places.{got_first}
use Rattle.layout.specs.Layout.{line_feed}
use Rattle.layout.specs.Listed.{fields_text, line_text}
use Rattle.listing.specs.Lines.{row_at, row_text, line_in, most_of_line}
use Rattle.fields.proofs.Lengths.{any_word_short}
use Rattle.listing.proofs.Rows.{row_short}

-- a block of a kind and a row
block_of : ℕ → Read (List Content) → Read Block
block_of v r = and_then r (λ cs end. got (record { kind = v; fields = cs }) end)

module _ (k : Marks) (s : List ℕ) (at : ℕ) where
  pub kind_there : IsGot (block_at k s at) → IsGot (typed_at k kind_number 0 s at)
  unfolding block_at
  kind_there h = got_first (typed_at k kind_number 0 s at) _ h

  module _ {v n : ℕ} (e : typed_at k kind_number 0 s at ≡ got v n) where
    pub kind_known : v < kind_count
    kind_known = typed_below k kind_number 0 s at e

    by_row : block_at k s at ≡ block_of v (row_at k v s n)
    unfolding block_at block_of
    by_row = rw e

    pub row_there : IsGot (block_at k s at) → IsGot (row_at k v s n)
    unfolding block_of
    row_there h = got_first (row_at k v s n) _ (rw by_row at h)

    pub next_same : next_of (row_at k v s n) ≡ next_of (block_at k s at)
    unfolding block_of
    next_same = rw by_row (go (row_at k v s n))
      where
        go : (r : Read (List Content)) → next_of r ≡ next_of (block_of v r)
        go (got cs m) = refl
        go (fault m p) = refl

    pub line_put :
        (i : ℕ) {l : List ℕ} {to : ℕ} {m₁ : List ℕ} {from : ℕ} {m₂ : List ℕ} {end : ℕ} {m₃ : List ℕ} → IsGot (block_at k s at) →
        Put (name_of (output i) ++ (space ∷ word_text (letters_of v))) l to m₁ from → Put (row_text v (row_at k v s n)) m₁ from m₂ end → m₃ ≡ set m₂ end line_feed →
        Put (line_in i (block_at k s at)) l to m₃ (end + 1)
    unfolding block_of line_text
    line_put i {l} {to} {end = end} {m₃ = m₃} h p q f = go (row_there h)
      where
        go : IsGot (row_at k v s n) → Put (line_in i (block_at k s at)) l to m₃ (end + 1)
        go (is_got cs m g) =
            rw (by_row, g)
            (rw (append_assoc (name_of (output i)) (space ∷ word_text (letters_of v)) (fields_text (fields_of v) cs ++ (line_feed ∷ []))) at
            (put_then p (put_then (rw g at q) (put_behind f (put_none m₃ (end + 1))))))

-- no line is longer than it may be
pub line_short : (k : Marks) (s : List ℕ) (at i : ℕ) → length (line_in i (block_at k s at)) ≤ most_of_line
unfolding line_text block_at
line_short k s at i = go (typed_at k kind_number 0 s at) refl
  where
    row : (v : ℕ) (r : Read (List Content)) → length (row_text v r) ≤ 470 → length (line_in i (and_then r (λ cs end. got (record { kind = v; fields = cs }) end))) ≤ most_of_line
    row v (got cs m) h =
        let text : List ℕ = fields_text (fields_of v) cs in
        omega (
          arith,
          length-append (name_of (output i)) (space ∷ (word_text (letters_of v) ++ (text ++ (line_feed ∷ [])))),
          length-append (word_text (letters_of v)) (text ++ (line_feed ∷ [])),
          length-append text (line_feed ∷ []),
          name_short (output i),
          any_word_short (letters_of v),
        )
    row v (fault m p) h = omega arith

    go :
        (r : Read ℕ) → typed_at k kind_number 0 s at ≡ r →
        length (line_in i (and_then r (λ v n. and_then (fields_at k (types_of v) 0 s n) (λ cs end. got (record { kind = v; fields = cs }) end)))) ≤ most_of_line
    go (got v n) e = row v (row_at k v s n) (row_short k s n (typed_below k kind_number 0 s at e))
    go (fault n p) e = omega arith
