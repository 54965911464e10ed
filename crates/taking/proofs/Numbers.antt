-- The line of any other kind behind its letters: the numbers of its fields, and what is kept of them, which is all. Assumes nothing.
use Prim.Native.Nat.{ℕ, suc, ◌<◌, ◌≤◌}
use mathlib.Core.Path.{◌≡◌, refl, sym, ap, subst, ◌∙◌}
use mathlib.Core.Bool.{true, false}
use mathlib.Core.List.{List, [], ◌∷◌}
use native.Mathlib.Omega.{arith}
use lib.Dec.{eqb}
use lib.ListN.{length, take, replicate, length-take}
use lib.Seq.{sets, length-sets, take_all}
use Rattle.std.specs.Prelude.{None, Some}
use Rattle.terms.specs.Choice.{every}
use Rattle.terms.proofs.Choice.{pick_case, never}
use Rattle.terms.proofs.Every.{both_hold}
use Rattle.filling.specs.Filling.{Put}
use Rattle.numbers.specs.Blocks.{Content, Block}
use Rattle.numbers.specs.Types.{pin, word_pin, kind_count, content_of}
use Rattle.writing.specs.Expressions.{bytes_of}
use Rattle.kinds.specs.Kinds.{Field, fields_of}
use Rattle.columns.proofs.Rows.{fields_few}
use Rattle.forms.specs.Written.{field_numbers, block_numbers}
use Rattle.forms.proofs.Numbers.{content_numbers_lem}
use Rattle.fronts.specs.Fronts.{small_content, most_kept}
use Rattle.layout.specs.Layout.{Fields, no_more, given, left_out, formula}
use Rattle.layout.specs.Fields.{Found, found, lost, fields_from}
use Rattle.layout.proofs.Rows.{row_of}
use Rattle.layout.proofs.Fielding.{contents_of, fields_told, fields_read}
use Rattle.lining.specs.Lining.{as_row}
use Rattle.taking.specs.Taking.{Takes, taken, not_taken, RestSays, rest_says}
use Rattle.taking.proofs.Trees.{first_put}

-- a field for each of a row
fields_all : (fs : List Field) (cs : List Content) (w : List ℕ) → Fields fs cs w → length cs ≡ length fs
fields_all fs cs w (no_more n) = refl
fields_all (f ∷ fs) cs w (given {cs = ds} {w = u} n v h y) = ap suc (fields_all fs ds u y)
fields_all (f ∷ fs) cs w (left_out {cs = ds} v e y) = ap suc (fields_all fs ds w y)
fields_all fs cs w (formula e y) = refl

contents_few : (fs : List Field) (vs : List ℕ) → length (contents_of fs vs) ≤ length vs
unfolding contents_of
contents_few [] vs = omega arith
contents_few (f ∷ fs) [] = omega arith
contents_few (f ∷ fs) (v ∷ vs) = omega (arith, contents_few fs vs)

-- the numbers of contents are those that they were made of
contents_numbers : (fs : List Field) (vs : List ℕ) → field_numbers (contents_of fs vs) ≡ take (length fs) vs
unfolding contents_of
contents_numbers [] vs = refl
contents_numbers (f ∷ fs) [] = refl
contents_numbers (f ∷ fs) (v ∷ vs) = rw (content_numbers_lem f.type v, contents_numbers fs vs)

-- none of them is an expression
contents_small : (fs : List Field) (vs : List ℕ) → every small_content (contents_of fs vs) ≡ true
unfolding contents_of content_of
contents_small [] vs = refl
contents_small (f ∷ fs) [] = refl
contents_small (f ∷ fs) (v ∷ vs) =
    let P : Content → Type 0 = λ c. small_content c ≡ true in
    both_hold (pick_case P (eqb f.type pin) (λ _. refl) (λ _. pick_case P (eqb f.type word_pin) (λ _. refl) (λ _. refl))) (contents_small fs vs)

-- a row as the code has it
record Got (x : Found) (r : List ℕ) : Type 0 where
  numbers : List ℕ
  is : x ≡ found numbers
  kept : r ≡ sets (replicate 5 0) 0 numbers

got : (x : Found) {r : List ℕ} → Some r ≡ as_row x → Got x r
got (found vs) e = record { numbers = vs; is = refl; kept = cc }
got lost e = let z : ◌≡◌ {A = ℕ} 0 1 = cc in absurd (omega arith)

none : (x : Found) → None ≡ as_row x → x ≡ lost
none (found vs) e = let z : ◌≡◌ {A = ℕ} 0 1 = cc in absurd (omega arith)
none lost e = refl

pub row_places : (fs : List Field) (s : List ℕ) (at : ℕ) {r : List ℕ} → Some r ≡ as_row (fields_from fs s at) → length r ≡ 5
row_places fs s at e =
    let x = got (fields_from fs s at) e in
    ap length x.kept ∙ length-sets (replicate 5 0) 0 x.numbers

module _ (s : List ℕ) (at k : ℕ) (some : 0 < k) (known : k < kind_count) where
  abbrev fs : List Field
  fs = fields_of k

  -- what the code answers
  pub no_row_taken : {l : List ℕ} {to : ℕ} → None ≡ as_row (fields_from fs s at) → Takes (RestSays k s at) l to l None
  no_row_taken e = not_taken (λ b x. refuted b x (none (fields_from fs s at) e)) refl
    where
      refuted : (b : Block) → RestSays k s at b → fields_from fs s at ≡ lost → ⊥
      refuted b (rest_says {cs = cs} {w = w} f x) e =
          let c = fields_read s fs cs w at (row_of k some known) f x in
          let i = c.is in
          let z : ◌≡◌ {A = ℕ} 0 1 = cc in omega arith

  row_kept : (vs : List ℕ) → length fs ≤ length vs → k ∷ take (length fs) (sets (replicate 5 0) 0 vs) ≡ take most_kept (block_numbers (record { kind = k; fields = contents_of fs vs }))
  row_kept vs h =
      let n = length fs in
      let f = fields_few k in
      let l : length (take n vs) ≤ 64 = omega (arith, length-take n vs) in
      rw (first_put n vs (replicate 5 0) h f, contents_numbers fs vs, take_all 64 (take n vs) l)

  pub row_taken :
      {r : List ℕ} {count : ℕ} {l m : List ℕ} {to next : ℕ} → at ≤ length s → Some r ≡ as_row (fields_from fs s at) → count ≡ length fs →
      Put (bytes_of (k ∷ take count r)) l to m next → Takes (RestSays k s at) l to m (Some (record { next = next; small = true }))
  row_taken {r} {count} {l} {m} {to} {next} h e c p =
      let x = got (fields_from fs s at) e in
      let vs = x.numbers in
      let y = fields_told s fs vs at (row_of k some known) h x.is in
      let j : length fs ≤ length vs = omega (arith, fields_all fs (contents_of fs vs) y.text y.fields, contents_few fs vs) in
      let b : Block = record { kind = k; fields = contents_of fs vs } in
      let q : k ∷ take count r ≡ take most_kept (block_numbers b) =
      ap (λ (n : ℕ). k ∷ take n r) c ∙ ap (λ (v : List ℕ). k ∷ take (length fs) v) x.kept ∙ row_kept vs j in
      rw (← (contents_small fs vs)) (taken b next (rest_says y.fields y.stands) (subst (λ (v : List ℕ). Put (bytes_of v) l to m next) q p))
