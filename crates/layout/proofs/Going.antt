-- A text read line by line: so many lines of blocks, and then one more, the alarms, or a bad one. Assumes nothing.
use Prim.Native.Nat.{ℕ, suc, ◌+◌, ◌-◌, ◌<◌, ◌≤◌}
use mathlib.Core.Path.{◌≡◌, refl, sym, ap, ◌∙◌}
use mathlib.Core.Bool.{true}
use mathlib.Core.List.{List, [], ◌∷◌, ◌++◌, append_assoc}
use native.Mathlib.Omega.{arith, by_contra}
use lib.ListN.{length, get_or, take, drop, take-append-drop, length-append, get_or-append}
use lib.Seq.{length-take-le, take_at, get_or-drop, get_or_at, take-append-add}
use lib.Dec.{eqb}
use borrow.Author.Tests.{eqb-false}
use Rattle.terms.specs.Choice.{every}
use Rattle.terms.proofs.Every.{every_at, every_join}
use Rattle.wire.specs.Number.{byte_at}
use Rattle.numbers.specs.Blocks.{Bit, Block}
use Rattle.layout.specs.Layout.{line_feed, BlockLine, LineEnd, lf, cr_lf, carriage_return, Lines, one_block}
use Rattle.layout.specs.Lines.{EndsLine, LineAt, first_line, next_line}
use Rattle.layout.specs.Ends.{is_inside, Split, Open}
use Rattle.layout.proofs.Rows.{is_false}
use Rattle.layout.proofs.Splits.{First, of_block, of_alarms, first_line as first_of}
use Rattle.layout.proofs.One.{block_one, not_both}

-- what is left of a listing after some of its blocks
pub record Rest (blocks bs : List Block) (i : ℕ) (z : List ℕ) (rs : List Bit) : Type 0 where
  pub others : List Block
  pub same : bs ≡ blocks ++ others
  pub lines : Lines i z others rs

-- up to a place s has the lines of these blocks, whatever follows them
pub record Going (s : List ℕ) (at i : ℕ) (blocks : List Block) : Type 0 where
  pub count : length blocks ≡ i
  pub within : at ≤ length s
  pub line : LineAt s at
  pub joins : (z : List ℕ) (bs : List Block) (rs : List Bit) → Lines i z bs rs → Lines 0 (take at s ++ z) (blocks ++ bs) rs
  pub only : (z : List ℕ) (bs : List Block) (rs : List Bit) → Lines 0 (take at s ++ z) bs rs → Rest blocks bs i z rs

pub start : (s : List ℕ) → Going s 0 0 []
start s =
    record {
      count = refl;
      within = omega arith;
      line = first_line;
      joins = λ z bs rs x. x;
      only = λ z bs rs x. record { others = bs; same = refl; lines = x };
    }

-- what stands at a place behind another
byte_behind : (s : List ℕ) (at e : ℕ) → at < e → byte_at s (e - 1) ≡ get_or (drop at s) (e - 1 - at) 0
byte_behind s at e h = let q : at + (e - 1 - at) ≡ e - 1 = omega arith in sym (get_or-drop at s (e - 1 - at) 0 ∙ ap (byte_at s) q)

not_inside : (w : List ℕ) (j : ℕ) → every is_inside w ≡ true → get_or w j 0 ≡ line_feed → ⊥
not_inside w j h e =
    let t : is_inside (get_or w j 0) ≡ true = every_at is_inside w j h refl in
    eqb-false (get_or w j 0) line_feed (is_false (eqb (get_or w j 0) line_feed) t) e

-- no line ends where there is no end
pub open_no_end : (s : List ℕ) (at e : ℕ) → Open s at → at < e → EndsLine s e → ⊥
open_no_end s at e o h x = not_inside (drop at s) (e - 1 - at) o (sym (byte_behind s at e h) ∙ x.1.1)

-- a line without its LF
record Body (s : List ℕ) (at next : ℕ) : Type 0 where
  bytes : List ℕ
  inside : every is_inside bytes ≡ true
  whole : drop at s ≡ bytes ++ (line_feed ∷ drop next s)
  size : next ≡ at + length bytes + 1

body : {s : List ℕ} {at last next : ℕ} → Split s at last next → Body s at next
body {s} {at} {last} {next} p = go p.end p.is_end refl
  where
    go : (e : List ℕ) → LineEnd e → p.end ≡ e → Body s at next
    go e lf q =
        record {
          bytes = p.line;
          inside = p.inside;
          whole = p.whole ∙ rw q refl;
          size = omega (arith, p.length_line, p.length_end, ap length q);
        }
    go e cr_lf q =
        record {
          bytes = p.line ++ (carriage_return ∷ []);
          inside = rw (every_join is_inside p.line (carriage_return ∷ []), p.inside);
          whole = p.whole ∙ rw q (sym (append_assoc p.line (carriage_return ∷ []) (line_feed ∷ drop next s)));
          size = omega (arith, p.length_line, p.length_end, ap length q, length-append p.line (carriage_return ∷ []));
        }

-- the first end behind a place is that of the line there
pub first_end : {s : List ℕ} {at last next : ℕ} → Split s at last next → (e : ℕ) → at < e → EndsLine s e → next ≤ e
first_end {s} {at} {last} {next} p e h x =
    let b = body p in
    by_contra next e
    (λ l.
    let j = e - 1 - at in
    let i : j < length b.bytes = omega (arith, b.size) in
    let q : get_or b.bytes j 0 ≡ line_feed =
    sym (get_or-append b.bytes (line_feed ∷ drop next s) 0 j i) ∙ ap (λ (l : List ℕ). get_or l j 0) (sym b.whole) ∙ sym (byte_behind s at e h) ∙ x.1.1 in
    not_inside b.bytes j b.inside q)

pub ends_line : {s : List ℕ} {at last next : ℕ} → Split s at last next → EndsLine s next
ends_line {s} {at} {last} {next} p =
    let b = body p in
    let h : at < next = omega (arith, b.size) in
    let j : next - 1 - at ≡ length b.bytes = omega (arith, b.size) in (
      omega arith,
      (
        p.within,
        byte_behind s at next h ∙ rw (j, b.whole) (get_or_at b.bytes line_feed (drop next s) 0 (length b.bytes) refl),
      ),
    )

-- the text up to the next line, and up to any place behind it
module _ {s : List ℕ} {at last next : ℕ} (p : Split s at last next) (h : at ≤ length s) where
  abbrev cut_text : List ℕ
  cut_text = take at s ++ (p.line ++ p.end)

  cut_size : length cut_text ≡ next
  cut_size =
      omega (
        arith,
        length-append (take at s) (p.line ++ p.end),
        length-append p.line p.end,
        length-take-le at s h,
        p.length_line,
        p.length_end,
      )

  cut_whole : s ≡ cut_text ++ drop next s
  cut_whole =
      sym (take-append-drop at s)
      ∙ rw p.whole (ap (λ (l : List ℕ). take at s ++ l) (sym (append_assoc p.line p.end (drop next s))) ∙ sym (append_assoc (take at s) (p.line ++ p.end) (drop next s)))

  pub cut : take next s ≡ cut_text
  cut = ap (take next) cut_whole ∙ take_at cut_text (drop next s) next cut_size

  cut_further : (e : ℕ) → next ≤ e → take e s ≡ cut_text ++ take (e - next) (drop next s)
  cut_further e l =
      let q : e ≡ length cut_text + (e - next) = omega (arith, cut_size) in
      ap (take e) cut_whole ∙ ap (λ (k : ℕ). take k (cut_text ++ drop next s)) q ∙ take-append-add cut_text (drop next s) (e - next)

-- a text behind those lines
behind_cut : (f line e z : List ℕ) → (f ++ (line ++ e)) ++ z ≡ f ++ (line ++ (e ++ z))
behind_cut f line e z = append_assoc f (line ++ e) z ∙ ap (λ (l : List ℕ). f ++ l) (append_assoc line e z)

module _ {s : List ℕ} {at i last next : ℕ} {blocks : List Block} (g : Going s at i blocks) (p : Split s at last next) where
  -- all that a listing can have behind the lines so far and this one
  pub then : (z : List ℕ) (bs : List Block) (rs : List Bit) → Lines 0 (take next s ++ z) bs rs → (cs : List Block) × ((bs ≡ blocks ++ cs) × First i p.line z cs rs)
  then z bs rs x =
      let y : Lines 0 (take at s ++ (p.line ++ (p.end ++ z))) bs rs = rw (cut p g.within, behind_cut (take at s) p.line p.end z) at x in
      let r = g.only (p.line ++ (p.end ++ z)) bs rs y in
      (r.others, (r.same, first_of i (p.line ++ (p.end ++ z)) p.line p.end z r.others rs r.lines p.inside p.is_end p.trimmed refl))

  -- the whole text
  pub then_all : (bs : List Block) (rs : List Bit) → Lines 0 s bs rs → (cs : List Block) × ((bs ≡ blocks ++ cs) × First i p.line (drop next s) cs rs)
  then_all bs rs x = then (drop next s) bs rs (rw (take-append-drop next s) x)

  -- and any beginning of it with another line
  pub then_more :
      (e : ℕ) → at < e → EndsLine s e → (z : List ℕ) (bs : List Block) (rs : List Bit) → Lines 0 (take e s ++ z) bs rs →
      (cs : List Block) × ((bs ≡ blocks ++ cs) × First i p.line (take (e - next) (drop next s) ++ z) cs rs)
  then_more e h y z bs rs x =
      let l = first_end p e h y in
      let f : take e s ++ z ≡ take next s ++ (take (e - next) (drop next s) ++ z) =
      ap (λ (l : List ℕ). l ++ z) (cut_further p g.within e l) ∙ append_assoc (cut_text p g.within) (take (e - next) (drop next s)) z
      ∙ ap (λ (l : List ℕ). l ++ (take (e - next) (drop next s) ++ z)) (sym (cut p g.within)) in
      then (take (e - next) (drop next s) ++ z) bs rs (rw f at x)

  -- one block more
  pub one_more : (b : Block) → BlockLine i p.line b → Going s next (suc i) (blocks ++ (b ∷ []))
  one_more b x =
      record {
        count = omega (arith, length-append blocks (b ∷ []), g.count);
        within = p.within;
        line = next_line next (ends_line p);
        joins = λ z bs rs y.
            let q = g.joins (p.line ++ (p.end ++ z)) (b ∷ bs) rs (one_block x p.is_end y) in
            rw (cut p g.within, behind_cut (take at s) p.line p.end z, append_assoc blocks (b ∷ []) bs) q;
        only = λ z bs rs y. onward z bs rs (then z bs rs y);
      }
    where
      onward : (z : List ℕ) (bs : List Block) (rs : List Bit) → ((cs : List Block) × ((bs ≡ blocks ++ cs) × First i p.line z cs rs)) → Rest (blocks ++ (b ∷ [])) bs (suc i) z rs
      onward z bs rs (cs, (e, of_block c ds f y w)) =
          let k : c ≡ b = block_one i p.line c b y x in
          record { others = ds; same = e ∙ rw (f, k) (sym (append_assoc blocks (b ∷ []) ds)); lines = w }
      onward z bs rs (cs, (e, of_alarms f y w)) = absurd (not_both i p.line b rs x y)
