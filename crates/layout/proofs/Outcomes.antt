-- How the reading of a text ends: it is a listing, or its first bad line is told; and there is one such place. Assumes nothing.
use Prim.Native.Nat.{ℕ, suc, ◌-◌, ◌<◌, ◌≤◌}
use mathlib.Core.Path.{◌≡◌, refl, sym, ap, ◌∙◌}
use mathlib.Core.Bool.{true, false}
use mathlib.Core.Logic.{⊎_elim}
use mathlib.Core.List.{List, [], ◌∷◌, ◌++◌, append-nil}
use native.Mathlib.Omega.{arith}
use lib.ListN.{length, take, drop, take-append-drop, length-append, length-drop, drop_of_length-le}
use lib.Seq.{length-take-le}
use lib.Dec.{leb}
use borrow.Author.Tests.{leb-true, ne_eqb}
use Rattle.terms.specs.Choice.{every}
use Rattle.terms.proofs.Choice.{both, never, le_or_lt}
use Rattle.terms.proofs.Every.{both_hold, every_join}
use Rattle.numbers.specs.Blocks.{Bit, Block}
use Rattle.program.specs.Program.{Program}
use Rattle.words.specs.Words.{alarms, word_text}
use Rattle.layout.specs.Layout.{line_feed, carriage_return, BlockLine, AlarmsLine, alarms_line, no_names, lf, Lines, one_block, the_alarms, Listing}
use Rattle.layout.specs.Lines.{Begins, goes_on, EndsLine, LineAt, first_line, next_line, BadLine}
use Rattle.layout.specs.Ends.{is_inside, Split, Open}
use Rattle.layout.proofs.Splits.{First, of_block, of_alarms, first_line as first_of, not_open}
use Rattle.layout.proofs.Inline.{Inline, block_inline, alarms_inline}
use Rattle.layout.proofs.One.{not_both, block_one, alarms_one}
use Rattle.layout.proofs.Going.{Going, cut, then_all, then_more, ends_line, open_no_end}

-- a line of no alarms
no_alarms_lem : AlarmsLine (word_text alarms ++ []) []
no_alarms_lem = alarms_line {rs = []} 0 (omega arith) (no_names 0)

module _ {s : List ℕ} {at i : ℕ} {blocks : List Block} (g : Going s at i blocks) where
  -- the lines so far begin a listing: there need not be an alarm
  begins : Begins (take at s)
  begins =
      goes_on ((word_text alarms ++ []) ++ (line_feed ∷ [])) (record { blocks = blocks ++ []; alarms = [] })
      (g.joins ((word_text alarms ++ []) ++ (line_feed ∷ [])) [] [] (the_alarms no_alarms_lem lf))

  -- a line without an end
  pub bad_open : Open s at → BadLine s at
  bad_open o =
      record {
        no_reading = λ p x.
            let r = g.only (drop at s) p.blocks p.alarms (rw (take-append-drop at s) x) in
            not_open i (drop at s) r.others p.alarms r.lines o;
        line = g.line;
        lines_before = begins;
        no_such_line = λ e h x _. open_no_end s at e o h x;
      }

  module _ {last next : ℕ} (p : Split s at last next) where
    -- a line that is neither a block's nor the alarms'
    module _ (no_block : (b : Block) → BlockLine i p.line b → ⊥) (no-alarm : (rs : List Bit) → AlarmsLine p.line rs → ⊥) where
      neither : {z : List ℕ} {cs : List Block} {rs : List Bit} → First i p.line z cs rs → ⊥
      neither (of_block b cs e x y) = no_block b x
      neither {rs = rs} (of_alarms e x y) = no-alarm rs x

      pub bad_line : BadLine s at
      bad_line =
          record {
            no_reading = λ q x. neither (then_all g p q.blocks q.alarms x).1.1;
            line = g.line;
            lines_before = begins;
            no_such_line = λ e h x b. begun e h x b;
          }
        where
          begun : (e : ℕ) → at < e → EndsLine s e → Begins (take e s) → ⊥
          begun e h x (goes_on z q y) = neither (then_more g p e h x z q.blocks q.alarms y).1.1

    module _ (rs : List Bit) (a : AlarmsLine p.line rs) where
      -- the alarms, and nothing behind them
      pub listing : length s ≤ next → Listing s (record { blocks = blocks ++ []; alarms = rs })
      listing h =
          let x = g.joins (p.line ++ p.end) [] rs (the_alarms a p.is_end) in
          let e : drop next s ≡ [] = drop_of_length-le s h in
          let f : take at s ++ (p.line ++ p.end) ≡ s =
          ap (λ (l : List ℕ). take at s ++ l) (sym (p.whole ∙ rw (e, append-nil p.end) refl)) ∙ take-append-drop at s in
          rw f at x

      -- something behind them
      module _ (h : next < length s) where
        more : (z : List ℕ) → 0 < length z → {cs : List Block} {qs : List Bit} → First i p.line z cs qs → ⊥
        more z k (of_block b cs e x y) = not_both i p.line b rs x a
        more z k (of_alarms e x y) = omega (arith, ap length y)

        pub bad_more : BadLine s next
        bad_more =
            record {
              no_reading = λ q x. more (drop next s) (omega (arith, length-drop next s)) (then_all g p q.blocks q.alarms x).1.1;
              line = next_line next (ends_line p);
              lines_before = whole;
              no_such_line = λ e l x b. begun e l x b;
            }
          where
            whole : Begins (take next s)
            whole =
                let x = g.joins (p.line ++ p.end) [] rs (the_alarms a p.is_end) in
                goes_on [] (record { blocks = blocks ++ []; alarms = rs }) (rw (append-nil (take next s), cut p g.within) x)

            begun : (e : ℕ) → next < e → EndsLine s e → Begins (take e s) → ⊥
            begun e l x (goes_on z q y) =
                let k : at < e = omega (arith, p.length_line, p.length_end) in
                let w = take (e - next) (drop next s) ++ z in
                let f : e - next ≤ length (drop next s) = omega (arith, x.1.0, length-drop next s) in
                let n : 0 < length w =
                omega (arith, length-append (take (e - next) (drop next s)) z, length-take-le (e - next) (drop next s) f) in
                more w n (then_more g p e k x z q.blocks q.alarms y).1.1

-- one place
module _ (s : List ℕ) where
  ends_there : {k : ℕ} → LineAt s k → 0 < k → EndsLine s k
  ends_there first_line h = absurd (omega arith)
  ends_there (next_line k e) h = e

  not_before : (j k : ℕ) → BadLine s j → BadLine s k → j < k → ⊥
  not_before j k x y h = x.no_such_line k h (ends_there y.line (omega arith)) y.lines_before

  pub one_place : (j k : ℕ) → BadLine s j → BadLine s k → j ≡ k
  one_place j k x y =
      ⊎_elim (λ (h : j ≤ k). ⊎_elim (λ (l : k ≤ j). omega arith) (λ (l : j < k). absurd (not_before j k x y l)) (le_or_lt k j))
      (λ (h : k < j). absurd (not_before k j y x h)) (le_or_lt j k)

-- one program: a line of the form is split as any other
inline_inside : (w : List ℕ) → Inline w → every is_inside w ≡ true
inline_inside [] i = refl
inline_inside (x ∷ w) i =
    let o = both (leb 32 x) (every (leb 32) w) i in
    let n : is_inside x ≡ true = rw (ne_eqb x line_feed (λ e. omega (arith, leb-true 32 x o.0))) in
    both_hold n (inline_inside w o.1)

inline_trimmed : (w e v : List ℕ) → Inline w → w ≡ v ++ (carriage_return ∷ []) → e ≡ line_feed ∷ [] → ⊥
inline_trimmed w e v i f g =
    let k : Inline (v ++ (carriage_return ∷ [])) = rw f at i in
    let j = rw (every_join (leb 32) v (carriage_return ∷ [])) at k in
    never (sym (both (every (leb 32) v) false j).1)

one_lines : (i : ℕ) (s t : List ℕ) (bs cs : List Block) (rs qs : List Bit) → Lines i s bs rs → Lines i t cs qs → s ≡ t → (bs ≡ cs) × (rs ≡ qs)
one_lines i s t bs cs rs qs (one_block {w = w} {e = e} {s = r} {b = b} {bs = ds} x y z) k q =
    let o = first_of i t w e r cs qs k (inline_inside w (block_inline x)) y (λ v. inline_trimmed w e v (block_inline x)) (sym q) in
    go (λ es v. one_lines (suc i) r r ds es rs qs z v refl) o
  where
    go : ((es : List Block) → Lines (suc i) r es qs → (ds ≡ es) × (rs ≡ qs)) → First i w r cs qs → (b ∷ ds ≡ cs) × (rs ≡ qs)
    go rest (of_block c es f u v) =
        let a = block_one i w b c x u in
        let h = rest es v in
        (rw (f, a, h.0), h.1)
    go rest (of_alarms f u v) = absurd (not_both i w b qs x u)
one_lines i s t bs cs rs qs (the_alarms {w = w} {e = e} x y) k q =
    let p : t ≡ w ++ (e ++ []) = sym q ∙ rw (append-nil e) refl in
    let o = first_of i t w e [] cs qs k (inline_inside w (alarms_inline x)) y (λ v. inline_trimmed w e v (alarms_inline x)) p in
    go o
  where
    go : First i w [] cs qs → ([] ≡ cs) × (rs ≡ qs)
    go (of_block c es f u v) = absurd (not_both i w c rs u x)
    go (of_alarms f u v) = (sym f, alarms_one w rs qs x u)

pub one_program : (s : List ℕ) (p q : Program) → Listing s p → Listing s q → p ≡ q
one_program s p q x y =
    let o = one_lines 0 s s p.blocks q.blocks p.alarms q.alarms x y refl in
    let a : p ≡ record { blocks = q.blocks; alarms = p.alarms } = ap (λ (l : List Block). record { blocks = l; alarms = p.alarms }) o.0 in
    let b : record { blocks = q.blocks; alarms = p.alarms } ≡ q = ap (λ (l : List Bit). record { blocks = q.blocks; alarms = l }) o.1 in
    a ∙ b
