-- A walk over the bytes of a line: those that were passed are inside it, and where it ends they are the line, but for a CR before the LF. Assumes nothing.
use Prim.Native.Nat.{ℕ, zero, suc, ◌+◌, ◌-◌, ◌<◌, ◌≤◌}
use mathlib.Core.Path.{◌≡◌, refl, sym, ap, ◌∙◌}
use mathlib.Core.Bool.{Bool, true, false}
use mathlib.Core.List.{List, [], ◌∷◌, ◌++◌}
use native.Mathlib.Numerals.{add-one}
use native.Mathlib.Omega.{arith}
use lib.ListN.{length, get_or, take, drop, length-append, length-drop, take-append-drop}
use lib.Seq.{length-take-le, take-suc, drop-cons, drop-drop, get_or-drop, get_or-take, get_or-append_seam}
use lib.Dec.{eqb, ltb}
use borrow.Author.Tests.{ltb-false, ne_eqb, eqb-true, eqb-false}
use Rattle.std.specs.Prelude.{◌==◌, cond, Option, None, Some, position}
use Rattle.std.specs.List.{position_or_len}
use Rattle.std.proofs.lemmas.List.Quantifiers.{position-Some}
use Rattle.std.proofs.lemmas.List.Sums.{fails_before_first}
use Rattle.terms.specs.Choice.{every}
use Rattle.terms.proofs.Choice.{both}
use Rattle.terms.proofs.Every.{every_join, every_append}
use Rattle.wire.specs.Number.{byte_at}
use Rattle.layout.specs.Layout.{line_feed, carriage_return, lf, cr_lf}
use Rattle.layout.specs.Ends.{is_inside, Split, Open}

-- the bytes from a place up to another
abbrev pub between : List ℕ → ℕ → ℕ → List ℕ
between s at p = take (p - at) (drop at s)

none_before : (xs : List ℕ) → None ≡ position (λ b. b == 10) xs → length xs ≤ position_or_len (λ b. b == 10) xs
none_before xs f = go (ltb first (length xs)) refl f
  where
    first : ℕ
    first = position_or_len (λ b. b == 10) xs

    go : (t : Bool) → ltb first (length xs) ≡ t → ◌≡◌ {A = Option ℕ} None (cond t (Some first) None) → length xs ≤ first
    go true e g = let z : ◌≡◌ {A = ℕ} 0 1 = cc in absurd (omega arith)
    go false e g = ltb-false first (length xs) e

module _ (s : List ℕ) (at : ℕ) where
  pub record Passed (p : ℕ) : Type 0 where
    pub above : at ≤ p
    pub within : p ≤ length s
    pub inside : every is_inside (between s at p) ≡ true

  pub passes_none : at ≤ length s → Passed at
  passes_none h = let e : at - at ≡ 0 = omega arith in record { above = omega arith; within = h; inside = rw e refl }

  module _ (p : ℕ) (above : at ≤ p) where
    between_size : p ≤ length s → length (between s at p) ≡ p - at
    between_size h = length-take-le (p - at) (drop at s) (omega (arith, length-drop at s))

    rest : drop (p - at) (drop at s) ≡ drop p s
    rest = let e : at + (p - at) ≡ p = omega arith in drop-drop (p - at) at s ∙ rw e

    byte : get_or (drop at s) (p - at) 0 ≡ byte_at s p
    byte = let e : at + (p - at) ≡ p = omega arith in get_or-drop at s (p - at) 0 ∙ rw e

    -- what was passed, and what is left
    pub parts : drop at s ≡ between s at p ++ drop p s
    parts = sym (take-append-drop (p - at) (drop at s)) ∙ rw rest

    pub one_more : p < length s → between s at (p + 1) ≡ between s at p ++ (byte_at s p ∷ [])
    one_more h =
        let e : p + 1 - at ≡ suc (p - at) = omega arith in
        rw e (take-suc (drop at s) (p - at) 0 (omega (arith, length-drop at s)) ∙ rw byte)

  pub passes_on : {p : ℕ} → Passed p → p < length s → (byte_at s p ≡ line_feed → ⊥) → Passed (p + 1)
  passes_on {p} g h n =
      record {
        above = omega (arith, g.above);
        within = omega arith;
        inside =
            rw (one_more p g.above h)
            (every_append is_inside (between s at p) (byte_at s p ∷ []) g.inside (rw (ne_eqb (byte_at s p) line_feed n) refl));
      }

  -- all up to the first LF are passed
  passes_up : (n : ℕ) → at + n ≤ length s → ((k : ℕ) → k < n → eqb (byte_at s (at + k)) line_feed ≡ false) → Passed (at + n)
  passes_up zero h f = let e : at + 0 ≡ at = omega arith in rw e (passes_none (omega arith))
  passes_up (suc n) h f =
      let e : at + n + 1 ≡ at + suc n = omega arith in
      rw e at (passes_on (passes_up n (omega arith) (λ k g. f k (omega arith))) (omega arith) (eqb-false (byte_at s (at + n)) line_feed (f n (omega arith))))

  pub record Fed (n : ℕ) : Type 0 where
    pub passed : Passed (at + n)
    pub inside : at + n < length s
    pub feed : byte_at s (at + n) ≡ line_feed

  pub fed : {n : ℕ} → at ≤ length s → Some n ≡ position (λ b. b == 10) (drop at s) → Fed n
  fed {n} h e =
      let x = position-Some (λ b. b == 10) (drop at s) n 0 (sym e) in
      let l : at + n < length s = omega (arith, x.0, length-drop at s) in
      record {
        passed = passes_up n (omega arith) (λ k g. rw (get_or-drop at s k 0) at (x.2 k g));
        inside = l;
        feed = eqb-true (byte_at s (at + n)) line_feed (rw (get_or-drop at s n 0) at x.1);
      }

  -- there is none
  no_feeds : (xs : List ℕ) → ((k : ℕ) → k < length xs → eqb (get_or xs k 0) line_feed ≡ false) → every is_inside xs ≡ true
  no_feeds [] f = refl
  no_feeds (x ∷ xs) f = rw (f 0 (omega arith)) (no_feeds xs (λ k h. f (suc k) (omega arith)))

  pub unfed : None ≡ position (λ b. b == 10) (drop at s) → Open s at
  unfed e = no_feeds (drop at s) (λ k h. fails_before_first (λ b. b == 10) (drop at s) k 0 (omega (arith, none_before (drop at s) e)))

  module _ {p : ℕ} (g : Passed p) (h : p < length s) (feed : byte_at s p ≡ line_feed) where
    -- the LF alone
    pub ends_lf : (at < p → byte_at s (p - 1) ≡ carriage_return → ⊥) → Split s at p (p + 1)
    ends_lf no_return =
        record {
          line = between s at p;
          end = line_feed ∷ [];
          is_end = lf;
          whole = parts p g.above ∙ rw (drop-cons s p 0 h, feed, add-one p);
          inside = g.inside;
          trimmed = λ w e _.
              let n = between_size p g.above g.within in
              let m = ap length e ∙ length-append w (carriage_return ∷ []) in
              let l : at < p = omega (arith, m, n) in
              let q : p - 1 - at ≡ length w = omega (arith, m, n) in
              no_return l
              (sym (byte (p - 1) (omega arith)) ∙ sym (get_or-take (p - at) (drop at s) (p - 1 - at) 0 (omega arith))
              ∙ ap (λ (l : List ℕ). get_or l (p - 1 - at) 0) e ∙ rw q (get_or-append_seam w carriage_return [] 0));
          length_line = omega (arith, between_size p g.above g.within, g.above);
          length_end = refl;
          within = omega arith;
        }

    -- CR LF
    pub ends_cr_lf : at < p → byte_at s (p - 1) ≡ carriage_return → Split s at (p - 1) (p + 1)
    ends_cr_lf l return =
        let e : p - 1 + 1 ≡ p = omega arith in
        let o = rw e at (one_more (p - 1) (omega arith) (omega arith)) in
        let f : suc (p - 1) ≡ p = omega arith in
        record {
          line = between s at (p - 1);
          end = carriage_return ∷ line_feed ∷ [];
          is_end = cr_lf;
          whole =
              parts (p - 1) (omega arith)
              ∙ ap (λ (l : List ℕ). between s at (p - 1) ++ l)
              (drop-cons s (p - 1) 0 (omega arith) ∙ rw (return, f, drop-cons s p 0 h, feed, add-one p));
          inside =
              (both (every is_inside (between s at (p - 1))) (every is_inside (byte_at s (p - 1) ∷ []))
              (sym (every_join is_inside (between s at (p - 1)) (byte_at s (p - 1) ∷ [])) ∙ (rw o at g.inside))).0;
          trimmed = λ w _ z. let y : ◌≡◌ {A = ℕ} carriage_return line_feed = cc in omega arith;
          length_line = omega (arith, between_size (p - 1) (omega arith) (omega arith));
          length_end = omega arith;
          within = omega arith;
        }
