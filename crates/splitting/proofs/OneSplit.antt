-- The line that begins at a place: it is a part of the text, there is one at most, and none where there is no end. Assumes nothing.
use Prim.Native.Nat.{ℕ, ◌-◌}
use mathlib.Core.Path.{◌≡◌, refl, sym, ap, ◌∙◌}
use mathlib.Core.Bool.{true}
use mathlib.Core.List.{List, [], ◌∷◌, ◌++◌, append_assoc}
use native.Mathlib.Omega.{arith}
use lib.ListN.{length, take, drop, length-append}
use lib.Seq.{take_at}
use Rattle.std.specs.Prelude.{Option}
use Rattle.terms.specs.Choice.{every}
use Rattle.terms.proofs.Choice.{both, never}
use Rattle.terms.proofs.Every.{every_join, every_append}
use Rattle.layout.specs.Layout.{line_feed, carriage_return, LineEnd, lf, cr_lf}
use Rattle.layout.specs.Ends.{is_inside, Split, Open}
use Rattle.splitting.specs.declared.Line.{Line}
use Rattle.splitting.specs.Splitting.{Splits, splits, unended}

-- the line as a slice of the text
pub line_part : {s : List ℕ} {at last next : ℕ} (x : Split s at last next) → take (last - at) (drop at s) ≡ x.line
line_part {s} {at} {last} {next} x =
    rw x.whole (take_at x.line (x.end ++ drop next s) (last - at) (omega (arith, x.length_line)))

-- what stands before the first LF of a text
first_feed :
    (a b x y : List ℕ) → every is_inside a ≡ true → every is_inside b ≡ true → a ++ (line_feed ∷ x) ≡ b ++ (line_feed ∷ y) → a ≡ b
first_feed [] [] x y h k e = refl
first_feed [] (c ∷ b) x y h k e = let f : line_feed ≡ c = cc in never (sym (rw (← f) at k))
first_feed (c ∷ a) [] x y h k e = let f : c ≡ line_feed = cc in never (sym (rw f at h))
first_feed (c ∷ a) (d ∷ b) x y h k e =
    let f : c ≡ d = cc in
    let g : a ++ (line_feed ∷ x) ≡ b ++ (line_feed ∷ y) = cc in
    let i = first_feed a b x y (both (is_inside c) (every is_inside a) h).1 (both (is_inside d) (every is_inside b) k).1 g in
    rw (f, i)

-- a line, and a CR that stands before its LF
before_feed : {e : List ℕ} → LineEnd e → List ℕ → List ℕ
before_feed lf w = w
before_feed cr_lf w = w ++ (carriage_return ∷ [])

feed_behind : {e : List ℕ} (i : LineEnd e) (w r : List ℕ) → w ++ (e ++ r) ≡ before_feed i w ++ (line_feed ∷ r)
unfolding before_feed
feed_behind lf w r = refl
feed_behind cr_lf w r = sym (append_assoc w (carriage_return ∷ []) (line_feed ∷ r))

no_feed : {e : List ℕ} (i : LineEnd e) (w : List ℕ) → every is_inside w ≡ true → every is_inside (before_feed i w) ≡ true
unfolding before_feed
no_feed lf w h = h
no_feed cr_lf w h = every_append is_inside w (carriage_return ∷ []) h refl

-- a CR before the LF belongs to the end
abbrev Trimmed : List ℕ → List ℕ → Type 0
Trimmed v e = (w : List ℕ) → v ≡ w ++ (carriage_return ∷ []) → e ≡ line_feed ∷ [] → ⊥

-- two lines with the same before their LF
same_sizes :
    {e f : List ℕ} (i : LineEnd e) (j : LineEnd f) (v w : List ℕ) → Trimmed v e → Trimmed w f → before_feed i v ≡ before_feed j w →
    (length v ≡ length w) × (length e ≡ length f)
unfolding before_feed
same_sizes lf lf v w g h q = (ap length q, refl)
same_sizes lf cr_lf v w g h q = absurd (g w q refl)
same_sizes cr_lf lf v w g h q = absurd (h v (sym q) refl)
same_sizes cr_lf cr_lf v w g h q =
    (omega (arith, ap length q, length-append v (carriage_return ∷ []), length-append w (carriage_return ∷ [])), refl)

-- one line at most begins at a place
pub one_split : {s : List ℕ} {at l n k m : ℕ} → Split s at l n → Split s at k m → (l ≡ k) × (n ≡ m)
one_split {s} {n = n} {m = m} x y =
    let e = sym (feed_behind x.is_end x.line (drop n s)) ∙ sym x.whole ∙ y.whole ∙ feed_behind y.is_end y.line (drop m s) in
    let f =
    first_feed (before_feed x.is_end x.line) (before_feed y.is_end y.line) (drop n s) (drop m s) (no_feed x.is_end x.line x.inside)
    (no_feed y.is_end y.line y.inside) e in
    let r = same_sizes x.is_end y.is_end x.line y.line x.trimmed y.trimmed f in
    (omega (arith, r.0, x.length_line, y.length_line), omega (arith, r.0, r.1, x.length_line, y.length_line, x.length_end, y.length_end))

-- and none where there is no end
feed_inside : (v r : List ℕ) → every is_inside (v ++ (line_feed ∷ r)) ≡ true → ⊥
feed_inside v r e =
    never
    (sym (both (every is_inside v) (every is_inside (line_feed ∷ r)) (sym (every_join is_inside v (line_feed ∷ r)) ∙ e)).1)

pub not_open : {s : List ℕ} {at l n : ℕ} → Split s at l n → Open s at → ⊥
not_open {s} {n = n} x o =
    feed_inside (before_feed x.is_end x.line) (drop n s) (rw (x.whole, feed_behind x.is_end x.line (drop n s)) at o)

-- so there is one answer
pub one_answer : {s : List ℕ} {at : ℕ} {q r : Option Line} → Splits s at q → Splits s at r → q ≡ r
one_answer (splits l n x) (splits k m y) = let o = one_split x y in rw (o.0, o.1)
one_answer (splits l n x) (unended o) = absurd (not_open x o)
one_answer (unended o) (splits l n x) = absurd (not_open x o)
one_answer (unended o) (unended e) = refl
