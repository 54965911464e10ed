-- The first line of a text, told by its end: what a listing has there is the line that the text is split at. Assumes nothing.
use Prim.Native.Nat.{ℕ, suc}
use mathlib.Core.Path.{◌≡◌, refl, sym, ap}
use mathlib.Core.Bool.{true}
use mathlib.Core.List.{List, [], ◌∷◌, ◌++◌, append-nil}
use native.Mathlib.Omega.{arith}
use lib.ListN.{drop, get_or}
use lib.Dec.{leb, eqb}
use borrow.Author.Tests.{leb-true, eqb-false}
use Rattle.terms.specs.Choice.{every}
use Rattle.terms.proofs.Choice.{both, never}
use Rattle.terms.proofs.Every.{every_join}
use Rattle.numbers.specs.Blocks.{Bit, Block}
use Rattle.layout.specs.Layout.{line_feed, carriage_return, BlockLine, AlarmsLine, LineEnd, lf, cr_lf, Lines, one_block, the_alarms}
use Rattle.layout.specs.Ends.{is_inside}
use Rattle.layout.proofs.Rows.{is_false}
use Rattle.layout.proofs.Inline.{Inline, block_inline, alarms_inline}

-- heads and tails of equal lists
head_of : {x y : ℕ} {xs ys : List ℕ} → x ∷ xs ≡ y ∷ ys → x ≡ y
head_of e = ap (λ (l : List ℕ). get_or l 0 0) e

tail_of : {x y : ℕ} {xs ys : List ℕ} → x ∷ xs ≡ y ∷ ys → xs ≡ ys
tail_of e = ap (drop 1) e

abbrev Trimmed : List ℕ → List ℕ → Type 0
Trimmed line e = (v : List ℕ) → line ≡ v ++ (carriage_return ∷ []) → e ≡ line_feed ∷ [] → ⊥

no_feed : (x : ℕ) (l : List ℕ) → every is_inside (x ∷ l) ≡ true → x ≡ line_feed → ⊥
no_feed x l e f = eqb-false x line_feed (is_false (eqb x line_feed) (both (is_inside x) (every is_inside l) e).0) f

-- an end where the line has more bytes
too_soon : (e' s' : List ℕ) (x : ℕ) (l e r : List ℕ) → LineEnd e' → LineEnd e → every is_inside (x ∷ l) ≡ true → Trimmed (x ∷ l) e → e' ++ s' ≡ (x ∷ l) ++ (e ++ r) → ⊥
too_soon e' s' x l e r lf d i t q = no_feed x l i (sym (head_of q))
too_soon e' s' x [] e r cr_lf lf i t q = t [] (ap (λ (y : ℕ). y ∷ []) (sym (head_of q))) refl
too_soon e' s' x [] e r cr_lf cr_lf i t q = let z : line_feed ≡ carriage_return = head_of (tail_of q) in omega arith
too_soon e' s' x (y ∷ l) e r cr_lf d i t q = no_feed y l (both (is_inside x) (every is_inside (y ∷ l)) i).1 (sym (head_of (tail_of q)))

same_end : (e' s' e r : List ℕ) → LineEnd e' → LineEnd e → e' ++ s' ≡ e ++ r → s' ≡ r
same_end e' s' e r lf lf q = tail_of q
same_end e' s' e r lf cr_lf q = absurd (let z : line_feed ≡ carriage_return = head_of q in omega arith)
same_end e' s' e r cr_lf lf q = absurd (let z : carriage_return ≡ line_feed = head_of q in omega arith)
same_end e' s' e r cr_lf cr_lf q = tail_of (tail_of q)

too_late : (x : ℕ) (w v e r : List ℕ) → Inline (x ∷ w) → LineEnd e → (x ∷ w) ++ v ≡ e ++ r → ⊥
too_late x w v e r i lf q = let b = leb-true 32 x (both (leb 32 x) (every (leb 32) w) i).0 in omega (arith, head_of q)
too_late x w v e r i cr_lf q = let b = leb-true 32 x (both (leb 32 x) (every (leb 32) w) i).0 in omega (arith, head_of q)

-- one line: bytes of a line and its end, before whatever follows
pub one_line :
    (w e' s' line e r : List ℕ) → Inline w → LineEnd e' → every is_inside line ≡ true → LineEnd e → Trimmed line e → w ++ (e' ++ s') ≡ line ++ (e ++ r) →
    (w ≡ line) × (s' ≡ r)
one_line [] e' s' [] e r a b c d t q = (refl, same_end e' s' e r b d q)
one_line [] e' s' (y ∷ l) e r a b c d t q = absurd (too_soon e' s' y l e r b d c t q)
one_line (x ∷ w) e' s' [] e r a b c d t q = absurd (too_late x w (e' ++ s') e r a d q)
one_line (x ∷ w) e' s' (y ∷ l) e r a b c d t q =
    let h = head_of q in
    let o =
    one_line w e' s' l e r (both (leb 32 x) (every (leb 32) w) a).1 b (both (is_inside y) (every is_inside l) c).1 d
    (λ v f g. t (y ∷ v) (ap (λ (z : List ℕ). y ∷ z) f) g) (tail_of q) in
    (rw (h, o.0), o.1)

-- the first line of a listing is the line that its text is split at
pub data First (i : ℕ) (line rest : List ℕ) (bs : List Block) (rs : List Bit) : Type 0 where
  of_block : (b : Block) (cs : List Block) → bs ≡ b ∷ cs → BlockLine i line b → Lines (suc i) rest cs rs → First i line rest bs rs
  of_alarms : bs ≡ [] → AlarmsLine line rs → rest ≡ [] → First i line rest bs rs

pub first_line :
    (i : ℕ) (s line e r : List ℕ) (bs : List Block) (rs : List Bit) → Lines i s bs rs → every is_inside line ≡ true → LineEnd e → Trimmed line e →
    s ≡ line ++ (e ++ r) → First i line r bs rs
first_line i s line e r bs rs (one_block {w = w} {e = f} {s = u} {b = b} {bs = cs} x y z) c d t q =
    let o = one_line w f u line e r (block_inline x) y c d t q in
    of_block b cs refl (rw o.0 at x) (rw o.1 at z)
first_line i s line e r bs rs (the_alarms {w = w} {e = f} x y) c d t q =
    let p : w ++ (f ++ []) ≡ line ++ (e ++ r) = rw (append-nil f) q in
    let o = one_line w f [] line e r (alarms_inline x) y c d t p in
    of_alarms refl (rw o.0 at x) (sym o.1)

-- a listing has a line end
end_inside : (e s : List ℕ) → LineEnd e → every is_inside (e ++ s) ≡ true → ⊥
end_inside e s lf h = never (sym h)
end_inside e s cr_lf h = never (sym h)

pub not_open : (i : ℕ) (s : List ℕ) (bs : List Block) (rs : List Bit) → Lines i s bs rs → every is_inside s ≡ true → ⊥
not_open i s bs rs (one_block {w = w} {e = f} {s = u} x y z) h =
    let k = rw (every_join is_inside w (f ++ u)) at h in end_inside f u y (both (every is_inside w) (every is_inside (f ++ u)) k).1
not_open i s bs rs (the_alarms {w = w} {e = f} x y) h =
    let k = rw (every_join is_inside w f) at h in
    let g : every is_inside (f ++ []) ≡ true = rw (append-nil f) (both (every is_inside w) (every is_inside f) k).1 in
    end_inside f [] y g
