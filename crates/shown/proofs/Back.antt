-- What is shown of an expression reads as that expression, at every level and with any spaces around it: those beside an operator belong to its
-- parts. Parentheses nest below the depth, so that the 16 are enough. Assumes nothing.
use Prim.Native.Nat.{ℕ, zero, suc, ◌+◌, ◌*◌, ◌-◌, ◌/◌, ◌%◌, max, ◌<◌, ◌≤◌}
use mathlib.Core.Path.{◌≡◌, refl, subst}
use mathlib.Core.Bool.{true}
use mathlib.Core.List.{List, [], ◌∷◌, ◌++◌, append_assoc, append-nil}
use native.Mathlib.Omega.{arith}
use lib.Dec.{ltb}
use borrow.Author.Tests.{ltb-false}
use Rattle.terms.proofs.Choice.{pick_case}
use Rattle.numbers.specs.Blocks.{Bit, off, on, input, output, Expr, ref, inv, gate}
use Rattle.nodes.specs.Reading.{most_deep}
use Rattle.grammar.specs.Grammar.{closing, spaces, Decimal, no_digits, one_more, Name, name_0, name_1, name_I, name_B}
use Rattle.grammar.specs.Grammar.{or_list, part, MadeOf, xor_lists, and_lists, parts}
use Rattle.grammar.specs.Grammar.{Operator, and_sign, nand_sign, xor_sign, or_sign, nor_sign, Reads, alone, joined, named, negated, grouped, Formula}
use Rattle.grammar.specs.Machine.{tens}
use Rattle.writing.specs.Expressions.{depth, InRange, Proper}
use Rattle.spelling.specs.Spelling.{number_of, level_of}
use Rattle.shown.specs.Show.{in_digits, name_of, sign_of, list_of, between, enclosed, show_at, show}

-- a number in k digits, if it has no more
pub decimal : (k n : ℕ) → n < tens k → Decimal k n (in_digits k n)
unfolding tens
decimal zero n h = let e : n ≡ 0 = omega arith in rw e no_digits
decimal (suc k) n h =
    let e : 10 * (n / 10) + n % 10 ≡ n = omega arith in
    subst (λ (v : ℕ). Decimal (suc k) v (in_digits (suc k) n)) e (one_more (n % 10) (omega arith) (decimal k (n / 10) (omega arith)))

pub name : (b : Bit) → InRange b → Name (name_of b) b
unfolding name_of tens
name off h = name_0
name on h = name_1
name (input n) h = name_I h (decimal 2 (n + 1) (omega arith))
name (output n) h = name_B h (decimal 3 n (omega arith))

-- an operator stands between the items of its list
record Gate (o : ℕ) : Type 0 where
  made : MadeOf (level_of (list_of o)) (level_of (suc (list_of o)))
  sign : Operator (level_of (list_of o)) o (sign_of o)

gate_of_lem : (o : ℕ) → 0 < o → o < 6 → Gate o
unfolding sign_of list_of
gate_of_lem zero g h = absurd (omega arith)
gate_of_lem (suc zero) g h = record { made = parts; sign = and_sign }
gate_of_lem (suc (suc zero)) g h = record { made = xor_lists; sign = or_sign }
gate_of_lem (suc (suc (suc zero))) g h = record { made = and_lists; sign = xor_sign }
gate_of_lem (suc (suc (suc (suc zero)))) g h = record { made = parts; sign = nand_sign }
gate_of_lem (suc (suc (suc (suc (suc zero))))) g h = record { made = xor_lists; sign = nor_sign }
gate_of_lem (suc (suc (suc (suc (suc (suc o)))))) g h = absurd (omega arith)

-- what is of a tighter level is of a looser one too
module _ {around : ℕ} {w : List ℕ} {t : Expr} where
  one_looser : (l : ℕ) → Reads around (level_of (suc l)) w t → Reads around (level_of l) w t
  one_looser zero x = alone xor_lists x
  one_looser (suc zero) x = alone and_lists x
  one_looser (suc (suc zero)) x = alone parts x
  one_looser (suc (suc (suc l))) x = x

  looser : (n l k : ℕ) → n + l ≡ k → Reads around (level_of k) w t → Reads around (level_of l) w t
  looser zero l k e x = let f : k ≡ l = omega arith in rw f at x
  looser (suc n) l k e x = let f : k ≡ suc (n + l) = omega arith in looser n l (n + l) refl (one_looser (n + l) (rw f at x))

  part_at : (l : ℕ) → Reads around part w t → Reads around (level_of l) w t
  part_at zero x = looser 3 0 3 refl x
  part_at (suc zero) x = looser 2 1 3 refl x
  part_at (suc (suc zero)) x = looser 1 2 3 refl x
  part_at (suc (suc (suc l))) x = x

-- a text reads as a tree at a level, with any spaces around it and inside any parentheses that leave n
abbrev pub Shown : ℕ → ℕ → List ℕ → Expr → Type 0
Shown n level s t = (around m k : ℕ) → around + n ≤ most_deep + 1 → Reads around (level_of level) (spaces m ++ (s ++ spaces k)) t

-- so do an operator and its parts, each of its level, and the same in parentheses where a tighter level is asked for
module _ (o n : ℕ) (some : 0 < n) (p : Gate o) (v w : List ℕ) (a b : Expr) (f : Shown n (list_of o) v a) (g : Shown n (suc (list_of o)) w b) where
  body : Shown n (list_of o) (between o v w) (gate o a b)
  body around m k h =
      let e : (spaces m ++ (v ++ spaces 1)) ++ (sign_of o ++ (spaces 1 ++ (w ++ spaces k))) ≡ spaces m ++ (between o v w ++ spaces k) = simp append_assoc in
      subst (λ (s : List ℕ). Reads around (level_of (list_of o)) s (gate o a b)) e (joined p.made (f around m 1 h) p.sign (g around 1 k h))

  in_pair : Shown (suc n) (number_of part) (enclosed true (between o v w)) (gate o a b)
  in_pair around m k h =
      let x : Reads (suc around) or_list (between o v w) (gate o a b) =
      looser (list_of o) 0 (list_of o) (omega arith) (rw (append-nil (between o v w)) at (body (suc around) 0 0 (omega arith))) in
      rw (append_assoc (between o v w) (closing ∷ []) (spaces k)) (grouped {around = around} m k (omega arith) x)

  gated : (level : ℕ) → Shown (suc n) level (enclosed (ltb (list_of o) level) (between o v w)) (gate o a b)
  gated level =
      pick_case (λ (s : List ℕ). Shown (suc n) level s (gate o a b)) (ltb (list_of o) level) (λ _ around m k h. part_at level (in_pair around m k h))
      (λ e around m k h. looser (list_of o - level) level (list_of o) (omega (arith, ltb-false (list_of o) level e)) (body around m k (omega arith)))

some_depth : (t : Expr) → 0 < depth t
some_depth (ref b) = omega arith
some_depth (inv t) = omega arith
some_depth (gate o a b) = omega arith

pub reads_at : (level : ℕ) (t : Expr) → Proper t → Shown (depth t) level (show_at level t) t
reads_at level (ref b) p = λ around m k h. part_at level (named m k (name b p))
reads_at level (inv t) p = λ around m k h. part_at level (negated m (reads_at 3 t p around 0 k (omega arith)))
reads_at level (gate o a b) p =
    gated o (max (depth a) (depth b)) (omega (arith, some_depth a)) (gate_of_lem o p.0.0 p.0.1) (show_at (list_of o) a) (show_at (suc (list_of o)) b) a b
    (λ r m k h. reads_at (list_of o) a p.1.0 r m k (omega arith)) (λ r m k h. reads_at (suc (list_of o)) b p.1.1 r m k (omega arith)) level

pub reads_back : (t : Expr) → Proper t → depth t ≤ most_deep → Formula (show t) t
reads_back t p h = rw (append-nil (show t)) at (reads_at 0 t p 0 0 0 (omega arith))
