-- What is shown is made of names, signs, spaces and parentheses: how many of these there are at most, and that none of them ends a line. Assumes
-- nothing.
use Prim.Native.Nat.{ℕ, zero, suc, ◌+◌, ◌*◌, ◌/◌, ◌%◌, ◌<◌, ◌≤◌}
use mathlib.Core.Path.{◌≡◌, refl}
use mathlib.Core.Bool.{Bool, true, false}
use mathlib.Core.List.{List, [], ◌∷◌, ◌++◌}
use native.Mathlib.Omega.{arith}
use lib.ListN.{length, length-append}
use lib.Dec.{ltb, leb, eqb}
use borrow.Author.Tests.{le-leb, ne_eqb}
use Rattle.terms.specs.Choice.{every}
use Rattle.terms.proofs.Choice.{pick_case}
use Rattle.terms.proofs.Every.{both_hold, every_append}
use Rattle.numbers.specs.Blocks.{Bit, off, on, input, output, Expr, ref, inv, gate, nodes}
use Rattle.grammar.specs.Grammar.{space, bang, ampersand, closing, caret, bar, digit}
use Rattle.shown.specs.Show.{in_digits, name_of, sign_of, list_of, between, enclosed, show_at, opens}

-- by the five signs
sign_case :
    (P : List ℕ → Type 0) → P (ampersand ∷ []) → P (bar ∷ []) → P (caret ∷ []) → P (bang ∷ ampersand ∷ []) → P (bang ∷ bar ∷ []) → (o : ℕ) →
    P (sign_of o)
unfolding sign_of
sign_case P a b c d e o =
    pick_case P (eqb o 1) (λ _. a)
    (λ _. pick_case P (eqb o 2) (λ _. b)
    (λ _. pick_case P (eqb o 3) (λ _. c)
    (λ _. pick_case P (eqb o 4) (λ _. d) (λ _. e))))

-- lengths
digits_long : (k n : ℕ) → length (in_digits k n) ≡ k
digits_long zero n = refl
digits_long (suc k) n = omega (arith, length-append (in_digits k (n / 10)) (digit (n % 10) ∷ []), digits_long k (n / 10))

pub name_short : (b : Bit) → length (name_of b) ≤ 4
unfolding name_of
name_short off = omega arith
name_short on = omega arith
name_short (input n) = omega (arith, digits_long 2 (n + 1))
name_short (output n) = omega (arith, digits_long 3 n)

pub sign_short : (o : ℕ) → length (sign_of o) ≤ 2
sign_short = sign_case (λ s. length s ≤ 2) (omega arith) (omega arith) (omega arith) (omega arith) (omega arith)

enclosed_short : (b : Bool) (text : List ℕ) → length (enclosed b text) ≤ length text + 2
enclosed_short true text = omega (arith, length-append text (closing ∷ []))
enclosed_short false text = omega arith

pub short : (level : ℕ) (t : Expr) → length (show_at level t) < 5 * nodes t
short level (ref b) = omega (arith, name_short b)
short level (inv t) = omega (arith, short 3 t)
short level (gate o a b) =
    let v : List ℕ = show_at (list_of o) a in
    let w : List ℕ = show_at (suc (list_of o)) b in
    omega (
      arith,
      enclosed_short (ltb (list_of o) level) (between o v w),
      length-append v (space ∷ (sign_of o ++ (space ∷ w))),
      length-append (sign_of o) (space ∷ w),
      sign_short o,
      short (list_of o) a,
      short (suc (list_of o)) b,
    )

-- no line ends
abbrev Inline : List ℕ → Type 0
Inline s = every (leb 32) s ≡ true

digits_inline : (k n : ℕ) → Inline (in_digits k n)
digits_inline zero n = refl
digits_inline (suc k) n =
    every_append (leb 32) (in_digits k (n / 10)) (digit (n % 10) ∷ []) (digits_inline k (n / 10))
    (both_hold (le-leb 32 (48 + n % 10) (omega arith)) refl)

name_inline : (b : Bit) → Inline (name_of b)
unfolding name_of
name_inline off = refl
name_inline on = refl
name_inline (input n) = digits_inline 2 (n + 1)
name_inline (output n) = digits_inline 3 n

enclosed_inline : (b : Bool) (text : List ℕ) → Inline text → Inline (enclosed b text)
enclosed_inline true text h = every_append (leb 32) text (closing ∷ []) h refl
enclosed_inline false text h = h

pub no_line_end : (level : ℕ) (t : Expr) → Inline (show_at level t)
no_line_end level (ref b) = name_inline b
no_line_end level (inv t) = no_line_end 3 t
no_line_end level (gate o a b) =
    let v : List ℕ = show_at (list_of o) a in
    let w : List ℕ = show_at (suc (list_of o)) b in
    enclosed_inline (ltb (list_of o) level) (between o v w)
    (every_append (leb 32) v (space ∷ (sign_of o ++ (space ∷ w))) (no_line_end (list_of o) a)
    (every_append (leb 32) (sign_of o) (space ∷ w) (sign_case Inline refl refl refl refl refl o) (no_line_end (suc (list_of o)) b)))

-- no name or sign is a parenthesis
pub opens_append : (a b : List ℕ) → opens (a ++ b) ≡ opens a + opens b
opens_append [] b = omega arith
opens_append (x ∷ a) b = omega (arith, opens_append a b)

digits_open : (k n : ℕ) → opens (in_digits k n) ≡ 0
digits_open zero n = refl
digits_open (suc k) n =
    let e : opens (digit (n % 10) ∷ []) ≡ 0 = rw (ne_eqb (48 + n % 10) 40 (λ z. omega arith)) in
    omega (arith, opens_append (in_digits k (n / 10)) (digit (n % 10) ∷ []), digits_open k (n / 10))

pub name_opens : (b : Bit) → opens (name_of b) ≡ 0
unfolding name_of
name_opens off = refl
name_opens on = refl
name_opens (input n) = omega (arith, digits_open 2 (n + 1))
name_opens (output n) = omega (arith, digits_open 3 n)

pub sign_opens : (o : ℕ) → opens (sign_of o) ≡ 0
sign_opens = sign_case (λ s. opens s ≡ 0) refl refl refl refl refl
