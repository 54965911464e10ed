-- How many nodes a tree has, how deep it is and how long its text; and `!` any number of times before it. Assumes nothing.
use Prim.Native.Nat.{ℕ, zero, suc, ◌+◌, ◌≤◌}
use mathlib.Core.Path.{◌≡◌, refl, sym, ap, ◌∙◌}
use mathlib.Core.List.{List, ◌∷◌, ◌++◌}
use native.Mathlib.Omega.{arith}
use lib.ListN.{length, replicate, length-append, length-replicate}
use lib.Seq.{sets}
use Rattle.terms.proofs.Sets.{sets_append}
use Rattle.numbers.specs.Blocks.{Bit, Expr, ref, inv, gate, nodes}
use Rattle.writing.specs.Expressions.{operator_first, depth, InRange}
use Rattle.grammar.specs.Grammar.{opening, closing, spaces, Name, name_0, name_1, name_I, name_B, Level, Operator, and_sign, nand_sign, xor_sign}
use Rattle.grammar.specs.Grammar.{or_sign, nor_sign, Reads, alone, joined, named, negated, grouped}

pub numbers_of : (t : Expr) → length (operator_first t) ≡ nodes t
numbers_of (ref b) = refl
numbers_of (inv t) = omega (arith, numbers_of t)
numbers_of (gate o a b) = omega (arith, numbers_of a, numbers_of b, length-append (operator_first a) (operator_first b))

pub some_nodes : (t : Expr) → 1 ≤ nodes t
some_nodes (ref b) = omega arith
some_nodes (inv t) = omega arith
some_nodes (gate o a b) = omega arith

pub no_deeper : (t : Expr) → depth t ≤ nodes t
no_deeper (ref b) = omega arith
no_deeper (inv t) = omega (arith, no_deeper t)
no_deeper (gate o a b) = omega (arith, no_deeper a, no_deeper b)

-- every node takes a byte at least
pub name_long : {w : List ℕ} {b : Bit} → Name w b → 1 ≤ length w
name_long name_0 = omega arith
name_long name_1 = omega arith
name_long (name_I _ _) = omega arith
name_long (name_B _ _) = omega arith

pub sign_long : {l : Level} {o : ℕ} {w : List ℕ} → Operator l o w → 1 ≤ length w
sign_long and_sign = omega arith
sign_long nand_sign = omega arith
sign_long xor_sign = omega arith
sign_long or_sign = omega arith
sign_long nor_sign = omega arith

behind : (a b : List ℕ) → length b ≤ length (a ++ b)
behind a b = omega (arith, length-append a b)

pub reads_long : {d : ℕ} {l : Level} {w : List ℕ} {t : Expr} → Reads d l w t → nodes t ≤ length w
reads_long (alone c x) = reads_long x
reads_long (joined {v = v} {sign = s} {w = w} c x o y) =
    omega (arith, reads_long x, reads_long y, sign_long o, length-append v (s ++ w), length-append s w)
reads_long (named {w = w} m n x) = omega (arith, name_long x, length-append w (spaces n), behind (spaces m) (w ++ spaces n))
reads_long (negated {w = w} m x) = omega (arith, reads_long x, behind (spaces m) (33 ∷ w))
reads_long (grouped {w = w} m n h x) =
    omega (arith, reads_long x, length-append w (closing ∷ spaces n), behind (spaces m) (opening ∷ (w ++ (closing ∷ spaces n))))

-- a name is of a reference in range
pub name_proper : {w : List ℕ} {b : Bit} → Name w b → InRange b
name_proper name_0 = tt
name_proper name_1 = tt
name_proper (name_I h _) = h
name_proper (name_B h _) = h

-- `!` n times before a tree
unfoldable pub nots : ℕ → Expr → Expr
nots zero t = t
nots (suc n) t = nots n (inv t)

-- their node numbers
abbrev pub zeros : ℕ → List ℕ
zeros n = replicate n 0

zeros_on : (n : ℕ) (xs : List ℕ) → zeros n ++ (0 ∷ xs) ≡ 0 ∷ (zeros n ++ xs)
zeros_on zero xs = refl
zeros_on (suc n) xs = ap (λ (l : List ℕ). 0 ∷ l) (zeros_on n xs)

pub nots_numbers : (n : ℕ) (t : Expr) → operator_first (nots n t) ≡ zeros n ++ operator_first t
unfolding nots
nots_numbers zero t = refl
nots_numbers (suc n) t = nots_numbers n (inv t) ∙ zeros_on n (operator_first t)

-- what is put behind them
pub zeros_then : (n first : ℕ) (l xs : List ℕ) → sets (sets l first (zeros n)) (first + n) xs ≡ sets l first (zeros n ++ xs)
zeros_then n first l xs =
    let e : n ≡ length (zeros n) = sym (length-replicate n 0) in
    ap (λ (k : ℕ). sets (sets l first (zeros n)) (first + k) xs) e ∙ sets_append (zeros n) l xs first

pub nots_nodes : (n : ℕ) (t : Expr) → nodes (nots n t) ≡ n + nodes t
unfolding nots
nots_nodes zero t = omega arith
nots_nodes (suc n) t = omega (arith, nots_nodes n (inv t))

pub nots_depth : (n : ℕ) (t : Expr) → depth (nots n t) ≡ n + depth t
unfolding nots
nots_depth zero t = omega arith
nots_depth (suc n) t = omega (arith, nots_depth n (inv t))
