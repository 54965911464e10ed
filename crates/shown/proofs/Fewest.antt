-- No text with the same reading has fewer parentheses than the one that is shown: by the parentheses that a tree needs where a level is asked for, and
-- one inequality for each way of the grammar. Assumes nothing.
use Prim.Native.Nat.{ℕ, suc, ◌+◌, ◌≤◌}
use mathlib.Core.Path.{◌≡◌, refl}
use mathlib.Core.Logic.{⊎_elim}
use mathlib.Core.Bool.{Bool, true, false}
use mathlib.Core.List.{List, [], ◌∷◌, ◌++◌}
use native.Mathlib.Omega.{arith}
use lib.Dec.{ltb}
use borrow.Author.Tests.{lt-ltb, le-ltb}
use Rattle.terms.specs.Choice.{pick}
use Rattle.terms.proofs.Choice.{le_or_lt}
use Rattle.numbers.specs.Blocks.{Expr, ref, inv, gate}
use Rattle.grammar.specs.Grammar.{space, bang, opening, closing, spaces, Level, MadeOf, xor_lists, and_lists, parts}
use Rattle.grammar.specs.Grammar.{Operator, and_sign, nand_sign, xor_sign, or_sign, nor_sign, Reads, alone, joined, named, negated, grouped, Formula}
use Rattle.spelling.specs.Spelling.{number_of}
use Rattle.shown.specs.Show.{sign_of, list_of, between, enclosed, show_at, show, opens}
use Rattle.shown.proofs.Plain.{opens_append, name_opens, sign_opens}

-- a pair of parentheses, or none
pair : Bool → ℕ
pair b = pick b 1 0

-- the pairs that a tree needs where a level is asked for
needed : ℕ → Expr → ℕ
needed level (ref b) = 0
needed level (inv t) = needed 3 t
needed level (gate o a b) = pair (ltb (list_of o) level) + (needed (list_of o) a + needed (suc (list_of o)) b)

-- what is shown has just these
opens_enclosed : (b : Bool) (text : List ℕ) → opens (enclosed b text) ≡ pair b + opens text
unfolding pair
opens_enclosed true text = omega (arith, opens_append text (closing ∷ []))
opens_enclosed false text = omega arith

opens_shown : (level : ℕ) (t : Expr) → opens (show_at level t) ≡ needed level t
unfolding needed
opens_shown level (ref b) = name_opens b
opens_shown level (inv t) = omega (arith, opens_shown 3 t)
opens_shown level (gate o a b) =
    let v : List ℕ = show_at (list_of o) a in
    let w : List ℕ = show_at (suc (list_of o)) b in
    omega (
      arith,
      opens_enclosed (ltb (list_of o) level) (between o v w),
      opens_append v (space ∷ (sign_of o ++ (space ∷ w))),
      opens_append (sign_of o) (space ∷ w),
      sign_opens o,
      opens_shown (list_of o) a,
      opens_shown (suc (list_of o)) b,
    )

-- a tighter level needs no fewer, and at most one more
pair_small : (b : Bool) → pair b ≤ 1
unfolding pair
pair_small true = omega arith
pair_small false = omega arith

pair_grows : (k l m : ℕ) → l ≤ m → pair (ltb k l) ≤ pair (ltb k m)
unfolding pair
pair_grows k l m h =
    ⊎_elim (λ (g : l ≤ k). rw (le-ltb k l g) (omega arith)) (λ g. rw (lt-ltb k l g, lt-ltb k m (omega arith)) (omega arith)) (le_or_lt l k)

grows : (l m : ℕ) (t : Expr) → l ≤ m → needed l t ≤ needed m t
unfolding needed
grows l m (ref b) h = omega arith
grows l m (inv t) h = omega arith
grows l m (gate o a b) h = omega (arith, pair_grows (list_of o) l m h)

by_one : (l m : ℕ) (t : Expr) → needed l t ≤ needed m t + 1
unfolding needed
by_one l m (ref b) = omega arith
by_one l m (inv t) = omega arith
by_one l m (gate o a b) = omega (arith, pair_small (ltb (list_of o) l))

-- an operator in its own list needs what its parts need
tighter : {list item : Level} → MadeOf list item → number_of item ≡ suc (number_of list)
tighter xor_lists = refl
tighter and_lists = refl
tighter parts = refl

its_list : {list : Level} {o : ℕ} {w : List ℕ} → Operator list o w → list_of o ≡ number_of list
unfolding list_of
its_list and_sign = refl
its_list nand_sign = refl
its_list xor_sign = refl
its_list or_sign = refl
its_list nor_sign = refl

in_list : (l m o : ℕ) (a b : Expr) → list_of o ≡ l → m ≡ suc l → needed l (gate o a b) ≡ needed l a + needed m b
unfolding needed pair
in_list l m o a b e f = rw (e, f, le-ltb l l (omega arith)) (omega arith)

-- so that a text has at least those that its reading needs
counts : {around : ℕ} {l : Level} {s : List ℕ} {t : Expr} → Reads around l s t → needed (number_of l) t ≤ opens s
unfolding needed
counts (alone {list = list} {item = item} {t = t} c x) = omega (arith, tighter c, grows (number_of list) (number_of item) t (omega (arith, tighter c)), counts x)
counts (joined {o = o} {list = list} {item = item} {v = v} {sign = sign} {w = w} {t = t} {u = u} c x y z) =
    omega (
      arith,
      in_list (number_of list) (number_of item) o t u (its_list y) (tighter c),
      counts x,
      counts z,
      opens_append v (sign ++ w),
      opens_append sign w,
    )
counts (named m n x) = omega arith
counts (negated {w = w} m x) = omega (arith, counts x, opens_append (spaces m) (bang ∷ w))
counts (grouped {w = w} {t = t} m n h x) =
    omega (arith, counts x, by_one 3 0 t, opens_append (spaces m) (opening ∷ (w ++ (closing ∷ spaces n))), opens_append w (closing ∷ spaces n))

-- also of a part of a text
pub fewest_at : {around : ℕ} {l : Level} {s : List ℕ} {t : Expr} → Reads around l s t → opens (show_at (number_of l) t) ≤ opens s
fewest_at {l = l} {t = t} x = omega (arith, opens_shown (number_of l) t, counts x)

pub fewest : (s : List ℕ) (t : Expr) → Formula s t → opens (show t) ≤ opens s
fewest s t x = fewest_at x
