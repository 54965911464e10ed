-- What the acceptor passes over whole, the grammar reads: each state of it stands for a reading that is not finished yet. Assumes nothing.
use Prim.Native.Nat.{ℕ, zero, suc, ◌+◌, ◌*◌, ◌-◌, ◌<◌, ◌≤◌}
use mathlib.Core.Path.{◌≡◌, refl, ap, subst}
use mathlib.Core.List.{List, [], ◌∷◌, ◌++◌, append_assoc, append-nil}
use mathlib.Core.Bool.{true, ◌&&◌}
use native.Mathlib.Omega.{arith}
use lib.Dec.{ltb, leb, eqb}
use borrow.Author.Tests.{leb-true, ltb-true, eqb-true}
use Rattle.terms.proofs.Choice.{pick_case, both}
use Rattle.numbers.specs.Blocks.{Bit, Expr}
use Rattle.grammar.specs.Grammar.{space, bang, ampersand, opening, closing, letter_b, letter_i, caret, bar, digit, spaces, Decimal, no_digits}
use Rattle.grammar.specs.Grammar.{one_more, Name, name_0, name_1, name_I, name_B, Level, or_list, xor_list, and_list, part, MadeOf, xor_lists}
use Rattle.grammar.specs.Grammar.{and_lists, parts, Operator, and_sign, nand_sign, xor_sign, or_sign, nor_sign, most_open, Reads, alone, joined}
use Rattle.grammar.specs.Grammar.{named, negated, grouped, Formula}
use Rattle.grammar.specs.Machine.{State, want, had, banged, digits, dead, tens, may_be, is_digit, to_come, in_number, closes, step}
use Rattle.grammar.proofs.Machines.{run}
use Rattle.grammar.proofs.Complete.{may_be_lem}

-- after this text a thing of this level is wanted, inside d parentheses
data Wanted : Level → ℕ → List ℕ → Type 0 where
  outer : Wanted or_list 0 []
  inner : {d : ℕ} {a : List ℕ} (m : ℕ) → d < most_open → Wanted part d a → Wanted or_list (suc d) (a ++ (spaces m ++ (opening ∷ [])))
  first : {list item : Level} {d : ℕ} {a : List ℕ} → MadeOf list item → Wanted list d a → Wanted item d a
  later :
      {list item : Level} {d o : ℕ} {a v s : List ℕ} {t : Expr} → MadeOf list item → Wanted list d a → Reads d list v t → Operator list o s →
      Wanted item d (a ++ (v ++ s))
  negates : {d : ℕ} {a : List ℕ} (m : ℕ) → Wanted part d a → Wanted part d (a ++ (spaces m ++ (bang ∷ [])))

-- it was wanted, and is had
data Had : Level → ℕ → List ℕ → Type 0 where
  it : {l : Level} {d : ℕ} {a w : List ℕ} {t : Expr} → Wanted l d a → Reads d l w t → Had l d (a ++ w)

-- nothing is made of or-lists
depth : Level → ℕ
depth or_list = 0
depth xor_list = 1
depth and_list = 2
depth part = 3

deeper : {list item : Level} → MadeOf list item → depth item ≡ suc (depth list)
unfolding depth
deeper xor_lists = refl
deeper and_lists = refl
deeper parts = refl

no_list_of : {list : Level} → MadeOf list or_list → ⊥
unfolding depth
no_list_of c = omega (arith, deeper c)

-- a part that is had ends an and-list, this an xor-list, this an or-list
and_by : {d : ℕ} {a w : List ℕ} {t : Expr} → Wanted part d a → Reads d part w t → Had and_list d (a ++ w)
and_by (first parts c) x = it c (alone parts x)
and_by (later parts c l o) x = simp append_assoc (it c (joined parts l o x))
and_by (negates m c) x = simp append_assoc (and_by c (negated m x))

xor_by : {d : ℕ} {a w : List ℕ} {t : Expr} → Wanted and_list d a → Reads d and_list w t → Had xor_list d (a ++ w)
xor_by (first and_lists c) x = it c (alone and_lists x)
xor_by (later and_lists c l o) x = simp append_assoc (it c (joined and_lists l o x))

or_by : {d : ℕ} {a w : List ℕ} {t : Expr} → Wanted xor_list d a → Reads d xor_list w t → Had or_list d (a ++ w)
or_by (first xor_lists c) x = it c (alone xor_lists x)
or_by (later xor_lists c l o) x = simp append_assoc (it c (joined xor_lists l o x))

had_and : {d : ℕ} {u : List ℕ} → Had part d u → Had and_list d u
had_and (it c x) = and_by c x

had_xor : {d : ℕ} {u : List ℕ} → Had part d u → Had xor_list d u
had_xor h = go (had_and h)
  where
    go : {d : ℕ} {u : List ℕ} → Had and_list d u → Had xor_list d u
    go (it c x) = xor_by c x

had_or : {d : ℕ} {u : List ℕ} → Had part d u → Had or_list d u
had_or h = go (had_xor h)
  where
    go : {d : ℕ} {u : List ℕ} → Had xor_list d u → Had or_list d u
    go (it c x) = or_by c x

after : {list item : Level} {d o : ℕ} {u s : List ℕ} → MadeOf list item → Had list d u → Operator list o s → Wanted item d (u ++ s)
after c (it w x) o = simp append_assoc (later c w x o)

close_by : {d : ℕ} {a w : List ℕ} {t : Expr} → Wanted or_list (suc d) a → Reads (suc d) or_list w t → Had part d ((a ++ w) ++ (closing ∷ []))
close_by (inner m h c) x = simp append_assoc (it c (grouped m 0 h x))
close_by (first o c) x = absurd (no_list_of o)
close_by (later o c y s) x = absurd (no_list_of o)

closed : {d : ℕ} {u : List ℕ} → Had or_list (suc d) u → Had part d (u ++ (closing ∷ []))
closed (it c x) = close_by c x

spaces_on : (n : ℕ) → spaces n ++ (space ∷ []) ≡ spaces (suc n)
spaces_on zero = refl
spaces_on (suc n) = ap (λ (l : List ℕ). space ∷ l) (spaces_on n)

-- a space may follow what is had
wider : {d : ℕ} {l : Level} {w : List ℕ} {t : Expr} → Reads d l w t → Reads d l (w ++ (space ∷ [])) t
wider (alone c x) = alone c (wider x)
wider (joined c x o y) = simp append_assoc (joined c x o (wider y))
wider (named m n x) = simp append_assoc (rw (spaces_on n) (named m (suc n) x))
wider (negated m x) = simp append_assoc (negated m (wider x))
wider (grouped m n h x) = simp append_assoc (rw (spaces_on n) (grouped m (suc n) h x))

had_space : {d : ℕ} {u : List ℕ} → Had part d u → Had part d (u ++ (space ∷ []))
had_space (it c x) = simp append_assoc (it c (wider x))

-- where a part is wanted, spaces may stand before it
data Open (d : ℕ) : List ℕ → Type 0 where
  spaced : {a : List ℕ} (m : ℕ) → Wanted part d a → Open d (a ++ spaces m)

opened : {d : ℕ} {a : List ℕ} → Wanted part d a → Open d a
opened {d} {a} c = rw (append-nil a) at (spaced 0 c)

-- the part's own beginning: to an or-list of one xor-list of one and-list
wants_part : {d : ℕ} {a : List ℕ} → Wanted or_list d a → Open d a
wants_part c = opened (first parts (first and_lists (first xor_lists c)))

data Banged (d : ℕ) : List ℕ → Type 0 where
  behind : {u : List ℕ} → Had part d u → Banged d (u ++ (bang ∷ []))

data Some (w : List ℕ) : Type 0 where
  some : {b : Bit} → Name w b → Some w

some_I : (v : ℕ) (z : List ℕ) → Decimal 2 v z → 1 ≤ v → v ≤ 32 → Some (letter_i ∷ z)
some_I v z x l h =
    let e : v ≡ (v - 1) + 1 = omega arith in
    some (name_I {n = v - 1} (omega arith) (rw e at x))

some_B : (v : ℕ) (z : List ℕ) → Decimal 3 v z → 0 ≤ v → v ≤ 199 → Some (letter_b ∷ z)
some_B v z x l h = some (name_B {n = v} (omega arith) x)

-- in a name: its first digits, and that the whole number makes it a name
data Naming (k n least most d : ℕ) : List ℕ → Type 0 where
  naming :
      {j : ℕ} {a w : List ℕ} (m letter : ℕ) → Wanted part d a → Decimal j n w →
      ((v : ℕ) (z : List ℕ) → Decimal (j + suc k) v z → least ≤ v → v ≤ most → Some (letter ∷ z)) →
      Naming k n least most d (a ++ (spaces m ++ (letter ∷ w)))

-- what each state stands for, after a text
abbrev Means : State → List ℕ → Type 0
Means (want d) u = Open d u
Means (had d) u = Had part d u
Means (banged d) u = Banged d u
Means (digits k n least most d) u = Naming k n least most d u
Means dead u = Unit {0}

some_had : {d : ℕ} {a w : List ℕ} (m : ℕ) → Wanted part d a → Some w → Had part d (a ++ (spaces m ++ (w ++ [])))
some_had m c (some x) = it c (named m 0 x)

had_name : {d : ℕ} {a w : List ℕ} (m : ℕ) → Wanted part d a → Some w → Had part d (a ++ (spaces m ++ w))
had_name {a = a} {w = w} m c x = rw (append-nil w) at (some_had m c x)

close_step : (d : ℕ) {u : List ℕ} → Had part d u → Means (closes d) (u ++ (closing ∷ []))
unfolding closes
close_step zero h = tt
close_step (suc d) h = closed (had_or h)

module _ (d : ℕ) where
  step_want : (x : ℕ) {u : List ℕ} → Open d u → Means (step (want d) x) (u ++ (x ∷ []))
  unfolding step to_come
  step_want x (spaced {a} m c) =
      let P : State → Type 0 = λ st. Means st ((a ++ spaces m) ++ (x ∷ [])) in
      pick_case P (eqb x space) (λ e. rw (eqb-true x space e) (simp (append_assoc, spaces_on m) (spaced (suc m) c)))
      (λ _. pick_case P (eqb x bang) (λ e. rw (eqb-true x bang e) (simp append_assoc (opened (negates m c))))
      (λ _. pick_case P (eqb x opening)
      (λ e. pick_case P (ltb d most_open) (λ l. rw (eqb-true x opening e) (simp append_assoc (wants_part (inner m (ltb-true d most_open l) c)))) (λ _. tt))
      (λ _. pick_case P (eqb x (digit 0)) (λ e. rw (eqb-true x 48 e) (simp append_assoc (had_name m c (some name_0))))
      (λ _. pick_case P (eqb x (digit 1)) (λ e. rw (eqb-true x 49 e) (simp append_assoc (had_name m c (some name_1))))
      (λ _. pick_case P (eqb x letter_i)
      (λ e. rw (eqb-true x letter_i e) (simp append_assoc (naming m letter_i c no_digits some_I)))
      (λ _. pick_case P (eqb x letter_b)
      (λ e. rw (eqb-true x letter_b e) (simp append_assoc (naming m letter_b c no_digits some_B)))
      (λ _. tt)))))))

  step_had : (x : ℕ) {u : List ℕ} → Had part d u → Means (step (had d) x) (u ++ (x ∷ []))
  unfolding step
  step_had x {u} h =
      let P : State → Type 0 = λ st. Means st (u ++ (x ∷ [])) in
      pick_case P (eqb x space) (λ e. rw (eqb-true x space e) (had_space h))
      (λ _. pick_case P (eqb x bang) (λ e. rw (eqb-true x bang e) (behind h))
      (λ _. pick_case P (eqb x ampersand) (λ e. rw (eqb-true x ampersand e) (opened (after parts (had_and h) and_sign)))
      (λ _. pick_case P (eqb x caret) (λ e. rw (eqb-true x caret e) (opened (first parts (after and_lists (had_xor h) xor_sign))))
      (λ _. pick_case P (eqb x bar) (λ e. rw (eqb-true x bar e) (opened (first parts (first and_lists (after xor_lists (had_or h) or_sign)))))
      (λ _. pick_case P (eqb x closing) (λ e. rw (eqb-true x closing e) (close_step d h)) (λ _. tt))))))

  step_banged : (x : ℕ) {u : List ℕ} → Banged d u → Means (step (banged d) x) (u ++ (x ∷ []))
  unfolding step
  step_banged x (behind {u} h) =
      let P : State → Type 0 = λ st. Means st ((u ++ (bang ∷ [])) ++ (x ∷ [])) in
      pick_case P (eqb x ampersand) (λ e. rw (eqb-true x ampersand e) (simp append_assoc (opened (after parts (had_and h) nand_sign))))
      (λ _. pick_case P (eqb x bar)
      (λ e. rw (eqb-true x bar e) (simp append_assoc (opened (first parts (first and_lists (after xor_lists (had_or h) nor_sign))))))
      (λ _. tt))

  -- one digit more
  grown :
      (k n v least most : ℕ) {u : List ℕ} → Naming k n least most d u → v < 10 → may_be least most k (10 * n + v) ≡ true →
      Means (to_come k (10 * n + v) least most d) (u ++ (digit v ∷ []))
  unfolding to_come tens
  grown zero n v least most (naming {j} {a} {w} m letter c x f) h e =
      let o = may_be_lem least most 0 (10 * n + v) e in
      let i : suc j ≡ j + 1 = omega arith in
      simp append_assoc (had_name m c (f (10 * n + v) (w ++ (digit v ∷ [])) (rw i at (one_more v h x)) (omega arith) (omega arith)))
  grown (suc k) n v least most (naming {j} {a} {w} m letter c x f) h e =
      let i : suc j + suc k ≡ j + suc (suc k) = omega arith in
      simp append_assoc (naming m letter c (one_more v h x) (λ v z y l g. f v z (rw i at y) l g))

  step_digits : (k n least most x : ℕ) {u : List ℕ} → Naming k n least most d u → Means (step (digits k n least most d) x) (u ++ (x ∷ []))
  unfolding step in_number is_digit
  step_digits k n least most x {u} c =
      let P : State → Type 0 = λ st. Means st (u ++ (x ∷ [])) in
      pick_case P (is_digit x && may_be least most k (10 * n + (x - 48)))
      (λ e. let o = both (is_digit x) (may_be least most k (10 * n + (x - 48))) e in
      let q = both (leb 48 x) (leb x 57) o.0 in
      let l = leb-true 48 x q.0 in
      let h = leb-true x 57 q.1 in
      let b : 48 + (x - 48) ≡ x = omega arith in
      rw b at (grown k n (x - 48) least most c (omega arith) o.1))
      (λ _. tt)

keeps : (st : State) (x : ℕ) (u : List ℕ) → Means st u → Means (step st x) (u ++ (x ∷ []))
unfolding step
keeps (want d) x u h = step_want d x h
keeps (had d) x u h = step_had d x h
keeps (banged d) x u h = step_banged d x h
keeps (digits k n least most d) x u h = step_digits d k n least most x h
keeps dead x u h = tt

keeps_on : (st : State) (u xs : List ℕ) → Means st u → Means (run step st xs) (u ++ xs)
unfolding run
keeps_on st u [] h = rw (append-nil u) h
keeps_on st u (x ∷ xs) h = rw (append_assoc u (x ∷ []) xs) at (keeps_on (step st x) (u ++ (x ∷ [])) xs (keeps st x u h))

pub data Good (s : List ℕ) : Type 0 where
  reading : (t : Expr) → Formula s t → Good s

all_had : {u : List ℕ} → Had or_list 0 u → Good u
all_had (it c x) = go c x
  where
    go : {a w : List ℕ} {t : Expr} → Wanted or_list 0 a → Reads 0 or_list w t → Good (a ++ w)
    go outer x = reading _ x
    go (first o c) x = absurd (no_list_of o)
    go (later o c y s) x = absurd (no_list_of o)

pub sound : (s : List ℕ) → run step (want 0) s ≡ had 0 → Good s
sound s e =
    all_had (had_or (subst (λ (st : State). Means st s) e (keeps_on (want 0) [] s (wants_part outer))))
