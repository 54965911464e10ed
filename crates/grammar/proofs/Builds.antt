-- Every text has one reading or none: each reading is what one machine builds, byte by byte. Assumes nothing.
use Prim.Native.Nat.{ℕ, zero, suc, ◌+◌, ◌*◌, ◌-◌}
use mathlib.Core.Path.{◌≡◌, refl, sym, ap, ◌∙◌}
use mathlib.Core.List.{List, ◌∷◌}
use native.Mathlib.Omega.{arith}
use lib.Dec.{eqb}
use Rattle.terms.specs.Choice.{pick}
use Rattle.numbers.specs.Blocks.{Bit, off, on, input, output, Expr, ref, inv, gate}
use Rattle.grammar.specs.Grammar.{space, bang, ampersand, opening, closing, caret, bar, letter_i, digit, spaces, Decimal}
use Rattle.grammar.specs.Grammar.{Name, name_0, name_1, name_I, name_B, Level, or_list, xor_list, and_list, part, xor_lists, and_lists, parts}
use Rattle.grammar.specs.Grammar.{Operator, and_sign, nand_sign, xor_sign, or_sign, nor_sign, Reads, alone, joined, named, negated, grouped}
use Rattle.grammar.specs.Grammar.{Formula}
use Rattle.grammar.proofs.Machines.{run, Goes, ◌then◌, over_spaces, over_digits}

abbrev Turn : Type 0
Turn = Expr → Expr

-- what is to be done with a part, an and-list, an xor-list once they are read, in each pair of parentheses
data Stack : Type 0 where
  bottom : Stack
  under : Turn → Turn → Turn → Stack → Stack

data Builder : Type 0 where
  want : Turn → Turn → Turn → Stack → Builder
  had banged : Expr → Turn → Turn → Stack → Builder
  digits : ℕ → (ℕ → Bit) → ℕ → Turn → Turn → Turn → Stack → Builder
  lost : Builder

same : Turn
same e = e

closed : Expr → Stack → Builder
closed e bottom = lost
closed e (under f g h k) = had (f e) g h k

to_come : ℕ → (ℕ → Bit) → ℕ → Turn → Turn → Turn → Stack → Builder
to_come zero o n f g h k = had (f (ref (o n))) g h k
to_come (suc l) o n f g h k = digits l o n f g h k

step : Builder → ℕ → Builder
step (want f g h k) x =
    pick (eqb x space) (want f g h k)
    (pick (eqb x bang) (want (λ e. f (inv e)) g h k)
    (pick (eqb x opening) (want same same same (under f g h k))
    (pick (eqb x (digit 0)) (had (f (ref off)) g h k)
    (pick (eqb x (digit 1)) (had (f (ref on)) g h k)
    (pick (eqb x letter_i) (to_come 2 (λ n. input (n - 1)) 0 f g h k)
    (to_come 3 output 0 f g h k))))))
step (had v g h k) x =
    pick (eqb x space) (had v g h k)
    (pick (eqb x bang) (banged v g h k)
    (pick (eqb x ampersand) (want (gate 1 v) g h k)
    (pick (eqb x caret) (want same (gate 3 (g v)) h k)
    (pick (eqb x bar) (want same same (gate 2 (h (g v))) k)
    (closed (h (g v)) k)))))
step (banged v g h k) x = pick (eqb x ampersand) (want (gate 4 v) g h k) (want same same (gate 5 (h (g v))) k)
step (digits l o n f g h k) x = to_come l o (10 * n + (x - 48)) f g h k
step lost x = lost

tree : Builder → Expr
tree (want f g h k) = ref off
tree (had v g h k) = h (g v)
tree (banged v g h k) = ref off
tree (digits l o n f g h k) = ref off
tree lost = ref off

-- what a reading of each level does to the machine
abbrev Does : Level → List ℕ → Expr → Type 0
Does part w t = (f g h : Turn) (k : Stack) → Goes step (want f g h k) w (had (f t) g h k)
Does and_list w t = (g h : Turn) (k : Stack) → Goes step (want same g h k) w (had t g h k)
Does xor_list w t = (h : Turn) (k : Stack) → (v : Expr) × (g : Turn) × (g v ≡ t) × Goes step (want same same h k) w (had v g h k)
Does or_list w t = (k : Stack) → (v : Expr) × (g : Turn) × (h : Turn) × (h (g v) ≡ t) × Goes step (want same same same k) w (had v g h k)

module _ (f g h : Turn) (k : Stack) where
  spaces_want : (n : ℕ) → Goes step (want f g h k) (spaces n) (want f g h k)
  unfolding step
  spaces_want = over_spaces step (want f g h k) refl

  spaces_had : (v : Expr) (n : ℕ) → Goes step (had v g h k) (spaces n) (had v g h k)
  unfolding step
  spaces_had v = over_spaces step (had v g h k) refl

  one_on : (o : ℕ → Bit) (l n d : ℕ) → step (to_come (suc l) o n f g h k) (digit d) ≡ to_come l o (10 * n + d) f g h k
  unfolding step to_come
  one_on o l n d = let v : 10 * n + ((48 + d) - 48) ≡ 10 * n + d = omega arith in ap (λ (a : ℕ). to_come l o a f g h k) v

  number : (o : ℕ → Bit) {j n : ℕ} {w : List ℕ} → Decimal j n w → Goes step (to_come (j + 0) o 0 f g h k) w (to_come 0 o n f g h k)
  number o x = over_digits step (λ l n. to_come l o n f g h k) (λ l n. Unit {0}) (λ l n d h _. tt) (λ l n d h _. one_on o l n d) 0 x tt

  name : {w : List ℕ} {b : Bit} → Name w b → Goes step (want f g h k) w (had (f (ref b)) g h k)
  unfolding run step to_come
  name name_0 = record { there = refl }
  name name_1 = record { there = refl }
  name (name_I {n = n} _ x) =
      let v : n + 1 - 1 ≡ n = omega arith in
      record { there = (number (λ (m : ℕ). input (m - 1)) x).there ∙ ap (λ (a : ℕ). had (f (ref (input a))) g h k) v }
  name (name_B _ x) = record { there = (number output x).there }

op_and : {o : ℕ} {w : List ℕ} → Operator and_list o w → (v : Expr) (g h : Turn) (k : Stack) → Goes step (had v g h k) w (want (gate o v) g h k)
unfolding run step
op_and and_sign v g h k = record { there = refl }
op_and nand_sign v g h k = record { there = refl }

op_xor : {o : ℕ} {w : List ℕ} → Operator xor_list o w → (v : Expr) (g h : Turn) (k : Stack) → Goes step (had v g h k) w (want same (gate o (g v)) h k)
unfolding run step
op_xor xor_sign v g h k = record { there = refl }

op_or : {o : ℕ} {w : List ℕ} → Operator or_list o w → (v : Expr) (g h : Turn) (k : Stack) → Goes step (had v g h k) w (want same same (gate o (h (g v))) k)
unfolding run step
op_or or_sign v g h k = record { there = refl }
op_or nor_sign v g h k = record { there = refl }

does : {d : ℕ} {l : Level} {w : List ℕ} {t : Expr} → Reads d l w t → Does l w t
unfolding run step closed same
does (alone parts x) = λ g h k. does x same g h k
does (alone {t = t} and_lists x) = λ h k. (t, same, refl, does x same h k)
does (alone xor_lists x) = λ k. let r = does x same k in (r.0, r.1, same, r.2, r.3)
does (joined {o = o} {t = t} parts x y z) = λ g h k. does x g h k then op_and y t g h k then does z (gate o t) g h k
does (joined {o = o} {u = u} and_lists x y z) =
    λ h k. let r = does x h k in
    let g : Turn = gate o (r.1 r.0) in
    (u, g, ap (λ (a : Expr). gate o a u) r.2, r.3 then op_xor y r.0 r.1 h k then does z g h k)
does (joined {o = o} {u = u} xor_lists x y z) =
    λ k. let r = does x k in
    let h : Turn = gate o (r.2 (r.1 r.0)) in
    let q = does z h k in (
      q.0,
      q.1,
      h,
      ap (gate o (r.2 (r.1 r.0))) q.2 ∙ ap (λ (a : Expr). gate o a u) r.3,
      r.4 then (op_or y r.0 r.1 r.2 k then q.3),
    )
does (named {b = b} m n x) = λ f g h k. spaces_want f g h k m then name f g h k x then spaces_had f g h k (f (ref b)) n
does (negated m x) = λ f g h k. spaces_want f g h k m then record { there = (does x (λ e. f (inv e)) g h k).there }
does (grouped {w = w} {t = t} m n _ x) =
    λ f g h k. let r = does x (under f g h k) in
    let behind : Goes step (had r.0 r.1 r.2 (under f g h k)) (closing ∷ spaces n) (had (f t) g h k) =
    record { there = ap (λ (e : Expr). run step (had (f e) g h k) (spaces n)) r.3 ∙ (spaces_had f g h k (f t) n).there } in
    spaces_want f g h k m then record { there = (r.4 then behind).there }

built : {s : List ℕ} {t : Expr} → Formula s t → tree (run step (want same same same bottom) s) ≡ t
unfolding tree
built x = let r = does x bottom in ap tree r.4.there ∙ r.3

pub one_reading : (s : List ℕ) (t u : Expr) → Formula s t → Formula s u → t ≡ u
one_reading s t u x y = sym (built x) ∙ built y
