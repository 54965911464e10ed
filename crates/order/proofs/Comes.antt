-- What a reading comes to, told by the numbers: good ones up to where it ends, or up to the one at which it halts. One law puts two readings after
-- one another. Assumes nothing.
use Prim.Native.Nat.{ℕ, ◌+◌}
use mathlib.Core.Path.{◌≡◌, refl, sym, ◌∙◌}
use mathlib.Core.Bool.{Bool, true, false}
use mathlib.Core.List.{List, [], ◌∷◌, ◌++◌, append_assoc}
use native.Mathlib.Nat.{zero-add, add_assoc}
use Rattle.terms.specs.Choice.{every}
use Rattle.terms.specs.Refusals.{astray}
use Rattle.terms.proofs.Every.{every_append}
use Rattle.wire.specs.Reading.{Read, got, fault, and_then}
use Rattle.numbers.specs.Types.{allowed}
use Rattle.numbers.specs.Reading.{Marks, marked}
use Rattle.order.specs.Order.{Expected, type_of, Item, Spot, goes, stops, turn_at}
use Rattle.order.specs.Acceptance.{value_of, kinds_by, memory_by, figure_by, kinds_in, memory_in, figure_in}
use Rattle.order.proofs.Passes.{Passes, here, joined}
use Rattle.order.proofs.Rows.{refusal_of}

-- the kinds, the memory and the step figure that numbers say
pub record Weighs (l : List Item) (ks : List ℕ) (m f : ℕ) : Type 0 where
  pub kinds : kinds_in l ≡ ks
  pub memory : memory_in l ≡ m
  pub figure : figure_in l ≡ f

pub weighs_none : Weighs [] [] 0 0
weighs_none = record { kinds = refl; memory = refl; figure = refl }

kinds_join : (l k : List Item) → kinds_in (l ++ k) ≡ kinds_in l ++ kinds_in k
kinds_join [] k = refl
kinds_join (i ∷ l) k = rw (kinds_join l k) (sym (append_assoc (kinds_by i.expected (value_of i.found)) (kinds_in l) (kinds_in k)))

memory_join : (l k : List Item) → memory_in (l ++ k) ≡ memory_in l + memory_in k
memory_join [] k = sym (zero-add (memory_in k))
memory_join (i ∷ l) k = rw (memory_join l k) (sym (add_assoc (memory_by i.expected (value_of i.found)) (memory_in l) (memory_in k)))

figure_join : (l k : List Item) → figure_in (l ++ k) ≡ figure_in l + figure_in k
figure_join [] k = sym (zero-add (figure_in k))
figure_join (i ∷ l) k = rw (figure_join l k) (sym (add_assoc (figure_by i.expected (value_of i.found)) (figure_in l) (figure_in k)))

pub weighs_join : {l k : List Item} {ks js : List ℕ} {m n f g : ℕ} → Weighs l ks m f → Weighs k js n g → Weighs (l ++ k) (ks ++ js) (m + n) (f + g)
weighs_join {l} {k} v w =
    record {
      kinds = rw (kinds_join l k, v.kinds, w.kinds);
      memory = rw (memory_join l k, v.memory, w.memory);
      figure = rw (figure_join l k, v.figure, w.figure);
    }

module _ (m : Marks) (s : List ℕ) where
  abbrev pub marks : Item → Bool
  marks i = marked m (type_of i.expected) (value_of i.found)

  -- good numbers from p to q, of which every reference is marked
  pub record Way (p : Spot) (l : List Item) (q : Spot) : Type 0 where
    pub passes : Passes s p l q
    pub there : every marks l ≡ true

  -- a reading halts at a number that is wrong; at a reference that is not marked; or, by marks, at a wrong node that is one
  pub data Halts (p : Spot) (n at : ℕ) : Type 0 where
    at_wrong : {i : Item} → turn_at s p ≡ stops i → refusal_of i.found ≡ n → i.place ≡ at → Halts p n at
    at_astray :
        {i : Item} {q : Spot} (ty b v : ℕ) → allowed ty b v ≡ true → marked m ty v ≡ false →
        turn_at s p ≡ goes i q → marks i ≡ false → n ≡ astray → i.place ≡ at → Halts p n at
    at_both : {i : Item} (ty b v : ℕ) → allowed ty b v ≡ true → marked m ty v ≡ false → turn_at s p ≡ stops i → n ≡ astray → Halts p n at

  -- what a reading from p comes to, where `rest` is expected after what it reads, and W says what the numbers are to that
  pub data Comes {A : Type 0} (p : Spot) (rest : A → List Expected) (W : A → List Item → Spot → Type 0) : Read A → Type 0 where
    reads : {a : A} {next : ℕ} (l : List Item) (q : Spot) → Way p l q → q.expects ≡ rest a → q.at ≡ next → W a l q → Comes p rest W (got a next)
    halts : {n at : ℕ} (l : List Item) (q : Spot) → Way p l q → Halts q n at → Comes p rest W (fault n at)

  pub nowhere : {p : Spot} → Way p [] p
  nowhere = record { passes = here; there = refl }

  ways : {p q r : Spot} {l k : List Item} → Way p l q → Way q k r → Way p (l ++ k) r
  ways {l = l} {k = k} a b =
      record { passes = joined s a.passes b.passes; there = every_append marks l k a.there b.there }

  module _ {B : Type 0} {p q : Spot} {l : List Item} (a : Way p l q) (rest : B → List Expected) (W : B → List Item → Spot → Type 0) where
    pub come_on : (r : Read B) → Comes q rest (λ b k o. W b (l ++ k) o) r → Comes p rest W r
    come_on (got b next) (reads k o w e h v) = reads (l ++ k) o (ways a w) e h v
    come_on (fault n at) (halts k o w h) = halts (l ++ k) o (ways a w) h

  -- one reading after another
  pub come_then :
      {A B : Type 0} {p : Spot} {rest : A → List Expected} {U : A → List Item → Spot → Type 0}
      (more : B → List Expected) (W : B → List Item → Spot → Type 0) (r : Read A) (f : A → ℕ → Read B) → Comes p rest U r →
      ((a : A) (l : List Item) (q : Spot) → q.expects ≡ rest a → U a l q → Comes q more (λ b k o. W b (l ++ k) o) (f a q.at)) →
      Comes p more W (and_then r f)
  come_then more W (got a next) f (reads l q w e h v) g = come_on w more W (f a next) (rw (sym h) (g a l q e v))
  come_then more W (fault n at) f (halts l q w h) g = halts l q w h

  -- a reading whose value is made into another
  pub come_map :
      {A B : Type 0} {p : Spot} {rest : A → List Expected} {U : A → List Item → Spot → Type 0}
      (more : B → List Expected) (W : B → List Item → Spot → Type 0) (c : A → B) (r : Read A) → Comes p rest U r →
      ((a : A) (l : List Item) (q : Spot) → U a l q → W (c a) l q) → ((a : A) → more (c a) ≡ rest a) →
      Comes p more W (and_then r (λ a n. got (c a) n))
  come_map more W c (got a next) (reads l q w e h v) g k = reads l q w (e ∙ sym (k a)) h (g a l q v)
  come_map more W c (fault n at) (halts l q w h) g k = halts l q w h

  -- a reading of which more is said
  pub come_more :
      {A : Type 0} {p : Spot} {rest : A → List Expected} {U W : A → List Item → Spot → Type 0}
      (r : Read A) → Comes p rest U r → ((a : A) (l : List Item) (q : Spot) → U a l q → W a l q) → Comes p rest W r
  come_more (got a next) (reads l q w e h v) g = reads l q w e h (g a l q v)
  come_more (fault n at) (halts l q w h) g = halts l q w h
