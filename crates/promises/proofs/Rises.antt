-- The rises that the journal sees in two alarm words are those of the bits that the words were packed from. Assumes nothing.
use mathlib.Core.Path.{◌≡◌, refl, sym, ap, ◌∙◌}
use mathlib.Core.Bool.{Bool, true, false}
use mathlib.Core.List.{List, [], ◌∷◌}
use Prim.Native.Nat.{ℕ, zero, suc, ◌+◌, ◌*◌, ◌/◌, ◌%◌, ◌^◌, ◌≤◌}
use native.Mathlib.Omega.{arith}
use native.Mathlib.Nat.{zero-div, div-one}
use lib.Dec.{eqb, ltb}
use lib.Pow.{shr-shr}
use lib.ListN.{length, get_or, drop, drop_of_length-le, get_or-eq_default}
use lib.Seq.{drop-cons}
use borrow.Author.Tests.{ltb-true, ltb-false}
use Rattle.terms.specs.Choice.{pick}
use Rattle.terms.specs.Bits.{packed, bit_of}
use Rattle.journal.specs.Journal.{rises_from}
use Rattle.journal.proofs.Bits.{uniq}
use Rattle.promises.specs.History.{rises_at}

-- a bit before a word
halved : (b : Bool) (w : ℕ) → ((pick b 1 0 + 2 * w) / 2 ≡ w) × ((pick b 1 0 + 2 * w) % 2 ≡ pick b 1 0)
halved true w = uniq w 1 (1 + 2 * w) (omega arith) (omega arith)
halved false w = uniq w 0 (0 + 2 * w) (omega arith) (omega arith)

one_or_none : (b : Bool) → eqb (pick b 1 0) 1 ≡ b
one_or_none true = refl
one_or_none false = refl

pub bit_packed : (bs : List Bool) (k : ℕ) → bit_of (packed bs) k ≡ get_or bs k false
bit_packed [] k = rw (zero-div (2 ^ k))
bit_packed (b ∷ bs) zero = rw (div-one (pick b 1 0 + 2 * packed bs), (halved b (packed bs)).1) (one_or_none b)
bit_packed (b ∷ bs) (suc k) =
    let one : 1 + k ≡ suc k = omega arith in
    let e : (pick b 1 0 + 2 * packed bs) / 2 ^ suc k ≡ packed bs / 2 ^ k =
    sym (shr-shr (pick b 1 0 + 2 * packed bs) 1 k ∙ ap (λ (n : ℕ). (pick b 1 0 + 2 * packed bs) / 2 ^ n) one)
    ∙ ap (λ (n : ℕ). n / 2 ^ k) (halved b (packed bs)).0 in
    rw e (bit_packed bs k)

module _ (last now : List Bool) where
  pub rises_from_lem : (n k : ℕ) → length now ≤ k + n → rises_from n k (packed now) (packed last) ≡ rises_at k last (drop k now)
  unfolding rises_from rises_at
  rises_from_lem zero k h = rw (drop_of_length-le now {i = k} (omega arith))
  rises_from_lem (suc n) k h = go (rises_from_lem n (suc k) (omega arith)) (ltb k (length now)) refl
    where
      go : rises_from n (suc k) (packed now) (packed last) ≡ rises_at (suc k) last (drop (suc k) now) → (b : Bool) → ltb k (length now) ≡ b
          → rises_from (suc n) k (packed now) (packed last) ≡ rises_at k last (drop k now)
      go rest true e = rw (bit_packed now k, bit_packed last k, rest, drop-cons now k false (ltb-true k (length now) e))
      go rest false e =
          let l : length now ≤ k = ltb-false k (length now) e in
          rw (bit_packed now k, get_or-eq_default now false {n = k} l, rest, drop_of_length-le now {i = suc k} (omega arith), drop_of_length-le now {i = k} l)
