-- Laws of text that is put: after another text it joins it, and the buffer's length stays. Assumes nothing.
use Prim.Native.Nat.{ℕ, ◌+◌}
use mathlib.Core.Path.{◌≡◌, refl, ap, ◌∙◌}
use mathlib.Core.List.{List, [], ◌∷◌, ◌++◌, append_assoc}
use native.Mathlib.Numerals.{add-one}
use native.Mathlib.Omega.{arith}
use lib.ListN.{length, set, length-append}
use lib.Seq.{length-sets}
use Rattle.terms.proofs.Sets.{sets_append}
use Rattle.filling.specs.Filling.{Put}

-- nothing put
pub put_none : (l : List ℕ) (i : ℕ) → Put [] l i l i
put_none l i = record { bytes = refl; place = omega arith }

-- a text put right after another
module _ {xs ys l : List ℕ} {i : ℕ} {m : List ℕ} {j : ℕ} {n : List ℕ} {k : ℕ} where
  pub put_then : Put xs l i m j → Put ys m j n k → Put (xs ++ ys) l i n k
  put_then p q =
      record {
        bytes = q.bytes ∙ rw (p.bytes, p.place) (sets_append xs l ys i);
        place = simp length-append (omega (arith, p.place, q.place));
      }

-- the same, where the first text ends in a byte
pub put_ended :
    (xs : List ℕ) (e : ℕ) {ys l : List ℕ} {i : ℕ} {m : List ℕ} {j : ℕ} {n : List ℕ} {k : ℕ} →
    Put (xs ++ (e ∷ [])) l i m j → Put ys m j n k → Put (xs ++ (e ∷ ys)) l i n k
put_ended xs e {ys} p q = rw (append_assoc xs (e ∷ []) ys) at (put_then p q)

-- a text put right after a byte
pub put_behind :
    {x : ℕ} {xs l : List ℕ} {i : ℕ} {m n : List ℕ} {k : ℕ} → m ≡ set l i x → Put xs m (i + 1) n k → Put (x ∷ xs) l i n k
put_behind {xs = xs} {i = i} e q =
    record { bytes = q.bytes ∙ rw (e, add-one i); place = omega (arith, q.place) }

pub put_length : {xs l : List ℕ} {i : ℕ} {m : List ℕ} {j : ℕ} → Put xs l i m j → length m ≡ length l
put_length {xs} {l} {i} p = ap length p.bytes ∙ length-sets l i xs

-- a byte put right after a text
pub put_last :
    (b : ℕ) {xs l : List ℕ} {i : ℕ} {m : List ℕ} {j : ℕ} {n : List ℕ} →
    Put xs l i m j → n ≡ set m j b → Put (xs ++ (b ∷ [])) l i n (j + 1)
put_last b p e = put_then p (record { bytes = e; place = omega arith })
