-- Values put as numbers one after the other: one more, and values that are numbers already. Assumes nothing.
use Prim.Native.Nat.{ℕ}
use mathlib.Core.Path.{◌≡◌, refl}
use mathlib.Core.List.{List, [], ◌∷◌, ◌++◌, append-nil}
use Rattle.wire.specs.Number.{groups_of}
use Rattle.writing.specs.Expressions.{bytes_of}
use Rattle.filling.specs.Filling.{Put}
use Rattle.filling.proofs.Puts.{put_then}
use Rattle.storing.specs.Each.{Each, PutEach}
use Rattle.storing.proofs.Rest.{nothing_put}
use Rattle.storing.proofs.Bytes.{bytes_append}

module _ {A : Type 0} (converts : A → ℕ → Type 0) where
  each_more : (xs : List A) (ns : List ℕ) (x : A) (n : ℕ) → Each converts xs ns → converts x n → Each converts (xs ++ (x ∷ [])) (ns ++ (n ∷ []))
  each_more [] [] x n e h = (h, tt)
  each_more [] (k ∷ ns) x n e h = absurd e
  each_more (y ∷ xs) [] x n e h = absurd e
  each_more (y ∷ xs) (k ∷ ns) x n e h = (e.0, each_more xs ns x n e.1 h)

  pub each_none : (l : List ℕ) (at : ℕ) → PutEach converts [] l at l at
  each_none l at = record { numbers = []; each = tt; put = nothing_put }

  pub each_then :
      (x : A) (n : ℕ) {xs : List A} {l : List ℕ} {at : ℕ} {m : List ℕ} {p : ℕ} {k : List ℕ} {next : ℕ} →
      PutEach converts xs l at m p → converts x n → Put (groups_of 3 n) m p k next → PutEach converts (xs ++ (x ∷ [])) l at k next
  each_then x n {xs} w h q =
      record {
        numbers = w.numbers ++ (n ∷ []);
        each = each_more xs w.numbers x n w.each h;
        put = rw (bytes_append w.numbers (n ∷ []), append-nil (groups_of 3 n)) (put_then w.put q);
      }

-- what converts to itself is put as it is
module _ {converts : ℕ → ℕ → Type 0} (itself : (x n : ℕ) → converts x n → n ≡ x) where
  same : (xs ns : List ℕ) → Each converts xs ns → ns ≡ xs
  same [] [] e = refl
  same [] (n ∷ ns) e = absurd e
  same (x ∷ xs) [] e = absurd e
  same (x ∷ xs) (n ∷ ns) e = rw (itself x n e.0, same xs ns e.1) refl

  pub put_same : {given xs l : List ℕ} {at : ℕ} {m : List ℕ} {next : ℕ} → PutEach converts given l at m next → given ≡ xs → Put (bytes_of xs) l at m next
  put_same {given} w e = rw e at (rw (same given w.numbers w.each) at w.put)
