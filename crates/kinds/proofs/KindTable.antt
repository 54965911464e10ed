-- The table of kinds: what holds of each of its rows, by one test of the table. Assumes nothing.
use mathlib.Core.Path.{◌≡◌, refl}
use mathlib.Core.Bool.{Bool, true, false, not, ◌||◌}
use mathlib.Core.List.{[]}
use Prim.Native.Nat.{ℕ, ◌<◌, ◌≤◌}
use native.Mathlib.Omega.{arith}
use lib.Dec.{T, eqb, ltb, leb, ltb→lt, leb→le}
use lib.ListN.{length, get_or}
use borrow.Author.Tests.{ne_eqb}
use Rattle.numbers.specs.Types.{number_types, kind_count}
use Rattle.kinds.specs.Kinds.{nothing, Kind, kind, kinds, kind_of, types_of}
use Rattle.terms.proofs.Table.{every, at}

plain_type : ℕ → ℕ → Bool
plain_type i x = ltb x number_types

no_word : (b : Bool) → T (not b) → false ≡ b
no_word true t = absurd t
no_word false t = refl

module _ (k : ℕ) (h : k < kind_count) where
  -- a test that each kind passes, at kind k
  passes : (f : ℕ → Kind → Bool) → T (every f (kind [] 0 false) 0 kinds) → T (f k (kind_of k))
  unfolding kind_of
  passes f t = at f (kind [] 0 false) kinds t k h

  pub types_few : length (types_of k) ≤ 5
  types_few = leb→le _ _ (passes (λ k r. leb (length r.types) 5) tt)

  -- no kind but BL has an expression
  pub type_plain : 0 < k → (i : ℕ) → i < length (types_of k) → get_or (types_of k) i nothing < number_types
  unfolding plain_type
  type_plain p i l =
      let t : T (eqb k 0 || every plain_type nothing 0 (types_of k)) = passes (λ k r. eqb k 0 || every plain_type nothing 0 r.types) tt in
      let u : T (every plain_type nothing 0 (types_of k)) = rw (ne_eqb k 0 (λ z. omega arith)) at t in
      ltb→lt _ _ (at plain_type nothing (types_of k) u i l)

  pub memory_light : (kind_of k).memory < 23
  memory_light = ltb→lt _ _ (passes (λ k r. ltb r.memory 23) tt)

  -- only CN, UD and OG have a word
  pub wordless : (k ≡ 7 → ⊥) → (k ≡ 8 → ⊥) → (k ≡ 10 → ⊥) → false ≡ (kind_of k).has_word
  wordless a b c =
      let t : T (eqb k 7 || (eqb k 8 || (eqb k 10 || not (kind_of k).has_word))) = passes (λ k r. eqb k 7 || (eqb k 8 || (eqb k 10 || not r.has_word))) tt in
      no_word (kind_of k).has_word (rw (ne_eqb k 7 a, ne_eqb k 8 b, ne_eqb k 10 c) at t)
