-- Text put piece by piece: what is left to put, put from a place on, makes the whole. Assumes nothing.
use Prim.Native.Nat.{ℕ, ◌+◌}
use mathlib.Core.Path.{◌≡◌, refl, sym}
use mathlib.Core.List.{List, [], ◌∷◌, ◌++◌}
use native.Mathlib.Nat.{add-zero}
use lib.ListN.{set}
use Rattle.filling.specs.Filling.{Put}
use Rattle.filling.proofs.Puts.{put_then}

pub record Rest (rest m : List ℕ) (p : ℕ) (whole l : List ℕ) (at : ℕ) : Type 0 where
  pub ends : {n : List ℕ} {next : ℕ} → Put rest m p n next → Put whole l at n next

pub nothing_put : {l : List ℕ} {at : ℕ} → Put [] l at l at
nothing_put {l} {at} = record { bytes = refl; place = sym (add-zero at) }

pub byte_put : {l m : List ℕ} {at b : ℕ} → m ≡ set l at b → Put (b ∷ []) l at m (at + 1)
byte_put e = record { bytes = e; place = refl }

pub rest_all : {whole l : List ℕ} {at : ℕ} → Rest whole l at whole l at
rest_all = record { ends = λ q. q }

module _ {whole l : List ℕ} {at : ℕ} where
  pub rest_then : {xs ys m n : List ℕ} {p next : ℕ} → Rest (xs ++ ys) m p whole l at → Put xs m p n next → Rest ys n next whole l at
  rest_then r q = record { ends = λ s. r.ends (put_then q s) }

  pub rest_none : {m : List ℕ} {p : ℕ} → Rest [] m p whole l at → Put whole l at m p
  rest_none r = r.ends nothing_put

  pub rest_byte : {b : ℕ} {ys m n : List ℕ} {p : ℕ} → Rest (b ∷ ys) m p whole l at → n ≡ set m p b → Rest ys n (p + 1) whole l at
  rest_byte {b} r e = rest_then {xs = b ∷ []} r (byte_put e)
