-- Values that are put as the numbers that they convert to, one after the other (ours).
use Rattle.std.specs.Prelude.{ℕ, List, [], ◌∷◌}
use Rattle.filling.specs.Filling.{Put}
use Rattle.writing.specs.Expressions.{bytes_of}

-- each value converts to the number at its place
abbrev pub Each : {A : Type 0} → (A → ℕ → Type 0) → List A → List ℕ → Type 0
Each converts [] [] = Unit {0}
Each converts [] (n ∷ ns) = ⊥
Each converts (x ∷ xs) [] = ⊥
Each converts (x ∷ xs) (n ∷ ns) = converts x n × Each converts xs ns

-- the numbers of xs were written over l from a place on, which made it m; next is the place after them
pub record PutEach {A : Type 0} (converts : A → ℕ → Type 0) (xs : List A) (l : List ℕ) (at : ℕ) (m : List ℕ) (next : ℕ) : Type 0 where
  pub numbers : List ℕ
  pub each : Each converts xs numbers
  pub put : Put (bytes_of numbers) l at m next
