-- What is copied (ours): the first n places, over what stands in an array.
use Rattle.std.specs.Prelude.{List, ◌++◌, ℕ, take, drop, replicate}

-- the first n, and the others as they are in a second list
abbrev pub over : {A : Type 0} → ℕ → List A → List A → List A
over n new old = take n new ++ drop n old

-- the first n of 200, and zeros
abbrev pub first_of : {A : Type 0} → ℕ → A → List A → List A
first_of n d l = over n l (replicate 200 d)
