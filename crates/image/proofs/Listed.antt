-- Laws of a list given by its elements' numbers: how long it is, what stands in it, and tests of all of it. Assumes nothing.
use mathlib.Core.Path.{◌≡◌, refl, sym, ap, ap₂, ◌∙◌}
use mathlib.Core.Bool.{Bool, true, false, ◌&&◌}
use mathlib.Core.List.{List, [], ◌∷◌, ◌++◌, map}
use Prim.Native.Nat.{ℕ, zero, suc, ◌+◌, ◌<◌}
use native.Mathlib.Nat.{add-zero, le_of_suc-le-suc, not-suc-le-zero}
use native.Mathlib.Omega.{arith}
use lib.ListN.{length, get_or, drop}
use Rattle.terms.specs.Choice.{every}
use Rattle.image.specs.Image.{listed}

pub listed_long : {A : Type 0} (n i : ℕ) (f : ℕ → A) → length (listed n i f) ≡ n
unfolding listed
listed_long zero i f = refl
listed_long (suc n) i f = ap suc (listed_long n (suc i) f)

pub listed_at : {A : Type 0} (n i : ℕ) (f : ℕ → A) (k : ℕ) (d : A) → k < n → get_or (listed n i f) k d ≡ f (i + k)
unfolding listed
listed_at zero i f k d h = absurd (not-suc-le-zero h)
listed_at (suc n) i f zero d h = rw add-zero
listed_at (suc n) i f (suc k) d h =
    let e : i + suc k ≡ suc i + k = omega arith in
    rw e (listed_at n (suc i) f k d (le_of_suc-le-suc h))

pub map_listed : {A B : Type 0} (g : A → B) (n i : ℕ) (f : ℕ → A) → map g (listed n i f) ≡ listed n i (λ k. g (f k))
unfolding listed
map_listed g zero i f = refl
map_listed g (suc n) i f = ap (λ (l : List _). g (f i) ∷ l) (map_listed g n (suc i) f)

-- the numbers may start one lower
listed_lower : {A : Type 0} (n i : ℕ) (f : ℕ → A) → listed n (suc i) f ≡ listed n i (λ k. f (suc k))
unfolding listed
listed_lower zero i f = refl
listed_lower (suc n) i f = ap (λ (l : List _). f (suc i) ∷ l) (listed_lower n (suc i) f)

pub listed_whole : {A : Type 0} (xs : List A) (d : A) → listed (length xs) 0 (λ k. get_or xs k d) ≡ xs
unfolding listed
listed_whole [] d = refl
listed_whole (x ∷ xs) d =
    ap (λ (l : List _). x ∷ l) (listed_lower (length xs) 0 (λ k. get_or (x ∷ xs) k d) ∙ listed_whole xs d)

-- the same, where so many are known to be there
pub listed_all : {A : Type 0} (n : ℕ) (xs : List A) (d : A) → length xs ≡ n → listed n 0 (λ k. get_or xs k d) ≡ xs
listed_all n xs d e = ap (λ (m : ℕ). listed m 0 (λ k. get_or xs k d)) (sym e) ∙ listed_whole xs d

-- what has the same elements is the same list
pub listed_same : {A : Type 0} (n i : ℕ) (f g : ℕ → A) → ((k : ℕ) → f k ≡ g k) → listed n i f ≡ listed n i g
unfolding listed
listed_same zero i f g h = refl
listed_same (suc n) i f g h = ap₂ (λ (x : _) (l : List _). x ∷ l) (h i) (listed_same n (suc i) f g h)

-- one more at the end
pub listed_more : {A : Type 0} (n i : ℕ) (f : ℕ → A) → listed (suc n) i f ≡ listed n i f ++ f (i + n) ∷ []
unfolding listed
listed_more zero i f = rw add-zero
listed_more (suc n) i f =
    let e : i + suc n ≡ suc i + n = omega arith in
    ap (λ (l : List _). f i ∷ l) (rw e (listed_more n (suc i) f))

-- four tests, by twos either way
crossed : (a b c d : Bool) → (a && b && (c && d)) ≡ (a && c && (b && d))
crossed true true c d = refl
crossed true false true d = refl
crossed true false false d = refl
crossed false b c d = refl

-- a test of every element: of two tests at once, and of an image
pub every_both : {A : Type 0} (s t : A → Bool) (l : List A) → every (λ x. s x && t x) l ≡ (every s l && every t l)
every_both s t [] = refl
every_both s t (x ∷ l) = ap (λ (b : Bool). s x && t x && b) (every_both s t l) ∙ crossed (s x) (t x) (every s l) (every t l)

pub every_map : {A B : Type 0} (t : B → Bool) (g : A → B) (l : List A) → every t (map g l) ≡ every (λ x. t (g x)) l
every_map t g [] = refl
every_map t g (x ∷ l) = ap (λ (b : Bool). t (g x) && b) (every_map t g l)

-- of what is left of a list, by the test of its column
drop_map : {A B : Type 0} (g : A → B) (n : ℕ) (l : List A) → drop n (map g l) ≡ map g (drop n l)
drop_map g zero l = refl
drop_map g (suc n) [] = refl
drop_map g (suc n) (x ∷ l) = drop_map g n l

pub every_column : {A B : Type 0} (t : B → Bool) (g : A → B) (n : ℕ) (l : List A) → every (λ x. t (g x)) (drop n l) ≡ every t (drop n (map g l))
every_column t g n l = sym (every_map t g (drop n l)) ∙ ap (every t) (sym (drop_map g n l))
