-- What holds of numbers, once over the number of groups k.
use Rattle.std.specs.Prelude.{ℕ, ◌+◌, ◌^◌, ◌<◌, ◌≤◌, ◌≡◌, ◌↔◌, List, [], ◌∷◌, length}
use Rattle.wire.specs.Number.{Got, Bad, Cut}
use Rattle.wire.specs.Number.{byte_at, groups_at, groups_of}

-- the bytes l stand in s at a place
abbrev pub Stands : List ℕ → List ℕ → ℕ → Type 0
Stands [] s at = Unit {0}
Stands (b ∷ l) s at = (at < length s) × ((byte_at s at ≡ b) × Stands l s (at + 1))

-- every element of the data is a byte
abbrev pub Bytes : List ℕ → Type 0
Bytes s = (i : ℕ) → byte_at s i < 256

-- the n bytes from a place on are there, and each has the high bit: another group is to follow
abbrev pub Highs : List ℕ → ℕ → ℕ → Type 0
Highs s at n = (i : ℕ) → i < n → (at + i < length s) × (128 ≤ byte_at s (at + i))

-- cut: all bytes from its first to the end have the high bit, and they are fewer than the groups
pub data IsCut (k : ℕ) (s : List ℕ) (at : ℕ) : Type 0 where
  cut_short : (n : ℕ) → n < k → length s ≤ at + n → Highs s at n → IsCut k s at

-- badly formed: a group is to follow the last that may be, or a last group after the first is zero
pub data IsBad (k : ℕ) (s : List ℕ) (at : ℕ) : Type 0 where
  too_long : Highs s at k → IsBad k s at
  not_shortest : (n : ℕ) → 0 < n → n < k → at + n < length s → byte_at s (at + n) ≡ 0 → Highs s at n → IsBad k s at

pub record NumberFacts : Type 0 where
  -- the value stays below 128^groups
  pub below : (k least : ℕ) (s : List ℕ) (at v next : ℕ) → groups_at k least s at ≡ Got v next → v < 128 ^ k
  -- reading takes at least one byte and at most the groups, all of them within the data
  pub takes :
      (k least : ℕ) (s : List ℕ) (at v next : ℕ) → groups_at k least s at ≡ Got v next →
      (at < next) × ((next ≤ at + k) × (next ≤ length s))
  -- reading what is written gives the value back
  pub back :
      (k : ℕ) (s : List ℕ) (at v : ℕ) → 0 < k → v < 128 ^ k → Stands (groups_of k v) s at →
      groups_at k 0 s at ≡ Got v (at + length (groups_of k v))
  -- each value has one form: where it is read, the bytes passed are those that it is written in
  pub form :
      (k : ℕ) (s : List ℕ) (at v next : ℕ) → Bytes s → groups_at k 0 s at ≡ Got v next →
      Stands (groups_of k v) s at × (next ≡ at + length (groups_of k v))
  -- two readings of the same bytes agree
  pub agree :
      (k : ℕ) (s t : List ℕ) (at to v next : ℕ) → groups_at k 0 s at ≡ Got v next → Stands (groups_of k v) t to →
      groups_at k 0 t to ≡ Got v (to + length (groups_of k v))
  -- a number is told as cut exactly if it is, and as badly formed exactly if it is
  pub cut : (k : ℕ) (s : List ℕ) (at : ℕ) → groups_at k 0 s at ≡ Cut ↔ IsCut k s at
  pub bad : (k : ℕ) (s : List ℕ) (at : ℕ) → groups_at k 0 s at ≡ Bad ↔ IsBad k s at
