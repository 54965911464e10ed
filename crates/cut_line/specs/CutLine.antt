-- Request L2: "On the service cable we must know whether to send again or to throw the file away." What 8 and 1 tell of a program, by its numbers in
-- reading order. Which numbers are cut, and which badly formed, is told in `wire`, by `IsCut` and `IsBad`.
use Rattle.std.specs.Prelude.{Bool, true, List, ◌∷◌, ◌++◌, ◌≡◌, ℕ, ◌<◌, ◌≤◌, ltb, length}
use Rattle.terms.specs.Choice.{every}
use Rattle.terms.specs.Refusals.{cut_number}
use Rattle.wire.specs.Facts.{IsCut, IsBad}
use Rattle.program.specs.Acceptance.{refused, accepted}
use Rattle.order.specs.Order.{Wrong, is_cut, Item, numbers_in}
use Rattle.order.specs.Acceptance.{refusal_for, fares}

-- a program that can be read: all its numbers are good. One with a reference astray can be, and one over the memory.
abbrev pub CanBeRead : List ℕ → Type 0
CanBeRead s = every fares (numbers_in s) ≡ true

-- a number that begins behind a place
abbrev pub begins_behind : ℕ → Item → Bool
begins_behind n i = ltb n i.place

-- Of the program s only u has come. It is refused with 8 at that number of s which the first byte that is missing belongs to: the number begins there
-- or before, and all after it begin behind.
pub data ToldAsCut (s u : List ℕ) : Type 0 where
  told_at :
      (before after : List Item) (i : Item) → numbers_in s ≡ before ++ (i ∷ after) → i.place ≤ length u → every (begins_behind (length u)) after ≡ true →
      accepted u ≡ refused cut_number i.place → ToldAsCut s u

pub record CutLine : Type 0 where
  -- "a number cut by the end of the data becomes 8": a program that can be read, and was cut anywhere, is refused with 8
  pub cut : (u v : List ℕ) → CanBeRead (u ++ v) → 0 < length v → ToldAsCut (u ++ v) u
  -- whatever else is wrong, no bytes that follow mend it: what is refused with 1 or 2 is refused so, at the same place, whatever follows; so it is
  -- no beginning of a program that can be read
  pub stays : (u v : List ℕ) (w : Wrong) (at : ℕ) → (w ≡ is_cut → ⊥) → accepted u ≡ refused (refusal_for w) at → accepted (u ++ v) ≡ refused (refusal_for w) at
  -- "at one place the two cannot both apply"
  pub apart : (k : ℕ) (s : List ℕ) (at : ℕ) → IsCut k s at → IsBad k s at → ⊥
