-- Document 01, "Numbers of refusal": acceptance by the numbers of a program in reading order, and by nothing else.
use Rattle.std.specs.Prelude.{Bool, true, false, List, [], ◌∷◌, ◌++◌, ◌≡◌, ◌↔◌, ℕ, ◌+◌, ◌<◌, ◌≤◌, eqb}
use Rattle.terms.specs.Choice.{pick, every}
use Rattle.terms.specs.Refusals.{bad_number, cut_number, outside, astray, over_memory}
use Rattle.numbers.specs.Blocks.{refs_pass}
use Rattle.numbers.specs.Types.{said_by}
use Rattle.kinds.specs.Kinds.{kind_of, memory_limit}
use Rattle.program.specs.References.{bit_there, word_there}
use Rattle.program.specs.declared.Acceptance.{Acceptance}
use Rattle.program.specs.Acceptance.{refused, granted, accepted}
use Rattle.order.specs.Order.{Expected, blocks, kind, field, node, alarms, type_of, Found, good, wrong, Item, numbers_in}
use Rattle.order.specs.Order.{Wrong, malformed, is_cut, not_allowed, too_deep, too_many, extra}

-- the numbers of refusal for what is wrong with a number
abbrev pub refusal_for : Wrong → ℕ
refusal_for malformed = bad_number
refusal_for is_cut = cut_number
refusal_for not_allowed = outside
refusal_for too_deep = outside
refusal_for too_many = outside
refusal_for extra = outside

abbrev pub is_good : Found → Bool
is_good (good v) = true
is_good (wrong w) = false

abbrev pub fares : Item → Bool
fares i = is_good i.found

abbrev pub value_of : Found → ℕ
value_of (good v) = v
value_of (wrong w) = 0

-- what a number says of its program: the kind of a block; its part of "memory" (BL is 10 + nodes) and of the "step figure (BL nodes, 1 per other block)"
abbrev pub kinds_by : Expected → ℕ → List ℕ
kinds_by blocks n = []
kinds_by kind k = k ∷ []
kinds_by (field ty) v = []
kinds_by (node depth) v = []
kinds_by alarms n = []

abbrev pub memory_by : Expected → ℕ → ℕ
memory_by blocks n = 0
memory_by kind k = (kind_of k).memory
memory_by (field ty) v = 0
memory_by (node depth) v = 1
memory_by alarms n = 0

abbrev pub figure_by : Expected → ℕ → ℕ
figure_by blocks n = 0
figure_by kind k = pick (eqb k 0) 0 1
figure_by (field ty) v = 0
figure_by (node depth) v = 1
figure_by alarms n = 0

abbrev pub kinds_in : List Item → List ℕ
kinds_in [] = []
kinds_in (i ∷ l) = kinds_by i.expected (value_of i.found) ++ kinds_in l

abbrev pub memory_in : List Item → ℕ
memory_in [] = 0
memory_in (i ∷ l) = memory_by i.expected (value_of i.found) + memory_in l

abbrev pub figure_in : List Item → ℕ
figure_in [] = 0
figure_in (i ∷ l) = figure_by i.expected (value_of i.found) + figure_in l

-- whether a number is no reference, or one that is there, among blocks of these kinds
abbrev pub is_there : List ℕ → Item → Bool
is_there ks i = refs_pass (bit_there ks) (word_there ks) (said_by (type_of i.expected) (value_of i.found) ∷ [])

-- The rows of the table for acceptance, where l are the numbers of a program. They exclude one another.
pub data Accepting (l : List Item) (a : Acceptance) : Type 0 where
  -- 1, 8 and 2: "the first fault in reading order is reported": every number before it is good, and this one is wrong
  stops :
      (before after : List Item) (i : Item) (w : Wrong) → l ≡ before ++ (i ∷ after) → every fares before ≡ true → i.found ≡ wrong w →
      a ≡ refused (refusal_for w) i.place → Accepting l a
  -- 3: "Only after the whole is read come 3 (first in reading order)": every reference before it is there, and this one is astray
  strays :
      (before after : List Item) (i : Item) → every fares l ≡ true → l ≡ before ++ (i ∷ after) → every (is_there (kinds_in l)) before ≡ true →
      is_there (kinds_in l) i ≡ false → a ≡ refused astray i.place → Accepting l a
  -- "then 4"; the place "is 0 for 4"
  overflows :
      every fares l ≡ true → every (is_there (kinds_in l)) l ≡ true → memory_limit < memory_in l → a ≡ refused over_memory 0 → Accepting l a
  -- "if good, memory and step figure"
  passes :
      every fares l ≡ true → every (is_there (kinds_in l)) l ≡ true → memory_in l ≤ memory_limit → a ≡ granted (memory_in l) (figure_in l) → Accepting l a

-- acceptance answers by them, each exactly then
abbrev pub InOrder : Type 0
InOrder = (s : List ℕ) (a : Acceptance) → a ≡ accepted s ↔ Accepting (numbers_in s) a
