-- Document 01, "Program bytes", told without a reader: the numbers of a program in reading order, each with what is expected at its place.
-- What is expected from a place on is a stack: every good number takes its own off it, and puts on what it lets follow.
use Rattle.std.specs.Prelude.{not, List, [], ◌∷◌, ◌++◌, map, ℕ, zero, suc, length, replicate, ltb, eqb}
use Rattle.terms.specs.Choice.{pick}
use Rattle.wire.specs.Number.{Num, Got, Bad, Cut}
use Rattle.wire.specs.Number.{number_at}
use Rattle.numbers.specs.Types.{pin, block_count, kind_number, alarm_count, node_number, allowed, content_of, setting_of}
use Rattle.nodes.specs.Reading.{most_deep, most_nodes}
use Rattle.kinds.specs.Kinds.{expression, nothing, types_of}

-- a count of blocks, a kind, a field of a type, a node of an expression at a depth, a count of alarms
pub data Expected : Type 0 where
  blocks : Expected
  kind : Expected
  field : ℕ → Expected
  node : ℕ → Expected
  alarms : Expected

abbrev pub type_of : Expected → ℕ
type_of blocks = block_count
type_of kind = kind_number
type_of (field ty) = ty
type_of (node depth) = node_number
type_of alarms = alarm_count

-- a field of a row of the table; an expression starts with its root, and "the root has depth 1"
abbrev pub in_row : ℕ → Expected
in_row ty = pick (eqb ty expression) (node 1) (field ty)

-- "0 NOT (one part), 1 AND, 2 OR, 3 XOR, 4 NAND, 5 NOR (two parts), 6 + r the bit reference r"
abbrev pub parts : ℕ → ℕ
parts v = pick (eqb v 0) 1 (pick (ltb v 6) 2 0)

-- "Order: block count (1..200); each block as kind and fields; alarm count (0..32); that many bit references; end.": what a number lets follow,
-- before all that was expected already
abbrev pub follows : Expected → ℕ → List Expected
follows blocks n = replicate n kind ++ (alarms ∷ [])
follows kind k = map in_row (types_of k)
follows (field ty) v = []
follows (node depth) v = replicate (parts v) (node (suc depth))
follows alarms n = replicate n (field pin)

-- the setting that it leaves before the next number: a field that is no reference its own, all others 0
abbrev pub setting_left : Expected → ℕ → ℕ
setting_left blocks n = 0
setting_left kind k = 0
setting_left (field ty) v = setting_of (content_of ty v)
setting_left (node depth) v = 0
setting_left alarms n = 0

-- how deep a node stands, and which of its expression it is, where the number before it was the n-th
abbrev pub depth_of : Expected → ℕ
depth_of blocks = 0
depth_of kind = 0
depth_of (field ty) = 0
depth_of (node depth) = depth
depth_of alarms = 0

abbrev pub count_of : Expected → ℕ → ℕ
count_of blocks n = 0
count_of kind n = 0
count_of (field ty) n = 0
count_of (node depth) n = pick (eqb depth 1) 1 (suc n)
count_of alarms n = 0

-- What may be wrong with a number: "not shortest, or over three groups"; L2: "cut by the end of the data"; not allowed for its type, after the setting before it;
-- "deeper than 16"; over "63 nodes"; or there is a byte "after the end".
pub data Wrong : Type 0 where
  malformed : Wrong
  is_cut : Wrong
  not_allowed : Wrong
  too_deep : Wrong
  too_many : Wrong
  extra : Wrong

pub data Found : Type 0 where
  good : ℕ → Found
  wrong : Wrong → Found

-- a number of a program: "the offset of the number's first byte", what is expected there, the setting before it, and what is found
pub record Item : Type 0 where
  pub place : ℕ
  pub expected : Expected
  pub setting : ℕ
  pub found : Found

-- where a reading stands: what is expected from here on, the setting before, which node the number before was, the place
pub record Spot : Type 0 where
  pub expects : List Expected
  pub setting : ℕ
  pub count : ℕ
  pub at : ℕ

abbrev pub item_at : Expected → Spot → Found → Item
item_at x p f = record { place = p.at; expected = x; setting = p.setting; found = f }

-- what is found where a number v stands, the n-th node of its expression
unfoldable pub found_of : Expected → ℕ → ℕ → ℕ → Found
found_of x setting n v =
    pick (not (allowed (type_of x) setting v)) (wrong not_allowed)
    (pick (ltb most_deep (depth_of x)) (wrong too_deep)
    (pick (ltb most_nodes n) (wrong too_many)
    (good v)))

-- one number more: a good one, and where the reading stands then; a wrong one, at which it stops; or none, at the end
pub data Turn : Type 0 where
  goes : Item → Spot → Turn
  stops : Item → Turn
  ends : Turn

abbrev pub onward : Expected → List Expected → Spot → ℕ → Found → Turn
onward x xs p next (good v) =
    goes (item_at x p (good v)) (record { expects = follows x v ++ xs; setting = setting_left x v; count = count_of x p.count; at = next })
onward x xs p next (wrong w) = stops (item_at x p (wrong w))

-- "1 before 2 at one number", and L2: "8 stands where 1 stood"
abbrev pub turn_on : Expected → List Expected → Spot → Num → Turn
turn_on x xs p Bad = stops (item_at x p (wrong malformed))
turn_on x xs p Cut = stops (item_at x p (wrong is_cut))
turn_on x xs p (Got v next) = onward x xs p next (found_of x p.setting (count_of x p.count) v)

abbrev pub turn_by : List ℕ → Spot → List Expected → Turn
turn_by s p [] = pick (ltb p.at (length s)) (stops (item_at (field nothing) p (wrong extra))) ends
turn_by s p (x ∷ xs) = turn_on x xs p (number_at s p.at)

unfoldable pub turn_at : List ℕ → Spot → Turn
turn_at s p = turn_by s p p.expects

-- the numbers from a spot on, at most n of them
abbrev pub listed : Turn → (Spot → List Item) → List Item
listed (goes i q) f = i ∷ f q
listed (stops i) f = i ∷ []
listed ends f = []

unfoldable pub numbers_from : ℕ → List ℕ → Spot → List Item
numbers_from zero s p = []
numbers_from (suc n) s p = listed (turn_at s p) (λ q. numbers_from n s q)

abbrev pub front : Spot
front = record { expects = blocks ∷ []; setting = 0; count = 0; at = 0 }

-- the numbers of a program, up to the first that is wrong: a good one takes a byte, so one more than the bytes is enough
unfoldable pub numbers_in : List ℕ → List Item
numbers_in s = numbers_from (suc (length s)) s front
