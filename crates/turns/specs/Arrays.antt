-- What a scan works on (ours): four arrays. `bits` has off, on, 32 inputs and 200 outputs, so that a bit reference is an index; `words` has 8 analog
-- words and 200 words; `ticks` and `pins` have one for each place.
use Rattle.std.specs.Prelude.{Bool, false, List, [], ◌∷◌, ℕ, zero, suc, ◌+◌, ℤ, pos, length, get_or, set, Option, Some, None}
use Rattle.wire.specs.Reading.{Read, got, fault}
use Rattle.numbers.specs.Blocks.{Block, block_of}
use Rattle.numbers.specs.Reading.{Marks}
use Rattle.block.specs.Reading.{block_at}
use Rattle.program.specs.Trial.{passes_trial}
use Rattle.expression.specs.Expression.{bit_in}
use Rattle.place.specs.declared.Place.{Place}
use Rattle.rules.specs.Rules.{ruled, steps_of, word_in}
use Rattle.terms.specs.Lent.{Lent}
use Rattle.turns.specs.declared.Ran.{Ran}

pub record Arrays : Type 0 where
  pub bits : List Bool
  pub words : List ℤ
  pub ticks : List ℕ
  pub pins : List ℕ

abbrev pub arrays : List Bool → List ℤ → List ℕ → List ℕ → Arrays
arrays v w t q = record { bits = v; words = w; ticks = t; pins = q }

-- lent to a function, as they are at the call and as it leaves them
abbrev pub arrays_before : Lent Bool → Lent ℤ → Lent ℕ → Lent ℕ → Arrays
arrays_before v w t q = arrays v.entry.now w.entry.now t.entry.now q.entry.now

abbrev pub arrays_after : Lent Bool → Lent ℤ → Lent ℕ → Lent ℕ → Arrays
arrays_after v w t q = arrays v.exit.now w.exit.now t.exit.now q.exit.now

-- place i, and the arrays with another place there
abbrev pub place_at : Arrays → ℕ → Place
place_at a i =
    record { pins = get_or a.pins i 0; out = get_or a.bits (i + 34) false; ticks = get_or a.ticks i 0; word = get_or a.words (i + 8) (pos 0) }

abbrev pub store_at : Arrays → ℕ → Place → Arrays
store_at a i p =
    record {
      bits = set a.bits (i + 34) p.out;
      words = set a.words (i + 8) p.word;
      ticks = set a.ticks i p.ticks;
      pins = set a.pins i p.pins;
    }

-- the arrays after the turns of the first n blocks
unfoldable pub turns_to : ℕ → List Block → ℕ → Arrays → Arrays
turns_to e bs zero a = a
turns_to e bs (suc n) a =
    let b = turns_to e bs n a in
    store_at b n (ruled (bit_in b.bits) (word_in b.words) e (block_of bs n) (place_at b n))

-- the steps of the first n blocks
unfoldable pub turn_steps : ℕ → List Block → ℕ → Arrays → ℕ
turn_steps e bs zero a = 0
turn_steps e bs (suc n) a = turn_steps e bs n a + steps_of (bit_in (turns_to e bs n a).bits) (block_of bs n).fields

-- the turns of blocks that were to be read: whether they were and pass their trial, their steps, and the place after them
abbrev pub ran_of : ℕ → Arrays → Read (List Block) → Option Ran
ran_of e a (got bs next) = Some (record { good = passes_trial bs; steps = turn_steps e bs (length bs) a; next = next })
ran_of e a (fault n at) = None

-- up to n blocks, to the first that cannot be read, and the arrays after their turns
abbrev pub while_read : Read Block → (Block → ℕ → List Block) → List Block
while_read (got b next) f = f b next
while_read (fault n at) f = []

unfoldable pub blocks_while : Marks → ℕ → List ℕ → ℕ → List Block
blocks_while m zero s at = []
blocks_while m (suc n) s at = while_read (block_at m s at) (λ b next. b ∷ blocks_while m n s next)

abbrev pub turned_while : ℕ → Marks → ℕ → List ℕ → ℕ → Arrays → Arrays
turned_while e m n s at a = turns_to e (blocks_while m n s at) (length (blocks_while m n s at)) a
