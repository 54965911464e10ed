-- What a block's turn comes to, in terms of what is read (ours).
use Rattle.std.specs.Prelude.{Bool, List, ℕ, ℤ, Result, Ok, Err}
use Rattle.numbers.specs.Blocks.{Bit, Word, Content, Block}
use Rattle.kinds.specs.Kinds.{memory_of, mark_of}
use Rattle.block.specs.Asking.{asking}
use Rattle.wire.specs.Reading.{Read, got, fault, and_then}
use Rattle.terms.specs.Refusals.{number_of}
use Rattle.terms.specs.declared.refusal.Fault.{Fault}
use Rattle.place.specs.declared.Place.{Place}
use Rattle.rules.specs.Rules.{ruled, steps_of}
use Rattle.running.specs.declared.Turned.{Turned}

-- a block of a kind whose fields were read
abbrev pub block_read : ℕ → Read (List Content) → Read Block
block_read kind r = and_then r (λ cs end. got (record { kind = kind; fields = cs }) end)

-- a block's turn; there is none where no block can be read
abbrev pub turn_of : (Bit → Bool) → (Word → ℤ) → ℕ → Place → Read Block → Read Turned
turn_of f g e p (got b next) =
    got (record { place = ruled f g e b p; steps = steps_of f b.fields; memory = memory_of b; mark = mark_of b; next = next }) next
turn_of f g e p (fault n at) = fault n at

-- what an answer of the code says
abbrev pub turned_of_answer : Result Turned Fault → Read Turned
turned_of_answer (Ok t) = got t t.next
turned_of_answer (Err f) = fault (number_of f.refusal) f.at

-- the blocks that were asked for their words, after this block too
abbrev pub asked_after : List ℕ → Read Block → List ℕ
asked_after l (got b next) = asking b.fields l
asked_after l (fault n at) = l
