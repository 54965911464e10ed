-- The trial of a program (ours): one reading that tells whether it is accepted. It knows only how many blocks there are, and keeps which of them are
-- asked for their words.
use Rattle.std.specs.Prelude.{Bool, true, false, ◌&&◌, ◌||◌, List, [], ◌∷◌, ◌++◌, ℕ, zero, suc, ◌-◌, length, get_or, replicate, eqb, leb}
use Rattle.wire.specs.Reading.{Read, got, fault}
use Rattle.numbers.specs.Blocks.{Block}
use Rattle.numbers.specs.Reading.{Marks}
use Rattle.kinds.specs.Kinds.{memory_limit}
use Rattle.block.specs.Asking.{asking}
use Rattle.program.specs.Program.{Program, memory}
use Rattle.program.specs.Acceptance.{marks_of}

-- the marks before the blocks are read: the first n are there, and may have a word
unfoldable pub first_blocks : ℕ → Marks
first_blocks n = replicate n 2 ++ replicate (200 - n) 0

-- the blocks that all of these ask for their words
abbrev pub asked_by : List Block → List ℕ → List ℕ
asked_by [] l = l
asked_by (b ∷ bs) l = asked_by bs (asking b.fields l)

-- each of the first n blocks that is asked for its word has one
unfoldable pub all_answer : ℕ → List ℕ → Marks → Bool
all_answer zero asked m = true
all_answer (suc n) asked m = all_answer n asked m && (eqb (get_or asked n 0) 0 || eqb (get_or m n 0) 2)

-- whether blocks that were read so pass
unfoldable pub passes_trial : List Block → Bool
passes_trial bs = all_answer (length bs) (asked_by bs (replicate 200 0)) (marks_of bs) && leb (memory bs) memory_limit

-- whether a program that was read so does
unfoldable pub trial_passes : Read Program → Bool
trial_passes (fault n at) = false
trial_passes (got p end) = passes_trial p.blocks
