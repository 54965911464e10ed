-- One more block behind those that were read: their turns stay, and what the code keeps grows by its own. Assumes nothing.
use Prim.Native.Nat.{ℕ, zero, suc, ◌+◌, ◌-◌, ◌<◌, ◌≤◌}
use mathlib.Core.Path.{◌≡◌, refl, sym, ap}
use mathlib.Core.List.{List, [], ◌∷◌, ◌++◌, map, map-append, append_assoc}
use native.Mathlib.Omega.{arith}
use lib.ListN.{length, set, replicate, get_or-append, length-append, length-map}
use Rattle.numbers.specs.Blocks.{Block, block_of}
use Rattle.kinds.specs.Kinds.{mark_of, memory_of}
use Rattle.wire.specs.Reading.{Read, got, fault, and_then}
use Rattle.block.specs.Asking.{asking}
use Rattle.program.specs.Program.{memory}
use Rattle.program.specs.Acceptance.{marks_of}
use Rattle.program.specs.Trial.{asked_by}
use Rattle.turns.specs.Arrays.{Arrays, turns_to, turn_steps}

-- more blocks do not change the turns of the first
block_before : (bs cs : List Block) (i : ℕ) → i < length bs → block_of (bs ++ cs) i ≡ block_of bs i
block_before bs cs i h = get_or-append bs cs _ i h

pub turns_before : (e : ℕ) (bs cs : List Block) (i : ℕ) (a : Arrays) → i ≤ length bs → turns_to e (bs ++ cs) i a ≡ turns_to e bs i a
unfolding turns_to
turns_before e bs cs zero a h = refl
turns_before e bs cs (suc i) a h = rw (turns_before e bs cs i a (omega arith), block_before bs cs i (omega arith))

pub steps_before : (e : ℕ) (bs cs : List Block) (i : ℕ) (a : Arrays) → i ≤ length bs → turn_steps e (bs ++ cs) i a ≡ turn_steps e bs i a
unfolding turn_steps
steps_before e bs cs zero a h = refl
steps_before e bs cs (suc i) a h =
    rw (steps_before e bs cs i a (omega arith), turns_before e bs cs i a (omega arith), block_before bs cs i (omega arith))

-- the block after them
pub block_after : (bs : List Block) (b : Block) → block_of (bs ++ b ∷ []) (length bs) ≡ b
block_after [] b = refl
block_after (c ∷ bs) b = block_after bs b

pub memory_after : (bs : List Block) (b : Block) → memory (bs ++ b ∷ []) ≡ memory bs + memory_of b
memory_after [] b = let e : memory_of b + 0 ≡ 0 + memory_of b = omega arith in e
memory_after (c ∷ bs) b = let e = memory_after bs b in omega (arith, e)

pub asked_after_lem : (bs : List Block) (b : Block) (l : List ℕ) → asked_by (bs ++ b ∷ []) l ≡ asking b.fields (asked_by bs l)
asked_after_lem [] b l = refl
asked_after_lem (c ∷ bs) b l = asked_after_lem bs b (asking c.fields l)

mark_after : (l : List ℕ) (n m : ℕ) → set (l ++ replicate (suc n) 0) (length l) m ≡ (l ++ m ∷ []) ++ replicate n 0
mark_after [] n m = refl
mark_after (x ∷ l) n m = ap (λ (r : List ℕ). x ∷ r) (mark_after l n m)

pub known_after : (bs : List Block) (b : Block) → length bs < 200 → set (marks_of bs) (length bs) (mark_of b) ≡ marks_of (bs ++ b ∷ [])
unfolding marks_of
known_after bs b h =
    let n : 200 - length bs ≡ suc (199 - length bs) = omega arith in
    let l : length (map mark_of bs) ≡ length bs = length-map bs mark_of in
    let m : 200 - length (bs ++ b ∷ []) ≡ 199 - length bs = omega (arith, length-append bs (b ∷ [])) in
    let e = mark_after (map mark_of bs) (199 - length bs) (mark_of b) in
    rw (n, m, map-append mark_of bs (b ∷ [])) (rw l at e)

-- blocks that were read before others
abbrev pub behind : List Block → Read (List Block) → Read (List Block)
behind bs r = and_then r (λ cs end. got (bs ++ cs) end)

pub behind_none : (r : Read (List Block)) → r ≡ behind [] r
behind_none (got cs end) = refl
behind_none (fault n at) = refl

pub behind_one : (bs : List Block) (b : Block) (r : Read (List Block)) → behind bs (and_then r (λ cs end. got (b ∷ cs) end)) ≡ behind (bs ++ b ∷ []) r
behind_one bs b (got cs end) = ap (λ (l : List Block). got l end) (sym (append_assoc bs (b ∷ []) cs))
behind_one bs b (fault n at) = refl
