-- A whole program by its parts, and acceptance by its two readings. Assumes nothing.
use Prim.Native.Nat.{ℕ, ◌+◌, ◌<◌, ◌≤◌}
use mathlib.Core.Path.{◌≡◌, sym, ap, ◌∙◌}
use mathlib.Core.List.{List, map}
use native.Mathlib.Omega.{arith}
use native.Mathlib.Nat.{zero-add}
use lib.ListN.{length, replicate}
use lib.Seq.{sets}
use borrow.Author.Tests.{lt-ltb, le-ltb}
use Rattle.kinds.specs.Kinds.{memory_limit, mark_of}
use Rattle.terms.specs.Refusals.{over_memory}
use Rattle.numbers.specs.Blocks.{Block}
use Rattle.numbers.specs.Types.{block_count}
use Rattle.wire.specs.Reading.{Read, got, fault}
use Rattle.numbers.specs.Reading.{Marks, typed_at}
use Rattle.program.specs.Program.{Program, blocks_at, alarms_at, program_at, memory, figure}
use Rattle.program.specs.Acceptance.{refused, granted, every_block, marks_of, by_memory, accepted}
use Rattle.program.specs.Answers.{blocks_read, end_of, program_read}
use Rattle.program.specs.declared.Reading.{Reading}
use Rattle.program.proofs.Alarms.{Ended, ended, end_got, end_stop}
use Rattle.program.proofs.Blocks.{blocks_long, marks_stored}

-- the blocks that were read, by the reading of them
record Blocks (r : Read (List Block)) (q : Reading) : Type 0 where
  blocks : List Block
  read : r ≡ got blocks q.next
  is : q ≡ record { memory = 0 + memory blocks; steps = 0 + figure blocks; marks = sets (replicate 200 0) 0 (map mark_of blocks); next = q.next }

blocks_whole : (r : Read (List Block)) {q : Reading} → got q q.next ≡ blocks_read r → Blocks r q
unfolding blocks_read
blocks_whole (got bs n) {q} e =
    let z : q.next ≡ n = cc in
    let h : q ≡ record { memory = 0 + memory bs; steps = 0 + figure bs; marks = sets (replicate 200 0) 0 (map mark_of bs); next = n } = cc in
    record { blocks = bs; read = rw z; is = rw (← z) at h }
blocks_whole (fault x at) e = let z : ◌≡◌ {A = ℕ} 0 1 = cc in absurd (omega arith)

blocks_lost : (r : Read (List Block)) {x p : ℕ} → fault x p ≡ blocks_read r → r ≡ fault x p
unfolding blocks_read
blocks_lost (got bs n) e = let z : ◌≡◌ {A = ℕ} 0 1 = cc in absurd (omega arith)
blocks_lost (fault x at) e = cc

module _ (k : Marks) (s : List ℕ) where
  pub program_bad : {x p : ℕ} → typed_at k block_count 0 s 0 ≡ fault x p → fault x p ≡ program_read (program_at k s)
  unfolding program_at
  program_bad e = rw e

  module _ {n at : ℕ} (e : typed_at k block_count 0 s 0 ≡ got n at) where
    pub program_stop : {x p : ℕ} → fault x p ≡ blocks_read (blocks_at k n s at) → fault x p ≡ program_read (program_at k s)
    unfolding program_at
    program_stop t = rw (e, blocks_lost (blocks_at k n s at) t)

    module _ {q : Reading} (h : got q q.next ≡ blocks_read (blocks_at k n s at)) where
      pub program_no_alarms : {x p : ℕ} → fault x p ≡ end_of (alarms_at k s q.next) → fault x p ≡ program_read (program_at k s)
      unfolding program_at
      program_no_alarms a = rw (e, (blocks_whole (blocks_at k n s at) h).read, end_stop (alarms_at k s q.next) (sym a))

      pub program_whole : {end : ℕ} → n ≤ 200 → got end end ≡ end_of (alarms_at k s q.next)
          → got (record { memory = q.memory; steps = q.steps; marks = q.marks; next = end }) end ≡ program_read (program_at k s)
      unfolding program_at
      program_whole {end} few a = go (end_got (alarms_at k s q.next) (sym a))
        where
          b : Blocks (blocks_at k n s at) q
          b = blocks_whole (blocks_at k n s at) h

          go : Ended (alarms_at k s q.next) end
              → got (record { memory = q.memory; steps = q.steps; marks = q.marks; next = end }) end ≡ program_read (program_at k s)
          go (ended rs v) =
              let l : length b.blocks ≡ n = blocks_long k n s at b.read in
              let m : q.memory ≡ memory b.blocks = ap (λ (x : Reading). x.memory) b.is ∙ zero-add (memory b.blocks) in
              let f : q.steps ≡ figure b.blocks = ap (λ (x : Reading). x.steps) b.is ∙ zero-add (figure b.blocks) in
              let o : q.marks ≡ marks_of b.blocks = ap (λ (x : Reading). x.marks) b.is ∙ marks_stored b.blocks (omega arith) in
              let w : record { memory = q.memory; steps = q.steps; marks = q.marks; next = end }
              ≡ record { memory = memory b.blocks; steps = figure b.blocks; marks = marks_of b.blocks; next = end } = cc in
              rw (e, b.read, v) (ap (λ (x : Reading). got x end) w)

-- acceptance, by the first reading
whole_program : (r : Read Program) {q : Reading} → got q q.next ≡ program_read r → Ended r q.next
whole_program (got p n) {q} e = let z : q.next ≡ n = cc in ended p (rw z)
whole_program (fault x at) e = let z : ◌≡◌ {A = ℕ} 0 1 = cc in absurd (omega arith)

no_program : (r : Read Program) {x p : ℕ} → fault x p ≡ program_read r → r ≡ fault x p
no_program (got p n) e = let z : ◌≡◌ {A = ℕ} 0 1 = cc in absurd (omega arith)
no_program (fault x at) e = cc

module _ (s : List ℕ) where
  pub accept_stop : {x p : ℕ} → fault x p ≡ program_read (program_at every_block s) → refused x p ≡ accepted s
  unfolding accepted
  accept_stop t = rw (no_program (program_at every_block s) t)

  module _ {q : Reading} (h : got q q.next ≡ program_read (program_at every_block s)) where
    -- what the first reading says of the program: its memory and figure, and the marks of its blocks
    record First : Type 0 where
      program : Program
      read : accepted s ≡ by_memory program (program_at q.marks s)
      memory_is : q.memory ≡ memory program.blocks
      steps_is : q.steps ≡ figure program.blocks

    first : First
    unfolding accepted
    first = go (whole_program (program_at every_block s) h)
      where
        go : Ended (program_at every_block s) q.next → First
        go (ended r w) =
            let e : got q q.next ≡ program_read (got r q.next) = h ∙ ap program_read w in
            let f : q ≡ record { memory = memory r.blocks; steps = figure r.blocks; marks = marks_of r.blocks; next = q.next } = cc in
            record {
              program = r;
              read = rw (w, ap (λ (x : Reading). x.marks) f);
              memory_is = ap (λ (x : Reading). x.memory) f;
              steps_is = ap (λ (x : Reading). x.steps) f;
            }

    -- and then the second
    pub accept_astray : {x p : ℕ} → fault x p ≡ program_read (program_at q.marks s) → refused x p ≡ accepted s
    accept_astray u = sym (first.read ∙ rw (no_program (program_at q.marks s) u))

    module _ {q2 : Reading} (h2 : got q2 q2.next ≡ program_read (program_at q.marks s)) where
      pub accept_over : memory_limit < q.memory → refused over_memory 0 ≡ accepted s
      accept_over l = go (whole_program (program_at q.marks s) h2)
        where
          go : Ended (program_at q.marks s) q2.next → refused over_memory 0 ≡ accepted s
          go (ended r2 v) = sym (first.read ∙ rw (v, lt-ltb memory_limit (memory first.program.blocks) (rw first.memory_is at l)))

      pub accept_good : q.memory ≤ memory_limit → granted q.memory q.steps ≡ accepted s
      accept_good l = go (whole_program (program_at q.marks s) h2)
        where
          go : Ended (program_at q.marks s) q2.next → granted q.memory q.steps ≡ accepted s
          go (ended r2 v) =
              let r = first in
              let w : granted (memory r.program.blocks) (figure r.program.blocks) ≡ granted q.memory q.steps = cc in
              sym (r.read ∙ rw (v, le-ltb memory_limit (memory r.program.blocks) (omega (arith, r.memory_is, l))) w)
