-- Laws of a program's blocks and marks: one more of each before the rest. Assumes nothing.
use Prim.Native.Nat.{ℕ, zero, suc, ◌+◌, ◌-◌, ◌<◌, ◌≤◌}
use mathlib.Core.Path.{◌≡◌, refl, ap, subst, ◌∙◌}
use mathlib.Core.List.{List, ◌∷◌, map}
use native.Mathlib.Omega.{arith}
use native.Mathlib.Nat.{add-zero}
use native.Mathlib.Numerals.{add-one}
use lib.ListN.{length, set, drop, replicate, length-map, length-replicate}
use lib.Seq.{sets, sets-eq}
use Rattle.numbers.specs.Blocks.{Block}
use Rattle.kinds.specs.Kinds.{memory_of, figure_of, mark_of}
use Rattle.wire.specs.Reading.{Read, got, fault, and_then}
use Rattle.numbers.specs.Reading.{Marks}
use Rattle.block.specs.Reading.{block_at}
use Rattle.block.specs.Answers.{brief_of}
use Rattle.wire.proofs.Gives.{Long, gives_after, long_cons}
use Rattle.block.specs.declared.Brief.{Brief}
use Rattle.program.specs.Program.{blocks_at, memory, figure}
use Rattle.program.specs.Acceptance.{marks_of}
use Rattle.program.specs.Answers.{read_from}

-- one block before the rest
from_cons :
    (i : ℕ) (l : List ℕ) (m f : ℕ) (b : Block) (r : Read (List Block)) →
    read_from i l m f (and_then r (λ bs end. got (b ∷ bs) end)) ≡ read_from (i + 1) (set l i (mark_of b)) (m + memory_of b) (f + figure_of b) r
from_cons i l m f b (got bs end) =
    let em : m + (memory_of b + memory bs) ≡ m + memory_of b + memory bs = omega arith in
    let ef : f + (figure_of b + figure bs) ≡ f + figure_of b + figure bs = omega arith in
    rw (add-one, em, ef)
from_cons i l m f b (fault n at) = refl

from_got :
    (i : ℕ) (l : List ℕ) (m f : ℕ) (r : Read Block) (rest : ℕ → Read (List Block)) {x : Brief} {next : ℕ} → brief_of r ≡ got x next →
    read_from i l m f (and_then r (λ b at. and_then (rest at) (λ bs end. got (b ∷ bs) end)))
    ≡ read_from (i + 1) (set l i x.mark) (m + x.memory) (f + x.figure) (rest next)
from_got i l m f (got b at) rest {x} {next} e =
    let h : record { memory = memory_of b; figure = figure_of b; mark = mark_of b; next = at } ≡ x = cc in
    let ev : memory_of b ≡ x.memory = ap (λ (y : Brief). y.memory) h in
    let ew : figure_of b ≡ x.figure = ap (λ (y : Brief). y.figure) h in
    let ex : mark_of b ≡ x.mark = ap (λ (y : Brief). y.mark) h in
    let en : at ≡ next = cc in
    from_cons i l m f b (rest at) ∙ rw (ev, ew, ex, en)
from_got i l m f (fault n at) rest e = let z : ◌≡◌ {A = ℕ} 0 1 = cc in absurd (omega arith)

from_stop :
    (i : ℕ) (l : List ℕ) (m f : ℕ) (r : Read Block) (g : Block → ℕ → Read (List Block)) {n p : ℕ} → brief_of r ≡ fault n p →
    read_from i l m f (and_then r g) ≡ fault n p
from_stop i l m f (got b at) g e = let z : ◌≡◌ {A = ℕ} 0 1 = cc in absurd (omega arith)
from_stop i l m f (fault n at) g e = cc

module _ (k : Marks) (i : ℕ) (l : List ℕ) (m f : ℕ) (s : List ℕ) (at : ℕ) where
  pub blocks_got : {n next : ℕ} {x : Brief} → i < n → brief_of (block_at k s at) ≡ got x next
      → read_from i l m f (blocks_at k (n - i) s at) ≡ read_from (i + 1) (set l i x.mark) (m + x.memory) (f + x.figure) (blocks_at k (n - (i + 1)) s next)
  unfolding blocks_at
  blocks_got {n} h e =
      let d : n - i ≡ suc (n - (i + 1)) = omega arith in
      rw d (from_got i l m f (block_at k s at) (λ at. blocks_at k (n - (i + 1)) s at) e)

  pub blocks_stop : {n x p : ℕ} → i < n → brief_of (block_at k s at) ≡ fault x p
      → read_from i l m f (blocks_at k (n - i) s at) ≡ fault x p
  unfolding blocks_at
  blocks_stop {n} h e =
      let d : n - i ≡ suc (n - (i + 1)) = omega arith in
      rw d (from_stop i l m f (block_at k s at) _ e)

  pub blocks_end : {n : ℕ} → n ≤ i
      → read_from i l m f (blocks_at k (n - i) s at) ≡ got (record { memory = m; steps = f; marks = l; next = at }) at
  unfolding blocks_at
  blocks_end {n} h =
      let d : n - i ≡ 0 = omega arith in
      rw (d, add-zero, add-zero)

-- where n blocks are read, there are n of them
long : (k : Marks) (n : ℕ) (s : List ℕ) (at : ℕ) → Long n (blocks_at k n s at)
unfolding blocks_at
long k zero s at = refl
long k (suc n) s at =
    gives_after (λ bs. length bs ≡ suc n) (block_at k s at) _ (λ b next. long_cons n b (blocks_at k n s next) (long k n s next))

pub blocks_long : (k : Marks) (n : ℕ) (s : List ℕ) (at : ℕ) {bs : List Block} {end : ℕ} → blocks_at k n s at ≡ got bs end → length bs ≡ n
blocks_long k n s at e = subst (Long n) e (long k n s at)

-- the marks of at most 200 blocks, stored from the front on
pub drop_replicate : {A : Type 0} (n m : ℕ) (x : A) → drop n (replicate m x) ≡ replicate (m - n) x
drop_replicate zero m x = let e : m - 0 ≡ m = omega arith in rw e
drop_replicate (suc n) zero x = let e : 0 - suc n ≡ 0 = omega arith in rw e
drop_replicate (suc n) (suc m) x = let e : suc m - suc n ≡ m - n = omega arith in rw e (drop_replicate n m x)

pub marks_stored : (bs : List Block) → length bs ≤ 200 → sets (replicate 200 0) 0 (map mark_of bs) ≡ marks_of bs
unfolding marks_of
marks_stored bs h =
    let e : length (map mark_of bs) ≡ length bs = length-map bs mark_of in
    let z : 0 + length (map mark_of bs) ≡ length bs = omega arith in
    sets-eq (map mark_of bs) (replicate 200 0) 0 (rw (length-replicate {A = ℕ} 200 0) (omega arith)) ∙ rw (z, drop_replicate {A = ℕ} (length bs) 200 0)
