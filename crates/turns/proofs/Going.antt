-- One more block of a run: the blocks read so far and what is left of them, and what the code keeps. Assumes nothing.
use Prim.Native.Nat.{ℕ, suc, ◌+◌, ◌*◌, ◌-◌, ◌<◌, ◌≤◌}
use mathlib.Core.Path.{◌≡◌, refl, sym, ap, ◌∙◌}
use mathlib.Core.Bool.{Bool, ◌&&◌}
use mathlib.Core.List.{List, [], ◌∷◌, ◌++◌, append_assoc, append-nil}
use native.Mathlib.Omega.{arith}
use native.Mathlib.Numerals.{add-one}
use native.Mathlib.Nat.{sub-zero}
use lib.Dec.{leb}
use lib.ListN.{length, set, replicate, length-append}
use Rattle.std.specs.Prelude.{Some, None}
use Rattle.numbers.specs.Blocks.{Block, block_of}
use Rattle.kinds.specs.Kinds.{memory_limit, memory_of, mark_of}
use Rattle.wire.specs.Reading.{Read, got, fault}
use Rattle.numbers.specs.Reading.{Marks}
use Rattle.block.specs.Reading.{block_at}
use Rattle.block.specs.Answers.{brief_of}
use Rattle.block.proofs.Weights.{block_light}
use Rattle.program.specs.Program.{blocks_at, memory}
use Rattle.program.specs.Acceptance.{marks_of}
use Rattle.program.specs.Trial.{asked_by, all_answer, passes_trial}
use Rattle.expression.specs.Expression.{bit_in}
use Rattle.place.specs.declared.Place.{Place}
use Rattle.rules.specs.Rules.{word_in, ruled, steps_of}
use Rattle.running.specs.Turns.{turn_of, asked_after}
use Rattle.running.specs.declared.Turned.{Turned}
use Rattle.turns.specs.Arrays.{Arrays, place_at, store_at, turns_to, turn_steps, blocks_while}
use Rattle.turns.specs.Arrays.{ran_of}
use Rattle.turns.proofs.Figures.{steps_figure}
use Rattle.turns.proofs.Behind.{turns_before, steps_before, block_after, memory_after, asked_after_lem, known_after, behind, behind_none, behind_one}

-- A run after i blocks, from the arrays a on.
pub record Going (e : ℕ) (k : Marks) (n : ℕ) (s : List ℕ) (start : ℕ) (a here : Arrays) (marks asked : List ℕ) (steps weight at i : ℕ) : Type 0 where
  pub read : List Block
  pub count : length read ≡ i
  pub most : i ≤ n
  pub left : blocks_at k n s start ≡ behind read (blocks_at k (n - i) s at)
  pub while : blocks_while k n s start ≡ read ++ blocks_while k (n - i) s at
  pub turned : here ≡ turns_to e read i a
  pub stepped : steps ≡ turn_steps e read i a
  pub weighed : weight ≡ memory read
  pub marked : marks ≡ marks_of read
  pub asks : asked ≡ asked_by read (replicate 200 0)
  pub few : steps ≤ i * 315
  pub light : weight ≤ i * 337

module _ (e : ℕ) (k : Marks) (n : ℕ) (s : List ℕ) (start : ℕ) (a : Arrays) where
  pub begin : Going e k n s start a a (replicate 200 0) (replicate 200 0) 0 0 start 0
  unfolding turns_to turn_steps marks_of
  begin =
      record {
        read = [];
        count = refl;
        most = omega arith;
        left = rw sub-zero (behind_none (blocks_at k n s start));
        while = rw sub-zero;
        turned = refl;
        stepped = refl;
        weighed = refl;
        marked = refl;
        asks = refl;
        few = omega arith;
        light = omega arith;
      }

  module _ {here : Arrays} {marks asked : List ℕ} {steps weight at i : ℕ} (g : Going e k n s start a here marks asked steps weight at i) where
    -- the next block is there, or it is not
    module _ (lt : i < n) {p : Place} (same : p ≡ place_at here i) where
      abbrev Turns : Read Turned → Type 0
      Turns r = r ≡ turn_of (bit_in here.bits) (word_in here.words) e p (block_at k s at)

      more : n - i ≡ suc (n - (i + 1))
      more = omega arith

      -- the next block is there
      record NextBlock (t : Turned) : Type 0 where
        block : Block
        read : block_at k s at ≡ got block t.next
        is : got t t.next ≡ turn_of (bit_in here.bits) (word_in here.words) e (place_at here i) (got block t.next)

      found : {t : Turned} → Turns (got t t.next) → NextBlock t
      found {t} told = go (block_at k s at) refl (told ∙ rw same)
        where
          go : (r : Read Block) → block_at k s at ≡ r → got t t.next ≡ turn_of (bit_in here.bits) (word_in here.words) e (place_at here i) r → NextBlock t
          go (got b m) q w = let z : m ≡ t.next = cc in record { block = b; read = rw z at q; is = rw z at w }
          go (fault x y) q w = let z : ◌≡◌ {A = ℕ} 0 1 = cc in absurd (omega arith)

      lost : {y z : ℕ} → Turns (fault y z) → block_at k s at ≡ fault y z
      lost {y} {z} told = go (block_at k s at) refl told
        where
          go : (r : Read Block) → block_at k s at ≡ r → fault y z ≡ turn_of (bit_in here.bits) (word_in here.words) e p r → block_at k s at ≡ fault y z
          go (got b m) q w = let z : ◌≡◌ {A = ℕ} 0 1 = cc in absurd (omega arith)
          go (fault x v) q w = let c : x ≡ y = cc in let d : v ≡ z = cc in q ∙ rw (c, d)

      -- its turn
      abbrev turned_by : (b : Block) (next : ℕ) → Turned
      turned_by b next =
          record {
            place = ruled (bit_in here.bits) (word_in here.words) e b (place_at here i);
            steps = steps_of (bit_in here.bits) b.fields;
            memory = memory_of b;
            mark = mark_of b;
            next = next;
          }

      same_turn : {t : Turned} (f : NextBlock t) → t ≡ turned_by f.block t.next
      same_turn f = let h = f.is in cc

      pub small : {t : Turned} → Turns (got t t.next) → (t.steps ≤ 315) × (t.memory ≤ 337)
      small {t} h =
          let f = found h in
          let l = block_light k s at (ap brief_of f.read) in
          rw (same_turn f) (omega (arith, steps_figure (bit_in here.bits) f.block.fields, l), l.0)

      pub go_on : {t : Turned} → n ≤ 200 → Turns (got t t.next) → {asked' : List ℕ} → asked' ≡ asked_after asked (block_at k s at)
          → Going e k n s start a (store_at here i t.place) (set marks i t.mark) asked' (steps + t.steps) (weight + t.memory) t.next (i + 1)
      unfolding turns_to turn_steps blocks_at blocks_while
      go_on {t} fit h {asked'} q = let next = found h in go next.block next.read (same_turn next)
        where
          go : (b : Block) → block_at k s at ≡ got b t.next → t ≡ turned_by b t.next
              → Going e k n s start a (store_at here i t.place) (set marks i t.mark) asked' (steps + t.steps) (weight + t.memory) t.next (i + 1)
          go b r u =
              let l = small h in
              let bs = g.read in
              let c : block_of (bs ++ b ∷ []) i ≡ b = rw (← g.count) (block_after bs b) in
              let d : turns_to e (bs ++ b ∷ []) i a ≡ here = turns_before e bs (b ∷ []) i a (omega (arith, g.count)) ∙ sym g.turned in
              let f : turn_steps e (bs ++ b ∷ []) i a ≡ steps = steps_before e bs (b ∷ []) i a (omega (arith, g.count)) ∙ sym g.stepped in
              let up : t.place ≡ ruled (bit_in here.bits) (word_in here.words) e b (place_at here i) = ap (λ (y : Turned). y.place) u in
              let us : t.steps ≡ steps_of (bit_in here.bits) b.fields = ap (λ (y : Turned). y.steps) u in
              let um : t.memory ≡ memory_of b = ap (λ (y : Turned). y.memory) u in
              let uk : t.mark ≡ mark_of b = ap (λ (y : Turned). y.mark) u in
              record {
                read = bs ++ b ∷ [];
                count = length-append bs (b ∷ []) ∙ rw g.count;
                most = omega arith;
                left = g.left ∙ rw (more, r) (behind_one bs b (blocks_at k (n - (i + 1)) s t.next));
                while = g.while ∙ rw (more, r) (sym (append_assoc bs (b ∷ []) (blocks_while k (n - (i + 1)) s t.next)));
                turned = rw (add-one i, d, c, up);
                stepped = rw (add-one i, d, c, f, us);
                weighed = rw (g.weighed, um) (sym (memory_after bs b));
                marked = rw (g.marked, uk, ← g.count) (known_after bs b (omega (arith, g.count)));
                asks = q ∙ rw (r, g.asks) (sym (asked_after_lem bs b (replicate 200 0)));
                few = omega (arith, g.few, l);
                light = omega (arith, g.light, l);
              }

      -- no block more: the run is refused, with the turns so far in the arrays
      pub stop : {y z : ℕ} → Turns (fault y z)
          → (None ≡ ran_of e a (blocks_at k n s start))
          × (here ≡ turns_to e (blocks_while k n s start) (length (blocks_while k n s start)) a)
      unfolding blocks_at blocks_while
      stop {y} {z} h =
          let q = lost h in
          let l : blocks_at k n s start ≡ fault y z = g.left ∙ rw (more, q) in
          let w : blocks_while k n s start ≡ g.read = g.while ∙ rw (more, q) (append-nil g.read) in
          (rw l, rw (w, g.count) g.turned)

    -- the end: all blocks were read
    module _ (end : n ≤ i) where
      all_read : blocks_at k n s start ≡ got g.read at
      unfolding blocks_at
      all_read = let z : n - i ≡ 0 = omega arith in g.left ∙ rw (z, append-nil g.read)

      all_while : blocks_while k n s start ≡ g.read
      unfolding blocks_while
      all_while = let z : n - i ≡ 0 = omega arith in g.while ∙ rw z (append-nil g.read)

      long : length g.read ≡ n
      long = let c = g.count in let m = g.most in omega arith

      pub after : here ≡ turns_to e (blocks_while k n s start) (length (blocks_while k n s start)) a
      after = rw (all_while, g.count) g.turned

      pub done : {answered light : Bool} → answered ≡ all_answer n asked marks → light ≡ leb weight memory_limit
          → Some (record { good = answered && light; steps = steps; next = at }) ≡ ran_of e a (blocks_at k n s start)
      unfolding passes_trial
      done p q =
          let c : i ≡ n = sym g.count ∙ long in
          let w : steps ≡ turn_steps e g.read n a = g.stepped ∙ rw c in
          rw (all_read, long, p, q, g.asks, g.marked, g.weighed, w)
