-- Whether all references of a program are there, by a reading that knows only how many blocks there are and by whether each block that was asked for
-- its word has one. The blocks that were asked are followed reference by reference. Assumes nothing.
use Prim.Native.Nat.{ℕ, zero, suc, ◌-◌, ◌<◌, ◌≤◌}
use mathlib.Core.Path.{◌≡◌, refl, sym, ap, fun_ext, ◌∙◌}
use mathlib.Core.Bool.{Bool, true, false, not, ◌&&◌, ◌||◌, and-true, and-false, or-true, and_assoc, and_comm}
use mathlib.Core.List.{List, [], ◌∷◌, ◌++◌}
use native.Mathlib.Omega.{arith}
use lib.Dec.{eqb, ltb, leb-suc-suc}
use lib.ListN.{length, get_or, set, replicate, length-set, length-replicate, get_or-replicate}
use lib.Seq.{get_or-set_same, get_or-set_other}
use borrow.Author.Tests.{eqb-true, eqb-false, ltb-true, lt-ltb, le-ltb}
use Rattle.terms.specs.Choice.{pick, every}
use Rattle.numbers.specs.Blocks.{Bit, off, on, input, output, Word, analog, word_of, constant, Content, Block, bit_refs, word_refs, refs_pass}
use Rattle.block.specs.Asking.{asks, asking}
use Rattle.numbers.specs.Reading.{Marks, bit_marked, word_marked}
use Rattle.program.specs.Program.{Program}
use Rattle.program.specs.Acceptance.{marks_of}
use Rattle.program.specs.References.{block_passes, all_pass, bit_there, word_there, kinds_of, all_there}
use Rattle.program.specs.Trial.{first_blocks, asked_by, all_answer}
use Rattle.program.proofs.Marks.{mark_at, marked_words, kinds_long}

-- the marks of the first n blocks, where only their number is known
first_at : (n m i : ℕ) → ◌≡◌ {A = ℕ} (get_or (replicate n 2 ++ replicate m 0) i 0) (pick (ltb i n) 2 0)
first_at zero m i = mark_at [] m i ∙ rw (le-ltb i 0 (omega arith))
first_at (suc n) m zero = rw (lt-ltb 0 (suc n) (omega arith))
first_at (suc n) m (suc i) = rw (leb-suc-suc (suc i) n) (first_at n m i)

first_tells : (b : Bool) → (not (eqb (pick b 2 0) 0) ≡ b) × (eqb (pick b 2 0) 2 ≡ b)
first_tells true = (refl, refl)
first_tells false = (refl, refl)

first_word : (n i : ℕ) → word_marked (first_blocks n) (word_of i) ≡ ltb i n
unfolding first_blocks
first_word n i = rw (first_at n (200 - n) i) (first_tells (ltb i n)).1

first_bits : (bs : List Block) (b : Bit) → bit_marked (first_blocks (length bs)) b ≡ bit_there (kinds_of bs) b
unfolding first_blocks
first_bits bs off = refl
first_bits bs on = refl
first_bits bs (input i) = refl
first_bits bs (output i) = rw (first_at (length bs) (200 - length bs) i, kinds_long bs) (first_tells (ltb i (length bs))).0

-- where one more block is asked, it all_answer too
asked_above : (k : Marks) (n i : ℕ) (l : List ℕ) → n ≤ i → all_answer n (set l i 1) k ≡ all_answer n l k
unfolding all_answer
asked_above k zero i l h = refl
asked_above k (suc n) i l h = rw (asked_above k n i l (omega arith), get_or-set_other l i n 1 0 (λ e. omega arith))

once : (a q m : Bool) → (a && m) ≡ (a && (q || m) && m)
once false q m = refl
once true q true = sym (and-true (q || true) ∙ or-true q)
once true q false = sym (and-false (q || false))

swap : (a b c : Bool) → (a && b && c) ≡ (a && c && b)
swap false b c = refl
swap true b c = and_comm b c

asked_one : (k : Marks) (n i : ℕ) (l : List ℕ) → i < n → n ≤ length l → all_answer n (set l i 1) k ≡ (all_answer n l k && eqb (get_or k i 0) 2)
unfolding all_answer
asked_one k zero i l h few = absurd (omega arith)
asked_one k (suc n) i l h few = go (eqb i n) refl (λ lt. asked_one k n i l lt (omega arith))
  where
    go : (b : Bool) → eqb i n ≡ b → (i < n → all_answer n (set l i 1) k ≡ (all_answer n l k && eqb (get_or k i 0) 2))
        → all_answer (suc n) (set l i 1) k ≡ (all_answer (suc n) l k && eqb (get_or k i 0) 2)
    go true e lower =
        rw (eqb-true i n e, asked_above k n n l (omega arith), get_or-set_same l n 1 0 (omega arith))
        (once (all_answer n l k) (eqb (get_or l n 0) 0) (eqb (get_or k n 0) 2))
    go false e lower =
        let ne = eqb-false i n e in
        rw (lower (omega arith), get_or-set_other l i n 1 0 (λ z. ne (sym z)))
        (swap (all_answer n l k) (eqb (get_or k i 0) 2) (eqb (get_or l n 0) 0 || eqb (get_or k n 0) 2))

-- where none is asked, all answer
unasked : (k : Marks) (n : ℕ) → n ≤ 200 → all_answer n (replicate 200 0) k ≡ true
unfolding all_answer
unasked k zero few = refl
unasked k (suc n) few = rw (unasked k n (omega arith), get_or-replicate {A = ℕ} 200 n 0 0 (omega arith))

-- no reference makes the list longer or shorter
asks_long : (ws : List Word) (l : List ℕ) → length (asks ws l) ≡ length l
asks_long [] l = refl
asks_long (analog i ∷ ws) l = asks_long ws l
asks_long (word_of i ∷ ws) l = asks_long ws (set l i 1) ∙ length-set l i 1
asks_long (constant v ∷ ws) l = asks_long ws l

-- A walk over references: the blocks asked before it answer and its references are there in the end, exactly if the first reading passes them and
-- the blocks asked after it answer.
record Walk (before last first after : Bool) : Type 0 where
  told : (before && last) ≡ (first && after)

walk_on : {a f f2 b r r2 c : Bool} → Walk a f f2 b → Walk b r r2 c → Walk a (f && r) (f2 && r2) c
walk_on {a} {f} {f2} {b} {r} {r2} {c} v w =
    record {
      told =
          sym (and_assoc a f r) ∙ ap (λ (x : Bool). x && r) v.told
          ∙ and_assoc f2 b r ∙ ap (λ (x : Bool). f2 && x) w.told ∙ sym (and_assoc f2 r2 c);
    }

-- where the first reading tests what is tested in the end
walk_same : (a f : Bool) → Walk a f f a
walk_same a f = record { told = and_comm a f }

-- no block from n on is marked by k to have a word; b tests bits
module _ (n : ℕ) (k : Marks) (none : (i : ℕ) → ltb i n ≡ false → word_marked k (word_of i) ≡ false) (b : Bit → Bool) where
  abbrev first : Word → Bool
  first = word_marked (first_blocks n)

  word_walk : (i : ℕ) (l : List ℕ) → n ≤ length l → Walk (all_answer n l k) (word_marked k (word_of i)) (first (word_of i)) (all_answer n (set l i 1) k)
  word_walk i l few = go (ltb i n) refl
    where
      go : (x : Bool) → ltb i n ≡ x → Walk (all_answer n l k) (word_marked k (word_of i)) (first (word_of i)) (all_answer n (set l i 1) k)
      go true e = record { told = rw (first_word n i, e) (sym (asked_one k n i l (ltb-true i n e) few)) }
      go false e = record { told = rw (first_word n i, e, none i e) (and-false (all_answer n l k)) }

  words_walk : (ws : List Word) (l : List ℕ) → n ≤ length l
      → Walk (all_answer n l k) (every (word_marked k) ws) (every first ws) (all_answer n (asks ws l) k)
  words_walk [] l few = walk_same (all_answer n l k) true
  words_walk (analog i ∷ ws) l few = words_walk ws l few
  words_walk (word_of i ∷ ws) l few = walk_on (word_walk i l few) (words_walk ws (set l i 1) (rw (length-set l i 1) few))
  words_walk (constant v ∷ ws) l few = words_walk ws l few

  fields_walk : (cs : List Content) (l : List ℕ) → n ≤ length l
      → Walk (all_answer n l k) (refs_pass b (word_marked k) cs) (refs_pass b first cs) (all_answer n (asking cs l) k)
  fields_walk cs l few = walk_on (walk_same (all_answer n l k) (every b (bit_refs cs))) (words_walk (word_refs cs) l few)

  blocks_walk : (bs : List Block) (l : List ℕ) → n ≤ length l
      → Walk (all_answer n l k) (every (block_passes b (word_marked k)) bs) (every (block_passes b first) bs) (all_answer n (asked_by bs l) k)
  blocks_walk [] l few = walk_same (all_answer n l k) true
  blocks_walk (x ∷ bs) l few =
      walk_on (fields_walk x.fields l few) (blocks_walk bs (asking x.fields l) (rw (asks_long (word_refs x.fields) l) few))

-- all references are there exactly if the first reading passes them and each block that was asked all_answer
pub there_answers :
    (p : Program) → length p.blocks ≤ 200 →
    all_there p
    ≡ (all_pass (bit_marked (first_blocks (length p.blocks))) (word_marked (first_blocks (length p.blocks))) p
    && all_answer (length p.blocks) (asked_by p.blocks (replicate 200 0)) (marks_of p.blocks))
unfolding all_there all_pass
there_answers p few =
    let bs : List Block = p.blocks in
    let ks : List ℕ = kinds_of bs in
    let k : Marks = marks_of bs in
    let f : Marks = first_blocks (length bs) in
    let eb : bit_marked f ≡ bit_there ks = fun_ext (first_bits bs) in
    let ew : word_marked k ≡ word_there ks = fun_ext (marked_words bs) in
    let none : (i : ℕ) → ltb i (length bs) ≡ false → word_marked k (word_of i) ≡ false = λ i e. marked_words bs (word_of i) ∙ rw (kinds_long bs, e) in
    let w = blocks_walk (length bs) k none (bit_there ks) bs (replicate 200 0) (rw (length-replicate {A = ℕ} 200 0) few) in
    let e : every (block_passes (bit_there ks) (word_marked k)) bs
    ≡ (every (block_passes (bit_there ks) (word_marked f)) bs && all_answer (length bs) (asked_by bs (replicate 200 0)) k)
    = rw (unasked k (length bs) few) at w.told in
    rw (eb, sym ew, e)
    (swap (every (block_passes (bit_there ks) (word_marked f)) bs) (all_answer (length bs) (asked_by bs (replicate 200 0)) k) (every (bit_there ks) p.alarms))
