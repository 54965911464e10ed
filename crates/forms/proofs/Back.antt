-- Reading what is written of a program, number by number: first by marks that let every allowed number through, as in the first reading of acceptance;
-- read again by other marks, it is the same if all that it refers to is marked. Assumes nothing.
use Prim.Native.Nat.{ℕ, ◌+◌, ◌<◌, ◌≤◌}
use mathlib.Core.Path.{◌≡◌, refl, sym, ap, ◌∙◌}
use mathlib.Core.Bool.{Bool, true}
use mathlib.Core.List.{List, [], ◌∷◌, ◌++◌, map, append-nil}
use native.Mathlib.Nat.{add-zero, zero-add}
use native.Mathlib.Omega.{arith}
use lib.ListN.{length}
use borrow.Author.Tests.{lt-ltb, le-ltb, ne_eqb}
use Rattle.terms.specs.Choice.{every}
use Rattle.terms.proofs.Choice.{never}
use Rattle.terms.proofs.Every.{every_append, both_hold}
use Rattle.wire.specs.Facts.{Stands}
use Rattle.wire.specs.Reading.{Read, got}
use Rattle.numbers.specs.Blocks.{Bit, Expr, ref, inv, gate, Content, Block, leaves, bit_code}
use Rattle.numbers.specs.Types.{pin, kind_number, block_count, alarm_count, kind_count, allowed, excepted, bit_ref, setting_of}
use Rattle.numbers.specs.Reading.{Marks, bit_marked, word_marked, marked, typed_at}
use Rattle.numbers.proofs.References.{marked_pin, marked_other}
use Rattle.nodes.specs.Reading.{most_deep, most_nodes}
use Rattle.grammar.proofs.From.{stands_there}
use Rattle.writing.specs.Expressions.{bytes_of, InRange, Proper}
use Rattle.writing.proofs.Back.{ref_back, back_of}
use Rattle.kinds.specs.Kinds.{expression, types_of}
use Rattle.block.specs.Reading.{content_at, fields_at, block_at}
use Rattle.program.specs.Program.{Program, blocks_at, references_at, end_at, alarms_at, program_at}
use Rattle.program.specs.Acceptance.{every_block}
use Rattle.program.specs.References.{block_passes, all_pass}
use Rattle.program.proofs.Again.{Again, same, stray}
use Rattle.program.proofs.FirstReading.{every_marked}
use Rattle.program.proofs.RereadFields.{plain_kind, fields_again}
use Rattle.program.proofs.Rereading.{program_again}
use Rattle.forms.specs.Written.{content_numbers, field_numbers, block_numbers, blocks_numbers, alarm_numbers, program_numbers, written}
use Rattle.forms.specs.Written.{Holds, of_number, of_tree, FieldsHold, BlockHolds, Each, most_blocks, most_alarms, ProgramHolds}
use Rattle.forms.proofs.Standing.{past, past_both, stands_numbers}
use Rattle.forms.proofs.Formed.{back_both}
use Rattle.forms.proofs.Numbers.{typed_back, content_numbers_lem, bit_allowed}

-- a kind, a count of blocks and one of alarms are allowed by their ranges
kind_allowed : (v : ℕ) → v < kind_count → allowed kind_number 0 v ≡ true
unfolding allowed excepted
kind_allowed v h = rw (lt-ltb v kind_count h)

blocks_allowed : (n : ℕ) → 0 < n → n ≤ most_blocks → allowed block_count 0 n ≡ true
unfolding allowed excepted
blocks_allowed n h k = rw (lt-ltb n 201 (omega arith), ne_eqb n 0 (λ z. omega arith))

alarms_allowed : (n : ℕ) → n ≤ most_alarms → allowed alarm_count 0 n ≡ true
unfolding allowed excepted
alarms_allowed n h = rw (lt-ltb n 33 (omega arith))

-- a block by its kind, which refers to nothing, and its fields
block_of :
    (m : Marks) (s : List ℕ) (at : ℕ) (b : Block) → b.kind < kind_count → Stands (bytes_of (b.kind ∷ [])) s at →
    fields_at m (types_of b.kind) 0 s (past at (b.kind ∷ [])) ≡ got b.fields (past (past at (b.kind ∷ [])) (field_numbers b.fields)) →
    block_at m s at ≡ got b (past at (block_numbers b))
unfolding block_at
block_of m s at b h st e =
    let k = b.kind in
    let t : true ≡ marked m kind_number k = marked_other m k kind_number (λ z. omega arith) (λ z. omega arith) (λ z. omega arith) in
    back_both (λ v cs. record { kind = v; fields = cs }) (k ∷ []) (field_numbers b.fields) at
    (typed_at m kind_number 0 s at) (λ v n. fields_at m (types_of v) 0 s n) (typed_back m kind_number 0 s at k (kind_allowed k h) (sym t) st) e

-- marks that let every allowed number through
abbrev LetsThrough : Marks → Type 0
LetsThrough m = (ty before v : ℕ) → allowed ty before v ≡ true → marked m ty v ≡ true

module _ (m : Marks) (lets : LetsThrough m) where
  bit_let : (b : Bit) → InRange b → bit_marked m b ≡ true
  bit_let b h = rw (ref_back b h).0 at (marked_pin m (bit_code b) ∙ lets pin 0 (bit_code b) (bit_allowed b h))

  leaves_let : (t : Expr) → Proper t → every (bit_marked m) (leaves t) ≡ true
  leaves_let (ref b) h = both_hold (bit_let b h) refl
  leaves_let (inv t) h = leaves_let t h
  leaves_let (gate o a b) (r, (h, k)) = every_append (bit_marked m) (leaves a) (leaves b) (leaves_let a h) (leaves_let b k)

  module _ (s : List ℕ) where
    content_first :
        (ty before : ℕ) (c : Content) (at : ℕ) → Holds ty before c → Stands (bytes_of (content_numbers c)) s at →
        content_at m ty before s at ≡ got c (past at (content_numbers c))
    unfolding content_at
    content_first ty before c at (of_number v l a e) st =
        let f : content_numbers c ≡ v ∷ [] = ap content_numbers e ∙ content_numbers_lem ty v in
        let g : Stands (bytes_of (v ∷ [])) s at = rw f at st in
        rw (f, ne_eqb ty expression (λ z. omega arith), typed_back m ty before s at v a (lets ty before v a) g, e)
    content_first ty before c at (of_tree t z p d n e) st =
        rw (z, e) (rw (back_of m most_deep most_nodes s at t p (leaves_let t p) d n (rw e at st)))

    fields_first :
        (ts : List ℕ) (before : ℕ) (cs : List Content) (at : ℕ) → FieldsHold ts before cs → Stands (bytes_of (field_numbers cs)) s at →
        fields_at m ts before s at ≡ got cs (past at (field_numbers cs))
    unfolding fields_at
    fields_first [] before [] at h st = rw (add-zero at)
    fields_first [] before (c ∷ cs) at h st = absurd h
    fields_first (ty ∷ ts) before [] at h st = absurd h
    fields_first (ty ∷ ts) before (c ∷ cs) at (h, k) st =
        let o = stands_numbers (content_numbers c) (field_numbers cs) s at st in
        back_both ◌∷◌ (content_numbers c) (field_numbers cs) at (content_at m ty before s at) (λ c n. fields_at m ts (setting_of c) s n)
        (content_first ty before c at h o.0) (fields_first ts (setting_of c) cs (past at (content_numbers c)) k o.1)

    block_first :
        (b : Block) (at : ℕ) → BlockHolds b → Stands (bytes_of (block_numbers b)) s at → block_at m s at ≡ got b (past at (block_numbers b))
    block_first b at h st =
        let o = stands_numbers (b.kind ∷ []) (field_numbers b.fields) s at st in
        block_of m s at b h.known o.0 (fields_first (types_of b.kind) 0 b.fields (past at (b.kind ∷ [])) h.fields o.1)

    blocks_first :
        (bs : List Block) (at : ℕ) → Each BlockHolds bs → Stands (bytes_of (blocks_numbers bs)) s at →
        blocks_at m (length bs) s at ≡ got bs (past at (blocks_numbers bs))
    unfolding blocks_at
    blocks_first [] at h st = rw (add-zero at)
    blocks_first (b ∷ bs) at (h, k) st =
        let o = stands_numbers (block_numbers b) (blocks_numbers bs) s at st in
        back_both ◌∷◌ (block_numbers b) (blocks_numbers bs) at (block_at m s at) (λ b n. blocks_at m (length bs) s n)
        (block_first b at h o.0) (blocks_first bs (past at (block_numbers b)) k o.1)

    references_first :
        (rs : List Bit) (at : ℕ) → Each InRange rs → Stands (bytes_of (map bit_code rs)) s at →
        references_at m (length rs) s at ≡ got rs (past at (map bit_code rs))
    unfolding references_at
    references_first [] at h st = rw (add-zero at)
    references_first (r ∷ rs) at (h, k) st =
        let a = bit_allowed r h in
        let o = stands_numbers (bit_code r ∷ []) (map bit_code rs) s at st in
        rw (ref_back r h).0 at
        (back_both (λ v rs. bit_ref v ∷ rs) (bit_code r ∷ []) (map bit_code rs) at (typed_at m pin 0 s at) (λ v n. references_at m (length rs) s n)
        (typed_back m pin 0 s at (bit_code r) a (lets pin 0 (bit_code r) a) o.0) (references_first rs (past at (bit_code r ∷ [])) k o.1))

    alarms_first :
        (rs : List Bit) (at : ℕ) → length rs ≤ most_alarms → Each InRange rs → Stands (bytes_of (alarm_numbers rs)) s at → length s ≤ past at (alarm_numbers rs) →
        alarms_at m s at ≡ got rs (past at (alarm_numbers rs))
    unfolding alarms_at end_at
    alarms_first rs at l h st end =
        let a = alarms_allowed (length rs) l in
        let o = stands_numbers (length rs ∷ []) (map bit_code rs) s at st in
        rw (
          typed_back m alarm_count 0 s at (length rs) a (lets alarm_count 0 (length rs) a) o.0,
          references_first rs (past at (length rs ∷ [])) h o.1,
          past_both (length rs ∷ []) (map bit_code rs) at,
          le-ltb (past at (alarm_numbers rs)) (length s) end,
        )

    program_first :
        (p : Program) → ProgramHolds p → Stands (bytes_of (program_numbers p)) s 0 → length s ≤ past 0 (program_numbers p) →
        program_at m s ≡ got p (past 0 (program_numbers p))
    unfolding program_at
    program_first p h st end =
        let n = length p.blocks in
        let x = blocks_numbers p.blocks in
        let y = alarm_numbers p.alarms in
        let a = blocks_allowed n h.some h.most in
        let o = stands_numbers (n ∷ []) (x ++ y) s 0 st in
        let q = stands_numbers x y s (past 0 (n ∷ [])) o.1 in
        let e : past (past (past 0 (n ∷ [])) x) y ≡ past 0 (program_numbers p) = past_both x y (past 0 (n ∷ [])) ∙ past_both (n ∷ []) (x ++ y) 0 in
        rw (
          typed_back m block_count 0 s 0 n a (lets block_count 0 n a) o.0,
          blocks_first p.blocks (past 0 (n ∷ [])) h.blocks q.0,
          alarms_first p.alarms (past (past 0 (n ∷ [])) x) h.few h.alarms q.1 (rw e end),
          e,
        )

pub first_back : (p : Program) → ProgramHolds p → program_at every_block (written p) ≡ got p (length (written p))
unfolding written
first_back p h =
    let w = bytes_of (program_numbers p) in
    let e : past 0 (program_numbers p) ≡ length w = zero-add (length w) in
    rw e at (program_first every_block every_marked w p h (stands_there w w [] 0 (sym (append-nil w))) (omega arith))

-- what was read first is read again by other marks, if all that it refers to is marked
again : {A : Type 0} {there : Bool} {a : A} {next : ℕ} {r : Read A} → there ≡ true → Again there a next r → r ≡ got a next
again t (same u e) = e
again t (stray u at e) = never (sym t ∙ u)

module _ (m : Marks) where
  pub block_back :
      (s : List ℕ) (at : ℕ) (b : Block) → BlockHolds b → block_passes (bit_marked m) (word_marked m) b ≡ true → Stands (bytes_of (block_numbers b)) s at →
      block_at m s at ≡ got b (at + length (bytes_of (block_numbers b)))
  block_back s at b h t st =
      let k = b.kind in
      let o = stands_numbers (k ∷ []) (field_numbers b.fields) s at st in
      let e = fields_first every_block every_marked s (types_of k) 0 b.fields (past at (k ∷ [])) h.fields o.1 in
      block_of m s at b h.known o.0 (again t (rw e at (fields_again every_block m s (types_of k) 0 (past at (k ∷ [])) (plain_kind k))))

  pub program_back :
      (p : Program) → ProgramHolds p → all_pass (bit_marked m) (word_marked m) p ≡ true → program_at m (written p) ≡ got p (length (written p))
  program_back p h t = again t (rw (first_back p h) at (program_again every_block m (written p)))
