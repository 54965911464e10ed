-- Every block of a program that was read has a row of its kind, whose settings are within their limits; so has the block past the last, a BL.
-- And there are at most 32 alarms. Assumes nothing.
use Prim.Native.Nat.{ℕ, zero, suc, ◌+◌, ◌≤◌, ◌<◌}
use mathlib.Core.Path.{◌≡◌, refl, subst}
use mathlib.Core.List.{List, ◌∷◌, map}
use native.Mathlib.Omega.{arith}
use lib.Dec.{lit<, ltb}
use lib.ListN.{length, get_or, get_or-map}
use Rattle.terms.proofs.Choice.{pick_case}
use Rattle.numbers.specs.Blocks.{Content, bit, word, number, tree, Block, code_of, block_of}
use Rattle.numbers.specs.Types.{kind_count, pin, block_count, alarm_count, kind_number, bit_ref, limits, content_of, setting_of}
use Rattle.kinds.specs.Kinds.{nothing, kind_of, types_of}
use Rattle.wire.specs.Reading.{got}
use Rattle.numbers.specs.Reading.{Marks, typed_at}
use Rattle.block.specs.Reading.{fields_at, block_at}
use Rattle.numbers.proofs.Typed.{typed_below}
use Rattle.wire.proofs.Gives.{Gives, gives_by, gives_then, gives_after, Long, long_cons}
use Rattle.program.specs.Program.{Program, blocks_at, references_at, end_at, alarms_at, program_at}
use Rattle.rules.specs.Rules.{field_of}
use Rattle.rules.specs.Rows.{contents}
use Rattle.rules.proofs.Fields.{here, below, off_allowed}
use Rattle.running.proofs.Rows.{Said, said}

-- what the fields of a block that is no BL are: allowed numbers, and what these say
abbrev pub Row : Block → Type 0
Row b = 0 < b.kind → Said (types_of b.kind) 0 0 (map code_of b.fields) b.fields

abbrev pub Rows : List Block → Type 0
Rows bs = (i : ℕ) → Row (block_of bs i)

setting_most : (c : Content) → setting_of c ≤ code_of c
setting_most (bit b) = omega arith
setting_most (word w) = omega arith
setting_most (number n) = omega arith
setting_most (tree t) = omega arith

-- a setting that was read is below its type's limit
pub setting_below :
    (ts : List ℕ) {cs : List Content} → Said ts 0 0 (map code_of cs) cs → (i : ℕ) → i < length ts →
    setting_of (field_of cs i) < get_or limits (get_or ts i nothing) 0
setting_below ts {cs} m i h =
    let e : get_or (map code_of cs) i 0 ≡ code_of (field_of cs i) = get_or-map code_of cs i (number 0) in
    omega (arith, setting_most (field_of cs i), below ts (map code_of cs) m.allow i h)

-- FL's on and off are not both 0
pub period_some : {cs : List Content} → Said (types_of 6) 0 0 (map code_of cs) cs → 0 < setting_of (field_of cs 2) + setting_of (field_of cs 3)
unfolding kind_of contents content_of
period_some {cs} m =
    subst (λ (cs : List Content). 0 < setting_of (field_of cs 2) + setting_of (field_of cs 3)) m.same
    (off_allowed _ _ (here (types_of 6) (map code_of cs) m.allow 3 (lit< tt)))

rows_cons : (b : Block) (bs : List Block) → Row b → Rows bs → Rows (b ∷ bs)
rows_cons b bs h t zero = h
rows_cons b bs h t (suc i) = t i

module _ (k : Marks) (s : List ℕ) where
  block_row : (at : ℕ) → Gives Row (block_at k s at)
  unfolding block_at
  block_row at =
      gives_then (λ v. v < kind_count) Row (typed_at k kind_number 0 s at) _ (gives_by _ (typed_at k kind_number 0 s at) (λ v n e. typed_below k kind_number 0 s at e))
      (λ v n lt. gives_then (λ cs. Row (record { kind = v; fields = cs })) Row (fields_at k (types_of v) 0 s n) _
      (gives_by _ (fields_at k (types_of v) 0 s n) (λ cs end e ne. said k v lt ne s n e)) (λ cs end h. h))

  blocks_rows : (n at : ℕ) → Gives Rows (blocks_at k n s at)
  unfolding blocks_at
  blocks_rows zero at = λ i ne. absurd (omega arith)
  blocks_rows (suc n) at =
      gives_then Row Rows (block_at k s at) _ (block_row at)
      (λ b next h. gives_then Rows Rows (blocks_at k n s next) _ (blocks_rows n next) (λ bs end t. rows_cons b bs h t))

  program_gives : Gives (λ p. Rows p.blocks) (program_at k s)
  unfolding program_at
  program_gives =
      gives_after (λ p. Rows p.blocks) (typed_at k block_count 0 s 0) _
      (λ v at. gives_then Rows (λ p. Rows p.blocks) (blocks_at k v s at) _ (blocks_rows v at)
      (λ bs at h. gives_after (λ p. Rows p.blocks) (alarms_at k s at) _ (λ rs end. h)))

  pub program_rows : {p : Program} {end : ℕ} → program_at k s ≡ got p end → Rows p.blocks
  program_rows e = subst (Gives (λ p. Rows p.blocks)) e program_gives

  -- at most 32 alarms
  references_long : (n at : ℕ) → Long n (references_at k n s at)
  unfolding references_at
  references_long zero at = refl
  references_long (suc n) at =
      gives_after (λ rs. length rs ≡ suc n) (typed_at k pin 0 s at) _ (λ v m. long_cons n (bit_ref v) (references_at k n s m) (references_long n m))

  alarms_give : (at : ℕ) → Gives (λ rs. length rs ≤ 32) (alarms_at k s at)
  unfolding alarms_at end_at
  alarms_give at =
      gives_then (λ n. n < 33) (λ rs. length rs ≤ 32) (typed_at k alarm_count 0 s at) _
      (gives_by _ (typed_at k alarm_count 0 s at) (λ n m e. typed_below k alarm_count 0 s at e))
      (λ n m lt. gives_then (λ rs. length rs ≡ n) (λ rs. length rs ≤ 32) (references_at k n s m) _ (references_long n m)
      (λ rs end e. pick_case (Gives (λ rs. length rs ≤ 32)) (ltb end (length s)) (λ _. tt) (λ _. omega arith)))

  program_alarms : Gives (λ p. length p.alarms ≤ 32) (program_at k s)
  unfolding program_at
  program_alarms =
      gives_after (λ p. length p.alarms ≤ 32) (typed_at k block_count 0 s 0) _
      (λ v at. gives_after (λ p. length p.alarms ≤ 32) (blocks_at k v s at) _
      (λ bs at. gives_then (λ rs. length rs ≤ 32) (λ p. length p.alarms ≤ 32) (alarms_at k s at) _ (alarms_give at) (λ rs end h. h)))

  pub alarms_few : {p : Program} {end : ℕ} → program_at k s ≡ got p end → length p.alarms ≤ 32
  alarms_few e = subst (Gives (λ p. length p.alarms ≤ 32)) e program_alarms
