-- A program that was read, read again by other marks: the second reading gives the same, or stops at a reference that is astray, and it stops exactly
-- if there is one. Assumes nothing.
use Prim.Native.Nat.{ℕ, zero, suc}
use mathlib.Core.Path.{◌≡◌, refl, ap}
use mathlib.Core.Bool.{Bool, true, false, ◌&&◌}
use mathlib.Core.List.{List, ◌∷◌}
use lib.Dec.{ltb}
use lib.ListN.{length}
use Rattle.terms.specs.Choice.{every}
use Rattle.terms.proofs.Choice.{pick_case}
use Rattle.wire.specs.Reading.{Read}
use Rattle.numbers.specs.Blocks.{Bit, Content, Block, refs_pass}
use Rattle.numbers.specs.Types.{pin, kind_number, block_count, alarm_count, bit_ref, content_of, said_by}
use Rattle.numbers.specs.Reading.{Marks, bit_marked, word_marked, marked, typed_at}
use Rattle.numbers.proofs.References.{marked_pin}
use Rattle.kinds.specs.Kinds.{types_of}
use Rattle.block.specs.Reading.{fields_at, block_at}
use Rattle.program.specs.Program.{Program, blocks_at, references_at, end_at, alarms_at, program_at}
use Rattle.program.specs.References.{block_passes, all_pass}
use Rattle.program.proofs.Again.{same, AgainOf, Never, again_then, again_map, again_after, again_both}
use Rattle.program.proofs.RereadFields.{plain_kind, typed_again, fields_again}

-- read first by j, and again by k
module _ (j k : Marks) (s : List ℕ) where
  abbrev in_block : Block → Bool
  in_block = block_passes (bit_marked k) (word_marked k)

  abbrev in_fields : List Content → Bool
  in_fields = refs_pass (bit_marked k) (word_marked k)

  abbrev in_alarms : List Bit → Bool
  in_alarms = every (bit_marked k)

  abbrev in_whole : Program → Bool
  in_whole = all_pass (bit_marked k) (word_marked k)

  -- blocks
  block_again : (at : ℕ) → AgainOf in_block (block_at j s at) (block_at k s at)
  unfolding block_at marked said_by content_of
  block_again at =
      again_after in_block (typed_at j kind_number 0 s at) (typed_at k kind_number 0 s at) _ _ (typed_again j k s kind_number 0 at)
      (λ v n. again_map in_fields in_block (λ cs. record { kind = v; fields = cs }) (λ cs. refl)
      (fields_at j (types_of v) 0 s n) (fields_at k (types_of v) 0 s n) (fields_again j k s (types_of v) 0 n (plain_kind v)))

  blocks_again : (n at : ℕ) → AgainOf (every in_block) (blocks_at j n s at) (blocks_at k n s at)
  unfolding blocks_at
  blocks_again zero at = same refl refl
  blocks_again (suc n) at =
      again_both in_block (every in_block) (every in_block) ◌∷◌ (λ b bs. refl) (block_at j s at) (block_at k s at)
      (λ b m. blocks_at j n s m) (λ b m. blocks_at k n s m) (block_again at) (λ b m. blocks_again n m)

  -- alarms
  references_again : (n at : ℕ) → AgainOf in_alarms (references_at j n s at) (references_at k n s at)
  unfolding references_at
  references_again zero at = same refl refl
  references_again (suc n) at =
      again_both (marked k pin) in_alarms in_alarms (λ v rs. bit_ref v ∷ rs) (λ v rs. ap (λ (b : Bool). b && in_alarms rs) (marked_pin k v))
      (typed_at j pin 0 s at) (typed_at k pin 0 s at)
      (λ v m. references_at j n s m) (λ v m. references_at k n s m) (typed_again j k s pin 0 at) (λ v m. references_again n m)

  end_again : (rs : List Bit) (at : ℕ) → in_alarms rs ≡ true → AgainOf in_alarms (end_at rs s at) (end_at rs s at)
  unfolding end_at
  end_again rs at t =
      pick_case (λ (r : Read (List Bit)). AgainOf in_alarms r r) (ltb at (length s)) (λ _. tt) (λ _. same t refl)

  end_never : (rs : List Bit) (at : ℕ) → in_alarms rs ≡ false → Never in_alarms (end_at rs s at)
  unfolding end_at
  end_never rs at t = pick_case (Never in_alarms) (ltb at (length s)) (λ _. tt) (λ _. t)

  alarms_again : (at : ℕ) → AgainOf in_alarms (alarms_at j s at) (alarms_at k s at)
  unfolding alarms_at marked said_by content_of
  alarms_again at =
      again_after in_alarms (typed_at j alarm_count 0 s at) (typed_at k alarm_count 0 s at) _ _ (typed_again j k s alarm_count 0 at)
      (λ n m. again_then in_alarms in_alarms (references_at j n s m) (references_at k n s m) _ _ (references_again n m) end_again end_never)

  pub program_again : AgainOf in_whole (program_at j s) (program_at k s)
  unfolding program_at marked said_by content_of all_pass
  program_again =
      again_after in_whole (typed_at j block_count 0 s 0) (typed_at k block_count 0 s 0) _ _ (typed_again j k s block_count 0 0)
      (λ n at. again_both (every in_block) in_alarms in_whole
      (λ bs rs. record { blocks = bs; alarms = rs }) (λ bs rs. refl) (blocks_at j n s at) (blocks_at k n s at)
      (λ bs m. alarms_at j s m) (λ bs m. alarms_at k s m) (blocks_again n at) (λ bs m. alarms_again m))
