-- What can be read was written so: the bytes that a reading passes are those that what it gives is written in, part by part. Assumes nothing.
use Prim.Native.Nat.{ℕ, zero, suc, ◌+◌, ◌<◌, ◌≤◌}
use mathlib.Core.Path.{◌≡◌, refl, sym, ap, subst, ◌∙◌}
use mathlib.Core.Bool.{true}
use mathlib.Core.Logic.{⊎_elim}
use mathlib.Core.List.{List, [], ◌∷◌, map, append-nil}
use native.Mathlib.Omega.{arith}
use lib.Dec.{eqb, ltb}
use lib.ListN.{length, drop_of_length-le, get_or-eq_default}
use borrow.Author.Tests.{eqb-true, ltb-false}
use Rattle.terms.proofs.Choice.{never, le_or_lt, pick_case, when_case}
use Rattle.wire.specs.Facts.{Stands, Bytes}
use Rattle.wire.specs.Reading.{Read, got, fault, and_then}
use Rattle.numbers.specs.Blocks.{Bit, Content, tree, Block, bit_code}
use Rattle.numbers.specs.Types.{pin, kind_number, block_count, alarm_count, number_types, limits, allowed, excepted, bit_ref, content_of, setting_of}
use Rattle.numbers.specs.Reading.{Marks, typed_at}
use Rattle.numbers.proofs.References.{bit_code_lem, allowed_below}
use Rattle.nodes.specs.Reading.{most_deep, most_nodes, expr_at}
use Rattle.grammar.specs.Machine.{Spans}
use Rattle.grammar.proofs.From.{rest}
use Rattle.writing.specs.Expressions.{bytes_of, InRange}
use Rattle.kinds.specs.Kinds.{expression, types_of}
use Rattle.block.specs.Reading.{content_at, fields_at, block_at}
use Rattle.program.specs.Program.{Program, blocks_at, references_at, end_at, alarms_at, program_at}
use Rattle.program.specs.Acceptance.{every_block, accepted}
use Rattle.program.proofs.FirstReading.{Good, good, accepted_good}
use Rattle.forms.specs.Written.{content_numbers, field_numbers, block_numbers, blocks_numbers, alarm_numbers, program_numbers, written}
use Rattle.forms.specs.Written.{Holds, of_number, of_tree, FieldsHold, BlockHolds, Each, most_alarms, ProgramHolds}
use Rattle.forms.specs.OneForm.{IsWritten, is_written}
use Rattle.forms.proofs.Standing.{Numbered, none_numbered, numbered_both}
use Rattle.forms.proofs.Formed.{Formed, formed, stopped, told, formed_then, formed_map, formed_behind, formed_both}
use Rattle.forms.proofs.Numbers.{typed_form, content_numbers_lem, bit_in_range}
use Rattle.forms.proofs.Trees.{expr_form}

-- only a type of number allows any
allowed_type : (ty before v : ℕ) → allowed ty before v ≡ true → ty < number_types
allowed_type ty before v a =
    ⊎_elim (λ l. absurd (omega (arith, allowed_below ty before v a, get_or-eq_default limits 0 l))) (λ l. l) (le_or_lt number_types ty)

-- there is a block
blocks_some : (n : ℕ) → allowed block_count 0 n ≡ true → 0 < n
unfolding allowed excepted
blocks_some zero a = never (sym a)
blocks_some (suc n) a = omega arith

module _ (m : Marks) (s : List ℕ) where
  -- where the reading ends there are no more bytes
  abbrev Ended : {A : Type 0} → Read A → Type 0
  Ended (got a next) = length s ≤ next
  Ended (fault n p) = Unit {0}

  ended_then : {A B : Type 0} (r : Read A) (f : A → ℕ → Read B) → ((a : A) (n : ℕ) → Ended (f a n)) → Ended (and_then r f)
  ended_then (got a n) f h = h a n
  ended_then (fault n p) f h = tt

  ended_map : {A B : Type 0} (c : A → B) (r : Read A) → Ended r → Ended (and_then r (λ a n. got (c a) n))
  ended_map c (got a n) h = h
  ended_map c (fault n p) h = tt

  alarms_ended : (at : ℕ) → Ended (alarms_at m s at)
  unfolding alarms_at end_at
  alarms_ended at =
      ended_then (typed_at m alarm_count 0 s at) _
      (λ n at. ended_then (references_at m n s at) _
      (λ rs at. pick_case Ended (ltb at (length s)) (λ _. tt) (λ e. ltb-false at (length s) e)))

  program_ended : Ended (program_at m s)
  unfolding program_at
  program_ended =
      ended_then (typed_at m block_count 0 s 0) _
      (λ n at. ended_then (blocks_at m n s at) _ (λ bs at. ended_map (λ rs. record { blocks = bs; alarms = rs }) (alarms_at m s at) (alarms_ended at)))

-- what may be written as the alarms of a program
abbrev AlarmsHold : List Bit → Type 0
AlarmsHold rs = (length rs ≤ most_alarms) × Each InRange rs

module _ (m : Marks) (s : List ℕ) (bytes : Bytes s) where
  content_form : (ty before at : ℕ) → Formed s content_numbers (Holds ty before) at (content_at m ty before s at)
  unfolding content_at
  content_form ty before at =
      let F : Read Content → Type 0 = Formed s content_numbers (Holds ty before) at in
      when_case F (eqb ty expression) _ _
      (λ e. formed_map s content_numbers (Holds ty before) tree (expr_at m most_deep most_nodes s at) (expr_form m s bytes most_deep most_nodes at)
      (λ t w. (refl, of_tree t (eqb-true ty expression e) w.proper w.deep w.few refl)))
      (λ _. formed_map s content_numbers (Holds ty before) (content_of ty) (typed_at m ty before s at) (typed_form m ty before s at bytes)
      (λ v a. (content_numbers_lem ty v, of_number v (allowed_type ty before v a) a refl)))

  fields_form : (ts : List ℕ) (before at : ℕ) → Formed s field_numbers (FieldsHold ts before) at (fields_at m ts before s at)
  unfolding fields_at
  fields_form [] before at = formed (none_numbered s) tt
  fields_form (ty ∷ ts) before at =
      formed_both s field_numbers (FieldsHold (ty ∷ ts) before) ◌∷◌ (content_at m ty before s at) (λ c n. fields_at m ts (setting_of c) s n)
      (content_form ty before at) (λ c n. fields_form ts (setting_of c) n) (λ c cs h k. (refl, (h, k)))

  block_formed : (at : ℕ) → Formed s block_numbers BlockHolds at (block_at m s at)
  unfolding block_at
  block_formed at =
      formed_both s block_numbers BlockHolds (λ v cs. record { kind = v; fields = cs }) (typed_at m kind_number 0 s at) (λ v n. fields_at m (types_of v) 0 s n)
      (typed_form m kind_number 0 s at bytes) (λ v n. fields_form (types_of v) 0 n)
      (λ v cs a h. (refl, record { known = allowed_below kind_number 0 v a; fields = h }))

  -- as many as were asked for, each of which may be written
  blocks_form : (n at : ℕ) → Formed s blocks_numbers (λ bs. (length bs ≡ n) × Each BlockHolds bs) at (blocks_at m n s at)
  unfolding blocks_at
  blocks_form zero at = formed (none_numbered s) (refl, tt)
  blocks_form (suc n) at =
      formed_both s blocks_numbers (λ bs. (length bs ≡ suc n) × Each BlockHolds bs) ◌∷◌ (block_at m s at) (λ b o. blocks_at m n s o)
      (block_formed at) (λ b o. blocks_form n o) (λ b bs h k. (refl, (ap suc k.0, (h, k.1))))

  references_form : (n at : ℕ) → Formed s (map bit_code) (λ rs. (length rs ≡ n) × Each InRange rs) at (references_at m n s at)
  unfolding references_at
  references_form zero at = formed (none_numbered s) (refl, tt)
  references_form (suc n) at =
      formed_both s (map bit_code) (λ rs. (length rs ≡ suc n) × Each InRange rs) (λ v rs. bit_ref v ∷ rs) (typed_at m pin 0 s at) (λ v o. references_at m n s o)
      (typed_form m pin 0 s at bytes) (λ v o. references_form n o)
      (λ v rs a k. (rw (bit_code_lem v), (ap suc k.0, (bit_in_range v (allowed_below pin 0 v a), k.1))))

  -- the alarms, up to the end
  end_form :
      (n at mid next : ℕ) (rs : List Bit) → Numbered s at (n ∷ []) mid → Numbered s mid (map bit_code rs) next → length rs ≡ n → AlarmsHold rs →
      Formed s alarm_numbers AlarmsHold at (end_at rs s next)
  unfolding end_at
  end_form n at mid next rs x y l h =
      pick_case (Formed s alarm_numbers AlarmsHold at) (ltb next (length s)) (λ _. stopped)
      (λ _. formed {a = rs} {next = next} (rw l (numbered_both s x y)) h)

  alarms_form : (at : ℕ) → Formed s alarm_numbers AlarmsHold at (alarms_at m s at)
  unfolding alarms_at
  alarms_form at =
      formed_then s alarm_numbers AlarmsHold (typed_at m alarm_count 0 s at) _ (typed_form m alarm_count 0 s at bytes)
      (λ n mid x a. formed_then s alarm_numbers AlarmsHold (references_at m n s mid) _ (references_form n mid)
      (λ rs next y k. end_form n at mid next rs x y k.0 (omega (arith, allowed_below alarm_count 0 n a, k.0), k.1)))

  program_formed : Formed s program_numbers ProgramHolds 0 (program_at m s)
  unfolding program_at
  program_formed =
      formed_then s program_numbers ProgramHolds (typed_at m block_count 0 s 0) _ (typed_form m block_count 0 s 0 bytes)
      (λ n mid x a. formed_then s program_numbers ProgramHolds (blocks_at m n s mid) _ (blocks_form n mid)
      (λ bs next y k. formed_behind s program_numbers ProgramHolds (numbered_both s x y) (λ rs. record { blocks = bs; alarms = rs }) (alarms_at m s next)
      (alarms_form next)
      (λ rs h. (
        rw k.0,
        record {
          some = omega (arith, blocks_some n a, k.0);
          most = omega (arith, allowed_below block_count 0 n a, k.0);
          blocks = k.1;
          few = h.0;
          alarms = h.1;
        },
      ))))

pub block_form :
    (m : Marks) (s : List ℕ) (at : ℕ) (b : Block) (next : ℕ) → Bytes s → block_at m s at ≡ got b next →
    Stands (bytes_of (block_numbers b)) s at × ((next ≡ at + length (bytes_of (block_numbers b))) × BlockHolds b)
block_form m s at b next bytes e =
    let o = told s (subst (Formed s block_numbers BlockHolds at) e (block_formed m s bytes at)) in
    (o.0.spans.stands, (o.0.spans.end, o.1))

pub program_form :
    (m : Marks) (s : List ℕ) (p : Program) (end : ℕ) → Bytes s → program_at m s ≡ got p end →
    (s ≡ written p) × ((end ≡ length s) × ProgramHolds p)
unfolding written
program_form m s p end bytes e =
    let o = told s (subst (Formed s program_numbers ProgramHolds 0) e (program_formed m s bytes)) in
    let l : length s ≤ end = subst (Ended m s) e (program_ended m s) in
    let x : Spans s 0 (bytes_of (program_numbers p)) end = o.0.spans in
    let f : s ≡ bytes_of (program_numbers p) = rest s x ∙ rw (drop_of_length-le s l) (append-nil (bytes_of (program_numbers p))) in
    (f, (omega (arith, x.end, ap length f), o.1))

-- an accepted program
pub accepted_form : (s : List ℕ) → Bytes s → (accepted s).refusal ≡ 0 → IsWritten s
accepted_form s bytes z = go (accepted_good s z)
  where
    go : Good s → IsWritten s
    go (good p end e h) =
        let o = program_form every_block s p end bytes e in
        is_written p (rw o.1.0 at e) o.0 o.1.1
