-- A run by its answer: of an accepted program, which was then read, or of another, which changes nothing. Assumes nothing.
use Prim.Native.Nat.{ℕ}
use mathlib.Core.Path.{◌≡◌, refl, sym, ap, ◌∙◌}
use mathlib.Core.Bool.{Bool, true, false}
use mathlib.Core.List.{List}
use native.Mathlib.Omega.{arith}
use lib.Dec.{eqb}
use lib.ListN.{length}
use borrow.Author.Tests.{eqb-true}
use Rattle.terms.specs.Choice.{every}
use Rattle.wire.specs.Reading.{got}
use Rattle.program.specs.Program.{Program, program_at}
use Rattle.program.specs.Acceptance.{every_block, accepted}
use Rattle.program.proofs.FirstReading.{Good, good, accepted_good}
use Rattle.image.specs.Image.{Columns, places_in, columns_of, at_most}
use Rattle.image.specs.Lent.{SizedColumns}
use Rattle.image.proofs.Images.{columns_again}
use Rattle.std.specs.Prelude.{Option, Some, None}
use Rattle.trial.specs.declared.Trial.{Trial}
use Rattle.scanning.specs.Scan.{Inputs}
use Rattle.scanning.specs.Loading.{stored_in}
use Rattle.scanning.specs.Run.{places_after, steps_in, alarms_after, run_of, after_run}
use Rattle.scanning.proofs.Beyond.{stored_all_lem}

module _ (s : List ℕ) (x : Inputs) (c : Columns) where
  pub record Ran : Type 0 where
    pub program : Program
    pub end : ℕ
    pub accepts : eqb (accepted s).refusal 0 ≡ true
    pub read : program_at every_block s ≡ got program end
    pub answer :
        run_of s x (places_in c)
        ≡ Some (record { steps = steps_in x program (places_in c); alarms = alarms_after x program (places_in c) })
    pub columns : SizedColumns c → every (at_most 1) c.outputs ≡ true → after_run s x c ≡ columns_of (places_after x program (places_in c))

  by_program : eqb (accepted s).refusal 0 ≡ true → Good s → Ran
  unfolding run_of after_run
  by_program e (good p end h f) =
      record {
        program = p;
        end = end;
        accepts = e;
        read = h;
        answer = rw (e, h);
        columns = λ l o.
            rw (e, h)
            (ap (stored_in (length p.blocks) (places_after x p (places_in c))) (sym (columns_again c l o))
            ∙ stored_all_lem x p.blocks (places_in c) (length p.blocks));
      }

  not_good : eqb (accepted s).refusal 0 ≡ false → (run_of s x (places_in c) ≡ None) × (after_run s x c ≡ c)
  unfolding run_of after_run
  not_good e = (rw e, rw e)

  pub ran : {t : Trial} → run_of s x (places_in c) ≡ Some t → Ran
  ran {t} g = go (eqb (accepted s).refusal 0) refl
    where
      go : (b : Bool) → eqb (accepted s).refusal 0 ≡ b → Ran
      go true e = by_program e (accepted_good s (eqb-true (accepted s).refusal 0 e))
      go false e = let z : ◌≡◌ {A = Option Trial} None (Some t) = rw (not_good e).0 at g in let u : ◌≡◌ {A = ℕ} 0 1 = cc in absurd (omega arith)

  pub not_run : run_of s x (places_in c) ≡ None → (eqb (accepted s).refusal 0 ≡ false) × (after_run s x c ≡ c)
  not_run g = go (eqb (accepted s).refusal 0) refl
    where
      go : (b : Bool) → eqb (accepted s).refusal 0 ≡ b → (b ≡ false) × (after_run s x c ≡ c)
      go true e =
          let z = sym (by_program e (accepted_good s (eqb-true (accepted s).refusal 0 e))).answer ∙ g in
          let u : ◌≡◌ {A = ℕ} 0 1 = cc in absurd (omega arith)
      go false e = (refl, (not_good e).1)

  -- the answer of a run that was made
  pub told : (r : Ran) {t : Trial} → run_of s x (places_in c) ≡ Some t
      → t ≡ record { steps = steps_in x r.program (places_in c); alarms = alarms_after x r.program (places_in c) }
  told r g = let h = sym g ∙ r.answer in cc
