-- Import after export gives the bytes back. Assumes nothing.
use Prim.Native.Nat.{ℕ}
use mathlib.Core.Path.{◌≡◌, refl, sym, ap, ◌∙◌}
use mathlib.Core.List.{List}
use borrow.Author.Tests.{eq-eqb}
use Rattle.wire.specs.Facts.{Bytes}
use Rattle.wire.specs.Reading.{got}
use Rattle.program.specs.Program.{Program, program_at}
use Rattle.program.specs.Acceptance.{every_block, accepted}
use Rattle.forms.specs.Written.{written, ProgramHolds}
use Rattle.forms.proofs.Form.{program_form}
use Rattle.exchange.specs.declared.Exchange.{Exchange}
use Rattle.exchange.specs.Exchange.{handed, filled}
use Rattle.layout.specs.Listed.{listed}
use Rattle.layout.proofs.Outcomes.{one_program}
use Rattle.importing.specs.Imports.{by_acceptance, into_buffer, imported_as, imported_into, Imports, bad_listing, a_listing}
use Rattle.round_trip.proofs.InForm.{in_form}

module _ (s l m : List ℕ) (r : Exchange) (p : Program) (good : (accepted s).refusal ≡ 0) (same : s ≡ written p) (holds : ProgramHolds p) where
  imported : r ≡ imported_as p l → m ≡ imported_into p l → (r ≡ handed s l) × (m ≡ filled s l)
  unfolding imported_as imported_into
  imported e f =
      let z = eq-eqb (accepted s).refusal 0 good in (
        e ∙ ap (λ (x : List ℕ). by_acceptance (accepted x) x l) (sym same) ∙ rw z refl,
        f ∙ ap (λ (x : List ℕ). into_buffer (accepted x) x l) (sym same) ∙ rw z refl,
      )

  pub back_of : Imports (listed p) l m r → (r ≡ handed s l) × (m ≡ filled s l)
  back_of (bad_listing k x e f) = absurd (x.no_reading p (in_form p holds))
  back_of (a_listing q x e f) =
      let i : q ≡ p = one_program (listed p) q p x (in_form p holds) in
      imported (e ∙ ap (λ (z : Program). imported_as z l) i) (f ∙ ap (λ (z : Program). imported_into z l) i)

pub back :
    (s l m : List ℕ) (r : Exchange) (p : Program) (end : ℕ) → Bytes s → (accepted s).refusal ≡ 0 → program_at every_block s ≡ got p end →
    Imports (listed p) l m r → (r ≡ handed s l) × (m ≡ filled s l)
back s l m r p end b g e x = let f = program_form every_block s p end b e in back_of s l m r p g f.0 f.1.1 x
