-- A take from an image, by its refusal and by its answer. Assumes nothing.
use Prim.Native.Nat.{ℕ, ◌≤◌}
use mathlib.Core.Path.{◌≡◌, refl, sym, ap}
use mathlib.Core.Bool.{Bool, true, false}
use native.Mathlib.Omega.{arith}
use lib.Dec.{leb}
use borrow.Author.Tests.{leb-true}
use Rattle.terms.specs.Choice.{every}
use Rattle.terms.proofs.Choice.{both}
use Rattle.journal.specs.Journal.{taken, good_journal}
use Rattle.image.specs.declared.State.{State}
use Rattle.image.specs.Image.{Image, image, journal_in, is_image, good_image, state_in, held_in}
use Rattle.image.specs.State.{good_place, good_state}
use Rattle.image.specs.Lent.{SizedColumns}
use Rattle.image.proofs.Images.{image_parts, columns_again}
use Rattle.log_book.specs.Logbook.{log_taken}
use Rattle.calls.specs.Calls.{take_of, handed_by}
use Rattle.calls.specs.InPlace.{refused_taken, take_answer, taken_in, after_take}
use Rattle.calls.proofs.Scans.{GoodImage}

-- a good state holds at most 32 entries
pub held_few : (s : State) → good_state s ≡ true → s.journal.held ≤ 32
unfolding good_state good_journal
held_few s e = leb-true s.journal.held 32 (both (leb s.journal.held 32) _ (both (every good_place s.places) _ e).1).0

took : (s : State) → good_state s ≡ true → take_of s ≡ handed_by s (taken s.journal)
unfolding take_of
took s e = rw e

module _ (i : Image) where
  -- a refused take leaves the image
  pub no_take : good_image i ≡ false → (refused_taken ≡ taken_in i) × (i ≡ after_take i)
  unfolding taken_in after_take take_of good_image
  no_take h = go (is_image i) refl (good_state (state_in i)) refl
    where
      left : taken_in i ≡ refused_taken → (refused_taken ≡ taken_in i) × (i ≡ after_take i)
      left e = (sym e, rw e)

      go : (a : Bool) → is_image i ≡ a → (b : Bool) → good_state (state_in i) ≡ b → (refused_taken ≡ taken_in i) × (i ≡ after_take i)
      go false e b f = left (rw e)
      go true e false f = left (rw (e, f))
      go true e true f = let z : true ≡ false = rw (e, f) at h in let w : ◌≡◌ {A = ℕ} 0 1 = cc in absurd (omega arith)

  module _ (good : GoodImage i) where
    pub few : held_in i.log ≤ 32
    few = held_few (state_in i) good.state

    pub by_take : taken_in i ≡ take_answer (handed_by (state_in i) (taken (journal_in i.log)))
    unfolding taken_in
    by_take = rw (good.is, took (state_in i) good.state)

    pub image_taken : SizedColumns i.columns → image (log_taken i.log) i.columns ≡ after_take i
    unfolding after_take
    image_taken s =
        rw (by_take, took (state_in i) good.state)
        (ap (image (log_taken i.log)) (sym (columns_again i.columns s (image_parts i good.is).bits)))
