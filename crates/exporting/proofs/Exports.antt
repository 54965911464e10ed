-- The three ends of an export: the program is refused, the buffer is too short, the listing is handed over. Assumes nothing.
use Prim.Native.Nat.{ℕ, ◌<◌, ◌≤◌}
use mathlib.Core.Path.{◌≡◌, sym, ap, ◌∙◌}
use mathlib.Core.List.{List}
use lib.ListN.{length}
use lib.Seq.{sets}
use borrow.Author.Tests.{lt-ltb, le-ltb, ne_eqb}
use Rattle.terms.specs.Refusals.{short_buffer}
use Rattle.wire.specs.Reading.{IsGot, is_got}
use Rattle.exchange.specs.Exchange.{refused, done, handed, filled}
use Rattle.program.specs.Program.{program_at}
use Rattle.program.specs.Acceptance.{every_block, accepted}
use Rattle.program.specs.declared.Acceptance.{Acceptance}
use Rattle.program.proofs.FirstReading.{Good, good, accepted_good}
use Rattle.exporting.specs.Texts.{listed_in}
use Rattle.exporting.specs.Exported.{exported, exported_into}

module _ (s : List ℕ) {a : Acceptance} (e : a ≡ accepted s) where
  good_number : a.refusal ≡ 0 → (accepted s).refusal ≡ 0
  good_number h = sym (ap (λ (x : Acceptance). x.refusal) e) ∙ h

  pub can_be_read : a.refusal ≡ 0 → IsGot (program_at every_block s)
  can_be_read h = go (accepted_good s (good_number h))
    where
      go : Good s → IsGot (program_at every_block s)
      go (good p end f m) = is_got p end f

  module _ (l : List ℕ) where
    pub not_accepted : (a.refusal ≡ 0 → ⊥) → (refused a.refusal a.place ≡ exported s l) × (l ≡ exported_into s l)
    unfolding exported exported_into
    not_accepted h = (rw (← e, ne_eqb a.refusal 0 h), rw (← e, ne_eqb a.refusal 0 h))

    pub too_short :
        a.refusal ≡ 0 → length l < length (listed_in (program_at every_block s)) → (refused short_buffer 0 ≡ exported s l) × (l ≡ exported_into s l)
    unfolding exported exported_into handed filled
    too_short h f = (rw (good_number h, lt-ltb _ _ f), rw (good_number h, lt-ltb _ _ f))

    pub handed_over :
        a.refusal ≡ 0 → length (listed_in (program_at every_block s)) ≤ length l →
        (done (length (listed_in (program_at every_block s))) ≡ exported s l) × (sets l 0 (listed_in (program_at every_block s)) ≡ exported_into s l)
    unfolding exported exported_into handed filled
    handed_over h f = (rw (good_number h, le-ltb _ _ f), rw (good_number h, le-ltb _ _ f))
