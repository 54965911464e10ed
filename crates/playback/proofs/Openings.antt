-- Laws of what comes before the scans, by what is read there. Assumes nothing.
use Prim.Native.Nat.{ℕ, ◌+◌, ◌≤◌}
use mathlib.Core.Path.{◌≡◌, refl, subst}
use mathlib.Core.List.{List}
use native.Mathlib.Omega.{arith}
use lib.Dec.{eqb}
use lib.ListN.{length, take, drop, length-take, length-drop}
use lib.Seq.{length-take-le}
use borrow.Author.Tests.{eq-eqb, ne_eqb}
use Rattle.text.specs.Text.{Put}
use Rattle.program.specs.Acceptance.{accepted}
use Rattle.program.specs.declared.Acceptance.{Acceptance}
use Rattle.recording.specs.Recording.{Part, whole, bad, cut, program_bytes, length_in}
use Rattle.std.specs.Prelude.{Ok, Err}
use Rattle.recording.specs.Answers.{answered}
use Rattle.recording.specs.declared.Lack.{Lack}
use Rattle.recording.specs.declared.Lack.TheVariants.{Bad, Cut}
use Rattle.recording.proofs.Heads.{Fit, length_fits, head_fits}
use Rattle.recording.proofs.Parts.{part_is}
use Rattle.terms.proofs.Choice.{pick_case}
use Rattle.playback.specs.Playback.{Opening, opens, refuses_it, fails_it, waits_it, opened_by, opened_of, opening_in}
use Rattle.playback.specs.Answers.{halt_of, OpenedIn}
use Rattle.playback.specs.declared.Halt.TheVariants.{Refused}

module _ (s : List ℕ) where
  pub opens_not : {p : List ℕ} {k : Lack} → Err k ≡ answered (length_in s) → OpenedIn (opening_in s) p p (Err (halt_of k))
  unfolding opening_in
  opens_not {k = Bad} e = rw (part_is (length_in s) e) (record { program = refl; answer = refl })
  opens_not {k = Cut} e = rw (part_is (length_in s) e) (record { program = refl; answer = refl })

  module _ {n at : ℕ} (e : Ok (n, at) ≡ answered (length_in s)) {a : Acceptance} (f : a ≡ accepted (take n (drop at s))) where
    opened : opening_in s ≡ opened_by (take n (drop at s)) (at + n)
    unfolding opening_in
    opened = rw (part_is (length_in s) e)

    long : length (take n (drop at s)) ≡ n
    long = length-take-le n (drop at s) (simp length-drop (omega (arith, head_fits s e)))

    pub opens_refused : {p : List ℕ} → (a.refusal ≡ 0 → ⊥) → OpenedIn (opening_in s) p p (Err (Refused a.refusal a.place))
    unfolding opened_by
    opens_refused ne = rw (opened, ne_eqb _ 0 (rw f at ne), f) (record { program = refl; answer = refl })

    pub opens_good : {p q : List ℕ} {j : ℕ} → a.refusal ≡ 0 → Put (take n (drop at s)) p 0 q j → OpenedIn (opening_in s) p q (Ok (n, at + n))
    unfolding opened_by
    opens_good z copy = rw (opened, eq-eqb _ 0 (rw f at z)) (record { program = copy.bytes; answer = rw long })

-- a program that is opened is there, and small
abbrev Fits : List ℕ → Opening → Type 0
Fits s (opens program next) = (length program ≤ program_bytes) × (next ≤ length s)
Fits s (refuses_it n at) = Unit {0}
Fits s fails_it = Unit {0}
Fits s waits_it = Unit {0}

fits_by : (s program : List ℕ) (next : ℕ) → length program ≤ program_bytes → next ≤ length s → Fits s (opened_by program next)
unfolding opened_by
fits_by s program next h k = pick_case (Fits s) (eqb (accepted program).refusal 0) (λ _. (h, k)) (λ _. tt)

fits_of : (s : List ℕ) (p : Part ℕ) → Fit s p → Fits s (opened_of s p)
fits_of s (whole n at) f = fits_by s (take n (drop at s)) (at + n) (omega (arith, f.0, length-take n (drop at s))) f.1
fits_of s bad f = tt
fits_of s cut f = tt

pub opens_fit : (s : List ℕ) {program : List ℕ} {next : ℕ} → opening_in s ≡ opens program next → (length program ≤ program_bytes) × (next ≤ length s)
unfolding opening_in
opens_fit s e = subst (Fits s) e (fits_of s (length_in s) (length_fits s))
