-- Laws of the head: a length that is good is small, and the program of that length is there; where it is cut, so much is not. Assumes nothing.
use Prim.Native.Nat.{ℕ, ◌+◌, ◌≤◌, ◌<◌}
use mathlib.Core.Path.{◌≡◌, refl}
use mathlib.Core.List.{List}
use native.Mathlib.Omega.{arith}
use lib.Dec.{ltb}
use lib.ListN.{length}
use borrow.Author.Tests.{ltb-true, ltb-false}
use Rattle.std.specs.Prelude.{Ok}
use Rattle.terms.proofs.Choice.{pick_case}
use Rattle.wire.specs.Number.{Num, Got, Bad, Cut}
use Rattle.wire.specs.Number.{number_at}
use Rattle.recording.specs.Recording.{Part, whole, bad, cut, program_bytes, length_of, length_in}
use Rattle.recording.specs.Answers.{answered}
use Rattle.recording.proofs.Parts.{part_is}
use Rattle.recording.proofs.Ends.{number_within, number_near}

abbrev pub Fit : List ℕ → Part ℕ → Type 0
Fit s (whole n at) = (n ≤ program_bytes) × (at + n ≤ length s)
Fit s bad = Unit {0}
Fit s cut = length s < 3 + program_bytes

length_of_lem : (s : List ℕ) (r : Num) → number_at s 0 ≡ r → Fit s (length_of s r)
length_of_lem s (Got n at) e =
    let t = number_within s 0 e in
    pick_case (Fit s) (ltb program_bytes n) (λ _. tt)
    (λ f. pick_case (Fit s) (ltb (length s) (at + n))
    (λ g. omega (arith, ltb-true (length s) (at + n) g, ltb-false program_bytes n f))
    (λ g. (ltb-false program_bytes n f, ltb-false (length s) (at + n) g)))
length_of_lem s Bad e = tt
length_of_lem s Cut e = omega (arith, number_near s 0 e)

pub length_fits : (s : List ℕ) → Fit s (length_in s)
unfolding length_in
length_fits s = length_of_lem s (number_at s 0) refl

pub head_fits : (s : List ℕ) {n at : ℕ} → Ok (n, at) ≡ answered (length_in s) → (n ≤ program_bytes) × (at + n ≤ length s)
head_fits s e = rw (part_is (length_in s) e) at (length_fits s)
