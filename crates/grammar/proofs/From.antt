-- The acceptor from a place of a text on: over what stands there, one byte on, or no further. Assumes nothing.
use Prim.Native.Nat.{ℕ, suc, ◌+◌, ◌<◌}
use mathlib.Core.Path.{◌≡◌, refl, sym, ap, ◌∙◌}
use mathlib.Core.Logic.{⊎_elim}
use mathlib.Core.List.{List, [], ◌∷◌, ◌++◌, append_assoc}
use native.Mathlib.Nat.{add-zero}
use native.Mathlib.Numerals.{add-one}
use native.Mathlib.Omega.{arith}
use lib.ListN.{length, get_or, drop, length-append, length-drop, drop_of_length-le, get_or-eq_default}
use lib.Seq.{drop-cons}
use Rattle.terms.proofs.Choice.{le_or_lt}
use Rattle.wire.specs.Facts.{Stands}
use Rattle.grammar.specs.Machine.{State, dead, step, stop, ended, scan, from, Spans}
use Rattle.grammar.proofs.Machines.{Goes}
use Rattle.grammar.proofs.Places.{scan_on}

module _ (s : List ℕ) where
  -- a text that stands at a place is what is left there, but for what is left behind it
  before_rest : (w : List ℕ) (at : ℕ) → Stands w s at → drop at s ≡ w ++ drop (at + length w) s
  before_rest [] at h = rw (add-zero at)
  before_rest (x ∷ w) at h =
      let e : at + suc (length w) ≡ at + 1 + length w = omega arith in
      drop-cons s at 0 h.0 ∙ rw (h.1.0, ← (add-one at), e) (ap (λ (l : List ℕ). x ∷ l) (before_rest w (at + 1) h.1.1))

  pub stands_there : (w z : List ℕ) (at : ℕ) → drop at s ≡ w ++ z → Stands w s at
  stands_there [] z at e = tt
  stands_there (x ∷ w) z at e =
      let h : at < length s = omega (arith, length-drop at s, ap length e) in
      let f = sym (drop-cons s at 0 h) ∙ e in
      (h, (ap (λ (l : List ℕ). get_or l 0 0) f, stands_there w z (at + 1) (rw (add-one at) (ap (drop 1) f))))

  pub rest : {at next : ℕ} {w : List ℕ} → Spans s at w next → drop at s ≡ w ++ drop next s
  rest {at} {next} {w} x = rw x.end (before_rest w at x.stands)

  -- nothing, one byte, one text after another
  pub nothing : (at : ℕ) → Spans s at [] at
  nothing at = record { stands = tt; end = omega arith }

  pub byte : (at x : ℕ) → at < length s → get_or s at 0 ≡ x → Spans s at (x ∷ []) (at + 1)
  byte at x h e = record { stands = (h, (e, tt)); end = refl }

  pub after : {at mid next : ℕ} {v w : List ℕ} → Spans s at v mid → Spans s mid w next → Spans s at (v ++ w) next
  after {at} {next = next} {v = v} {w = w} x y =
      record {
        stands = stands_there (v ++ w) (drop next s) at (rest x ∙ rw (rest y) (sym (append_assoc v w _)));
        end = omega (arith, x.end, y.end, length-append v w);
      }

  -- a byte that is not 0 is within
  pub there : (at x : ℕ) → 0 < x → get_or s at 0 ≡ x → at < length s
  there at x h e = ⊎_elim (λ l. absurd (omega (arith, get_or-eq_default s 0 l))) (λ l. l) (le_or_lt (length s) at)

  -- over a text that does not kill it
  pub goes : {st end : State} {at next : ℕ} {w : List ℕ} → Spans s at w next → Goes step st w end → (end ≡ dead → ⊥) → from s st at ≡ from s end next
  unfolding from
  goes {st} {end} {at} {next} {w} x g live =
      ap (scan st at) (rest x) ∙ scan_on w (drop next s) st end at g.there live ∙ rw x.end refl

  -- no further: at a byte that kills it, or at the end
  pub killed : (st : State) (at : ℕ) → at < length s → step st (get_or s at 0) ≡ dead → from s st at ≡ stop at
  unfolding from scan
  killed st at h e = ap (scan st at) (drop-cons s at 0 h) ∙ rw e

  pub halts : (st : State) (at : ℕ) → step st (get_or s at 0) ≡ dead → ended st at ≡ stop at → from s st at ≡ stop at
  unfolding from scan
  halts st at e f = ⊎_elim (λ h. rw (drop_of_length-le s h) f) (λ h. killed st at h e) (le_or_lt (length s) at)
