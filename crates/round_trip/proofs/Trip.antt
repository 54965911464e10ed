-- Export and then import: what was exported is the listing of the program, and no more. And which fields are left out. Assumes nothing.
use Prim.Native.Nat.{ℕ, ◌+◌, ◌<◌, ◌≤◌}
use mathlib.Core.Path.{◌≡◌, refl, sym, ap, subst, ◌∙◌}
use mathlib.Core.Logic.{◌↔◌}
use mathlib.Core.Bool.{Bool, true, false, ◌&&◌}
use mathlib.Core.List.{List, [], ◌∷◌, ◌++◌}
use native.Mathlib.Omega.{arith}
use lib.ListN.{length, take, drop}
use lib.Seq.{sets, sets-eq, take_at}
use lib.Dec.{T, ltb, eqb}
use borrow.Author.Tests.{eqb-true, eqb-false, ltb-false, le-ltb}
use Rattle.terms.specs.Choice.{pick, every}
use Rattle.terms.specs.Refusals.{short_buffer}
use Rattle.terms.proofs.Choice.{both, never as not_both}
use Rattle.terms.proofs.Table.{at as entry}
use Rattle.wire.specs.Facts.{Bytes}
use Rattle.wire.specs.Reading.{Read, got}
use Rattle.numbers.specs.Types.{pin, kind_count}
use Rattle.kinds.specs.Kinds.{LeftOut, never, reads, Field, kind_of, fields_of, listed_fields}
use Rattle.program.specs.Program.{Program, program_at}
use Rattle.program.specs.Acceptance.{every_block, accepted}
use Rattle.forms.specs.Written.{Each}
use Rattle.forms.specs.OneForm.{IsWritten, is_written}
use Rattle.forms.proofs.Form.{program_form, accepted_form}
use Rattle.exchange.specs.declared.Exchange.{Exchange}
use Rattle.exchange.specs.Exchange.{refused, done, handed, filled}
use Rattle.layout.specs.Layout.{Listing}
use Rattle.layout.specs.Listed.{leaves_out, listed}
use Rattle.exporting.specs.Texts.{listed_in}
use Rattle.exporting.specs.Exported.{exported, exported_into}
use Rattle.importing.specs.Imports.{Imports}
use Rattle.round_trip.specs.RoundTrip.{LeftOutIfOff}
use Rattle.round_trip.proofs.InForm.{in_form}
use Rattle.round_trip.proofs.Back.{back_of}

pub listed_in_form : (s : List ℕ) (p : Program) (end : ℕ) → Bytes s → program_at every_block s ≡ got p end → Listing (listed p) p
listed_in_form s p end b e = in_form p (program_form every_block s p end b e).1.1

-- a refusal is not 0
not_done : {n at k : ℕ} → refused n at ≡ done k → n ≡ 0
not_done e = ap (λ (x : Exchange). x.refusal) e

-- what was handed over fits
fits : (x l : List ℕ) (n : ℕ) → handed x l ≡ done n → (length x ≤ length l) × (n ≡ length x)
unfolding handed
fits x l n = go (ltb (length l) (length x)) refl
  where
    go : (b : Bool) → ltb (length l) (length x) ≡ b → pick b (refused short_buffer 0) (done (length x)) ≡ done n → (length x ≤ length l) × (n ≡ length x)
    go true q e = absurd (let z : short_buffer ≡ 0 = not_done e in omega arith)
    go false q e = (ltb-false (length l) (length x) q, sym (ap (λ (y : Exchange). y.length) e))

front_of : (x l : List ℕ) → length x ≤ length l → take (length x) (filled x l) ≡ x
unfolding filled
front_of x l h =
    let e : 0 + length x ≡ length x = omega arith in
    let q : sets l 0 x ≡ x ++ drop (0 + length x) l = sets-eq x l 0 (omega arith) in
    rw (le-ltb (length l) (length x) h) (ap (take (length x)) q ∙ take_at x (drop (0 + length x) l) (length x) refl)

-- what was exported is the listing of what can be read
record Out (s l : List ℕ) (n : ℕ) : Type 0 where
  good : (accepted s).refusal ≡ 0
  text : take n (exported_into s l) ≡ listed_in (program_at every_block s)

out : (s l : List ℕ) (n : ℕ) → exported s l ≡ done n → Out s l n
unfolding exported exported_into
out s l n = go (eqb (accepted s).refusal 0) refl
  where
    go : (b : Bool) → eqb (accepted s).refusal 0 ≡ b → pick b (handed (listed_in (program_at every_block s)) l) (refused (accepted s).refusal (accepted s).place) ≡ done n → Out s l n
    go true q e =
        let f = fits (listed_in (program_at every_block s)) l n e in
        record { good = eqb-true (accepted s).refusal 0 q; text = rw (q, f.1) (front_of (listed_in (program_at every_block s)) l f.0) }
    go false q e = absurd (eqb-false (accepted s).refusal 0 q (not_done e))

pub there_and_back :
    (s l k m : List ℕ) (n : ℕ) (r : Exchange) → Bytes s → exported s l ≡ done n → Imports (take n (exported_into s l)) k m r →
    (r ≡ handed s k) × (m ≡ filled s k)
there_and_back s l k m n r b e x =
    let o = out s l n e in
    go o.good (accepted_form s b o.good) (subst (λ (t : List ℕ). Imports t k m r) o.text x)
  where
    go : (accepted s).refusal ≡ 0 → IsWritten s → Imports (listed_in (program_at every_block s)) k m r → (r ≡ handed s k) × (m ≡ filled s k)
    go g (is_written p f w h) y = back_of s k m r p g w h (subst (λ (q : Read Program). Imports (listed_in q) k m r) f y)

-- which fields are left out
plain_field : Field → Bool
plain_field f = by_kind (eqb f.type pin) f.left_out_as
  where
    by_kind : Bool → LeftOut → Bool
    by_kind true never = false
    by_kind true (reads v) = eqb v 0
    by_kind false never = true
    by_kind false (reads v) = false

left_if_off : (f : Field) → plain_field f ≡ true → LeftOutIfOff f
unfolding plain_field
left_if_off f h v = go f.left_out_as (eqb f.type pin) refl refl
  where
    go : (o : LeftOut) (b : Bool) → f.left_out_as ≡ o → eqb f.type pin ≡ b → leaves_out f.left_out_as v ≡ true ↔ ((f.type ≡ pin) × (v ≡ 0))
    go never true e q = not_both (sym (rw (e, q) at h))
    go never false e q = (λ x. not_both (sym (rw e at x)), λ x. absurd (eqb-false f.type pin q x.0))
    go (reads r) true e q =
        let z : eqb r 0 ≡ true = rw (e, q) at h in (
          λ x.
              let y : (eqb v 0 && eqb r 0) ≡ true = rw e at x in
              (eqb-true f.type pin q, eqb-true v 0 (both (eqb v 0) (eqb r 0) y).0),
          λ x. rw (e, z, x.1) refl,
        )
    go (reads r) false e q = not_both (sym (rw (e, q) at h))

all_left : (fs : List Field) → every plain_field fs ≡ true → Each LeftOutIfOff fs
all_left [] h = tt
all_left (f ∷ fs) h = let o = both (plain_field f) (every plain_field fs) h in (left_if_off f o.0, all_left fs o.1)

is_true : (b : Bool) → T b → b ≡ true
is_true true t = refl
is_true false t = absurd t

pub left_out : (k : ℕ) → k < kind_count → Each LeftOutIfOff (fields_of k)
unfolding kind_of fields_of plain_field
left_out k h = all_left (fields_of k) (is_true _ (entry (λ (k : ℕ) (fs : List Field). every plain_field fs) [] listed_fields tt k h))
