-- What is answered of the bytes of a program; and that the front of a program answers for the program. Assumes nothing.
use Prim.Native.Nat.{ℕ, ◌-◌, ◌<◌, ◌≤◌}
use mathlib.Core.Path.{◌≡◌, refl, ap, subst, ◌∙◌}
use mathlib.Core.Bool.{Bool, true, false}
use mathlib.Core.List.{List}
use native.Mathlib.Omega.{arith}
use lib.ListN.{length, take, drop}
use lib.Seq.{sets}
use lib.Dec.{eqb}
use borrow.Author.Tests.{eq-eqb, ne_eqb, lt-ltb, le-ltb, eqb-true}
use Rattle.std.specs.Prelude.{Ok, Err}
use Rattle.terms.specs.Refusals.{short_buffer}
use Rattle.writing.specs.Expressions.{bytes_of}
use Rattle.program.specs.Program.{Program}
use Rattle.program.specs.declared.Acceptance.{Acceptance}
use Rattle.program.specs.Acceptance.{accepted}
use Rattle.forms.specs.Written.{written}
use Rattle.fronts.specs.Fronts.{front}
use Rattle.fronts.proofs.Fronts.{front_decides, front_accepted}
use Rattle.exchange.specs.declared.Exchange.{Exchange}
use Rattle.exchange.specs.Exchange.{refused, done, handed, filled}
use Rattle.layout.specs.Layout.{Listing}
use Rattle.layout.specs.Lines.{BadLine}
use Rattle.gathering.specs.declared.Gathered.{Gathered}
use Rattle.gathering.specs.Gathering.{Gathers, gathers, no_listing}
use Rattle.gathering.proofs.Spelt.{listing_spelt}
use Rattle.importing.specs.Imports.{by_acceptance, into_buffer, imported_as, imported_into, Hands, Imports, a_listing}

module _ {x l : List ℕ} {a : Acceptance} (e : a ≡ accepted x) where
  pub hands_refusal : {r : Exchange} → (a.refusal ≡ 0 → ⊥) → r ≡ refused a.refusal a.place → Hands x l l r
  hands_refusal n q =
      let z = ne_eqb a.refusal 0 n in
      record { answer = rw (← e, z) q; buffer = rw (← e, z) refl }

  pub hands_short : {r : Exchange} → a.refusal ≡ 0 → length l < length x → r ≡ refused short_buffer 0 → Hands x l l r
  unfolding handed filled
  hands_short n h q =
      let z = eq-eqb a.refusal 0 n in
      let k = lt-ltb (length l) (length x) h in
      record { answer = rw (← e, z, k) q; buffer = rw (← e, z, k) refl }

  pub hands_all : {r : Exchange} {m : List ℕ} → a.refusal ≡ 0 → length x ≤ length l → r ≡ done (length x) → m ≡ sets l 0 x → Hands x l m r
  unfolding handed filled
  hands_all n h q b =
      let z = eq-eqb a.refusal 0 n in
      let k = le-ltb (length l) (length x) h in
      record { answer = rw (← e, z, k) q; buffer = rw (← e, z, k) b }

-- the front of a program answers for the program
module _ {s : List ℕ} (p : Program) (x : Listing s p) {l m : List ℕ} {r : Exchange} where
  pub answers : Hands (bytes_of (front p)) l m r → Imports s l m r
  unfolding imported_as imported_into
  answers h = go (eqb (accepted (written p)).refusal 0) refl
    where
      same : accepted (bytes_of (front p)) ≡ accepted (written p)
      same = front_decides p (listing_spelt s p x)

      go : (b : Bool) → eqb (accepted (written p)).refusal 0 ≡ b → Imports s l m r
      go true q =
          let w : bytes_of (front p) ≡ written p = front_accepted p (listing_spelt s p x) (ap (λ (a : Acceptance). a.refusal) same ∙ eqb-true (accepted (written p)).refusal 0 q) in
          a_listing p x (h.answer ∙ ap (λ (y : List ℕ). by_acceptance (accepted y) y l) w) (h.buffer ∙ ap (λ (y : List ℕ). into_buffer (accepted y) y l) w)
      go false q =
          a_listing p x
          (h.answer ∙ rw (same, q) refl)
          (h.buffer ∙ rw (same, q) refl)

pub hands_of : {x y l m : List ℕ} {r : Exchange} → x ≡ y → Hands x l m r → Hands y l m r
hands_of {l = l} {m = m} {r = r} e h = subst (λ (z : List ℕ). Hands z l m r) e h

-- what was gathered
pub record Found (s m : List ℕ) (from to : ℕ) : Type 0 where
  pub program : Program
  pub listing : Listing s program
  pub forward : from ≤ to
  pub within : to ≤ length m
  pub bytes : take (to - from) (drop from m) ≡ bytes_of (front program)

pub found : {s m : List ℕ} {g : Gathered} → Gathers s m (Ok g) → Found s m g.from g.to
found (gathers p a b x h k y) = record { program = p; listing = x; forward = h; within = k; bytes = y }

pub none_found : {s m : List ℕ} {k : ℕ} → Gathers s m (Err k) → BadLine s k
none_found (no_listing j x) = x
