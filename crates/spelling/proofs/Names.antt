-- What stands at a place, by the grammar: a name, or the place where the acceptor stops. Assumes nothing.
use Prim.Native.Nat.{ℕ, zero, suc, ◌+◌, ◌*◌, ◌-◌, ◌<◌, ◌≤◌}
use mathlib.Core.Path.{◌≡◌, refl, sym, ap, ◌∙◌}
use mathlib.Core.Bool.{Bool, true, false, ◌&&◌}
use mathlib.Core.List.{List, [], ◌∷◌, ◌++◌, append_assoc, append-nil}
use native.Mathlib.Omega.{arith}
use lib.ListN.{length}
use lib.Dec.{eqb, leb}
use borrow.Author.Tests.{eqb-true, ne_eqb, leb-true}
use Rattle.std.specs.Prelude.{Option, None, Some, Result, Ok, Err}
use Rattle.std.specs.Result.{result_ok}
use Rattle.terms.proofs.Choice.{pick_case, both, pairs}
use Rattle.wire.specs.Number.{byte_at}
use Rattle.numbers.specs.Blocks.{Bit, off, on, input, output, bit_code}
use Rattle.grammar.specs.Grammar.{letter_b, letter_i, digit, Decimal, no_digits, one_more, Name, name_0, name_1, name_I, name_B}
use Rattle.grammar.specs.Machine.{State, want, digits, dead, tens, may_be, is_digit, to_come, in_number, step, stop, from, Spans}
use Rattle.grammar.proofs.Machines.{run}
use Rattle.grammar.proofs.Complete.{may_be_lem}
use Rattle.grammar.proofs.From.{nothing, byte, after, there, goes, halts}
use Rattle.spelling.specs.Spelling.{Digits}
use Rattle.spelling.specs.Spelling.{Got, Bad}
use Rattle.spelling.specs.Spelling.{Named}
use Rattle.spelling.specs.Spelling.{Bit as BitName, NoName}
use Rattle.spelling.specs.Spelling.{digits_at, named, name_at, as_digits, as_named}

-- one byte that does not kill the acceptor
pub eats : (s : List ℕ) (st end : State) (at : ℕ) → at < length s → step st (byte_at s at) ≡ end → (end ≡ dead → ⊥) → from s st at ≡ from s end (at + 1)
unfolding run
eats s st end at h e live = goes s (byte s at (byte_at s at) h refl) (record { there = e }) live

module _ (least most : ℕ) (s : List ℕ) where
  -- the test of a digit
  abbrev test : ℕ → ℕ → ℕ → Bool
  test k n at = is_digit (byte_at s at) && may_be least most k (10 * n + (byte_at s at - 48))

  record Digit (k n at : ℕ) : Type 0 where
    small : byte_at s at - 48 < 10
    back : 48 + (byte_at s at - 48) ≡ byte_at s at
    inside : at < length s
    may : may_be least most k (10 * n + (byte_at s at - 48)) ≡ true

  is_digit_lem : (k n at : ℕ) → test k n at ≡ true → Digit k n at
  unfolding is_digit
  is_digit_lem k n at e =
      let o = both (is_digit (byte_at s at)) (may_be least most k (10 * n + (byte_at s at - 48))) e in
      let q = both (leb 48 (byte_at s at)) (leb (byte_at s at) 57) o.0 in
      let l = leb-true 48 (byte_at s at) q.0 in
      let h = leb-true (byte_at s at) 57 q.1 in
      record { small = omega arith; back = omega arith; inside = there s at (byte_at s at) (omega arith) refl; may = o.1 }

  -- the digits of a number that is read, and its range
  pub record Numbered (j n : ℕ) (u : List ℕ) (at k v next : ℕ) : Type 0 where
    pub text : List ℕ
    pub number : Decimal (j + k) v (u ++ text)
    pub stands : Spans s at text next
    pub low : least ≤ v
    pub high : v ≤ most

  pub digits_good :
      (k n at j v next : ℕ) (u : List ℕ) → may_be least most k n ≡ true → Decimal j n u → digits_at k n least most s at ≡ Got v next →
      Numbered j n u at k v next
  unfolding digits_at tens
  digits_good zero n at j v next u m x e =
      let a : n ≡ v = cc in
      let b : at ≡ next = cc in
      let r = may_be_lem least most 0 n m in
      let i : j ≡ j + 0 = omega arith in
      record {
        text = [];
        number = rw (← a, append-nil u) (rw i at x);
        stands = rw (← b) (nothing s at);
        low = omega arith;
        high = omega arith;
      }
  digits_good (suc k) n at j v next u m x e =
      pick_case (λ (r : Digits). r ≡ Got v next → Numbered j n u at (suc k) v next) (test k n at)
      (λ t f.
      let d = is_digit_lem k n at t in
      let x' = one_more (byte_at s at - 48) d.small x in
      let r = digits_good k (10 * n + (byte_at s at - 48)) (at + 1) (suc j) v next (u ++ (digit (byte_at s at - 48) ∷ [])) d.may x' f in
      let i : suc j + k ≡ j + suc k = omega arith in
      record {
        text = digit (byte_at s at - 48) ∷ r.text;
        number = rw (append_assoc u (digit (byte_at s at - 48) ∷ []) r.text, i) at r.number;
        stands = after s (byte s at (digit (byte_at s at - 48)) d.inside (sym d.back)) r.stands;
        low = r.low;
        high = r.high;
      })
      (λ _ f. let z : ◌≡◌ {A = ℕ} 0 1 = cc in absurd (omega arith))
      e

  -- where no such number goes on, the acceptor stops
  stopped : (k n at q d : ℕ) → test k n at ≡ false → Bad at ≡ Bad q → from s (digits k n least most d) at ≡ stop q
  unfolding step in_number
  stopped k n at q d t f = let a : at ≡ q = cc in halts s (digits k n least most d) at (rw t) refl ∙ ap stop a

  digits_bad : (k n at q d : ℕ) → digits_at (suc k) n least most s at ≡ Bad q → from s (digits k n least most d) at ≡ stop q
  unfolding digits_at step in_number to_come
  digits_bad zero n at q d e =
      pick_case (λ (r : Digits). r ≡ Bad q → from s (digits 0 n least most d) at ≡ stop q) (test 0 n at)
      (λ t f. let z : ◌≡◌ {A = ℕ} 0 1 = cc in absurd (omega arith)) (stopped 0 n at q d) e
  digits_bad (suc k) n at q d e =
      pick_case (λ (r : Digits). r ≡ Bad q → from s (digits (suc k) n least most d) at ≡ stop q) (test (suc k) n at)
      (λ t f.
      eats s (digits (suc k) n least most d) (digits k (10 * n + (byte_at s at - 48)) least most d) at (is_digit_lem (suc k) n at t).inside (rw t)
      (λ z. let y : ◌≡◌ {A = ℕ} 0 1 = cc in omega arith)
      ∙ digits_bad k (10 * n + (byte_at s at - 48)) (at + 1) q d f)
      (stopped (suc k) n at q d)
      e

-- a name at a place, with its reference
pub record Called (s : List ℕ) (at v next : ℕ) : Type 0 where
  pub text : List ℕ
  pub bit : Bit
  pub name : Name text bit
  pub code : v ≡ bit_code bit
  pub stands : Spans s at text next

module _ (s : List ℕ) (at : ℕ) where
  -- a letter and its digits
  lettered :
      (letter base k least most : ℕ) (b : ℕ → Bit) → byte_at s at ≡ letter → 0 < letter → may_be least most k 0 ≡ true →
      ((v : ℕ) (w : List ℕ) → Decimal k v w → least ≤ v → v ≤ most → Name (letter ∷ w) (b v) × (base + v ≡ bit_code (b v))) →
      (r : Digits) → digits_at k 0 least most s (at + 1) ≡ r → (v next : ℕ) → named base r ≡ BitName v next → Called s at v next
  lettered letter base k least most b e h m f (Got n q) g v next i =
      let a : base + n ≡ v = cc in
      let c : q ≡ next = cc in
      let r = digits_good least most s k 0 (at + 1) 0 n q [] m no_digits g in
      let o : Decimal k n r.text = (let j : 0 + k ≡ k = omega arith in rw j at r.number) in
      let x = f n r.text o r.low r.high in
      record {
        text = letter ∷ r.text;
        bit = b n;
        name = x.0;
        code = sym a ∙ x.1;
        stands = rw (← c) (after s (byte s at letter (there s at letter h e) e) r.stands);
      }
  lettered letter base k least most b e h m f (Bad q) g v next i = let z : ◌≡◌ {A = ℕ} 0 1 = cc in absurd (omega arith)

  plain : (x : ℕ) (b : Bit) (v next : ℕ) → 0 < x → byte_at s at ≡ x → Name (x ∷ []) b → BitName (bit_code b) (at + 1) ≡ BitName v next → Called s at v next
  plain x b v next h e n f =
      let a : bit_code b ≡ v = cc in
      let c : at + 1 ≡ next = cc in
      record { text = x ∷ []; bit = b; name = n; code = sym a; stands = rw (← c) (byte s at x (there s at x h e) e) }

  name_I_of : (v : ℕ) (w : List ℕ) → Decimal 2 v w → 1 ≤ v → v ≤ 32 → Name (letter_i ∷ w) (input (v - 1)) × (1 + v ≡ bit_code (input (v - 1)))
  name_I_of v w x l h = let e : v ≡ (v - 1) + 1 = omega arith in (name_I {n = v - 1} (omega arith) (rw e at x), omega arith)

  name_B_of : (v : ℕ) (w : List ℕ) → Decimal 3 v w → 0 ≤ v → v ≤ 199 → Name (letter_b ∷ w) (output v) × (34 + v ≡ bit_code (output v))
  name_B_of v w x l h = (name_B {n = v} (omega arith) x, omega arith)

  pub name_good : (v next : ℕ) → name_at s at ≡ BitName v next → Called s at v next
  unfolding name_at may_be tens
  name_good v next =
      let P : Named → Type 0 = λ r. r ≡ BitName v next → Called s at v next in
      let b = byte_at s at in
      pick_case P (eqb b 48) (λ e f. plain 48 off v next (omega arith) (eqb-true b 48 e) name_0 f)
      (λ _. pick_case P (eqb b 49) (λ e f. plain 49 on v next (omega arith) (eqb-true b 49 e) name_1 f)
      (λ _. pick_case P (eqb b 73)
      (λ e f. lettered letter_i 1 2 1 32 (λ n. input (n - 1)) (eqb-true b 73 e) (omega arith) refl name_I_of (digits_at 2 0 1 32 s (at + 1)) refl v next f)
      (λ _. pick_case P (eqb b 66)
      (λ e f. lettered letter_b 34 3 0 199 output (eqb-true b 66 e) (omega arith) refl name_B_of (digits_at 3 0 0 199 s (at + 1)) refl v next f)
      (λ _ f. let z : ◌≡◌ {A = ℕ} 0 1 = cc in absurd (omega arith)))))

  -- where no name stands, and nothing else that a part begins with
  letter_bad :
      (letter base k least most d q : ℕ) → byte_at s at ≡ letter → 0 < letter → step (want d) letter ≡ digits k 0 least most d →
      (r : Digits) → digits_at (suc k) 0 least most s (at + 1) ≡ r → named base r ≡ NoName q → from s (want d) at ≡ stop q
  letter_bad letter base k least most d q e h st (Got n p) g f = let z : ◌≡◌ {A = ℕ} 0 1 = cc in absurd (omega arith)
  letter_bad letter base k least most d q e h st (Bad p) g f =
      let a : p ≡ q = cc in
      eats s (want d) (digits k 0 least most d) at (there s at letter h e) (rw e st) (λ z. let y : ◌≡◌ {A = ℕ} 0 1 = cc in omega arith)
      ∙ digits_bad least most s k 0 (at + 1) p d g ∙ ap stop a

  pub name_bad :
      (q : ℕ) → name_at s at ≡ NoName q → (byte_at s at ≡ 32 → ⊥) → (byte_at s at ≡ 33 → ⊥) → (byte_at s at ≡ 40 → ⊥) → (d : ℕ) →
      from s (want d) at ≡ stop q
  unfolding name_at step to_come
  name_bad q e n32 n33 n40 d =
      let b = byte_at s at in
      let P : Named → Type 0 = λ r. r ≡ NoName q → from s (want d) at ≡ stop q in
      pick_case P (eqb b 48) (λ _ f. let z : ◌≡◌ {A = ℕ} 0 1 = cc in absurd (omega arith))
      (λ n48. pick_case P (eqb b 49) (λ _ f. let z : ◌≡◌ {A = ℕ} 0 1 = cc in absurd (omega arith))
      (λ n49. pick_case P (eqb b 73)
      (λ i f. letter_bad 73 1 1 1 32 d q (eqb-true b 73 i) (omega arith) refl (digits_at 2 0 1 32 s (at + 1)) refl f)
      (λ n73. pick_case P (eqb b 66)
      (λ i f. letter_bad 66 34 2 0 199 d q (eqb-true b 66 i) (omega arith) refl (digits_at 3 0 0 199 s (at + 1)) refl f)
      (λ n66 f.
      let a : at ≡ q = cc in
      halts s (want d) at (rw (ne_eqb b 32 n32, ne_eqb b 33 n33, ne_eqb b 40 n40, n48, n49, n73, n66)) refl ∙ ap stop a))))
      e

-- what the code answers, once it is known which it is
pub name_has : (x : Named) {v next : ℕ} → Ok (v, next) ≡ as_named x → x ≡ BitName v next
name_has (BitName w n) {v} {next} e = let p : ◌≡◌ {A = ℕ × ℕ} (v, next) (w, n) = cc in let q = pairs p in cc
name_has (NoName k) e = let z : ◌≡◌ {A = ℕ} 0 1 = cc in absurd (omega arith)

pub no_name : (x : Named) {k : ℕ} → Err k ≡ as_named x → x ≡ NoName k
no_name (BitName w n) e = let z : ◌≡◌ {A = ℕ} 0 1 = cc in absurd (omega arith)
no_name (NoName k) e = cc

pub digits_have : (x : Digits) {v next : ℕ} → Ok (v, next) ≡ as_digits x → x ≡ Got v next
digits_have (Got w n) {v} {next} e = let p : ◌≡◌ {A = ℕ × ℕ} (v, next) (w, n) = cc in let q = pairs p in cc
digits_have (Bad k) e = let z : ◌≡◌ {A = ℕ} 0 1 = cc in absurd (omega arith)

pub no_digits_there : (x : Digits) {k : ℕ} → Err k ≡ as_digits x → x ≡ Bad k
no_digits_there (Got w n) e = let z : ◌≡◌ {A = ℕ} 0 1 = cc in absurd (omega arith)
no_digits_there (Bad k) e = cc

-- a name that is asked for as an option
pub name_ok : (x : Named) {r : Result (ℕ × ℕ) ℕ} {v next : ℕ} → r ≡ as_named x → Some (v, next) ≡ result_ok r → x ≡ BitName v next
name_ok (BitName w n) {r} {v} {next} e f =
    let g : ◌≡◌ {A = Option (ℕ × ℕ)} (Some (v, next)) (Some (w, n)) = f ∙ ap result_ok e in
    let p : ◌≡◌ {A = ℕ × ℕ} (v, next) (w, n) = cc in
    let q = pairs p in
    cc
name_ok (NoName k) {r} {v} {next} e f =
    let g : ◌≡◌ {A = Option (ℕ × ℕ)} (Some (v, next)) None = f ∙ ap result_ok e in
    let z : ◌≡◌ {A = ℕ} 0 1 = cc in absurd (omega arith)

pub name_off : (x : Named) {r : Result (ℕ × ℕ) ℕ} → r ≡ as_named x → None ≡ result_ok r → (k : ℕ) × (x ≡ NoName k)
name_off (BitName w n) e f =
    let g : ◌≡◌ {A = Option (ℕ × ℕ)} None (Some (w, n)) = f ∙ ap result_ok e in
    let z : ◌≡◌ {A = ℕ} 0 1 = cc in absurd (omega arith)
name_off (NoName k) e f = (k, refl)
