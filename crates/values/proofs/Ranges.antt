-- What is read is in its range, so that nothing the code adds or takes away leaves its size. Assumes nothing.
use Prim.Native.Nat.{ℕ, ◌<◌, ◌≤◌}
use mathlib.Core.Path.{◌≡◌, refl, ap, ◌∙◌}
use mathlib.Core.Bool.{Bool, ◌&&◌}
use mathlib.Core.List.{List, []}
use native.Mathlib.Omega.{arith}
use lib.ListN.{length, get_or}
use lib.Dec.{ltb, leb, eqb, ltb→lt}
use borrow.Author.Tests.{leb-true, le-leb}
use Rattle.std.specs.Prelude.{Option, None, Some, Result}
use Rattle.std.specs.Result.{result_ok}
use Rattle.terms.proofs.Choice.{pick_case, both, pairs}
use Rattle.terms.proofs.Table.{at as entry}
use Rattle.filling.specs.Filling.{decimal}
use Rattle.numbers.specs.Types.{number_types, limits}
use Rattle.grammar.specs.Grammar.{no_digits}
use Rattle.grammar.specs.Machine.{tens, may_be}
use Rattle.spelling.specs.Spelling.{Digits, Got as DigitsGot, Bad as DigitsBad, as_digits}
use Rattle.spelling.specs.Spelling.{digits_at}
use Rattle.spelling.proofs.Names.{digits_good}
use Rattle.values.specs.declared.Run.{Run}
use Rattle.values.specs.Reading.{Value}
use Rattle.values.specs.Reading.{Got, Bad, as_value}
use Rattle.values.specs.Values.{bias_of}
use Rattle.values.specs.Reading.{run_at, plain_of, plain_at, analog_of, word_of_block}

-- a decimal up to `most`
pub plain_most : (most : ℕ) (s : List ℕ) (at n next : ℕ) → plain_at most s at ≡ Got n next → n ≤ most
unfolding plain_at plain_of
plain_most most s at n next e =
    let r : Run = run_at 6 0 0 s at in
    let size : Bool = eqb r.count (length (decimal r.number)) in
    pick_case (λ (v : Value). v ≡ Got n next → n ≤ most) (size && leb r.number most)
    (λ t f. let g : r.number ≡ n = cc in omega (arith, leb-true r.number most (both size (leb r.number most) t).1))
    (λ _ f. let z : ◌≡◌ {A = ℕ} 0 1 = cc in absurd (omega arith)) e

-- a number of two digits from 1 on
pub digits_least : (most : ℕ) (s : List ℕ) (at n next : ℕ) → digits_at 2 0 1 most s at ≡ DigitsGot n next → 1 ≤ n
unfolding may_be tens
digits_least most s at n next e = (digits_good 1 most s 2 0 at 0 n next [] (rw (le-leb 0 most (omega arith))) no_digits e).low

-- 0 is in the range of every type
pub bias_below : (ty : ℕ) → ty < number_types → bias_of ty < get_or limits ty 0
unfolding bias_of
bias_below ty h = ltb→lt (bias_of ty) (get_or limits ty 0) (entry (λ ty limit. ltb (bias_of ty) limit) 0 limits tt ty h)

-- what the code answers, once it is known which it is
pub value_got : (x : Value) {n next : ℕ} → Some (n, next) ≡ as_value x → x ≡ Got n next
value_got (Got m k) {n} {next} e = let p : ◌≡◌ {A = ℕ × ℕ} (n, next) (m, k) = cc in let q = pairs p in cc
value_got Bad e = let z : ◌≡◌ {A = ℕ} 0 1 = cc in absurd (omega arith)

pub value_bad : (x : Value) → None ≡ as_value x → x ≡ Bad
value_bad (Got m k) e = let z : ◌≡◌ {A = ℕ} 0 1 = cc in absurd (omega arith)
value_bad Bad e = refl

-- digits that are asked for as an option
pub digits_ok : (x : Digits) {r : Result (ℕ × ℕ) ℕ} {n next : ℕ} → r ≡ as_digits x → Some (n, next) ≡ result_ok r → x ≡ DigitsGot n next
digits_ok (DigitsGot m k) {r} {n} {next} e f =
    let g : ◌≡◌ {A = Option (ℕ × ℕ)} (Some (n, next)) (Some (m, k)) = f ∙ ap result_ok e in
    let p : ◌≡◌ {A = ℕ × ℕ} (n, next) (m, k) = cc in
    let q = pairs p in
    cc
digits_ok (DigitsBad k) {r} {n} {next} e f =
    let g : ◌≡◌ {A = Option (ℕ × ℕ)} (Some (n, next)) None = f ∙ ap result_ok e in
    let z : ◌≡◌ {A = ℕ} 0 1 = cc in absurd (omega arith)

pub digits_none : (x : Digits) {r : Result (ℕ × ℕ) ℕ} → r ≡ as_digits x → None ≡ result_ok r → (analog_of x ≡ Bad) × (word_of_block x ≡ Bad)
digits_none (DigitsGot m k) e f =
    let g : ◌≡◌ {A = Option (ℕ × ℕ)} None (Some (m, k)) = f ∙ ap result_ok e in
    let z : ◌≡◌ {A = ℕ} 0 1 = cc in absurd (omega arith)
digits_none (DigitsBad k) e f = (refl, refl)
