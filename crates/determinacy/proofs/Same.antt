-- Answers that meet one relation are equal: of a window that was fed, of what a read gave, of a text. Assumes nothing.
use Prim.Native.Nat.{ℕ, ◌+◌}
use mathlib.Core.Path.{◌≡◌, sym, ap, ◌∙◌}
use mathlib.Core.List.{List}
use native.Mathlib.Omega.{arith}
use Rattle.std.specs.Prelude.{Result, Ok, Err, Option, Some, None}
use Rattle.numbers.specs.Blocks.{Expr}
use Rattle.grammar.proofs.Builds.{one_reading}
use Rattle.grammar.proofs.Places.{one_place}
use Rattle.parsing.specs.declared.Tree.{Tree}
use Rattle.parsing.specs.Listing.{listed_tree, Lists, lists, lists_none}
use Rattle.typed.proofs.Answering.{one_answer}
use Rattle.lanwezik.specs.declared.Expression.{Expression}
use Rattle.lanwezik.specs.Answers.{expression, Formulas, formulas}
use Rattle.playback.specs.Playback.{Stage, Fed}
use Rattle.keeping.specs.declared.Keep.{Keep}
use Rattle.keeping.specs.Keeping.{Kept}
use Rattle.intake.specs.Intake.{Ended, WentOn, fails, ends, reads}

pub same_two : {A B : Type 0} {a b : A} {c d : B} → a ≡ b → c ≡ d → ◌≡◌ {A = A × B} (a, c) (b, d)
same_two e f = rw (e, f)

-- a window that was fed, and what a read gave: the answer and the three buffers
abbrev pub Same : {A B C D : Type 0} → A → A → B → B → C → C → D → D → Type 0
Same {A} {B} {C} {D} r s a b c d e f = (r ≡ s) × ◌≡◌ {A = B × (C × D)} (a, (c, e)) (b, (d, f))

pub kept_same : {g : Stage} {f : Fed} {w b p l : List ℕ} {d d' q q' m m' : List ℕ} {r r' : Keep} → Kept g f w b d p q l m r → Kept g f w b d' p q' l m' r' →
    Same r r' d d' q q' m m'
kept_same h k =
    (h.answer ∙ sym k.answer, same_two (h.buffer ∙ sym k.buffer) (same_two (h.program ∙ sym k.program) (h.lines ∙ sym k.lines)))

pub ended_same : {text b p l : List ℕ} {d d' q q' m m' : List ℕ} {r r' : Keep} → Ended text b d p q l m r → Ended text b d' p q' l m' r' → Same r r' d d' q q' m m'
ended_same h k =
    (h.answer ∙ sym k.answer, same_two (h.buffer ∙ sym k.buffer) (same_two (h.program ∙ sym k.program) (h.lines ∙ sym k.lines)))

-- the rows of what a read gave exclude one another
abbrev pub row : {E : Type 0} → Result (Option ℕ) E → ℕ
row (Err e) = 0
row (Ok None) = 1
row (Ok (Some n)) = 2 + n

pub rows : {E : Type 0} {got x y : Result (Option ℕ) E} → got ≡ x → got ≡ y → row x ≡ row y
rows e f = ap row (sym e ∙ f)

pub went_same : {E : Type 0} {got : Result (Option ℕ) E} {g : Stage} {k : ℕ} {b p l : List ℕ} {d d' q q' m m' : List ℕ} {r r' : Keep} →
    WentOn got g k b d p q l m r → WentOn got g k b d' p q' l m' r' → Same r r' d d' q q' m m'
went_same (fails x e h) (fails y f k) = ended_same h k
went_same (fails x e h) (ends f k) = absurd (omega (arith, rows e f))
went_same (fails x e h) (reads n f k) = absurd (omega (arith, rows e f))
went_same (ends e h) (fails y f k) = absurd (omega (arith, rows e f))
went_same (ends e h) (ends f k) = ended_same h k
went_same (ends e h) (reads n f k) = absurd (omega (arith, rows e f))
went_same (reads n e h) (fails y f k) = absurd (omega (arith, rows e f))
went_same (reads n e h) (ends f k) = absurd (omega (arith, rows e f))
went_same (reads n e h) (reads o f k) = let same : o ≡ n = omega (arith, rows e f) in kept_same h (rw same at k)

-- the rows of a text exclude one another too
pub listed_same : (s : List ℕ) {q r : Result Tree ℕ} → Lists s q → Lists s r → q ≡ r
listed_same s (lists t x) (lists u y) = ap (λ (t : Expr). Ok (listed_tree t)) (one_reading s t u x y)
listed_same s (lists t x) (lists_none k y) = absurd (y.no_reading t x)
listed_same s (lists_none k x) (lists u y) = absurd (x.no_reading u y)
listed_same s (lists_none j x) (lists_none k y) = ap Err (one_place s j k x y)

pub formulas_same : (s : List ℕ) {q r : Expression} → Formulas s q → Formulas s r → q ≡ r
formulas_same s (formulas a x) (formulas b y) = ap expression (one_answer s a b x y)
