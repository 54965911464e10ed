-- Going on: what is said at the end is at most a line, and what is kept is small. Assumes nothing.
use Prim.Native.Nat.{ℕ, ◌+◌, ◌≤◌, ◌<◌}
use mathlib.Core.Path.{◌≡◌, refl, ap, subst, ◌∙◌}
use mathlib.Core.List.{List, [], ◌∷◌}
use native.Mathlib.Omega.{arith}
use native.Mathlib.Nat.{zero-add}
use lib.ListN.{length, take}
use Rattle.std.specs.Prelude.{Result, Ok, Err, Option, Some, None}
use Rattle.text.specs.Text.{Put}
use Rattle.text.proofs.Texts.{put_length}
use Rattle.lines.specs.Lines.{line_bytes}
use Rattle.recording.specs.Recording.{program_bytes}
use Rattle.playback.specs.Playback.{Stage, opening, playing, over, finished}
use Rattle.telling.specs.Lines.{lines_for}
use Rattle.telling.specs.Answers.{Held, Roomy}
use Rattle.telling.specs.declared.Player.{Player}
use Rattle.telling.specs.declared.Player.TheVariants.{Opening, Playing, Over}
use Rattle.feeding.specs.Answers.{stage_of}
use Rattle.reading.specs.Reading.{Inside}
use Rattle.keeping.specs.declared.Keep.{Keep}
use Rattle.intake.specs.Intake.{ended_at, Ended, WentOn, fails, ends, reads}

-- what was read, by what stands within
pub read_is : {E : Type 0} {got : Result (Option ℕ) E} {f g : Option ℕ} → got ≡ Ok f → f ≡ g → got ≡ Ok g
read_is e h = rw e (ap Ok h)

-- bytes that were read lie within the buffer
pub behind : {E : Type 0} (kept : ℕ) (b : List ℕ) {n : ℕ} {got : Result (Option ℕ) E} → Inside kept b got → got ≡ Ok (Some n) → kept + n ≤ length b
behind kept b h e = subst (Inside kept b) e h

-- where there is room for the lines of a window, there is for one
pub line_fits : (w l : List ℕ) → Roomy w l → line_bytes ≤ length l
line_fits w l roomy = omega (arith, roomy)

-- what is printed at the end is at most a line, so that it lies within a buffer that has room for one
finish_short : (g : Stage) (rest : List ℕ) → length (lines_for (finished g rest)) ≤ line_bytes
finish_short opening rest = omega arith
finish_short (playing program st) [] = omega arith
finish_short (playing program st) (b ∷ rest) = omega arith
finish_short over rest = omega arith

-- the program is nothing to the end
finished_any : (a : Player) (p rest : List ℕ) → finished (stage_of a []) rest ≡ finished (stage_of a p) rest
finished_any Opening p r = refl
finished_any (Playing size st) p [] = refl
finished_any (Playing size st) p (b ∷ r) = refl
finished_any Over p r = refl

-- where a text was put that is at most a line, and the run has ended, what was said is that text
pub ended_so : (text : List ℕ) (b p : List ℕ) {l m : List ℕ} {to : ℕ} {r : Keep} → length text ≤ line_bytes → line_bytes ≤ length l → Put text l 0 m to →
    r ≡ ended_at to → Ended text b b p p l m r
ended_so text b p {to = to} short room put h =
    let place : to ≡ length text = put.place ∙ zero-add (length text) in
    record {
      buffer = refl;
      program = refl;
      lines = put.bytes;
      answer = h ∙ ap ended_at place;
      within = omega (arith, short, room, place, put_length put, ap (λ (a : Keep). a.to) h);
    }

pub told_at_end : {E : Type 0} {got : Result (Option ℕ) E} (a : Player) (k : ℕ) (b p : List ℕ) {rest l m : List ℕ} {to : ℕ} {r : Keep} → got ≡ Ok None → rest ≡ take k b → line_bytes ≤ length l →
    Put (lines_for (finished (stage_of a []) rest)) l 0 m to → r ≡ ended_at to → WentOn got (stage_of a p) k b b p p l m r
told_at_end a k b p {rest} e same room put h =
    let z : finished (stage_of a []) rest ≡ finished (stage_of a p) (take k b) = finished_any a p rest ∙ rw same in
    ends e (rw z at (ended_so (lines_for (finished (stage_of a []) rest)) b p (finish_short (stage_of a []) rest) room put h))

pub said_nothing : {E : Type 0} {got : Result (Option ℕ) E} {x : E} (g : Stage) (k : ℕ) (b p l : List ℕ) {r : Keep} → got ≡ Err x → r ≡ ended_at 0 → WentOn got g k b b p p l l r
said_nothing g k b p l e h =
    fails _ e (record { buffer = refl; program = refl; lines = refl; answer = h; within = omega (arith, ap (λ (a : Keep). a.to) h) })

-- what is kept is small, and its text within the buffer
ended_small : {text b d p q l m : List ℕ} {r : Keep} → Ended text b d p q l m r →
    ((r.kept < 3 + program_bytes) × Held r.player q) × (r.to ≤ length m)
ended_small w =
    ((omega (arith, ap (λ (k : Keep). k.kept) w.answer), rw (ap (λ (k : Keep). k.player) w.answer) tt), w.within)

pub went_small : {E : Type 0} {got : Result (Option ℕ) E} {g : Stage} {k : ℕ} {b d p q l m : List ℕ} {r : Keep} → WentOn got g k b d p q l m r →
    ((r.kept < 3 + program_bytes) × Held r.player q) × (r.to ≤ length m)
went_small (fails x e w) = ended_small w
went_small (ends e w) = ended_small w
went_small (reads n e w) = ((w.short, w.small), w.within)
