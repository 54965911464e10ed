-- A program cut anywhere is refused with 8, and no bytes behind a wrong number mend it, unless it was cut. Assumes nothing.
use Prim.Native.Nat.{ℕ, ◌-◌, ◌<◌}
use mathlib.Core.Path.{◌≡◌, refl, sym, ap, ◌∙◌}
use mathlib.Core.Bool.{Bool, true, false, ◌||◌}
use mathlib.Core.List.{List, [], ◌++◌, append-nil}
use native.Mathlib.Omega.{arith}
use lib.Dec.{eqb}
use lib.ListN.{length, length-append}
use Rattle.terms.specs.Choice.{every}
use Rattle.terms.specs.Refusals.{cut_number, astray, over_memory}
use Rattle.terms.proofs.Choice.{never}
use Rattle.wire.specs.Number.{Bad, Cut}
use Rattle.wire.specs.Number.{groups_at}
use Rattle.wire.specs.Reading.{Read, got, fault}
use Rattle.wire.specs.Facts.{IsCut, IsBad}
use Rattle.wire.proofs.Reasons.{cut_exactly, bad_exactly}
use Rattle.program.specs.declared.Acceptance.{Acceptance}
use Rattle.program.specs.Program.{Program, program_at}
use Rattle.program.specs.Acceptance.{refused, every_block, accepted}
use Rattle.program.proofs.FirstReading.{every_marked}
use Rattle.order.specs.Order.{Wrong, malformed, is_cut, not_allowed, too_deep, too_many, extra, Found, good, wrong, Item, Spot}
use Rattle.order.specs.Order.{Turn, goes, stops, ends, turn_at, numbers_from, front, numbers_in}
use Rattle.order.specs.Acceptance.{refusal_for, is_good, fares, Accepting, stops as row-stops, strays, overflows, passes}
use Rattle.order.proofs.Passes.{one_wrong, Passes, stop_wrong, all_good, grows, whole, ends_wrong, not_all_good, behind}
use Rattle.order.proofs.Comes.{at_wrong, at_astray, at_both, Comes, reads, halts}
use Rattle.order.proofs.Programs.{Whole, program_comes}
use Rattle.order.proofs.Orders.{in_order}
use Rattle.cut_line.specs.CutLine.{CanBeRead, ToldAsCut, told_at, CutLine}
use Rattle.cut_line.proofs.Fronts.{Beyond, Stopped, same, longer, Onward, turned_on, pass_on}

-- ---- how far a program is read: good numbers up to a wrong one, or up to its end

data Walk (s : List ℕ) : Type 0 where
  halted : (l : List Item) (q : Spot) (i : Item) (w : Wrong) → Passes s front l q → turn_at s q ≡ stops i → i.found ≡ wrong w → Walk s
  ended : (l : List Item) (q : Spot) → Passes s front l q → turn_at s q ≡ ends → Walk s

halted_at : (s : List ℕ) (l : List Item) (q : Spot) (i : Item) → Passes s front l q → turn_at s q ≡ stops i → (f : Found) → i.found ≡ f → is_good f ≡ false → Walk s
halted_at s l q i a e (good v) x z = never z
halted_at s l q i a e (wrong w) x z = halted l q i w a e x

walked : (s : List ℕ) (r : Read Program) → Comes every_block s front (λ _. []) (Whole every_block s) r → Walk s
walked s (got p end) (reads l q w x y u) = ended l q w.passes u.1
walked s (fault n at) (halts l q w (at_wrong {i} f g h)) = halted_at s l q i w.passes f i.found refl (stop_wrong s q f)
walked s (fault n at) (halts l q w (at_both ty b v t f g h)) = never (sym (every_marked ty b v t) ∙ f)
walked s (fault n at) (halts l q w (at_astray ty b v t f g h x y)) = never (sym (every_marked ty b v t) ∙ f)

walk : (s : List ℕ) → Walk s
walk s = walked s (program_at every_block s) (program_comes every_block s)

-- a program that is read up to a wrong number is refused there
refused_at : (s : List ℕ) {l : List Item} {q : Spot} {i : Item} (w : Wrong) → Passes s front l q → turn_at s q ≡ stops i → i.found ≡ wrong w
    → accepted s ≡ refused (refusal_for w) i.place
refused_at s {l} {q} {i} w a e x =
    sym ((in_order s (refused (refusal_for w) i.place)).1 (row-stops l [] i w (ends_wrong s a e) (all_good s a) x refl))

-- ---- a cut program

module _ (u v : List ℕ) (readable : CanBeRead (u ++ v)) (some : 0 < length v) where
  -- the number at which u stops, in the whole program
  at_cut : (l : List Item) (q : Spot) → Passes u front l q → accepted u ≡ refused cut_number q.at → (t : Turn) → turn_at (u ++ v) q ≡ t → Beyond u v q t → ToldAsCut (u ++ v) u
  at_cut l q a r (goes j o) e b =
      told_at l (numbers_from (length (u ++ v) - length l) (u ++ v) o) j (whole (u ++ v) (pass_on u v a) ∙ rw e) (omega (arith, b.0, (grows u a (omega arith)).1))
      (behind (u ++ v) (length (u ++ v) - length l) (length u) o b.1) (r ∙ ap (refused cut_number) (sym b.0))
  at_cut l q a r (stops j) e b = absurd (not_all_good (u ++ v) (pass_on u v a) e readable)
  at_cut l q a r ends e b = absurd b

  by_stop : (l : List Item) (q : Spot) (i : Item) → Passes u front l q → turn_at u q ≡ stops i → Stopped u v q i (turn_at (u ++ v) q) → ToldAsCut (u ++ v) u
  by_stop l q i a e (same f) = absurd (not_all_good (u ++ v) (pass_on u v a) f readable)
  by_stop l q i a e (longer c h b) = at_cut l q a (refused_at u is_cut a e c ∙ rw h) (turn_at (u ++ v) q) refl b

  by_end : (q : Spot) {l : List Item} → Passes u front l q → (t : Turn) → turn_at (u ++ v) q ≡ t → Onward u v q ends t → ⊥
  by_end q a (goes j o) e h = h
  by_end q a (stops j) e h = not_all_good (u ++ v) (pass_on u v a) e readable
  by_end q a ends e h = omega (arith, length-append u v, (grows u a (omega arith)).1)

  cut_told : Walk u → ToldAsCut (u ++ v) u
  cut_told (halted l q i w a e x) = by_stop l q i a e (turned_on u v q e)
  cut_told (ended l q a e) = absurd (by_end q a (turn_at (u ++ v) q) refl (turned_on u v q e))

-- ---- a wrong number that is not cut

-- the refusals of a program that is cut, or is read to its end; 0 is none
abbrev elsewhere : ℕ → Bool
elsewhere n = eqb n cut_number || (eqb n astray || (eqb n over_memory || eqb n 0))

not_elsewhere : (w : Wrong) → (w ≡ is_cut → ⊥) → elsewhere (refusal_for w) ≡ false
not_elsewhere malformed h = refl
not_elsewhere is_cut h = absurd (h refl)
not_elsewhere not_allowed h = refl
not_elsewhere too_deep h = refl
not_elsewhere too_many h = refl
not_elsewhere extra h = refl

module _ (u v : List ℕ) (w : Wrong) (at : ℕ) (other : w ≡ is_cut → ⊥) (r : accepted u ≡ refused (refusal_for w) at) where
  not_so : {a : Acceptance} → accepted u ≡ a → elsewhere a.refusal ≡ true → ⊥
  not_so e z = never (sym z ∙ ap (λ (a : Acceptance). elsewhere a.refusal) (sym e ∙ r) ∙ not_elsewhere w other)

  stays_at : (l : List Item) (q : Spot) (i : Item) (x : Wrong) → Passes u front l q → turn_at u q ≡ stops i → i.found ≡ wrong x → Stopped u v q i (turn_at (u ++ v) q)
      → accepted (u ++ v) ≡ refused (refusal_for w) at
  stays_at l q i x a e f (same g) = refused_at (u ++ v) x (pass_on u v a) g f ∙ sym (refused_at u x a e f) ∙ r
  stays_at l q i x a e f (longer c h b) = absurd (not_so (refused_at u is_cut a e c) refl)

  -- where u is read to its end, it is refused with 3 or 4 or not at all
  not_read : every fares (numbers_in u) ≡ true → Accepting (numbers_in u) (accepted u) → ⊥
  not_read g (row-stops before after i x h k f e) = one_wrong before after i (ap (every fares) (sym h) ∙ g) (ap is_good f)
  not_read g (strays before after i k h t f e) = not_so e refl
  not_read g (overflows k t m e) = not_so e refl
  not_read g (passes k t m e) = not_so e refl

  wrong_stays : Walk u → accepted (u ++ v) ≡ refused (refusal_for w) at
  wrong_stays (halted l q i x a e f) = stays_at l q i x a e f (turned_on u v q e)
  wrong_stays (ended l q a e) = absurd (not_read (rw (whole u a, e, append-nil l) (all_good u a)) ((in_order u (accepted u)).0 refl))

never_both : (k : ℕ) (s : List ℕ) (at : ℕ) → IsCut k s at → IsBad k s at → ⊥
never_both k s at c b =
    let e : groups_at k 0 s at ≡ Cut = (cut_exactly k s at).1 c in
    let f : groups_at k 0 s at ≡ Bad = (bad_exactly k s at).1 b in
    let z : ◌≡◌ {A = ℕ} 0 1 = cc in
    omega arith

pub cut_line : CutLine
cut_line =
    record {
      cut = λ u v readable some. cut_told u v readable some (walk u);
      stays = λ u v w at other r. wrong_stays u v w at other r (walk u);
      apart = never_both;
    }
