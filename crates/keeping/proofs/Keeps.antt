-- What is kept of a window that was fed. Assumes nothing.
use Prim.Native.Nat.{ℕ, zero, suc, ◌-◌, ◌≤◌}
use mathlib.Core.Path.{◌≡◌, sym, ap, ◌∙◌}
use mathlib.Core.List.{List, [], ◌∷◌, ◌++◌}
use native.Mathlib.Omega.{arith}
use lib.ListN.{length, take, drop, length-drop}
use lib.Seq.{take-nil, length-take-le}
use Rattle.recording.specs.Recording.{program_bytes}
use Rattle.playback.specs.Playback.{fed}
use Rattle.windows.proofs.Feeds.{windows}
use Rattle.telling.specs.Answers.{player_of, Held, Roomy}
use Rattle.telling.specs.declared.Player.{Player}
use Rattle.telling.specs.declared.Player.TheVariants.{Opening, Playing, Over}
use Rattle.telling.specs.declared.Fed.{Fed as FedAnswer}
use Rattle.feeding.specs.Answers.{stage_of, FedOn}
use Rattle.feeding.proofs.Stages.{stays_held}
use Rattle.keeping.specs.Keeping.{Kept}

drop_take : (at m : ℕ) (s : List ℕ) → drop at (take m s) ≡ take (m - at) (drop at s)
drop_take zero m s = let e : m - 0 ≡ m = omega arith in rw e
drop_take (suc at) m [] = rw (take-nil m, take-nil (m - suc at))
drop_take (suc at) zero (x ∷ s) = let e : 0 - suc at ≡ 0 = omega arith in rw e
drop_take (suc at) (suc m) (x ∷ s) = let e : suc m - suc at ≡ m - at = omega arith in rw e (drop_take at m s)

-- where there is room for the lines of a window, there is for those of its front
pub roomy_front : (end : ℕ) (b l : List ℕ) → end ≤ length b → Roomy b l → Roomy (take end b) l
roomy_front end b l h roomy = omega (arith, length-take-le end b h)

-- a buffer as long holds as much
pub held_longer : (a : Player) (p q : List ℕ) → length q ≡ length p → Held a p → Held a q
held_longer Opening p q e h = tt
held_longer (Playing size st) p q e h = omega arith
held_longer Over p q e h = tt

-- the bytes up to `end` of a buffer b were fed to a player with its program p
module _ (a : Player) (end : ℕ) (b p : List ℕ) (inside : end ≤ length b) {q l m : List ℕ} {r : FedAnswer}
    (f : FedOn (stage_of a p) (fed (stage_of a p) (take end b)) (take end b) p q l m r) where
  abbrev left : List ℕ
  left = (fed (stage_of a p) (take end b)).left

  long : length (take end b) ≡ end
  long = length-take-le end b inside

  used : r.used ≡ end - length left
  used = ap (λ (x : FedAnswer). x.used) f.told.answer ∙ rw long

  pub used_few : r.used ≤ end
  used_few = omega (arith, used)

  -- what is moved down is what is left
  down : take (end - r.used) (drop r.used b) ≡ left
  down = rw (← drop_take r.used end b) f.left

  many : end - r.used ≡ length left
  many = sym (sym (ap length f.left) ∙ length-drop r.used (take end b) ∙ rw long)

  pub kept_so : {d : List ℕ} {kept : ℕ} → program_bytes ≤ length p → Held a p → length q ≡ length p → kept ≡ end - r.used →
      d ≡ take (end - r.used) (drop r.used b) ++ drop (end - r.used) b →
      Kept (stage_of a p) (fed (stage_of a p) (take end b)) (take end b) b d p q l m (record { player = r.player; kept = kept; to = r.to })
  kept_so {d} {kept} big small same e moved =
      let player = ap (λ (x : FedAnswer). x.player) f.told.answer in
      let held : Held r.player q = rw player (held_longer (player_of (fed (stage_of a p) (take end b)).stage) p q same (stays_held a p (take end b) big small)) in
      let to = ap (λ (x : FedAnswer). x.to) f.told.answer in
      let few : kept ≡ length left = e ∙ many in
      record {
        buffer = moved ∙ rw (down, many);
        program = f.program;
        lines = f.told.bytes;
        answer = λ i. record { player = player i; kept = few i; to = to i };
        stage = f.stage;
        short = omega (arith, few, windows.short (stage_of a p) (take end b));
        small = held;
        within = f.told.within;
      }
