-- One number: what a reader of its type and a turn make of it are the same. Assumes nothing.
use Prim.Native.Nat.{ℕ}
use mathlib.Core.Path.{◌≡◌, refl, ◌∙◌}
use mathlib.Core.Bool.{Bool, true, false}
use mathlib.Core.List.{List, [], ◌∷◌, ◌++◌, append-nil}
use native.Mathlib.Nat.{add-zero}
use Rattle.terms.specs.Choice.{pick}
use Rattle.terms.specs.Refusals.{outside, astray}
use Rattle.wire.specs.Number.{Num, Got, Bad, Cut}
use Rattle.wire.specs.Number.{number_at}
use Rattle.wire.specs.Reading.{got, fault}
use Rattle.numbers.specs.Types.{allowed}
use Rattle.numbers.specs.Reading.{Marks, marked, judged, typed_at}
use Rattle.order.specs.Order.{Expected, type_of, follows, setting_left, depth_of, count_of, Wrong, malformed, is_cut, not_allowed}
use Rattle.order.specs.Order.{good, wrong, Item, Spot, item_at, found_of, goes, stops, turn_on, turn_at}
use Rattle.order.specs.Acceptance.{kinds_by, memory_by, figure_by, refusal_for}
use Rattle.order.proofs.Passes.{here, past}
use Rattle.order.proofs.Comes.{Weighs, Way, Halts, at_wrong, at_astray, Comes, reads, halts, nowhere}

-- what a number says of its program, and the setting that it leaves
pub record Says (x : Expected) (v : ℕ) (l : List Item) (q : Spot) : Type 0 where
  pub weighs : Weighs l (kinds_by x v) (memory_by x v) (figure_by x v)
  pub setting : q.setting ≡ setting_left x v

pub weighs_one : (x : Expected) (p : Spot) (v : ℕ) → Weighs (item_at x p (good v) ∷ []) (kinds_by x v) (memory_by x v) (figure_by x v)
weighs_one x p v = record { kinds = append-nil (kinds_by x v); memory = add-zero (memory_by x v); figure = add-zero (figure_by x v) }

-- where a type does not look at the setting before, any will do
pub judged_any : (m : Marks) (ty b c at : ℕ) → ((v : ℕ) → allowed ty b v ≡ allowed ty c v) → (n : Num) → judged m ty b at n ≡ judged m ty c at n
judged_any m ty b c at h Bad = refl
judged_any m ty b c at h Cut = refl
judged_any m ty b c at h (Got v next) = rw (h v)

module _ (m : Marks) (s : List ℕ) (x : Expected) (xs : List Expected) (p : Spot) (e : p.expects ≡ x ∷ xs) where
  pub turn : (n : Num) → number_at s p.at ≡ n → turn_at s p ≡ turn_on x xs p n
  unfolding turn_at
  turn n h = rw (e, h)

  -- where the reading stands after a good number
  abbrev pub after : ℕ → ℕ → Spot
  after v next = record { expects = follows x v ++ xs; setting = setting_left x v; count = count_of x p.count; at = next }

  module _ {v next : ℕ} (h : number_at s p.at ≡ Got v next) where
    pub goes_on : found_of x p.setting (count_of x p.count) v ≡ good v → turn_at s p ≡ goes (item_at x p (good v)) (after v next)
    goes_on f = turn (Got v next) h ∙ rw f

    pub stops_at : (w : Wrong) → found_of x p.setting (count_of x p.count) v ≡ wrong w → turn_at s p ≡ stops (item_at x p (wrong w))
    stops_at w f = turn (Got v next) h ∙ rw f

    pub one_way : found_of x p.setting (count_of x p.count) v ≡ good v → marked m (type_of x) v ≡ true
        → Way m s p (item_at x p (good v) ∷ []) (after v next)
    one_way f t = record { passes = past (goes_on f) here; there = rw t }

    -- one that is not allowed
    pub not_allowed_lem : allowed (type_of x) p.setting v ≡ false → Halts m s p outside p.at
    unfolding found_of
    not_allowed_lem a = at_wrong (stops_at not_allowed (rw a)) refl refl

  pub halts_bad : number_at s p.at ≡ Bad → Halts m s p (refusal_for malformed) p.at
  halts_bad h = at_wrong (turn Bad h) refl refl

  pub halts_cut : number_at s p.at ≡ Cut → Halts m s p (refusal_for is_cut) p.at
  halts_cut h = at_wrong (turn Cut h) refl refl

  -- a number that is no node
  module _ (flat : depth_of x ≡ 0) (none : count_of x p.count ≡ 0) where
    found : (v : ℕ) → allowed (type_of x) p.setting v ≡ true → found_of x p.setting (count_of x p.count) v ≡ good v
    unfolding found_of
    found v a = rw (a, flat, none)

    judged_comes : (n : Num) → number_at s p.at ≡ n → Comes m s p (λ v. follows x v ++ xs) (Says x) (judged m (type_of x) p.setting p.at n)
    judged_comes Bad h = halts [] p (nowhere m s) (halts_bad h)
    judged_comes Cut h = halts [] p (nowhere m s) (halts_cut h)
    judged_comes (Got v next) h = go (allowed (type_of x) p.setting v) (marked m (type_of x) v) refl refl
      where
        go : (a b : Bool) → allowed (type_of x) p.setting v ≡ a → marked m (type_of x) v ≡ b
            → Comes m s p (λ v. follows x v ++ xs) (Says x) (pick a (pick b (got v next) (fault astray p.at)) (fault outside p.at))
        go false b a t = halts [] p (nowhere m s) (not_allowed_lem h a)
        go true false a t = halts [] p (nowhere m s) (at_astray (type_of x) p.setting v a t (goes_on h (found v a)) t refl refl)
        go true true a t =
            reads (item_at x p (good v) ∷ []) (after v next) (one_way h (found v a) t) refl refl (record { weighs = weighs_one x p v; setting = refl })

    pub number_comes : Comes m s p (λ v. follows x v ++ xs) (Says x) (typed_at m (type_of x) p.setting s p.at)
    unfolding typed_at
    number_comes = judged_comes (number_at s p.at) refl

    -- the same for a type that does not look at the setting before
    pub number_any : (c : ℕ) → ((v : ℕ) → allowed (type_of x) p.setting v ≡ allowed (type_of x) c v)
        → Comes m s p (λ v. follows x v ++ xs) (Says x) (typed_at m (type_of x) c s p.at)
    unfolding typed_at
    number_any c h = rw (judged_any m (type_of x) p.setting c p.at h (number_at s p.at)) at number_comes
