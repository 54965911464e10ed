-- The front of a program: the whole of it, if nothing is too large; else a beginning of it, at which a reading stops with a fault, outside. Assumes nothing.
use Prim.Native.Nat.{ℕ, ◌<◌}
use mathlib.Core.Path.{◌≡◌, refl, sym, ap, ◌∙◌}
use mathlib.Core.Bool.{Bool, true, false, ◌&&◌}
use mathlib.Core.List.{List, [], ◌∷◌, ◌++◌, map, append-nil, append_assoc}
use native.Mathlib.Omega.{arith}
use lib.Dec.{leb}
use lib.ListN.{length, take, drop, take-append-drop}
use borrow.Author.Tests.{leb-false}
use Rattle.terms.specs.Choice.{every}
use Rattle.terms.specs.Refusals.{outside}
use Rattle.terms.proofs.Choice.{both, pick_case}
use Rattle.wire.specs.Facts.{Stands}
use Rattle.numbers.specs.Blocks.{Bit, Block, bit_code}
use Rattle.numbers.specs.Types.{block_count, alarm_count}
use Rattle.numbers.specs.Reading.{typed_at}
use Rattle.numbers.proofs.References.{allowed_below}
use Rattle.grammar.proofs.From.{stands_there}
use Rattle.writing.specs.Expressions.{bytes_of}
use Rattle.program.specs.Program.{Program, blocks_at, alarms_at, program_at}
use Rattle.program.specs.Acceptance.{refused, every_block, accepted}
use Rattle.order.specs.Order.{not_allowed}
use Rattle.cut_line.proofs.Cuts.{cut_line}
use Rattle.forms.specs.Written.{block_numbers, blocks_numbers, alarm_numbers, program_numbers, written, most_alarms}
use Rattle.forms.proofs.Standing.{past, bytes_append, stands_numbers}
use Rattle.fronts.specs.Fronts.{small, most_kept, front_of, alarms_front, front, number_limit, Spelt}
use Rattle.fronts.proofs.Outside.{Comes, reads, refuses, comes_then, number_comes}
use Rattle.fronts.proofs.Readings.{blocks_come}

-- nothing of a program is too large
abbrev few_alarms : Program → Bool
few_alarms p = leb (length p.alarms) most_alarms

abbrev whole : Program → Bool
whole p = every small p.blocks && few_alarms p

-- ---- the front begins the program

data Begins (u w : List ℕ) : Type 0 where
  begins : (z : List ℕ) → w ≡ u ++ z → Begins u w

begins_behind_lem : (x : List ℕ) {u w : List ℕ} → Begins u w → Begins (x ++ u) (x ++ w)
begins_behind_lem x {u} {w} (begins z e) = begins z (rw e (sym (append_assoc x u z)))

take_begins : (n : ℕ) (x y : List ℕ) → Begins (take n x) (x ++ y)
take_begins n x y = begins (drop n x ++ y) (sym (sym (append_assoc (take n x) (drop n x) y) ∙ rw (take-append-drop n x)))

blocks_begin : (bs : List Block) {rest all : List ℕ} → Begins rest all → Begins (front_of bs rest) (blocks_numbers bs ++ all)
blocks_begin [] h = h
blocks_begin (b ∷ bs) {rest} {all} h =
    let x = block_numbers b in
    rw (append_assoc x (blocks_numbers bs) all)
    (pick_case (λ u. Begins u (x ++ (blocks_numbers bs ++ all))) (small b) (λ _. begins_behind_lem x (blocks_begin bs h))
    (λ _. take_begins most_kept x (blocks_numbers bs ++ all)))

alarms_begin : (rs : List Bit) → Begins (alarms_front rs) (alarm_numbers rs)
alarms_begin rs =
    pick_case (λ u. Begins u (alarm_numbers rs)) (leb (length rs) most_alarms) (λ _. begins [] (sym (append-nil (alarm_numbers rs))))
    (λ _. begins (map bit_code rs) refl)

front_begins : (p : Program) → Begins (front p) (program_numbers p)
front_begins p = begins_behind_lem (length p.blocks ∷ []) (blocks_begin p.blocks (alarms_begin p.alarms))

-- ---- it is the program

blocks_whole : (bs : List Block) (rest : List ℕ) → every small bs ≡ true → front_of bs rest ≡ blocks_numbers bs ++ rest
blocks_whole [] rest e = refl
blocks_whole (b ∷ bs) rest e =
    let o = both (small b) (every small bs) e in
    rw (o.0, blocks_whole bs rest o.1) (sym (append_assoc (block_numbers b) (blocks_numbers bs) rest))

front_whole : (p : Program) → whole p ≡ true → front p ≡ program_numbers p
front_whole p e =
    let o = both (every small p.blocks) (few_alarms p) e in
    rw (o.1, blocks_whole p.blocks (alarm_numbers p.alarms) o.0)

-- ---- or a reading of it stops

-- too many alarms are a fault at their count
alarms_stop :
    (s : List ℕ) (rs : List Bit) (at : ℕ) → length rs < number_limit → leb (length rs) most_alarms ≡ false → Stands (bytes_of (alarms_front rs)) s at →
    Comes ⊥ rs 0 (alarms_at every_block s at)
unfolding alarms_at
alarms_stop s rs at h e st =
    let n = length rs in
    comes_then (typed_at every_block alarm_count 0 s at) _ (number_comes s alarm_count 0 at n h (rw e at st))
    (λ a. absurd (omega (arith, allowed_below alarm_count 0 n a, leb-false n most_alarms e)))

program_stops : (p : Program) → Spelt p → whole p ≡ false → Comes ⊥ p 0 (program_at every_block (bytes_of (front p)))
unfolding program_at
program_stops p h w =
    let s = bytes_of (front p) in
    let n = length p.blocks in
    let bs = p.blocks in
    let rs = p.alarms in
    let at = past 0 (n ∷ []) in
    let o = stands_numbers (n ∷ []) (front_of bs (alarms_front rs)) s 0 (stands_there s s [] 0 (sym (append-nil s))) in
    comes_then (typed_at every_block block_count 0 s 0) _ (number_comes s block_count 0 0 n (omega (arith, h.few)) o.0)
    (λ _. comes_then (blocks_at every_block n s at) _ (blocks_come s bs (alarms_front rs) at h.blocks o.1)
    (λ x. comes_then (alarms_at every_block s (past at (blocks_numbers bs))) _
    (alarms_stop s rs (past at (blocks_numbers bs)) h.countable (rw x.0 at w) x.1) (λ z. absurd z)))

-- what is refused as outside stays so, whatever follows
stays : (u v : List ℕ) (p : Program) → Comes ⊥ p 0 (program_at every_block u) → accepted u ≡ accepted (u ++ v)
unfolding accepted
stays u v p (reads z e) = absurd z
stays u v p (refuses k e) =
    let r : accepted u ≡ refused outside k = rw e in
    r ∙ sym (cut_line.stays u v not_allowed k (λ z. let i : ◌≡◌ {A = ℕ} 0 1 = cc in absurd (omega arith)) r)

pub front_decides : (p : Program) → Spelt p → accepted (bytes_of (front p)) ≡ accepted (written p)
unfolding written
front_decides p h = go (whole p) refl
  where
    begun : Begins (front p) (program_numbers p) → whole p ≡ false → accepted (bytes_of (front p)) ≡ accepted (bytes_of (program_numbers p))
    begun (begins z e) w =
        stays (bytes_of (front p)) (bytes_of z) p (program_stops p h w) ∙ ap accepted (sym (ap bytes_of e ∙ bytes_append (front p) z))

    go : (b : Bool) → whole p ≡ b → accepted (bytes_of (front p)) ≡ accepted (bytes_of (program_numbers p))
    go true w = ap (λ (ns : List ℕ). accepted (bytes_of ns)) (front_whole p w)
    go false w = begun (front_begins p) w

-- one that is accepted is the whole program
outside_refuses : (u : List ℕ) (p : Program) → Comes ⊥ p 0 (program_at every_block u) → (accepted u).refusal ≡ 0 → ⊥
unfolding accepted
outside_refuses u p (reads z e) h = z
outside_refuses u p (refuses k e) h = let r : outside ≡ 0 = rw e at h in omega arith

pub front_accepted : (p : Program) → Spelt p → (accepted (bytes_of (front p))).refusal ≡ 0 → bytes_of (front p) ≡ written p
unfolding written
front_accepted p h g = go (whole p) refl
  where
    go : (b : Bool) → whole p ≡ b → bytes_of (front p) ≡ bytes_of (program_numbers p)
    go true w = ap bytes_of (front_whole p w)
    go false w = absurd (outside_refuses (bytes_of (front p)) p (program_stops p h w) g)
