-- A place that passes the state check still does after the rule of any kind whose settings were read, and so do all places after a scan.
-- Assumes nothing.
use Prim.Native.Nat.{ℕ, zero, suc, ◌+◌, ◌^◌, ◌≤◌, ◌<◌}
use mathlib.Core.Path.{◌≡◌, refl}
use mathlib.Core.Bool.{Bool, true}
use mathlib.Core.List.{List, [], ◌∷◌}
use native.Mathlib.Omega.{arith}
use native.Mathlib.Nat.{pow-suc}
use lib.Dec.{leb, lit<, lit≤}
use lib.IntN.{ℤ}
use lib.ListN.{length, replicate}
use borrow.Author.Tests.{leb-true, le-leb}
use Rattle.terms.specs.Choice.{pick, every}
use Rattle.terms.proofs.Choice.{pick_case, both}
use Rattle.numbers.specs.Blocks.{Bit, Word, Content, Block, block_of}
use Rattle.kinds.specs.Kinds.{kind_of, types_of}
use Rattle.numbers.specs.Types.{setting_of}
use Rattle.place.specs.declared.Place.{Place}
use Rattle.place.specs.Places.{fresh_place}
use Rattle.switches.specs.Switches.{bl, sr, pl, al}
use Rattle.counters.specs.Counters.{cn, ud}
use Rattle.timers.specs.Timers.{ticks_in, dl, os, fl}
use Rattle.promises.proofs.Times.{ticks_least, ticks_most}
use Rattle.timing.proofs.Left.{dl_left, os_left, fl_left}
use Rattle.analog.specs.Analog.{cp, og, zc, st}
use Rattle.terms.specs.Bits.{packed}
use Rattle.rules.specs.Rules.{field_of, pin_of, word_of_field, Rule, rules, rule_of, ruled}
use Rattle.image.specs.State.{most_ticks, good_place}
use Rattle.scanning.specs.Scan.{Inputs, scan_to}
use Rattle.terms.proofs.Every.{both_hold, every_at, every_replicate, every_set}
use Rattle.promises.proofs.ReadPrograms.{Row, Rows, setting_below, period_some}
use Rattle.promises.proofs.EachKind.{Each, ◌also◌, done, of_each}

-- at most four pins are at most 15
bit_most : (b : Bool) → pick b 1 0 ≤ 1
bit_most b = pick_case (λ n. n ≤ 1) b (λ _. omega arith) (λ _. omega arith)

pub packed_below : (l : List Bool) → packed l < 2 ^ length l
packed_below [] = omega arith
packed_below (b ∷ l) = omega (arith, bit_most b, packed_below l, pow-suc 2 (length l))

abbrev Few : Place → Type 0
Few p = p.ticks ≤ most_ticks

few_of : (p : Place) → good_place p ≡ true → Few p
unfolding good_place
few_of p h = leb-true p.ticks most_ticks (both (leb p.ticks most_ticks) _ h).0

stores_good :
    (l : List Bool) (o : Bool) (t : ℕ) (w : ℤ) → 2 ^ length l ≤ 16 → t ≤ most_ticks →
    good_place (record { pins = packed l; out = o; ticks = t; word = w }) ≡ true
unfolding good_place
stores_good l o t w n h = both_hold (le-leb t most_ticks h) (le-leb (packed l) 15 (omega (arith, packed_below l)))

bl_good : (value : Bool) (p : Place) → good_place p ≡ true → good_place (bl value p) ≡ true
unfolding bl good_place
bl_good value p h = h

-- DL and OS leave at most a time, and that is at most 3,276,700; FL less than a period, and that is at most twice as much
dl_few : (i c : Bool) (unit on off e : ℕ) (p : Place) → on < 32768 → off < 32768 → Few (dl i c unit on off e p)
dl_few i c unit on off e p a b =
    let time = pick i on off in
    let below = pick_case (λ n. n < 32768) i {x = on} {y = off} (λ _. a) (λ _. b) in
    dl_left Few e p i c unit on off (λ o t h. omega (arith, h, below, ticks_most unit time))

os_few : (i c : Bool) (unit time e : ℕ) (p : Place) → time < 32768 → Few (os i c unit time e p)
os_few i c unit time e p a = os_left Few e p i c unit time (λ o t h. omega (arith, h, a, ticks_most unit time))

fl_few : (i : Bool) (unit on off e : ℕ) (p : Place) → on < 32768 → off < 32768 → 0 < on + off → Few (fl i unit on off e p)
fl_few i unit on off e p a b some =
    let period : 0 < ticks_in unit on + ticks_in unit off = omega (arith, some, ticks_least unit on, ticks_least unit off) in
    fl_left Few e p i unit on off (λ o t h. omega (arith, h period, a, b, ticks_most unit on, ticks_most unit off))

-- OG, by its cases, leaves the ticks
og_few : (i : Bool) (a b c x : ℤ) (p : Place) → Few p → Few (og i a b c x p)
unfolding og
og_few i a b c x p h = pick_case Few i (λ _. h) (λ _. h)

-- the rules, one after the other in the order of the table
module _ (cs : List Content) (pin : ℕ → Bool) (word : ℕ → ℤ) (e : ℕ) (p : Place) (h : good_place p ≡ true) where
  -- a rule keeps the place good, with the settings of a row of its kind
  abbrev Keeps : ℕ → Rule → Type 0
  Keeps kind r = Row (record { kind = kind; fields = cs }) → good_place (r pin word (λ i. setting_of (field_of cs i)) e p) ≡ true

  all_keep : Each Keeps 0 rules
  unfolding kind_of sr pl al cn ud cp zc st
  all_keep =
      let few = few_of p h in
      (λ _. bl_good (pin 0) p h)
      also (λ _. stores_good (pin 0 ∷ pin 1 ∷ []) _ _ _ (lit≤ tt) few)
      also (λ _. stores_good (pin 0 ∷ []) _ _ _ (lit≤ tt) few)
      also (λ _. stores_good (pin 0 ∷ pin 1 ∷ []) _ _ _ (lit≤ tt) few)
      also (λ row. let below = setting_below (types_of 4) (row (lit< tt)) in
      stores_good (pin 0 ∷ pin 1 ∷ []) _ _ _ (lit≤ tt) (dl_few _ _ _ _ _ e p (below 3 (lit< tt)) (below 4 (lit< tt))))
      also (λ row. let below = setting_below (types_of 5) (row (lit< tt)) in
      stores_good (pin 0 ∷ pin 1 ∷ []) _ _ _ (lit≤ tt) (os_few _ _ _ _ e p (below 3 (lit< tt))))
      also (λ row. let below = setting_below (types_of 6) (row (lit< tt)) in
      stores_good (pin 0 ∷ []) _ _ _ (lit≤ tt) (fl_few _ _ _ _ e p (below 2 (lit< tt)) (below 3 (lit< tt)) (period_some (row (lit< tt)))))
      also (λ _. stores_good (pin 0 ∷ pin 1 ∷ []) _ _ _ (lit≤ tt) few)
      also (λ _. stores_good (pin 0 ∷ pin 1 ∷ pin 2 ∷ pin 3 ∷ []) _ _ _ (lit≤ tt) few)
      also (λ _. stores_good (pin 0 ∷ []) _ _ _ (lit≤ tt) few)
      also (λ _. stores_good (pin 0 ∷ []) _ _ _ (lit≤ tt) (og_few _ _ _ _ _ p few))
      also (λ _. stores_good (pin 0 ∷ []) _ _ _ (lit≤ tt) few)
      also (λ _. stores_good (pin 0 ∷ []) _ _ _ (lit≤ tt) few)
      also done

  keeps : (kind : ℕ) → Keeps kind (rule_of kind)
  keeps = of_each Keeps (λ k row. h) all_keep

ruled_good : (f : Bit → Bool) (g : Word → ℤ) (e : ℕ) (b : Block) (p : Place) → Row b → good_place p ≡ true → good_place (ruled f g e b p) ≡ true
unfolding ruled
ruled_good f g e b p row h =
    keeps b.fields (λ i. pin_of f (field_of b.fields i)) (λ i. word_of_field g (field_of b.fields i)) e p h b.kind row

zero_good : good_place fresh_place ≡ true
unfolding good_place
zero_good = refl

pub fresh_places : every good_place (replicate 200 fresh_place) ≡ true
fresh_places = every_replicate good_place 200 zero_good

-- a block writes its own place, from one that is good or beyond the list
pub scan_good :
    (x : Inputs) (bs : List Block) → Rows bs → (n : ℕ) (ps : List Place) → every good_place ps ≡ true → every good_place (scan_to x bs n ps) ≡ true
unfolding scan_to
scan_good x bs rows zero ps h = h
scan_good x bs rows (suc n) ps h =
    let ih = scan_good x bs rows n ps h in
    every_set good_place (scan_to x bs n ps) n ih (ruled_good _ _ x.elapsed (block_of bs n) _ (rows n) (every_at good_place (scan_to x bs n ps) n ih zero_good))
