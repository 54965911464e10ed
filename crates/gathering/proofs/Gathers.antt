-- Turns of the reading: what holds of the lines read so far and of what is stored of them, after one more. Assumes nothing.
use Prim.Native.Nat.{ℕ, ◌+◌, ◌-◌, ◌<◌, ◌≤◌}
use mathlib.Core.Path.{◌≡◌, refl, sym, ap, subst, ◌∙◌}
use mathlib.Core.Bool.{Bool, true, false}
use mathlib.Core.List.{List, [], ◌∷◌, ◌++◌, append-nil}
use native.Mathlib.Numerals.{add-one}
use native.Mathlib.Omega.{arith}
use lib.ListN.{length, take, drop}
use lib.Seq.{length-sets}
use Rattle.std.specs.Prelude.{Option, None, Some, Ok, Err}
use Rattle.wire.specs.Number.{groups_of}
use Rattle.numbers.specs.Blocks.{Bit, Block}
use Rattle.filling.specs.Filling.{Put}
use Rattle.writing.specs.Expressions.{bytes_of}
use Rattle.forms.specs.Written.{block_numbers}
use Rattle.fronts.specs.Fronts.{small, most_kept, front_of, alarms_front, front}
use Rattle.layout.specs.Layout.{BlockLine, block_line, AlarmsLine, LineEnd, lf, cr_lf, Listing}
use Rattle.layout.specs.Ends.{Split, Open}
use Rattle.layout.proofs.Going.{Going, start, one_more}
use Rattle.layout.proofs.Outcomes.{bad_open, bad_line, bad_more, listing}
use Rattle.splitting.specs.declared.Line.{Line}
use Rattle.splitting.specs.Splitting.{Splits, splits, unended}
use Rattle.splitting.proofs.OneSplit.{line_part}
use Rattle.taking.specs.declared.Taken.{Taken}
use Rattle.taking.specs.Taking.{Takes, taken, not_taken, TakesLine}
use Rattle.alarm_line.specs.Taking.{TakesAlarms, alarms_taken, not_taken as alarms-not-taken}
use Rattle.gathering.specs.Gathering.{room_size, Gathers, gathers, no_listing, Counts}
use Rattle.gathering.proofs.Spelt.{block_spelt}
use Rattle.gathering.proofs.Stored.{Stored, none_stored, stored_more, stored_no_more, Ready, ready, ready_before, counted}

-- the line of a block has one of 200 numbers
pub number_small : {i : ℕ} {w : List ℕ} {b : Block} → BlockLine i w b → i < 200
number_small (block_line m n h l x) = h

-- what the calls of a turn tell
pub whole_line : {s : List ℕ} {at : ℕ} {r : Line} → Splits s at (Some r) → Split s at r.last r.next
whole_line (splits l n x) = x

pub open_line : {s : List ℕ} {at : ℕ} → Splits s at None → Open s at
open_line (unended o) = o

record Took (Says : Block → Type 0) (l : List ℕ) (to : ℕ) (m : List ℕ) (next : ℕ) (k : Bool) : Type 0 where
  block : Block
  says : Says block
  put : Put (bytes_of (take most_kept (block_numbers block))) l to m next
  sized : small block ≡ k

took : {Says : Block → Type 0} {l : List ℕ} {to : ℕ} {m : List ℕ} {r : Taken} → Takes Says l to m (Some r) → Took Says l to m r.next r.small
took (taken b n x p) = record { block = b; says = x; put = p; sized = refl }

pub missed : {Says : Block → Type 0} {l : List ℕ} {to : ℕ} {m : List ℕ} → Takes Says l to m None → ((b : Block) → Says b → ⊥) × (m ≡ l)
missed (not_taken f g) = (f, g)

record Named (s l : List ℕ) (to : ℕ) (m : List ℕ) (next : ℕ) : Type 0 where
  alarms : List Bit
  line : AlarmsLine s alarms
  put : Put (bytes_of (alarms_front alarms)) l to m next

named : {s l : List ℕ} {to : ℕ} {m : List ℕ} {next : ℕ} → TakesAlarms s l to m (Some next) → Named s l to m next
named (alarms_taken rs n x p) = record { alarms = rs; line = x; put = p }

unnamed : {s l : List ℕ} {to : ℕ} {m : List ℕ} → TakesAlarms s l to m None → (rs : List Bit) → AlarmsLine s rs → ⊥
unnamed (alarms-not-taken f g) = f

-- the lines read so far, and what is stored of them
pub record Turn (s room : List ℕ) (at i to : ℕ) (kept : Bool) : Type 0 where
  pub blocks : List Block
  pub going : Going s at i blocks
  pub stored : Stored room to kept blocks
  pub few : i ≤ 200

pub begin : (s room : List ℕ) → length room ≡ room_size → Turn s room 0 0 2 true
begin s room e = record { blocks = []; going = start s; stored = none_stored room e; few = omega arith }

module _ {s room : List ℕ} {at i to : ℕ} {kept : Bool} (t : Turn s room at i to kept) where
  pub within : at ≤ length s
  within = t.going.within

  pub low_place : to ≤ 26002
  low_place = omega (arith, t.stored.high, t.going.count, t.few)

  pub room_size_lem : length room ≡ room_size
  room_size_lem = t.stored.size

  -- no end
  pub unended_line : Open s at → {m : List ℕ} → Gathers s m (Err at)
  unended_line o = no_listing at (bad_open t.going o)

  module _ {last next : ℕ} (p : Split s at last next) where
    abbrev the_line : List ℕ
    the_line = take (last - at) (drop at s)

    -- neither a block nor the alarms
    pub neither :
        {m : List ℕ} {q : List ℕ} {n : List ℕ} → ((b : Block) → BlockLine i the_line b → ⊥) → TakesAlarms the_line q to m None → Gathers s n (Err at)
    neither f a =
        let l = line_part p in
        no_listing at (bad_line t.going p (λ b x. f b (rw l x)) (λ rs x. unnamed a rs (rw l x)))

    module _ {room' : List ℕ} {behind : ℕ} (a : TakesAlarms the_line room to room' (Some behind)) where
      -- the alarms, and more behind them
      pub more_behind : {m : List ℕ} → next < length s → Gathers s m (Err next)
      more_behind h =
          let n = named a in
          no_listing next (bad_more t.going p n.alarms (subst (λ (w : List ℕ). AlarmsLine w n.alarms) (line_part p) n.line) h)

      -- the alarms, and nothing behind them: what is stored, with the count before it, is the front of the program
      stands_for : length s ≤ next → (rs : List Bit) → AlarmsLine the_line rs → Listing s (record { blocks = t.blocks ++ []; alarms = rs })
      stands_for h rs x = listing t.going p rs (subst (λ (w : List ℕ). AlarmsLine w rs) (line_part p) x) h

      all_stored :
          length s ≤ next → (end : ℕ) (rs : List Bit) → AlarmsLine the_line rs → Ready room' end (front_of t.blocks (alarms_front rs)) → {m : List ℕ} {from : ℕ} →
          Counts i room' m from → Gathers s m (Ok (record { from = from; to = end }))
      all_stored h end rs x y {m} {from} c =
          let q : Put (groups_of 3 i) room' from m (from + length (groups_of 3 i)) = record { bytes = c.bytes; place = refl } in
          let k = counted y i from m (from + length (groups_of 3 i)) c.place q in
          let f : i ∷ front_of t.blocks (alarms_front rs) ≡ front (record { blocks = t.blocks ++ []; alarms = rs }) =
          rw (append-nil t.blocks, t.going.count) refl in
          let l : length m ≡ room_size = rw c.bytes (length-sets room' from (groups_of 3 i)) ∙ y.size in
          gathers (record { blocks = t.blocks ++ []; alarms = rs }) from end (stands_for h rs x) (omega (arith, c.place, y.low)) (omega (arith, l, y.high)) (k ∙ ap bytes_of f)

-- the same where all blocks are whole, and where one is not
module _ {s room : List ℕ} {at i to : ℕ} where
  module _ {last next : ℕ} (p : Split s at last next) {room' : List ℕ} {behind : ℕ} where
    pub gathered_whole :
        (t : Turn s room at i to true) (a : TakesAlarms (take (last - at) (drop at s)) room to room' (Some behind)) → length s ≤ next → {m : List ℕ} {from : ℕ} →
        Counts i room' m from → Gathers s m (Ok (record { from = from; to = behind }))
    gathered_whole t a h c =
        let n = named a in
        all_stored t p a h behind n.alarms n.line (ready (omega (arith, t.going.count, t.few)) n.alarms room' behind n.put t.stored) c

    pub gathered_front :
        (t : Turn s room at i to false) (a : TakesAlarms (take (last - at) (drop at s)) room to room' (Some behind)) → length s ≤ next → {m : List ℕ} {from : ℕ} →
        Counts i room' m from → Gathers s m (Ok (record { from = from; to = to }))
    gathered_front t a h c =
        let n = named a in
        all_stored t p a h to n.alarms n.line (ready_before (omega (arith, t.going.count, t.few)) n.alarms room' behind n.put t.stored) c

  module _ {last next : ℕ} (p : Split s at last next) {room' : List ℕ} {r : Taken}
      (x : TakesLine i (take (last - at) (drop at s)) room to room' (Some r)) where
    onward : (blocks : List Block) → Going s at i blocks → (b : Block) → BlockLine i (take (last - at) (drop at s)) b → Going s next (i + 1) (blocks ++ (b ∷ []))
    onward blocks g b y = rw (add-one i) (one_more g p b (subst (λ (w : List ℕ). BlockLine i w b) (line_part p) y))

    -- one block more
    pub turn_kept : Turn s room at i to true → Turn s room' next (i + 1) r.next r.small
    turn_kept t =
        let o = took x in
        let l = number_small o.says in
        record {
          blocks = t.blocks ++ (o.block ∷ []);
          going = onward t.blocks t.going o.block o.says;
          stored = subst (λ (q : Bool). Stored room' r.next q (t.blocks ++ (o.block ∷ []))) o.sized (stored_more o.block (block_spelt o.says) (omega (arith, t.going.count)) room' r.next o.put t.stored);
          few = omega arith;
        }

    pub turn_lost : Turn s room at i to false → Turn s room' next (i + 1) to false
    turn_lost t =
        let o = took x in
        let l = number_small o.says in
        record {
          blocks = t.blocks ++ (o.block ∷ []);
          going = onward t.blocks t.going o.block o.says;
          stored = stored_no_more o.block (block_spelt o.says) (omega (arith, t.going.count)) room' r.next o.put t.stored;
          few = omega arith;
        }

end_some : {e : List ℕ} → LineEnd e → 0 < length e
end_some lf = omega arith
end_some cr_lf = omega arith

-- the places of a line
pub split_place : {s : List ℕ} {at last next : ℕ} → Split s at last next → (at ≤ last) × ((last ≤ next) × (next ≤ length s))
split_place p = (omega (arith, p.length_line), (omega (arith, p.length_end), p.within))

pub split_forward : {s : List ℕ} {at last next : ℕ} → Split s at last next → at < next
split_forward p = omega (arith, p.length_line, p.length_end, end_some p.is_end)

-- all blocks so far are whole, or one is not
pub whole_so_far : {s room : List ℕ} {at i to : ℕ} {kept : Bool} → Turn s room at i to kept → kept ≡ true → Turn s room at i to true
whole_so_far {s} {room} {at} {i} {to} t e = subst (Turn s room at i to) e t

pub front_so_far : {s room : List ℕ} {at i to : ℕ} {kept : Bool} → Turn s room at i to kept → kept ≡ false → Turn s room at i to false
front_so_far {s} {room} {at} {i} {to} t e = subst (Turn s room at i to) e t

pub turn_unkept :
    {s room : List ℕ} {at i to : ℕ} {kept : Bool} {last next : ℕ} (p : Split s at last next) {room' : List ℕ} {r : Taken} →
    TakesLine i (take (last - at) (drop at s)) room to room' (Some r) → Turn s room at i to kept → kept ≡ false → Turn s room' next (i + 1) to kept
turn_unkept {s} {i = i} {to = to} {next = next} p {room'} x t f = subst (Turn s room' next (i + 1) to) (sym f) (turn_lost p x (front_so_far t f))

-- a line that was not taken left the room as it was
pub untouched : {w l m n : List ℕ} {to : ℕ} {r : Option ℕ} → m ≡ l → TakesAlarms w m to n r → TakesAlarms w l to n r
untouched {w} {n = n} {to = to} {r = r} e a = subst (λ (q : List ℕ). TakesAlarms w q to n r) e a
