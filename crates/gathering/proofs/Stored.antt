-- What is stored of the blocks read so far: the front of their numbers, as bytes, behind two places that are left for the count. Assumes nothing.
use Prim.Native.Nat.{ℕ, suc, ◌+◌, ◌*◌, ◌-◌, ◌/◌, ◌<◌, ◌≤◌}
use mathlib.Core.Path.{◌≡◌, refl, sym, ap, ◌∙◌}
use mathlib.Core.Bool.{Bool, true, false}
use mathlib.Core.List.{List, [], ◌∷◌, ◌++◌, append_assoc}
use native.Mathlib.Omega.{arith}
use lib.ListN.{length, take, drop, length-append, drop_of_length-le}
use lib.Seq.{sets, sets-eq, length-sets, length-take-le, take_at, drop_at, drop-append-le, take-append-add}
use borrow.Author.Tests.{lt-ltb, le-ltb}
use Rattle.terms.specs.Choice.{pick}
use Rattle.numbers.specs.Blocks.{Bit, Block}
use Rattle.wire.specs.Number.{groups_of}
use Rattle.filling.specs.Filling.{Put}
use Rattle.writing.specs.Expressions.{bytes_of}
use Rattle.storing.proofs.Bytes.{bytes_append}
use Rattle.forms.specs.Written.{block_numbers}
use Rattle.fronts.specs.Fronts.{small, most_kept, front_of, alarms_front, SpeltBlock}
use Rattle.fronts.proofs.Bytes.{small_whole, kept_short, alarms_short}
use Rattle.gathering.specs.Gathering.{room_size}

-- what stands before a place where text is put stays, and the text stands behind it
module _ (l xs : List ℕ) (i : ℕ) where
  pub put_front : i + length xs ≤ length l → take (i + length xs) (sets l i xs) ≡ take i l ++ xs
  put_front h =
      let e : length (take i l ++ xs) ≡ i + length xs = omega (arith, length-append (take i l) xs, length-take-le i l (omega arith)) in
      ap (take (i + length xs)) (sets-eq xs l i h) ∙ take_at (take i l ++ xs) (drop (i + length xs) l) (i + length xs) e

  pub kept_front : i + length xs ≤ length l → take i (sets l i xs) ≡ take i l
  kept_front h =
      ap (take i) (sets-eq xs l i h ∙ append_assoc (take i l) xs (drop (i + length xs) l)) ∙ take_at (take i l) (xs ++ drop (i + length xs) l) i (length-take-le i l (omega arith))

front_append : (bs cs : List Block) (rest : List ℕ) → front_of (bs ++ cs) rest ≡ front_of bs (front_of cs rest)
front_append [] cs rest = refl
front_append (b ∷ bs) cs rest = rw (front_append bs cs rest)

pub record Stored (room : List ℕ) (to : ℕ) (kept : Bool) (blocks : List Block) : Type 0 where
  pub numbers : List ℕ
  pub size : length room ≡ room_size
  pub low : 2 ≤ to
  pub high : to ≤ 2 + 130 * length blocks
  pub bytes : drop 2 (take to room) ≡ bytes_of numbers
  pub fronts : (rest : List ℕ) → front_of blocks rest ≡ pick kept (numbers ++ rest) numbers

pub none_stored : (room : List ℕ) → length room ≡ room_size → Stored room 2 true []
none_stored room e =
    let h : length (take 2 room) ≤ 2 = omega (arith, length-take-le 2 room (omega arith)) in
    record {
      numbers = [];
      size = e;
      low = omega arith;
      high = omega arith;
      bytes = drop_of_length-le (take 2 room) h;
      fronts = λ rest. refl;
    }

module _ {room : List ℕ} {to : ℕ} {kept : Bool} {blocks : List Block} (x : Stored room to kept blocks) where
  -- bytes put behind them
  behind : (ns : List ℕ) (room' : List ℕ) (next : ℕ) → Put (bytes_of ns) room to room' next → to + length (bytes_of ns) ≤ room_size → drop 2 (take next room') ≡ bytes_of (x.numbers ++ ns)
  behind ns room' next p h =
      let a = put_front room (bytes_of ns) to (omega (arith, x.size)) in
      let b : drop 2 (take to room ++ bytes_of ns) ≡ drop 2 (take to room) ++ bytes_of ns =
      drop-append-le 2 (take to room) (bytes_of ns) (omega (arith, length-take-le to room (omega (arith, x.size)), x.low)) in
      rw (p.bytes, p.place) (ap (drop 2) a ∙ b ∙ rw x.bytes (sym (bytes_append x.numbers ns)))

  -- bytes put there that are not kept
  beside : (ns : List ℕ) (room' : List ℕ) (next : ℕ) → Put (bytes_of ns) room to room' next → to + length (bytes_of ns) ≤ room_size → drop 2 (take to room') ≡ bytes_of x.numbers
  beside ns room' next p h = rw p.bytes (ap (drop 2) (kept_front room (bytes_of ns) to (omega (arith, x.size))) ∙ x.bytes)

  resized : (ns : List ℕ) (room' : List ℕ) (next : ℕ) → Put ns room to room' next → length room' ≡ room_size
  resized ns room' next p = rw p.bytes (length-sets room to ns) ∙ x.size

-- one block more: its front behind those before it, if these were whole
module _ {room : List ℕ} {to : ℕ} {blocks : List Block} (b : Block) (h : SpeltBlock b) (few : length blocks < 200) (room' : List ℕ) (next : ℕ)
    (p : Put (bytes_of (take most_kept (block_numbers b))) room to room' next) where
  fits : {kept : Bool} → Stored room to kept blocks → to + length (bytes_of (take most_kept (block_numbers b))) ≤ room_size
  fits x = omega (arith, x.high, kept_short b h)

  pub stored_more : Stored room to true blocks → Stored room' next (small b) (blocks ++ (b ∷ []))
  stored_more x =
      record {
        numbers = x.numbers ++ take most_kept (block_numbers b);
        size = resized x _ room' next p;
        low = omega (arith, x.low, p.place);
        high = omega (arith, x.high, p.place, kept_short b h, length-append blocks (b ∷ []));
        bytes = behind x (take most_kept (block_numbers b)) room' next p (fits x);
        fronts = λ rest. front_append blocks (b ∷ []) rest ∙ x.fronts (front_of (b ∷ []) rest) ∙ by_size (small b) refl rest;
      }
    where
      by_size : (c : Bool) → small b ≡ c → (rest : List ℕ) →
          x.numbers ++ pick (small b) (block_numbers b ++ rest) (take most_kept (block_numbers b)) ≡
          pick (small b) ((x.numbers ++ take most_kept (block_numbers b)) ++ rest) (x.numbers ++ take most_kept (block_numbers b))
      by_size true e rest = rw (e, small_whole b h e) (sym (append_assoc x.numbers (block_numbers b) rest))
      by_size false e rest = rw e refl

  pub stored_no_more : Stored room to false blocks → Stored room' to false (blocks ++ (b ∷ []))
  stored_no_more x =
      record {
        numbers = x.numbers;
        size = resized x _ room' next p;
        low = x.low;
        high = omega (arith, x.high, length-append blocks (b ∷ []));
        bytes = beside x (take most_kept (block_numbers b)) room' next p (fits x);
        fronts = λ rest. front_append blocks (b ∷ []) rest ∙ x.fronts (front_of (b ∷ []) rest);
      }

-- all that is stored of a program but the count of its blocks
pub record Ready (room : List ℕ) (end : ℕ) (ns : List ℕ) : Type 0 where
  pub size : length room ≡ room_size
  pub low : 2 ≤ end
  pub high : end < room_size
  pub bytes : drop 2 (take end room) ≡ bytes_of ns

module _ {room : List ℕ} {to : ℕ} {blocks : List Block} (few : length blocks ≤ 200) (rs : List Bit) (room' : List ℕ) (next : ℕ)
    (p : Put (bytes_of (alarms_front rs)) room to room' next) where
  pub ready : Stored room to true blocks → Ready room' next (front_of blocks (alarms_front rs))
  ready x =
      record {
        size = resized x _ room' next p;
        low = omega (arith, x.low, p.place);
        high = omega (arith, x.high, p.place, alarms_short rs);
        bytes = rw (x.fronts (alarms_front rs)) (behind x (alarms_front rs) room' next p (omega (arith, x.high, alarms_short rs)));
      }

  pub ready_before : Stored room to false blocks → Ready room' to (front_of blocks (alarms_front rs))
  ready_before x =
      record {
        size = resized x _ room' next p;
        low = x.low;
        high = omega (arith, x.high);
        bytes = rw (x.fronts (alarms_front rs)) (beside x (alarms_front rs) room' next p (omega (arith, x.high, alarms_short rs)));
      }

-- the count put before them
two_off : (room : List ℕ) (n : ℕ) → 2 ≤ length room → drop 2 (take (2 + n) room) ≡ take n (drop 2 room)
two_off [] n h = absurd (omega arith)
two_off (a ∷ []) n h = absurd (omega arith)
two_off (a ∷ b ∷ r) n h = let e : 2 + n ≡ suc (suc n) = omega arith in rw e

pub counted :
    {room : List ℕ} {end : ℕ} {ns : List ℕ} → Ready room end ns → (n from : ℕ) (room' : List ℕ) (next : ℕ) → from + length (groups_of 3 n) ≡ 2 →
    Put (groups_of 3 n) room from room' next → take (end - from) (drop from room') ≡ bytes_of (n ∷ ns)
counted {room} {end} {ns} x n from room' next e p =
    let g = groups_of 3 n in
    let a = sets-eq g room from (omega (arith, x.size)) ∙ append_assoc (take from room) g (drop (from + length g) room) in
    let b : drop from (take from room ++ (g ++ drop (from + length g) room)) ≡ g ++ drop (from + length g) room =
    drop_at (take from room) (g ++ drop (from + length g) room) from (length-take-le from room (omega (arith, x.size))) in
    let c : end - from ≡ length g + (end - 2) = omega (arith, x.low) in
    let d : 2 + (end - 2) ≡ end = omega (arith, x.low) in
    let f : drop 2 (take end room) ≡ take (end - 2) (drop 2 room) = rw d at (two_off room (end - 2) (omega (arith, x.size))) in
    rw p.bytes (ap (λ (l : List ℕ). take (end - from) (drop from l)) a ∙ rw (b, c, e) (take-append-add g (drop 2 room) (end - 2) ∙ rw (← f, x.bytes) refl))

-- a count of at most 200 takes one byte, or two
pub count_one : (n : ℕ) → n < 128 → 1 + length (groups_of 3 n) ≡ 2
unfolding groups_of
count_one n h = rw (lt-ltb n 128 h)

pub count_two : (n : ℕ) → 128 ≤ n → n ≤ 200 → 0 + length (groups_of 3 n) ≡ 2
unfolding groups_of
count_two n l h = rw (le-ltb n 128 l, lt-ltb (n / 128) 128 (omega arith))
