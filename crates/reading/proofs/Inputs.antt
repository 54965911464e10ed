-- What a read says. Assumes nothing.
use Prim.Native.Nat.{ℕ, zero, suc, ◌+◌, ◌-◌, ◌≤◌, min}
use mathlib.Core.Path.{◌≡◌}
use mathlib.Core.List.{List, ◌++◌}
use native.Mathlib.Omega.{arith}
use lib.ListN.{length, take, drop, length-take, length-drop, length-append}
use lib.Seq.{take_at, length-take-le}
use Rattle.std.specs.Prelude.{Result, Ok, Err, Option, Some}
use Rattle.reading.specs.Reading.{input_of, Inside}

-- what is read lies within the room that there was
within : {E : Type 0} (got : Result ℕ E) (room kept : ℕ) (b : List ℕ) → kept + room ≤ length b → Inside kept b (input_of got room)
unfolding input_of
within (Ok zero) room kept b h = tt
within (Ok (suc k)) room kept b h = omega arith
within (Err e) room kept b h = tt

pub inside : {E : Type 0} (got : Result ℕ E) (room kept : ℕ) (b : List ℕ) {r : Result (Option ℕ) E} → r ≡ input_of got room → kept + room ≤ length b → Inside kept b r
inside got room kept b e h = rw e (within got room kept b h)

-- what is written behind the front of a buffer does not reach it
pub front_stays : (kept : ℕ) (b tail : List ℕ) → kept ≤ length b → take kept (take kept b ++ tail) ≡ take kept b
front_stays kept b tail h = take_at (take kept b) tail kept (length-take-le kept b h)

-- and there is no more behind it than the buffer is long
pub fits_behind : (kept : ℕ) (b tail : List ℕ) → kept ≤ length b → let d = take kept b ++ tail in
    kept + length (take (length d - kept) (drop kept d)) ≤ length d
fits_behind kept b tail h =
    let d = take kept b ++ tail in
    let front : kept ≤ length d = simp length-append (omega (arith, length-take-le kept b h)) in
    simp (length-take, length-drop) (omega (arith, front))

pub gives : {E : Type 0} (got : Result ℕ E) (room : ℕ) {n m : ℕ} → got ≡ Ok n → (n ≡ 0 → ⊥) → m ≡ min n room → Ok (Some m) ≡ input_of got room
unfolding input_of
gives (Ok zero) room e h f = absurd (h (cc))
gives (Ok (suc k)) room {n} e h f = let same : suc k ≡ n = cc in rw (f, same)
gives (Err x) room e h f = cc
