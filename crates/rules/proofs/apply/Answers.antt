-- `rules::apply` meets its contract: each kind goes its own way, and the last is ST.
use Prim.Native.Nat.{ℕ, zero, suc, zero-le, ◌≤◌, ◌<◌}
use mathlib.Core.Bool.{true}
use mathlib.Core.List.{List}
use Rattle.kinds.specs.Kinds.{types_of}
use Rattle.rules.specs.Rows.{all_allowed}
use mathlib.Core.Path.{◌≡◌}
use Rattle.numbers.specs.Types.{kind_count}
use Rattle.rules.proofs.Fields.{no_row, past, only}
use Rattle.rules.proofs.apply.Goals as goal

-- a kind that is none of 1 to n
abbrev None : ℕ → ℕ → Type 0
None zero k = Unit {0}
None (suc n) k = None n k × (k ≡ suc n → ⊥)

-- where it is not 0 either, it is past them
above : (n : ℕ) {k : ℕ} → (k ≡ 0 → ⊥) → None n k → suc n ≤ k
above zero z u = past zero-le z
above (suc n) z (u, ne) = past (above n z u) ne

-- where no other kind fits, it is the last
last : (f : List ℕ) {k : ℕ} → all_allowed (types_of k) 0 0 f ≡ true → k < kind_count → None 11 k → k ≡ 12
last f a l u = only (above 11 (λ z. no_row f (rw z at a)) u) l

pub turn_sr-requires : goal.turn_sr-requires
turn_sr-requires c =
    rw c.in-1.is at c.requires.1

pub turn_pl-requires : goal.turn_pl-requires
turn_pl-requires c =
    rw c.in-2.is at c.requires.1

pub turn_al-requires : goal.turn_al-requires
turn_al-requires c =
    rw c.in-3.is at c.requires.1

pub turn_dl-requires : goal.turn_dl-requires
turn_dl-requires c =
    rw c.in-4.is at c.requires.1

pub turn_os-requires : goal.turn_os-requires
turn_os-requires c =
    rw c.in-5.is at c.requires.1

pub turn_fl-requires : goal.turn_fl-requires
turn_fl-requires c =
    rw c.in-6.is at c.requires.1

pub turn_cn-requires : goal.turn_cn-requires
turn_cn-requires c =
    rw c.in-7.is at c.requires.1

pub turn_ud-requires : goal.turn_ud-requires
turn_ud-requires c =
    rw c.in-8.is at c.requires.1

pub turn_cp-requires : goal.turn_cp-requires
turn_cp-requires c =
    rw c.in-9.is at c.requires.1

pub turn_og-requires : goal.turn_og-requires
turn_og-requires c =
    rw c.in-10.is at c.requires.1

pub turn_zc-requires : goal.turn_zc-requires
turn_zc-requires c =
    rw c.in-11.is at c.requires.1

pub turn_st-requires : goal.turn_st-requires
turn_st-requires c =
    rw (last c.args.f c.requires.1 c.requires.0 c.in_default.in_default-own.rest) at c.requires.1

pub returns-in-1 : goal.returns-in-1
returns-in-1 c =
    rw c.in-1.is c.turn_sr.ensures

pub returns-in-2 : goal.returns-in-2
returns-in-2 c =
    rw c.in-2.is c.turn_pl.ensures

pub returns-in-3 : goal.returns-in-3
returns-in-3 c =
    rw c.in-3.is c.turn_al.ensures

pub returns-in-4 : goal.returns-in-4
returns-in-4 c =
    rw c.in-4.is c.turn_dl.ensures

pub returns-in-5 : goal.returns-in-5
returns-in-5 c =
    rw c.in-5.is c.turn_os.ensures

pub returns-in-6 : goal.returns-in-6
returns-in-6 c =
    rw c.in-6.is c.turn_fl.ensures

pub returns-in-7 : goal.returns-in-7
returns-in-7 c =
    rw c.in-7.is c.turn_cn.ensures

pub returns-in-8 : goal.returns-in-8
returns-in-8 c =
    rw c.in-8.is c.turn_ud.ensures

pub returns-in-9 : goal.returns-in-9
returns-in-9 c =
    rw c.in-9.is c.turn_cp.ensures

pub returns-in-10 : goal.returns-in-10
returns-in-10 c =
    rw c.in-10.is c.turn_og.ensures

pub returns-in-11 : goal.returns-in-11
returns-in-11 c =
    rw c.in-11.is c.turn_zc.ensures

pub returns-in_default : goal.returns-in_default
returns-in_default c =
    rw (last c.args.f c.requires.1 c.requires.0 c.in_default.in_default-own.rest) c.turn_st.ensures
