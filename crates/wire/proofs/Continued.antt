-- A number of some bytes, and of these with more behind them: what is not cut stays as it is, and what is cut, if it is a number
-- then, ends among these. By induction on the number of groups. Assumes nothing.
use Prim.Native.Nat.{ℕ, zero, suc, ◌+◌, ◌%◌, ◌<◌}
use mathlib.Core.Path.{◌≡◌, refl, sym}
use mathlib.Core.Bool.{Bool, true, false}
use mathlib.Core.List.{List, ◌++◌}
use native.Mathlib.Omega.{arith}
use lib.Dec.{ltb}
use lib.ListN.{length, get_or-append, length-append}
use borrow.Author.Tests.{ltb-true, ltb-false, lt-ltb}
use Rattle.terms.specs.Choice.{pick}
use Rattle.wire.specs.Number.{Num, Got, Bad, Cut}
use Rattle.wire.specs.Number.{byte_at, more, not_zero, groups_at, number_at}
use Rattle.wire.proofs.Laws.{takes}

-- what is read in n bytes, and in more
abbrev pub Kept : ℕ → Num → Num → Type 0
Kept n (Got v next) r = r ≡ Got v next
Kept n Bad r = r ≡ Bad
Kept n Cut r = (v next : ℕ) → r ≡ Got v next → n < next

more_kept : (n g : ℕ) (a r : Num) → Kept n a r → Kept n (more g a) (more g r)
more_kept n g (Got v next) r e = rw e
more_kept n g Bad r e = rw e
more_kept n g Cut (Got w end) h = λ v next e. let z : end ≡ next = cc in rw (sym z) (h w end refl)
more_kept n g Cut Bad h = λ v next e. let z : ◌≡◌ {A = ℕ} 0 1 = cc in absurd (omega arith)
more_kept n g Cut Cut h = λ v next e. let z : ◌≡◌ {A = ℕ} 0 1 = cc in absurd (omega arith)

byte_kept :
    (b c : Bool) (n g v next : ℕ) (a r : Num) → Kept n a r →
    Kept n (pick b (pick c Bad (Got v next)) (more g a)) (pick b (pick c Bad (Got v next)) (more g r))
byte_kept true true n g v next a r e = refl
byte_kept true false n g v next a r e = refl
byte_kept false c n g v next a r e = more_kept n g a r e

module _ (u v : List ℕ) where
  groups_kept : (k least at : ℕ) → Kept (length u) (groups_at k least u at) (groups_at k least (u ++ v) at)
  unfolding groups_at
  groups_kept zero least at = refl
  groups_kept (suc k) least at = go (ltb at (length u)) refl (groups_kept k not_zero (at + 1))
    where
      go : (a : Bool) → ltb at (length u) ≡ a → Kept (length u) (groups_at k not_zero u (at + 1)) (groups_at k not_zero (u ++ v) (at + 1)) →
          Kept (length u)
          (pick a
          (pick (ltb (byte_at u at) 128) (pick (ltb (byte_at u at) least) Bad (Got (byte_at u at) (at + 1))) (more (byte_at u at % 128) (groups_at k not_zero u (at + 1))))
          Cut)
          (groups_at (suc k) least (u ++ v) at)
      go false e h = λ w next g. omega (arith, ltb-false at (length u) e, (takes (suc k) least (u ++ v) at w next g).0)
      go true e h =
          let l : at < length u = ltb-true at (length u) e in
          rw (lt-ltb at (length (u ++ v)) (rw (length-append u v) (omega arith)), get_or-append u v 0 at l)
          (byte_kept (ltb (byte_at u at) 128) (ltb (byte_at u at) least) (length u) (byte_at u at % 128) (byte_at u at) (at + 1)
          (groups_at k not_zero u (at + 1)) (groups_at k not_zero (u ++ v) (at + 1)) h)

  pub number_kept : (at : ℕ) → Kept (length u) (number_at u at) (number_at (u ++ v) at)
  unfolding number_at
  number_kept at = groups_kept 3 0 at
