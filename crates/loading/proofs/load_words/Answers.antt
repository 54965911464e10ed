-- `loading::load_words` meets its contract: the analog words are written first, and the places' words behind them.
use Prim.Native.Nat.{◌+◌, ◌-◌}
use mathlib.Core.Path.{◌≡◌}
use native.Mathlib.Omega.{arith}
use borrow.Author.Rules.{rules}
use lib.ListN.{length}
use lib.Seq.{take_at, drop_at}
use Rattle.loading.proofs.load_words.Goals as goal

pub returns : goal.returns
returns c =
    let a = c.args in let k : length a.analogs ≡ 8 = search rules in
    let e : a.n + 8 - 8 ≡ a.n = omega arith in
    rw (c.copy_from_slice.ensures.after, take_at a.analogs _ 8 k, drop_at a.analogs _ 8 k, e, c.copy_from_slice-2.ensures.after)
