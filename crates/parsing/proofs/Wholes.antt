-- A whole text: bad inside, bad behind what was read of it, or read to its end. Assumes nothing.
use Prim.Native.Nat.{ℕ, ◌<◌, ◌≤◌}
use mathlib.Core.Path.{◌≡◌, refl, ◌∙◌}
use mathlib.Core.List.{List, append-nil}
use lib.ListN.{length, drop_of_length-le}
use lib.Dec.{eqb}
use Rattle.terms.proofs.Choice.{pick_case}
use Rattle.wire.specs.Number.{byte_at}
use Rattle.grammar.specs.Grammar.{closing, or_list}
use Rattle.grammar.specs.Machine.{State, want, had, dead, closes, stop, from}
use Rattle.grammar.proofs.Places.{bad_at}
use Rattle.grammar.proofs.From.{rest, killed}
use Rattle.spelling.proofs.Signs.{no_sign}
use Rattle.std.proofs.Common.{Ok, Err}
use Rattle.parsing.specs.Listing.{no_nodes, nodes_of, Lists, lists, lists_none}
use Rattle.parsing.specs.Parsing.{Took}
use Rattle.parsing.proofs.Lists.{passed}

module _ (s : List ℕ) where
  -- bad inside
  pub lists_bad : {k : ℕ} → from s (want 0) 0 ≡ stop k → Lists s (Err k)
  lists_bad {k} f = lists_none k (bad_at s k f)

  module _ {m : List ℕ} {next count deep : ℕ} (x : Took s 0 or_list 0 0 no_nodes m next count deep) where
    -- bad behind it
    pub lists_more : next < length s → Lists s (Err next)
    unfolding closes
    lists_more h =
        let v = x.free in
        let b = byte_at s next in
        lists_bad
        (passed s x.stands x.reads
        ∙ killed s (had 0) next h
        (no_sign s next 0 v.0.0.0 v.0.0.1 v.0.1 v.1 ∙ pick_case (λ (st : State). st ≡ dead) (eqb b closing) (λ _. refl) (λ _. refl)))

    -- read to its end
    pub lists_all : length s ≤ next → Lists s (Ok (record { count = count; deep = deep; nodes = m }))
    unfolding nodes_of
    lists_all h =
        let e : s ≡ x.text = rest s x.stands ∙ rw (drop_of_length-le s h) (append-nil x.text) in
        rw (x.counted, x.measured, x.put) (lists x.tree (rw e x.reads))
