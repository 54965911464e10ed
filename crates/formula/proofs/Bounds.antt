-- What was listed of a text, answered within the bounds or over one. Assumes nothing.
use Prim.Native.Nat.{ℕ, ◌<◌, ◌≤◌}
use mathlib.Core.Path.{◌≡◌, refl, sym, subst}
use mathlib.Core.List.{List}
use native.Mathlib.Omega.{arith}
use Rattle.std.specs.Prelude.{Ok, Err}
use Rattle.terms.specs.Refusals.{bad_text, outside}
use Rattle.numbers.specs.Blocks.{Expr, nodes}
use Rattle.writing.specs.Expressions.{depth}
use Rattle.grammar.specs.Grammar.{Formula}
use Rattle.parsing.specs.declared.Tree.{Tree}
use Rattle.parsing.specs.Listing.{nodes_of, Lists, lists, lists_none}
use Rattle.formula.specs.declared.Expression.{Expression}
use Rattle.formula.specs.Answers.{many, deep as Deep-one, refused, Answers, good, bad, large}

module _ (s : List ℕ) where
  -- what was listed of a tree
  pub record Treed (r : Tree) : Type 0 where
    pub tree : Expr
    pub formula : Formula s tree
    pub counted : r.count ≡ nodes tree
    pub measured : r.deep ≡ depth tree
    pub listed : r.nodes ≡ nodes_of tree

  pub treed : {r : Tree} → Lists s (Ok r) → Treed r
  treed (lists t x) = record { tree = t; formula = x; counted = refl; measured = refl; listed = refl }

  pub bad_text_lem : {k : ℕ} {a : Expression} → Lists s (Err k) → a ≡ refused bad_text k → Answers s a
  bad_text_lem (lists_none k x) f = subst (Answers s) (sym f) (bad k x)

  module _ {r : Tree} (x : Treed r) where
    pub too_many : {a : Expression} → 63 < r.count → a ≡ refused outside 0 → Answers s a
    too_many h e = subst (Answers s) (sym e) (large x.tree x.formula (many (omega (arith, x.counted))))

    pub too_deep_lem : {a : Expression} → 16 < r.deep → a ≡ refused outside 0 → Answers s a
    too_deep_lem h e = subst (Answers s) (sym e) (large x.tree x.formula (Deep-one (omega (arith, x.measured))))

    pub small : r.count ≤ 63 → r.deep ≤ 16 → Answers s (record { refusal = 0; place = 0; count = r.count; nodes = r.nodes })
    small h g =
        rw (x.counted, x.listed)
        (good x.tree x.formula (record { few = omega (arith, x.counted); shallow = omega (arith, x.measured) }))
