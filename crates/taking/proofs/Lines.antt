-- The line of a block: its head and what rests of it say one block, and every block that the line says, they say. Assumes nothing.
use Prim.Native.Nat.{ℕ, ◌<◌, ◌≤◌}
use mathlib.Core.Path.{◌≡◌, refl, sym, ap, ◌∙◌}
use mathlib.Core.Bool.{Bool, true, false}
use mathlib.Core.List.{List}
use native.Mathlib.Omega.{arith}
use lib.Dec.{eqb}
use lib.ListN.{length}
use borrow.Author.Tests.{eqb-true, eqb-false}
use Rattle.std.specs.Prelude.{Option, None, Some}
use Rattle.terms.proofs.Choice.{pairs}
use Rattle.numbers.specs.Blocks.{Block}
use Rattle.numbers.specs.Types.{kind_count}
use Rattle.grammar.proofs.Builds.{one_reading}
use Rattle.kinds.specs.Kinds.{fields_of}
use Rattle.layout.specs.Layout.{BlockLine}
use Rattle.layout.specs.Heads.{Heading, of_kind, no_kind, heading_of}
use Rattle.layout.specs.Fields.{found}
use Rattle.layout.proofs.Rows.{row_of}
use Rattle.layout.proofs.Fielding.{fields_read}
use Rattle.layout.proofs.Heading.{heading_told, begun}
use Rattle.lining.specs.Lining.{as_head}
use Rattle.taking.specs.declared.Taken.{Taken}
use Rattle.taking.specs.Taking.{Takes, taken, not_taken, TakesLine, RestSays, rest_says}
use Rattle.taking.proofs.Trees.{tree_block, TreeRest, tree_said}

-- what the head of a line says, as the code has it
head_kind : (x : Heading) {k at : ℕ} → Some (k, at) ≡ as_head x → x ≡ of_kind k at
head_kind (of_kind j p) {k} {at} e = let f : ◌≡◌ {A = ℕ × ℕ} (k, at) (j, p) = cc in let q = pairs f in cc
head_kind no_kind e = let z : ◌≡◌ {A = ℕ} 0 1 = cc in absurd (omega arith)

head_none : (x : Heading) → None ≡ as_head x → x ≡ no_kind
head_none (of_kind j p) e = let z : ◌≡◌ {A = ℕ} 0 1 = cc in absurd (omega arith)
head_none no_kind e = refl

module _ (i : ℕ) (s : List ℕ) where
  -- a line that has a head, and what rests of it
  rest_said : (k at : ℕ) → heading_of i s ≡ of_kind k at → (b : Block) → BlockLine i s b → RestSays k s at b
  rest_said k at e b x =
      let g = begun i s b x in
      let f = g.head in
      let a : g.at ≡ at = cc in
      let c : b.kind ≡ k = cc in
      rw (← a, ← c) (rest_says g.fields g.stands)

  one_rest : (k at : ℕ) → k < kind_count → (b c : Block) → RestSays k s at b → RestSays k s at c → b ≡ c
  one_rest k at h b c = go (eqb k 0) refl
    where
      trees : TreeRest s at b → TreeRest s at c → b ≡ c
      trees x y = x.block ∙ ap tree_block (one_reading _ x.tree y.tree x.reads y.reads) ∙ sym y.block

      numbers : 0 < k → (b c : Block) → RestSays k s at b → RestSays k s at c → b ≡ c
      numbers l b c (rest_says {cs = cs} {w = w} f x) (rest_says {cs = ds} {w = v} g y) =
          let p = fields_read s (fields_of k) cs w at (row_of k l h) f x in
          let q = fields_read s (fields_of k) ds v at (row_of k l h) g y in
          let e : p.numbers ≡ q.numbers = (let z : found p.numbers ≡ found q.numbers = sym p.is ∙ q.is in cc) in
          rw (p.same, q.same, e)

      go : (z : Bool) → eqb k 0 ≡ z → RestSays k s at b → RestSays k s at c → b ≡ c
      go true e x y = let f = eqb-true k 0 e in trees (tree_said s at b (rw f at x)) (tree_said s at c (rw f at y))
      go false e x y = numbers (omega (arith, eqb-false k 0 e)) b c x y

  -- a line says one block
  pub one_block : (b c : Block) → BlockLine i s b → BlockLine i s c → b ≡ c
  one_block b c x y =
      let g = begun i s b x in
      one_rest b.kind g.at g.known b c (rest_said b.kind g.at g.head b x) (rest_said b.kind g.at g.head c y)

  -- what the code answers
  pub no_head_taken : {l : List ℕ} {to : ℕ} → None ≡ as_head (heading_of i s) → TakesLine i s l to l None
  no_head_taken e =
      not_taken
      (λ b x. let g = (begun i s b x).head in
      let n = head_none (heading_of i s) e in
      let z : ◌≡◌ {A = ℕ} 0 1 = cc in omega arith)
      refl

  module _ (small : i < 200) (k at : ℕ) (e : Some (k, at) ≡ as_head (heading_of i s)) where
    pub rest_known : (k < kind_count) × (at ≤ length s)
    rest_known = let g = heading_told i small s k at (head_kind (heading_of i s) e) in (g.known, g.within)

    pub line_taken : {l m : List ℕ} {to : ℕ} {r : Option Taken} → Takes (RestSays k s at) l to m r → TakesLine i s l to m r
    line_taken (taken b next x p) = taken b next (says b x) p
      where
        says : (b : Block) → RestSays k s at b → BlockLine i s b
        says b (rest_says {cs = cs} {w = w} y z) = (heading_told i small s k at (head_kind (heading_of i s) e)).line cs w y z
    line_taken (not_taken n g) = not_taken (λ b x. n b (rest_said k at (head_kind (heading_of i s) e) b x)) g
