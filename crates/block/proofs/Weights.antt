-- The nodes, memory and step figure of a block are few. Assumes nothing.
use Prim.Native.Nat.{ℕ, suc, ◌+◌, ◌*◌, ◌<◌, ◌≤◌}
use mathlib.Core.Path.{◌≡◌, refl, ap, subst}
use mathlib.Core.List.{List, [], ◌∷◌}
use native.Mathlib.Omega.{arith}
use lib.Dec.{eqb}
use lib.ListN.{length}
use Rattle.terms.proofs.Choice.{pick_case, when_case}
use Rattle.numbers.specs.Blocks.{Block, Expr, Content, tree, nodes, nodes_of, nodes_in}
use Rattle.kinds.specs.Kinds.{expression, types_of, memory_of, figure_for, figure_of, mark_of}
use Rattle.numbers.specs.Types.{kind_count, kind_number, content_of, setting_of}
use Rattle.wire.specs.Reading.{Read, got, fault, and_then}
use Rattle.numbers.specs.Reading.{Marks, typed_at}
use Rattle.nodes.specs.Reading.{expr_at}
use Rattle.block.specs.Reading.{content_at, fields_at, block_at}
use Rattle.block.specs.Answers.{brief_of}
use Rattle.block.specs.declared.Brief.{Brief}
use Rattle.numbers.proofs.References.{content_nodes}
use Rattle.kinds.proofs.KindTable.{types_few, memory_light}
use Rattle.numbers.proofs.Typed.{typed_below}
use Rattle.nodes.proofs.Expressions.{few}
use Rattle.block.proofs.Rows.{Full, full}

-- a field has at most 63 nodes
abbrev Few : Read Content → Type 0
Few (got c next) = nodes_of c ≤ 63
Few (fault n at) = Unit {0}

few_tree : (r : Read Expr) → ((t : Expr) (n : ℕ) → r ≡ got t n → nodes t ≤ 63) → Few (and_then r (λ t n. got (tree t) n))
few_tree (got t n) h = h t n refl
few_tree (fault n at) h = tt

few_number : (ty : ℕ) (r : Read ℕ) → Few (and_then r (λ v n. got (content_of ty v) n))
few_number ty (got v n) = omega (arith, content_nodes ty v)
few_number ty (fault n at) = tt

content_few : (k : Marks) (ty before : ℕ) (s : List ℕ) (at : ℕ) → Few (content_at k ty before s at)
unfolding content_at
content_few k ty before s at =
    when_case Few (eqb ty expression) _ _
    (λ _. few_tree (expr_at k 16 63 s at) (λ t n e. few k 16 63 s at e))
    (λ _. few_number ty (typed_at k ty before s at))

-- a row of so many fields has at most 63 nodes for each
abbrev RowFew : ℕ → Read (List Content) → Type 0
RowFew b (got cs next) = nodes_in cs ≤ b
RowFew b (fault n at) = Unit {0}

few_cons : (b : ℕ) (c : Content) (r : Read (List Content)) → nodes_of c ≤ 63 → RowFew b r → RowFew (b + 63) (and_then r (λ cs end. got (c ∷ cs) end))
few_cons b c (got cs end) h f = omega arith
few_cons b c (fault n at) h f = tt

few_then :
    (b : ℕ) (r : Read Content) (f : Content → ℕ → Read (List Content)) → Few r →
    ((c : Content) (n : ℕ) → nodes_of c ≤ 63 → RowFew b (f c n)) → RowFew b (and_then r f)
few_then b (got c n) f h g = g c n h
few_then b (fault n at) f h g = tt

row_few : (k : Marks) (ts : List ℕ) (before : ℕ) (s : List ℕ) (at : ℕ) → RowFew (length ts * 63) (fields_at k ts before s at)
unfolding fields_at
row_few k [] before s at = omega arith
row_few k (ty ∷ ts) before s at =
    let e : suc (length ts) * 63 ≡ length ts * 63 + 63 = omega arith in
    rw e
    (few_then (length ts * 63 + 63) (content_at k ty before s at) _ (content_few k ty before s at)
    (λ c n h. few_cons (length ts * 63) c (fields_at k ts (setting_of c) s n) h (row_few k ts (setting_of c) s n)))

pub fields_few :
    (k : Marks) (ts : List ℕ) (before : ℕ) (s : List ℕ) (at : ℕ) {cs : List Content} {next : ℕ} →
    fields_at k ts before s at ≡ got cs next → nodes_in cs ≤ length ts * 63
fields_few k ts before s at e = subst (RowFew (length ts * 63)) e (row_few k ts before s at)

-- so a row that ends has at most 315 nodes
pub row_light : (k : Marks) (s : List ℕ) (v next : ℕ) {n end : ℕ} → v < kind_count → Full (fields_at k (types_of v) 0 s next) n end → n ≤ 315
row_light k s v next l (full cs r h) = omega (arith, fields_few k (types_of v) 0 s next r, types_few v l)

-- a block's memory and step figure are small: a kind's own memory, and 63 nodes for each of five fields
abbrev Light : Read Block → Type 0
Light (got b next) = (memory_of b ≤ 337) × (figure_of b ≤ 315)
Light (fault n at) = Unit {0}

figure_small : (n : ℕ) → n ≤ 315 → figure_for n ≤ 315
unfolding figure_for
figure_small n h = pick_case (λ (x : ℕ). x ≤ 315) (eqb n 0) (λ _. omega arith) (λ _. h)

light_row :
    (v : ℕ) (r : Read (List Content)) → v < kind_count → RowFew (length (types_of v) * 63) r →
    Light (and_then r (λ cs end. got (record { kind = v; fields = cs }) end))
light_row v (got cs end) l f =
    let h : nodes_in cs ≤ 315 = omega (arith, types_few v l) in
    (omega (arith, memory_light v l), figure_small (nodes_in cs) h)
light_row v (fault n at) l f = tt

light_kind :
    (k : Marks) (s : List ℕ) (r : Read ℕ) → ((v n : ℕ) → r ≡ got v n → v < kind_count) →
    Light (and_then r (λ v next. and_then (fields_at k (types_of v) 0 s next) (λ cs end. got (record { kind = v; fields = cs }) end)))
light_kind k s (got v n) h = light_row v (fields_at k (types_of v) 0 s n) (h v n refl) (row_few k (types_of v) 0 s n)
light_kind k s (fault n at) h = tt

light_block : (k : Marks) (s : List ℕ) (at : ℕ) → Light (block_at k s at)
unfolding block_at
light_block k s at = light_kind k s (typed_at k kind_number 0 s at) (λ v n e. typed_below k kind_number 0 s at e)

brief_light : (r : Read Block) {x : Brief} {next : ℕ} → brief_of r ≡ got x next → Light r → (x.memory ≤ 337) × (x.figure ≤ 315)
brief_light (got b n) {x} e l =
    let h : record { memory = memory_of b; figure = figure_of b; mark = mark_of b; next = n } ≡ x = cc in
    let em : memory_of b ≡ x.memory = ap (λ (y : Brief). y.memory) h in
    let ef : figure_of b ≡ x.figure = ap (λ (y : Brief). y.figure) h in
    (omega arith, omega arith)
brief_light (fault n at) e l = let z : ◌≡◌ {A = ℕ} 0 1 = cc in absurd (omega arith)

pub block_light : (k : Marks) (s : List ℕ) (at : ℕ) {x : Brief} {next : ℕ} → brief_of (block_at k s at) ≡ got x next → (x.memory ≤ 337) × (x.figure ≤ 315)
block_light k s at e = brief_light (block_at k s at) e (light_block k s at)
