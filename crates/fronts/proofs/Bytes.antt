-- How many bytes are kept of a block and of the alarms. Assumes nothing.
use Prim.Native.Nat.{ℕ, zero, suc, ◌+◌, ◌*◌, ◌/◌, ◌<◌, ◌≤◌}
use mathlib.Core.Path.{◌≡◌, refl}
use mathlib.Core.Bool.{Bool, true, ◌&&◌}
use mathlib.Core.List.{List, [], ◌∷◌, map}
use native.Mathlib.Omega.{arith}
use lib.Dec.{ltb, leb}
use lib.ListN.{length, take, length-append, length-map, length-take}
use lib.Seq.{take_all}
use borrow.Author.Tests.{ltb-true, lt-ltb, leb-true}
use Rattle.terms.specs.Choice.{every}
use Rattle.terms.proofs.Choice.{both, pick_case}
use Rattle.terms.proofs.Every.{both_hold, every_append, every_take}
use Rattle.wire.specs.Number.{groups_of}
use Rattle.numbers.specs.Blocks.{Bit, Expr, ref, inv, gate, Block, nodes, bit_code}
use Rattle.nodes.specs.Reading.{most_deep, most_nodes}
use Rattle.writing.specs.Expressions.{operator_first, depth, bytes_of, Proper}
use Rattle.writing.proofs.Back.{ref_back}
use Rattle.parsing.proofs.Trees.{numbers_of}
use Rattle.forms.specs.Written.{block_numbers, most_alarms}
use Rattle.fronts.specs.Fronts.{small, most_kept, alarms_front, SpeltBlock}
use Rattle.fronts.proofs.Rows.{Row, tree_row, number_row, row_of}

-- a number has at most three groups; one below 128^2 has at most two, and one below 128 has one
abbrev two_groups : ℕ → Bool
two_groups v = ltb v 16384

groups_few : (k v : ℕ) → length (groups_of k v) ≤ k
unfolding groups_of
groups_few zero v = omega arith
groups_few (suc k) v =
    pick_case (λ (l : List ℕ). length l ≤ suc k) (ltb v 128) (λ _. omega arith) (λ _. omega (arith, groups_few k (v / 128)))

groups_one : (v : ℕ) → v < 128 → length (groups_of 3 v) ≡ 1
unfolding groups_of
groups_one v h = rw (lt-ltb v 128 h)

groups_two : (v : ℕ) → v < 16384 → length (groups_of 3 v) ≤ 2
unfolding groups_of
groups_two v h =
    pick_case (λ (l : List ℕ). length l ≤ 2) (ltb v 128) (λ _. omega arith) (λ _. rw (lt-ltb (v / 128) 128 (omega arith)) (omega arith))

bytes_three : (ns : List ℕ) → length (bytes_of ns) ≤ 3 * length ns
bytes_three [] = omega arith
bytes_three (v ∷ ns) = omega (arith, length-append (groups_of 3 v) (bytes_of ns), groups_few 3 v, bytes_three ns)

bytes_two : (ns : List ℕ) → every two_groups ns ≡ true → length (bytes_of ns) ≤ 2 * length ns
bytes_two [] h = omega arith
bytes_two (v ∷ ns) h =
    let o = both (two_groups v) (every two_groups ns) h in
    omega (arith, length-append (groups_of 3 v) (bytes_of ns), groups_two v (ltb-true v 16384 o.0), bytes_two ns o.1)

-- such are the nodes of an expression
nodes_two : (t : Expr) → Proper t → every two_groups (operator_first t) ≡ true
nodes_two (ref b) p = both_hold (lt-ltb (6 + bit_code b) 16384 (omega (arith, (ref_back b p).1))) refl
nodes_two (inv t) p = nodes_two t p
nodes_two (gate g a b) ((l, h), (p, q)) =
    both_hold (lt-ltb g 16384 (omega arith)) (every_append two_groups (operator_first a) (operator_first b) (nodes_two a p) (nodes_two b q))

pub small_whole : (b : Block) → SpeltBlock b → small b ≡ true → take most_kept (block_numbers b) ≡ block_numbers b
small_whole b h s = go (row_of b h)
  where
    go : Row b → take most_kept (block_numbers b) ≡ block_numbers b
    go (number_row l) = take_all most_kept (block_numbers b) (omega arith)
    go (tree_row t p e f) =
        let k : (leb (nodes t) most_nodes && leb (depth t) most_deep) ≡ true = (both _ _ (rw f at s)).0 in
        take_all most_kept (block_numbers b)
        (rw f (omega (arith, length-append (operator_first t) [], numbers_of t, leb-true (nodes t) most_nodes (both _ _ k).0)))

pub kept_short : (b : Block) → SpeltBlock b → length (bytes_of (take most_kept (block_numbers b))) ≤ 130
kept_short b h = go (row_of b h)
  where
    go : Row b → length (bytes_of (take most_kept (block_numbers b))) ≤ 130
    go (number_row l) = omega (arith, bytes_three (take most_kept (block_numbers b)), length-take most_kept (block_numbers b))
    go (tree_row t p e f) =
        let ns = block_numbers b in
        let k : every two_groups ns ≡ true =
        rw f (both_hold (lt-ltb b.kind 16384 (omega (arith, h.known))) (every_append two_groups (operator_first t) [] (nodes_two t p) refl)) in
        omega (arith, bytes_two (take most_kept ns) (every_take two_groups most_kept ns k), length-take most_kept ns)

pub alarms_short : (rs : List Bit) → length (bytes_of (alarms_front rs)) ≤ 97
alarms_short rs =
    let n = length rs in
    let cs = map bit_code rs in
    pick_case (λ (ns : List ℕ). length (bytes_of ns) ≤ 97) (leb n most_alarms)
    (λ e. let l = leb-true n most_alarms e in
    omega (arith, l, length-append (groups_of 3 n) (bytes_of cs), groups_one n (omega arith), bytes_three cs, length-map rs bit_code))
    (λ _. omega (arith, bytes_three (n ∷ [])))
