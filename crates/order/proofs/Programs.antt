-- Fields, blocks, alarms and whole programs: the reader and the list meet the same numbers. Assumes nothing.
use Prim.Native.Nat.{ℕ, zero, suc, ◌+◌}
use mathlib.Core.Path.{◌≡◌, refl, subst, ◌∙◌}
use mathlib.Core.Bool.{Bool, true, false}
use mathlib.Core.List.{List, [], ◌∷◌, ◌++◌, map, append-nil}
use native.Mathlib.Omega.{arith}
use lib.Dec.{eqb, ltb}
use lib.ListN.{length, replicate}
use Rattle.terms.specs.Choice.{pick, when}
use Rattle.terms.specs.Refusals.{outside}
use Rattle.wire.specs.Reading.{got, fault, and_then}
use Rattle.numbers.specs.Blocks.{Bit, Content, tree, Block, nodes_of, nodes_in}
use Rattle.numbers.specs.Types.{pin, kind_number, block_count, alarm_count, allowed, excepted, content_of, setting_of, bit_ref}
use Rattle.numbers.specs.Reading.{Marks, typed_at}
use Rattle.nodes.specs.Reading.{most_deep, most_nodes, expr_at}
use Rattle.kinds.specs.Kinds.{expression, nothing, types_of, memory_of, figure_of}
use Rattle.block.specs.Reading.{content_at, fields_at, block_at}
use Rattle.program.specs.Program.{Program, blocks_at, references_at, end_at, alarms_at, program_at, memory, figure}
use Rattle.program.specs.References.{kinds_of}
use Rattle.order.specs.Order.{Expected, blocks, kind, field, node, alarms, in_row, extra, wrong, Item, Spot, item_at, ends, turn_at, front}
use Rattle.order.proofs.Comes.{Weighs, weighs_none, weighs_join, at_wrong, Comes, reads, halts, nowhere, come_then, come_map, come_more}
use Rattle.order.proofs.Numbers.{number_comes, number_any}
use Rattle.order.proofs.Nodes.{expr_comes}
use Rattle.order.proofs.Figures.{trees, Treed, untreed, no_nodes_lem, nodes_some, figure_so}

module _ (m : Marks) (s : List ℕ) where
  -- what the numbers of a field are to it, and those of fields to them; n expressions are among them
  record Held (n : ℕ) (c : Content) (l : List Item) (q : Spot) : Type 0 where
    weighs : Weighs l [] (nodes_of c) (nodes_of c)
    setting : q.setting ≡ setting_of c
    treed : Treed n (nodes_of c)

  record AllHeld (n : ℕ) (cs : List Content) (l : List Item) (q : Spot) : Type 0 where
    weighs : Weighs l [] (nodes_in cs) (nodes_in cs)
    treed : Treed n (nodes_in cs)

  content_comes : (ty : ℕ) (xs : List Expected) (p : Spot) → p.expects ≡ in_row ty ∷ xs
      → Comes m s p (λ _. xs) (Held (pick (eqb ty expression) 1 0)) (content_at m ty p.setting s p.at)
  unfolding content_at
  content_comes ty xs p e = go (eqb ty expression) e
    where
      go : (b : Bool) → p.expects ≡ pick b (node 1) (field ty) ∷ xs
          → Comes m s p (λ _. xs) (Held (pick b 1 0))
          (when b (λ _. and_then (expr_at m most_deep most_nodes s p.at) (λ t next. got (tree t) next))
          (λ _. and_then (typed_at m ty p.setting s p.at) (λ v next. got (content_of ty v) next)))
      go true f =
          come_map m s (λ _. xs) (Held 1) tree (expr_at m most_deep most_nodes s p.at) (expr_comes m s 16 1 1 63 xs p f refl (omega arith) refl refl)
          (λ t l q u. record {
            weighs = u.weighs;
            setting = u.setting;
            treed = record { some = nodes_some t; none = λ z. absurd (omega arith) };
          })
          (λ t. refl)
      go false f =
          come_map m s (λ _. xs) (Held 0) (content_of ty) (typed_at m ty p.setting s p.at) (number_comes m s (field ty) xs p f refl refl)
          (λ v l q u. record {
            weighs = rw (no_nodes_lem ty v) u.weighs;
            setting = u.setting;
            treed = record { some = omega arith; none = λ z. no_nodes_lem ty v };
          })
          (λ v. refl)

  -- fields after a setting, where the spot has it
  fields_after : (ts : List ℕ) (xs : List Expected) (p : Spot) (b : ℕ) → p.setting ≡ b
      → Comes m s p (λ _. xs) (AllHeld (trees ts)) (fields_at m ts p.setting s p.at) → Comes m s p (λ _. xs) (AllHeld (trees ts)) (fields_at m ts b s p.at)
  fields_after ts xs p b e c = subst (λ (b : ℕ). Comes m s p (λ _. xs) (AllHeld (trees ts)) (fields_at m ts b s p.at)) e c

  fields_come : (ts : List ℕ) (xs : List Expected) (p : Spot) → p.expects ≡ map in_row ts ++ xs
      → Comes m s p (λ _. xs) (AllHeld (trees ts)) (fields_at m ts p.setting s p.at)
  unfolding fields_at
  fields_come [] xs p e = reads [] p (nowhere m s) e refl (record { weighs = weighs_none; treed = untreed })
  fields_come (ty ∷ ts) xs p e =
      come_then m s (λ _. xs) (AllHeld (trees (ty ∷ ts))) (content_at m ty p.setting s p.at) _ (content_comes ty (map in_row ts ++ xs) p e)
      (λ c l q x u.
      come_map m s (λ _. xs) (λ cs k o. AllHeld (trees (ty ∷ ts)) cs (l ++ k) o) (◌∷◌ c) (fields_at m ts (setting_of c) s q.at)
      (fields_after ts xs q (setting_of c) u.setting (fields_come ts xs q x))
      (λ cs k o y. record {
        weighs = weighs_join u.weighs y.weighs;
        treed = record {
          some = omega (arith, u.treed.some, y.treed.some);
          none = λ z. omega (arith, u.treed.none (omega arith), y.treed.none (omega arith));
        };
      })
      (λ cs. refl))

  -- a block: its kind, and then its fields
  abbrev OneBlock : Block → List Item → Spot → Type 0
  OneBlock b l q = Weighs l (b.kind ∷ []) (memory_of b) (figure_of b)

  block_comes : (xs : List Expected) (p : Spot) → p.expects ≡ kind ∷ xs → Comes m s p (λ _. xs) OneBlock (block_at m s p.at)
  unfolding block_at allowed excepted
  block_comes xs p e =
      come_then m s (λ _. xs) OneBlock (typed_at m kind_number 0 s p.at) _ (number_any m s kind xs p e refl refl 0 (λ v. refl))
      (λ v l q x u.
      come_map m s (λ _. xs) (λ b k o. OneBlock b (l ++ k) o) (λ cs. record { kind = v; fields = cs }) (fields_at m (types_of v) 0 s q.at)
      (fields_after (types_of v) xs q 0 u.setting (fields_come (types_of v) xs q x))
      (λ cs k o y. let both = weighs_join u.weighs y.weighs in
      record { kinds = both.kinds; memory = both.memory; figure = both.figure ∙ figure_so v (nodes_in cs) y.treed })
      (λ cs. refl))

  abbrev pub Blocks : List Block → List Item → Spot → Type 0
  Blocks bs l q = Weighs l (kinds_of bs) (memory bs) (figure bs)

  blocks_come : (n : ℕ) (xs : List Expected) (p : Spot) → p.expects ≡ replicate n kind ++ xs → Comes m s p (λ _. xs) Blocks (blocks_at m n s p.at)
  unfolding blocks_at
  blocks_come zero xs p e = reads [] p (nowhere m s) e refl weighs_none
  blocks_come (suc n) xs p e =
      come_then m s (λ _. xs) Blocks (block_at m s p.at) _ (block_comes (replicate n kind ++ xs) p e)
      (λ b l q x u. come_map m s (λ _. xs) (λ bs k o. Blocks bs (l ++ k) o) (◌∷◌ b) (blocks_at m n s q.at) (blocks_come n xs q x)
      (λ bs k o y. weighs_join u y) (λ bs. refl))

  -- the alarms, which weigh nothing, and the end
  abbrev Light : List Bit → List Item → Spot → Type 0
  Light rs l q = Weighs l [] 0 0

  references_come : (n : ℕ) (xs : List Expected) (p : Spot) → p.expects ≡ replicate n (field pin) ++ xs
      → Comes m s p (λ _. xs) Light (references_at m n s p.at)
  unfolding references_at allowed excepted
  references_come zero xs p e = reads [] p (nowhere m s) e refl weighs_none
  references_come (suc n) xs p e =
      come_then m s (λ _. xs) Light (typed_at m pin 0 s p.at) _ (number_any m s (field pin) (replicate n (field pin) ++ xs) p e refl refl 0 (λ v. refl))
      (λ v l q x u. come_map m s (λ _. xs) (λ rs k o. Light rs (l ++ k) o) (λ rs. bit_ref v ∷ rs) (references_at m n s q.at) (references_come n xs q x)
      (λ rs k o y. weighs_join u.weighs y) (λ rs. refl))

  abbrev Ended : List Bit → List Item → Spot → Type 0
  Ended rs l q = Weighs l [] 0 0 × (turn_at s q ≡ ends)

  end_comes : (rs : List Bit) (p : Spot) → p.expects ≡ [] → Comes m s p (λ _. []) Ended (end_at rs s p.at)
  unfolding end_at turn_at
  end_comes rs p e = go (ltb p.at (length s)) refl
    where
      go : (b : Bool) → ltb p.at (length s) ≡ b → Comes m s p (λ _. []) Ended (pick b (fault outside p.at) (got rs p.at))
      go true h = halts [] p (nowhere m s) (at_wrong {i = item_at (field nothing) p (wrong extra)} (rw (e, h)) refl refl)
      go false h = reads [] p (nowhere m s) e refl (weighs_none, rw (e, h))

  alarms_come : (p : Spot) → p.expects ≡ alarms ∷ [] → Comes m s p (λ _. []) Ended (alarms_at m s p.at)
  unfolding alarms_at allowed excepted
  alarms_come p e =
      come_then m s (λ _. []) Ended (typed_at m alarm_count 0 s p.at) _ (number_any m s alarms [] p e refl refl 0 (λ v. refl))
      (λ n l q x u. come_then m s (λ _. []) (λ rs k o. Ended rs (l ++ k) o) (references_at m n s q.at) _ (references_come n [] q x)
      (λ rs k o y w. go rs l k o u.weighs w (end_comes rs o y)))
    where
      go : (rs : List Bit) (l k : List Item) (o : Spot) → Weighs l [] 0 0 → Weighs k [] 0 0 → Comes m s o (λ _. []) Ended (end_at rs s o.at)
          → Comes m s o (λ _. []) (λ rs j z. Ended rs (l ++ (k ++ j)) z) (end_at rs s o.at)
      go rs l k o u w c = come_more m s (end_at rs s o.at) c (λ a j z v. (weighs_join u (weighs_join w v.0), v.1))

  -- what stands before the blocks and after them weighs nothing
  between : {l : List Item} (bs : List Block) → Weighs l (kinds_of bs ++ []) (0 + (memory bs + 0)) (0 + (figure bs + 0)) → Weighs l (kinds_of bs) (memory bs) (figure bs)
  between bs w = record { kinds = w.kinds ∙ append-nil (kinds_of bs); memory = omega (arith, w.memory); figure = omega (arith, w.figure) }

  abbrev pub Whole : Program → List Item → Spot → Type 0
  Whole p l q = Blocks p.blocks l q × (turn_at s q ≡ ends)

  pub program_comes : Comes m s front (λ _. []) Whole (program_at m s)
  unfolding program_at
  program_comes =
      come_then m s (λ _. []) Whole (typed_at m block_count 0 s 0) _ (number_comes m s blocks [] front refl refl refl)
      (λ n l q x u. come_then m s (λ _. []) (λ p k o. Whole p (l ++ k) o) (blocks_at m n s q.at) _
      (blocks_come n (alarms ∷ []) q (x ∙ append-nil (replicate n kind ++ (alarms ∷ []))))
      (λ bs k o y w. come_map m s (λ _. []) (λ p j z. Whole p (l ++ (k ++ j)) z) (λ rs. record { blocks = bs; alarms = rs }) (alarms_at m s o.at)
      (alarms_come o y)
      (λ rs j z v. (between bs (weighs_join u.weighs (weighs_join w v.0)), v.1)) (λ rs. refl)))
