-- What is read from bytes refers only to input bits 0..31 and analog words 0..7. Assumes nothing.
use Prim.Native.Nat.{ℕ, zero, suc, ◌-◌}
use mathlib.Core.Path.{◌≡◌, refl, subst}
use mathlib.Core.Bool.{Bool, true}
use mathlib.Core.List.{List, [], ◌∷◌, append-nil}
use native.Mathlib.Omega.{arith}
use lib.Dec.{eqb, ltb}
use lib.ListN.{length}
use borrow.Author.Tests.{lt-ltb}
use Rattle.terms.specs.Refusals.{outside}
use Rattle.terms.specs.Choice.{every}
use Rattle.terms.proofs.Choice.{pick_case, when_case}
use Rattle.terms.proofs.Every.{both_hold, every_append}
use Rattle.wire.specs.Reading.{Read, got, fault}
use Rattle.wire.proofs.Gives.{Gives, gives_then, gives_after}
use Rattle.numbers.specs.Blocks.{Bit, off, on, input, output, Word, analog, word_of, constant, Expr, Content, tree, Block, leaves, refs_pass, nodes}
use Rattle.numbers.specs.Types.{pin, word_pin, kind_number, alarm_count, bit_ref, word_ref, content_of, setting_of}
use Rattle.numbers.specs.Reading.{Marks, typed_at}
use Rattle.numbers.proofs.References.{bit_cases, word_cases, refs_cons}
use Rattle.nodes.specs.Reading.{most_deep, most_nodes, head_at, grow, expr_at}
use Rattle.nodes.specs.Reading.{Node, Leaf, One, Two, Stop}
use Rattle.kinds.specs.Kinds.{expression, types_of}
use Rattle.block.specs.Reading.{content_at, fields_at, block_at}
use Rattle.program.specs.Program.{references_at, end_at, alarms_at}

abbrev pub bit_fits : Bit → Bool
bit_fits off = true
bit_fits on = true
bit_fits (input i) = ltb i 32
bit_fits (output k) = true

abbrev pub word_fits : Word → Bool
word_fits (analog i) = ltb i 8
word_fits (word_of k) = true
word_fits (constant n) = true

bit_fits_lem : (v : ℕ) → bit_fits (bit_ref v) ≡ true
bit_fits_lem v = bit_cases (λ b. bit_fits b ≡ true) v (λ _. refl) (λ _. refl) (λ a b. lt-ltb (v - 2) 32 (omega arith)) (λ _. refl)

word_fits_lem : (v : ℕ) → word_fits (word_ref v) ≡ true
word_fits_lem v = word_cases (λ w. word_fits w ≡ true) v (λ a. lt-ltb v 8 a) (λ a b. refl) (λ a. refl)

-- expressions
abbrev Tree : Expr → Type 0
Tree t = every bit_fits (leaves t) ≡ true

trees_grow : (part : ℕ → ℕ → Read Expr) → ((l n : ℕ) → Gives Tree (part l n)) → (left : ℕ) (n : Node) → Gives Tree (grow part left n)
trees_grow part h left (Leaf r next) = both_hold (bit_fits_lem r) refl
trees_grow part h left (One next) = gives_then Tree Tree (part (left - 1) next) _ (h (left - 1) next) (λ t n u. u)
trees_grow part h left (Two op next) =
    gives_then Tree Tree (part (left - 1) next) _ (h (left - 1) next)
    (λ a n u. gives_then Tree Tree (part (left - 1 - nodes a) n) _ (h (left - 1 - nodes a) n) (λ b m w. every_append bit_fits (leaves a) (leaves b) u w))
trees_grow part h left (Stop n at) = tt

module _ (m : Marks) (s : List ℕ) where
  trees : (d l at : ℕ) → Gives Tree (expr_at m d l s at)
  unfolding expr_at
  trees zero l at = trees_grow (λ l n. fault outside n) (λ l n. tt) l (head_at m 0 l s at)
  trees (suc d) l at = trees_grow _ (λ l n. trees d l n) l (head_at m (suc d) l s at)

  -- fields
  abbrev Fits : List Content → Type 0
  Fits cs = refs_pass bit_fits word_fits cs ≡ true

  abbrev Fit : Content → Type 0
  Fit c = Fits (c ∷ [])

  number_fits : (ty v : ℕ) → Fit (content_of ty v)
  unfolding content_of
  number_fits ty v =
      pick_case Fit (eqb ty pin) (λ _. both_hold (both_hold (bit_fits_lem v) refl) refl)
      (λ _. pick_case Fit (eqb ty word_pin) (λ _. both_hold (word_fits_lem v) refl) (λ _. refl))

  tree_fits : (t : Expr) → Tree t → Fit (tree t)
  tree_fits t u = rw (append-nil (leaves t)) (both_hold u refl)

  content_fits : (ty before at : ℕ) → Gives Fit (content_at m ty before s at)
  unfolding content_at
  content_fits ty before at =
      when_case (Gives Fit) (eqb ty expression) _ _
      (λ _. gives_then Tree Fit (expr_at m most_deep most_nodes s at) _ (trees most_deep most_nodes at) (λ t n u. tree_fits t u))
      (λ _. gives_after Fit (typed_at m ty before s at) _ (λ v n. number_fits ty v))

  fields_fit : (ts : List ℕ) (before at : ℕ) → Gives Fits (fields_at m ts before s at)
  unfolding fields_at
  fields_fit [] before at = refl
  fields_fit (ty ∷ ts) before at =
      gives_then Fit Fits (content_at m ty before s at) _ (content_fits ty before at)
      (λ c n u. gives_then Fits Fits (fields_at m ts (setting_of c) s n) _ (fields_fit ts (setting_of c) n)
      (λ cs end w. rw (refs_cons bit_fits word_fits c cs) (both_hold u w)))

  block_gives : (at : ℕ) → Gives (λ b. Fits b.fields) (block_at m s at)
  unfolding block_at
  block_gives at =
      gives_after (λ b. Fits b.fields) (typed_at m kind_number 0 s at) _
      (λ v n. gives_then Fits (λ b. Fits b.fields) (fields_at m (types_of v) 0 s n) _ (fields_fit (types_of v) 0 n) (λ cs end u. u))

  pub block_fits : (at : ℕ) {b : Block} {next : ℕ} → block_at m s at ≡ got b next → refs_pass bit_fits word_fits b.fields ≡ true
  block_fits at e = subst (Gives (λ b. Fits b.fields)) e (block_gives at)

  -- alarms
  abbrev All : List Bit → Type 0
  All rs = every bit_fits rs ≡ true

  references_give : (n at : ℕ) → Gives All (references_at m n s at)
  unfolding references_at
  references_give zero at = refl
  references_give (suc n) at =
      gives_after All (typed_at m pin 0 s at) _
      (λ v next. gives_then All All (references_at m n s next) _ (references_give n next) (λ rs end h. both_hold (bit_fits_lem v) h))

  end_gives : (rs : List Bit) (at : ℕ) → All rs → Gives All (end_at rs s at)
  unfolding end_at
  end_gives rs at h = pick_case (Gives All) (ltb at (length s)) (λ _. tt) (λ _. h)

  alarms_give : (at : ℕ) → Gives All (alarms_at m s at)
  unfolding alarms_at
  alarms_give at =
      gives_after All (typed_at m alarm_count 0 s at) _
      (λ n at. gives_then All All (references_at m n s at) _ (references_give n at) (λ rs at h. end_gives rs at h))

  pub alarms_fit : (at : ℕ) {rs : List Bit} {end : ℕ} → alarms_at m s at ≡ got rs end → every bit_fits rs ≡ true
  alarms_fit at e = subst (Gives All) e (alarms_give at)
