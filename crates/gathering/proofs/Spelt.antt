-- What a listing stands for is spelt: each number below the limit of its type, each expression proper. Assumes nothing.
use Prim.Native.Nat.{ℕ, suc, ◌+◌, ◌<◌, ◌≤◌}
use mathlib.Core.Path.{◌≡◌, refl}
use mathlib.Core.Bool.{Bool, true, false, not, ◌&&◌}
use mathlib.Core.List.{List, [], ◌∷◌}
use native.Mathlib.Omega.{arith}
use lib.ListN.{length, get_or, get_or-eq_default}
use lib.Dec.{T, ltb, leb, eqb}
use borrow.Author.Tests.{ltb-true}
use Rattle.terms.specs.Choice.{every}
use Rattle.terms.proofs.Choice.{both, le_or_lt}
use Rattle.terms.proofs.Table.{at as entry}
use mathlib.Core.Logic.{⊎_elim}
use Rattle.numbers.specs.Blocks.{Bit, Content, Block}
use Rattle.numbers.specs.Types.{number_types, kind_count, word_pin, limits}
use Rattle.writing.specs.Expressions.{InRange}
use Rattle.shown.proofs.Read.{read_proper}
use Rattle.values.specs.Values.{in_field}
use Rattle.kinds.specs.Kinds.{LeftOut, never, reads, Field, kind, kind_of, fields_of, types_in, listed_fields}
use Rattle.columns.proofs.Rows.{types_are}
use Rattle.program.specs.Program.{Program}
use Rattle.forms.specs.Written.{Each}
use Rattle.fronts.specs.Fronts.{spelt_number, spelt_tree, SpeltFields, SpeltBlock, Spelt}
use Rattle.layout.specs.Layout.{Fields, no_more, given, left_out, formula, BlockLine, block_line, AlarmsLine, alarms_line, Lines, one_block, the_alarms, Listing}
use Rattle.layout.proofs.One.{alarms_range}

-- a field that may be left out is read as a number of its type
small_left : Field → Bool
small_left f = go f.left_out_as
  where
    go : LeftOut → Bool
    go never = true
    go (reads v) = ltb v (get_or limits f.type 0)

Smalls : List Field → Type 0
Smalls fs = every small_left fs ≡ true

is_true : (b : Bool) → T b → b ≡ true
is_true true t = refl
is_true false t = absurd t

smalls : (k : ℕ) → k < kind_count → Smalls (fields_of k)
unfolding Smalls small_left kind_of fields_of
smalls k h = is_true _ (entry (λ (k : ℕ) (fs : List Field). every small_left fs) [] listed_fields tt k h)

-- a type with a number below its limit is a type of number
type_known : (ty v : ℕ) → v < get_or limits ty 0 → ty < number_types
type_known ty v h =
    ⊎_elim (λ (l : number_types ≤ ty). absurd (omega (arith, get_or-eq_default limits 0 l))) (λ (l : ty < number_types). l) (le_or_lt number_types ty)

left_small : (f : Field) (v : ℕ) → f.left_out_as ≡ reads v → small_left f ≡ true → v < get_or limits f.type 0
unfolding small_left
left_small f v e h = ltb-true v (get_or limits f.type 0) (rw e at h)

field_small : (ty v : ℕ) → in_field ty v ≡ true → v < get_or limits ty 0
unfolding in_field
field_small ty v e = ltb-true v (get_or limits ty 0) (both (ltb v (get_or limits ty 0)) (not (eqb ty word_pin && (leb 208 v && ltb v 1000))) e).0

fields_spelt : (fs : List Field) (cs : List Content) (w : List ℕ) → Smalls fs → Fields fs cs w → SpeltFields (types_in fs) cs
unfolding Smalls
fields_spelt [] cs w h (no_more n) = tt
fields_spelt (f ∷ fs) cs w h (given {cs = ds} {w = u} n v i x) =
    let o = both (small_left f) (every small_left fs) h in
    let l = field_small f.type v i in
    (spelt_number v (type_known f.type v l) l refl, fields_spelt fs ds u o.1 x)
fields_spelt (f ∷ fs) cs w h (left_out {cs = ds} v e x) =
    let o = both (small_left f) (every small_left fs) h in
    let l = left_small f v e o.0 in
    (spelt_number v (type_known f.type v l) l refl, fields_spelt fs ds w o.1 x)
fields_spelt (f ∷ []) cs w h (formula {t = t} {w = u} e x) = (spelt_tree t e (read_proper u t x) refl, tt)

pub block_spelt : {i : ℕ} {w : List ℕ} {b : Block} → BlockLine i w b → SpeltBlock b
block_spelt (block_line {kind = k} {cs = cs} {w = w} m n h l x) =
    record { known = l; fields = rw (types_are k) (fields_spelt (fields_of k) cs w (smalls k l) x) }

-- all of them
lines_spelt : (i : ℕ) (s : List ℕ) (bs : List Block) (rs : List Bit) → Lines i s bs rs → i ≤ 200 → (length bs + i ≤ 200) × (Each SpeltBlock bs × ((length rs < 2097152) × Each InRange rs))
lines_spelt i s bs rs (one_block {s = r} {bs = cs} x y z) h =
    let o = lines_spelt (suc i) r cs rs z (below x) in
    (omega (arith, o.0), ((block_spelt x, o.1.0), o.1.1))
  where
    below : {w : List ℕ} {b : Block} → BlockLine i w b → suc i ≤ 200
    below (block_line m n l k x) = l
lines_spelt i s bs rs (the_alarms x y) h = (omega arith, (tt, (count x, alarms_range x)))
  where
    count : {w : List ℕ} → AlarmsLine w rs → length rs < 2097152
    count (alarms_line m c x) = c

pub listing_spelt : (s : List ℕ) (p : Program) → Listing s p → Spelt p
listing_spelt s p x =
    let o = lines_spelt 0 s p.blocks p.alarms x (omega arith) in
    record { few = omega (arith, o.0); blocks = o.1.0; alarms = o.1.1.1; countable = o.1.1.0 }
