-- An alarms' line stands for one list of alarms, each of them in range; so there is one answer. Assumes nothing.
use Prim.Native.Nat.{ℕ, suc}
use mathlib.Core.Path.{◌≡◌, refl, sym, ap, ◌∙◌}
use mathlib.Core.List.{List, [], ◌∷◌, map}
use native.Mathlib.Omega.{arith}
use lib.ListN.{length}
use Rattle.std.specs.Prelude.{Option, None, Some}
use Rattle.numbers.specs.Blocks.{Bit, bit_code}
use Rattle.numbers.specs.Types.{bit_ref}
use Rattle.writing.specs.Expressions.{InRange}
use Rattle.writing.proofs.Back.{ref_back}
use Rattle.forms.specs.Written.{Each}
use Rattle.layout.specs.Layout.{Names, no_names, one_name, AlarmsLine, alarms_line}
use Rattle.layout.proofs.Alarming.{alarms_read}
use Rattle.alarm_line.specs.Taking.{TakesAlarms, alarms_taken, not_taken}

names_in_range : {rs : List Bit} {w : List ℕ} → Names rs w → Each InRange rs
names_in_range (no_names n) = tt
names_in_range (one_name n h x) = (h, names_in_range x)

pub alarms_in_range : {s : List ℕ} {rs : List Bit} → AlarmsLine s rs → Each InRange rs
alarms_in_range (alarms_line m h x) = names_in_range x

-- references in range are those that their numbers say
references_back : (rs : List Bit) → Each InRange rs → map bit_ref (map bit_code rs) ≡ rs
references_back [] h = refl
references_back (b ∷ rs) (h, k) = rw ((ref_back b h).0, references_back rs k)

-- so two lists of one line are one
pub one_list : {s : List ℕ} {rs qs : List Bit} → AlarmsLine s rs → AlarmsLine s qs → rs ≡ qs
one_list {s} {rs} {qs} x y =
    let e = (alarms_read (suc (length s)) s rs x (omega arith)).0 in
    let f = (alarms_read (suc (length s)) s qs y (omega arith)).0 in
    let g : map bit_code rs ≡ map bit_code qs = cc in
    sym (references_back rs (alarms_in_range x)) ∙ ap (map bit_ref) g ∙ references_back qs (alarms_in_range y)

pub one_taking :
    {s l : List ℕ} {to : ℕ} {m n : List ℕ} {q r : Option ℕ} → TakesAlarms s l to m q → TakesAlarms s l to n r → (m ≡ n) × (q ≡ r)
one_taking (alarms_taken rs i x p) (alarms_taken qs j y o) =
    let e = one_list x y in
    let f = rw e at p in
    (f.bytes ∙ sym o.bytes, ap Some (f.place ∙ sym o.place))
one_taking (alarms_taken rs i x p) (not_taken f e) = absurd (f rs x)
one_taking (not_taken f e) (alarms_taken rs i x p) = absurd (f rs x)
one_taking (not_taken f e) (not_taken g h) = (e ∙ sym h, refl)
