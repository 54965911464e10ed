-- A row without an expression: its numbers, as the reader stores them, are allowed in their fields, and say what was read there.
-- Assumes nothing.
use Prim.Native.Nat.{ℕ, suc, ◌+◌, ◌<◌, ◌≤◌}
use mathlib.Core.Path.{◌≡◌, refl, sym, ap, subst, ◌∙◌}
use mathlib.Core.Bool.{Bool, true}
use mathlib.Core.List.{List, [], ◌∷◌, map}
use native.Mathlib.Omega.{arith}
use lib.Dec.{eqb}
use lib.ListN.{length, get_or, drop, replicate, length-map, length-replicate, get_or-append}
use lib.Seq.{sets, sets-eq}
use borrow.Author.Tests.{ne_eqb}
use Rattle.terms.proofs.Choice.{pick_case}
use Rattle.numbers.specs.Blocks.{Bit, Content, nodes_in, code_of}
use Rattle.kinds.specs.Kinds.{types_of, expression, nothing}
use Rattle.numbers.specs.Types.{number_types, kind_count, pin, word_pin, allowed, content_of, setting_of}
use Rattle.wire.specs.Reading.{Read, got, fault, and_then}
use Rattle.numbers.specs.Reading.{Marks, typed_at}
use Rattle.block.specs.Reading.{content_at, fields_at}
use Rattle.numbers.proofs.References.{content_code, content_nodes}
use Rattle.kinds.proofs.KindTable.{types_few, type_plain}
use Rattle.numbers.proofs.Typed.{typed_allowed}
use Rattle.wire.proofs.Gives.{Long, gives_after, long_cons}
use Rattle.block.specs.Answers.{row_of}
use Rattle.block.specs.declared.Row.{Row}
use Rattle.rules.specs.Rules.{steps_of}
use Rattle.rules.specs.Rows.{all_allowed, contents}

-- no type of a list is an expression
pub data Plain : List ℕ → Type 0 where
  none : Plain []
  more : {ty : ℕ} {ts : List ℕ} → ty < number_types → Plain ts → Plain (ty ∷ ts)

pub plain_by : (ts : List ℕ) → ((i : ℕ) → i < length ts → get_or ts i nothing < number_types) → Plain ts
plain_by [] h = none
plain_by (ty ∷ ts) h = more (h 0 (omega arith)) (plain_by ts (λ i l. h (suc i) (omega arith)))

-- the list l has the numbers of the contents, from place i on
abbrev pub Held : ℕ → List ℕ → List Content → Type 0
Held i l [] = Unit {0}
Held i l (c ∷ cs) = (get_or l i 0 ≡ code_of c) × Held (suc i) l cs

pub record Said (ts : List ℕ) (i before : ℕ) (l : List ℕ) (cs : List Content) : Type 0 where
  pub allow : all_allowed ts i before l ≡ true
  pub same : contents ts i l ≡ cs
  pub one : (f : Bit → Bool) → steps_of f cs ≡ 1
  pub bare : nodes_in cs ≡ 0

step_one : (f : Bit → Bool) (ty v : ℕ) (cs : List Content) → steps_of f (content_of ty v ∷ cs) ≡ 1
unfolding content_of
step_one f ty v cs =
    pick_case (λ c. steps_of f (c ∷ cs) ≡ 1) (eqb ty pin) (λ _. refl)
    (λ _. pick_case (λ c. steps_of f (c ∷ cs) ≡ 1) (eqb ty word_pin) (λ _. refl) (λ _. refl))

module _ (k : Marks) (s : List ℕ) (l : List ℕ) where
  row : {ts : List ℕ} → Plain ts → (i before at : ℕ) (cs : List Content) {next : ℕ} → fields_at k ts before s at ≡ got cs next → Held i l cs
      → Said ts i before l cs
  unfolding fields_at content_at all_allowed contents
  row none i before at [] e h = record { allow = refl; same = refl; one = λ f. refl; bare = refl }
  row none i before at (c ∷ cs) e h = let z : ◌≡◌ {A = ℕ} 0 1 = cc in absurd (omega arith)
  row (more {ty} {ts} lt p) i before at cs {next} e h =
      field (λ b a ds n q g. row p (suc i) b a ds q g) (typed_at k ty before s at) refl (rw (ne_eqb ty expression (λ z. omega arith)) at e)
    where
      rest : ((b a : ℕ) (ds : List Content) (n : ℕ) → fields_at k ts b s a ≡ got ds n → Held (suc i) l ds → Said ts (suc i) b l ds) →
          (v n : ℕ) → typed_at k ty before s at ≡ got v n → (r : Read (List Content)) → fields_at k ts (setting_of (content_of ty v)) s n ≡ r
          → and_then r (λ ds end. got (content_of ty v ∷ ds) end) ≡ got cs next → Said (ty ∷ ts) i before l cs
      rest again v n t (fault x y) q e = let z : ◌≡◌ {A = ℕ} 0 1 = cc in absurd (omega arith)
      rest again v n t (got ds end) q e =
          let c : content_of ty v ∷ ds ≡ cs = cc in
          let g = subst (Held i l) (sym c) h in
          let w : get_or l i 0 ≡ v = g.0 ∙ content_code ty v in
          let a : allowed ty before v ≡ true = typed_allowed k ty before s at t in
          let m = again (setting_of (content_of ty v)) n ds end q g.1 in
          subst (Said (ty ∷ ts) i before l) c
          (record {
            allow = rw (w, a) m.allow;
            same = rw w (ap (λ (x : List Content). content_of ty v ∷ x) m.same);
            one = λ f. step_one f ty v ds;
            bare = rw (content_nodes ty v, m.bare) refl;
          })

      field : ((b a : ℕ) (ds : List Content) (n : ℕ) → fields_at k ts b s a ≡ got ds n → Held (suc i) l ds → Said ts (suc i) b l ds) →
          (r : Read ℕ) → typed_at k ty before s at ≡ r
          → and_then (and_then r (λ v n. got (content_of ty v) n)) (λ c n. and_then (fields_at k ts (setting_of c) s n) (λ ds end. got (c ∷ ds) end)) ≡ got cs next
          → Said (ty ∷ ts) i before l cs
      field again (got v n) t e = rest again v n t (fields_at k ts (setting_of (content_of ty v)) s n) refl e
      field again (fault x y) t e = let z : ◌≡◌ {A = ℕ} 0 1 = cc in absurd (omega arith)

-- as many contents are read as there are types
long : (k : Marks) (ts : List ℕ) (before : ℕ) (s : List ℕ) (at : ℕ) → Long (length ts) (fields_at k ts before s at)
unfolding fields_at
long k [] before s at = refl
long k (ty ∷ ts) before s at =
    gives_after (λ cs. length cs ≡ suc (length ts)) (content_at k ty before s at) _
    (λ c m. long_cons (length ts) c (fields_at k ts (setting_of c) s m) (long k ts (setting_of c) s m))

fields_long : (k : Marks) (ts : List ℕ) (before : ℕ) (s : List ℕ) (at : ℕ) {cs : List Content} {next : ℕ} → fields_at k ts before s at ≡ got cs next
    → length cs ≡ length ts
fields_long k ts before s at e = subst (Long (length ts)) e (long k ts before s at)

-- five places hold the numbers that are stored in them
stored_at : (vs : List ℕ) (j : ℕ) → length vs ≤ 5 → j < length vs → get_or (sets (replicate 5 0) 0 vs) j 0 ≡ get_or vs j 0
stored_at vs j h l =
    ap (λ (x : List ℕ). get_or x j 0) (sets-eq vs (replicate 5 0) 0 (rw (length-replicate {A = ℕ} 5 0) (omega arith)))
    ∙ get_or-append vs (drop (0 + length vs) (replicate 5 0)) 0 j l

held_by : (cs : List Content) (i : ℕ) (l : List ℕ) → ((j : ℕ) → j < length cs → get_or l (i + j) 0 ≡ get_or (map code_of cs) j 0) → Held i l cs
held_by [] i l h = tt
held_by (c ∷ cs) i l h = (
  let e : i + 0 ≡ i = omega arith in rw e at (h 0 (omega arith)),
  held_by cs (suc i) l (λ j p. let e : i + suc j ≡ suc i + j = omega arith in rw e at (h (suc j) (omega arith))),
)

stored_held : (cs : List Content) → length cs ≤ 5 → Held 0 (sets (replicate 5 0) 0 (map code_of cs)) cs
stored_held cs h =
    held_by cs 0 _
    (λ j p.
    let n : length (map code_of cs) ≡ length cs = length-map cs code_of in
    let z : 0 + j ≡ j = omega arith in
    rw z (stored_at (map code_of cs) j (omega arith) (omega arith)))

-- what was read of a row without an expression, by its own numbers
pub said :
    (k : Marks) (kind : ℕ) → kind < kind_count → 0 < kind → (s : List ℕ) (at : ℕ) {cs : List Content} {next : ℕ} → fields_at k (types_of kind) 0 s at ≡ got cs next →
    Said (types_of kind) 0 0 (map code_of cs) cs
said k kind lt ne s at {cs} e =
    row k s (map code_of cs) (plain_by (types_of kind) (type_plain kind lt ne)) 0 0 at cs e
    (held_by cs 0 (map code_of cs) (λ j p. let z : 0 + j ≡ j = omega arith in rw z))

-- the row of a block that is no BL, as it was read
module _ (k : Marks) (kind : ℕ) (lt : kind < kind_count) (ne : 0 < kind) (s : List ℕ) (at : ℕ) (r : Row) where
  pub record Ran : Type 0 where
    pub allow : all_allowed (types_of kind) 0 0 r.fields ≡ true
    pub read : fields_at k (types_of kind) 0 s at ≡ got (contents (types_of kind) 0 r.fields) r.next
    pub one : (f : Bit → Bool) → steps_of f (contents (types_of kind) 0 r.fields) ≡ 1
    pub bare : nodes_in (contents (types_of kind) 0 r.fields) ≡ 0

  pub ran : got r r.next ≡ row_of (fields_at k (types_of kind) 0 s at) → Ran
  unfolding row_of
  ran e = go (fields_at k (types_of kind) 0 s at) refl e
    where
      go : (q : Read (List Content)) → fields_at k (types_of kind) 0 s at ≡ q → got r r.next ≡ row_of q → Ran
      go (got cs n) w u =
          let en : n ≡ r.next = cc in
          let h : r ≡ record { fields = sets (replicate 5 0) 0 (map code_of cs); nodes = 0 + nodes_in cs; next = n } = cc in
          let f : r.fields ≡ sets (replicate 5 0) 0 (map code_of cs) = ap (λ (x : Row). x.fields) h in
          let five : length cs ≤ 5 = omega (arith, fields_long k (types_of kind) 0 s at w, types_few kind lt) in
          let m = row k s (sets (replicate 5 0) 0 (map code_of cs)) (plain_by (types_of kind) (type_plain kind lt ne)) 0 0 at cs w (stored_held cs five) in
          record { allow = rw f m.allow; read = rw (f, m.same, ← en) w; one = rw (f, m.same) m.one; bare = rw (f, m.same) m.bare }
      go (fault x y) w u = let z : ◌≡◌ {A = ℕ} 0 1 = cc in absurd (omega arith)
