-- The alarms' line: what is read of it is the text of its names, and the text of names is read as they are. Assumes nothing.
use Prim.Native.Nat.{ℕ, zero, suc, ◌+◌, ◌-◌, ◌<◌, ◌≤◌}
use mathlib.Core.Path.{◌≡◌, refl, subst, ◌∙◌}
use mathlib.Core.List.{List, [], ◌∷◌, ◌++◌, map}
use native.Mathlib.Omega.{arith}
use lib.ListN.{length, length-append, length-replicate, length-map}
use lib.Dec.{ltb, leb}
use borrow.Author.Tests.{lt-ltb, le-leb, lt-leb, leb-true, ltb-true}
use Rattle.terms.proofs.Choice.{pick_case}
use Rattle.wire.specs.Number.{byte_at}
use Rattle.wire.specs.Facts.{Stands}
use Rattle.numbers.specs.Blocks.{Bit, off, on, input, output, bit_code}
use Rattle.numbers.specs.Types.{bit_ref}
use Rattle.grammar.specs.Grammar.{space, spaces}
use Rattle.grammar.specs.Machine.{Spans}
use Rattle.grammar.proofs.From.{after}
use Rattle.spelling.specs.Spelling.{Named}
use Rattle.spelling.specs.Spelling.{Bit as BitName, NoName}
use Rattle.spelling.specs.Spelling.{after_spaces, name_at}
use Rattle.spelling.proofs.Spaces.{skipped, skipped_within}
use Rattle.forms.proofs.Numbers.{bit_in_range}
use Rattle.forms.proofs.Standing.{stands_both}
use Rattle.shown.specs.Show.{name_of}
use Rattle.words.specs.Words.{alarms, word_text}
use Rattle.words.specs.Standing.{stands_at}
use Rattle.words.proofs.Standing.{stands_exactly}
use Rattle.layout.specs.Layout.{Names, no_names, one_name, AlarmsLine, alarms_line, most_named}
use Rattle.layout.specs.Fields.{Found, found, lost, before}
use Rattle.layout.specs.Alarms.{taken_name, names_from, alarms_from}
use Rattle.layout.proofs.Signed.{Read}
use Rattle.layout.proofs.Names.{name_told, name_read}
use Rattle.layout.proofs.Fielding.{stands_within, after_spaces_lem, past}
use Rattle.layout.proofs.Heading.{all_of, itself}

-- a name does not begin with a space
name_first : (b : Bit) (s : List ℕ) (at : ℕ) → Stands (name_of b) s at → (at < length s) × (byte_at s at ≡ space → ⊥)
unfolding name_of
name_first off s at st = (st.0, λ e. omega (arith, st.1.0))
name_first on s at st = (st.0, λ e. omega (arith, st.1.0))
name_first (input n) s at st = (st.0, λ e. omega (arith, st.1.0))
name_first (output n) s at st = (st.0, λ e. omega (arith, st.1.0))

name_some : (b : Bit) → 0 < length (name_of b)
unfolding name_of
name_some off = omega arith
name_some on = omega arith
name_some (input n) = omega arith
name_some (output n) = omega arith

module _ (s : List ℕ) where
  pub record Called (vs : List ℕ) (at : ℕ) : Type 0 where
    pub text : List ℕ
    pub stands : Spans s at text (length s)
    pub names : Names (map bit_ref vs) text

  -- one name, and the rest
  named_on :
      (vs : List ℕ) (at : ℕ) → at ≤ length s → at < after_spaces s at → (r q : ℕ) → Read s (name_of (bit_ref r)) (after_spaces s at) q × (r < 234) →
      (x : Found) → ((us : List ℕ) → q ≤ length s → x ≡ found us → Called us q) → before r x ≡ found vs → Called vs at
  named_on vs at h l r q n lost rest f = let z : ◌≡◌ {A = ℕ} 0 1 = cc in absurd (omega arith)
  named_on vs at h l r q n (found us) rest f =
      let a : r ∷ us ≡ vs = cc in
      let k = skipped s at {next = after_spaces s at} refl in
      let i = skipped_within s at {next = after_spaces s at} h refl in
      let c : k.n ≡ suc (k.n - 1) = omega (arith, k.stands.end, length-replicate k.n space) in
      let g = rw c at k.stands in
      let x : Spans s (after_spaces s at) (name_of (bit_ref r)) q = record { stands = n.0.stands; end = n.0.end } in
      let b : q ≤ length s = omega (arith, n.0.end, stands_within s (name_of (bit_ref r)) (after_spaces s at) i.1 n.0.stands) in
      let z = rest us b refl in
      rw (← a)
      (record {
        text = spaces (suc (k.n - 1)) ++ (name_of (bit_ref r) ++ z.text);
        stands = after s g (after s x z.stands);
        names = one_name (k.n - 1) (bit_in_range r n.1) z.names;
      })

  pub names_told : (left : ℕ) (vs : List ℕ) (at : ℕ) → at ≤ length s → names_from left s at ≡ found vs → Called vs at
  unfolding names_from
  names_told zero vs at h e = let z : ◌≡◌ {A = ℕ} 0 1 = cc in absurd (omega arith)
  names_told (suc left) vs at h e =
      pick_case (λ (x : Found). x ≡ found vs → Called vs at) (leb (length s) (after_spaces s at))
      (λ t q.
      let a : [] ≡ vs = cc in
      let k = skipped s at {next = after_spaces s at} refl in
      let w = skipped_within s at {next = after_spaces s at} h refl in
      let p : length s ≡ after_spaces s at = omega (arith, leb-true (length s) (after_spaces s at) t, w.1) in
      rw (← a) (record { text = spaces k.n; stands = rw p k.stands; names = no_names k.n }))
      (λ _. pick_case (λ (x : Found). x ≡ found vs → Called vs at) (ltb at (after_spaces s at))
      (λ t. one (ltb-true at (after_spaces s at) t) (name_at s (after_spaces s at)) refl (names_told left))
      (λ _ q. let z : ◌≡◌ {A = ℕ} 0 1 = cc in absurd (omega arith)))
      e
    where
      one :
          at < after_spaces s at → (x : Named) → name_at s (after_spaces s at) ≡ x →
          ((us : List ℕ) (to : ℕ) → to ≤ length s → names_from left s to ≡ found us → Called us to) → taken_name x (names_from left s) ≡ found vs → Called vs at
      one l (NoName q) g rest f = let z : ◌≡◌ {A = ℕ} 0 1 = cc in absurd (omega arith)
      one l (BitName r q) g rest f = named_on vs at h l r q (name_told s (after_spaces s at) r q g) (names_from left s q) (λ us. rest us q) f

  pub names_read : (left : ℕ) (rs : List Bit) (w : List ℕ) (at : ℕ) → Names rs w → Spans s at w (length s) → length w < left → names_from left s at ≡ found (map bit_code rs)
  unfolding names_from
  names_read zero rs w at x y h = absurd (omega arith)
  names_read (suc left) rs w at (no_names n) y h =
      let l : length (spaces n) ≡ n = length-replicate n space in
      let e : length s ≡ at + n = omega (arith, y.end) in
      let p = after_spaces_lem s n at y.stands (λ z. let q = past s (at + n) (omega arith) in omega arith) in
      rw (le-leb (length s) (after_spaces s at) (omega arith))
  names_read (suc left) rs w at (one_name {b = b} {rs = qs} {w = u} n i x) y h =
      let l : length (spaces (suc n)) ≡ suc n = length-replicate (suc n) space in
      let o = stands_both (spaces (suc n)) (name_of b ++ u) s at y.stands in
      let j : at + length (spaces (suc n)) ≡ at + suc n = omega arith in
      let p = stands_both (name_of b) u s (at + suc n) (rw j at o.1) in
      let f = name_first b s (at + suc n) p.0 in
      let e : after_spaces s at ≡ at + suc n = after_spaces_lem s (suc n) at o.0 f.1 in
      let q : Spans s (at + suc n + length (name_of b)) u (length s) =
      record { stands = p.1; end = omega (arith, y.end, l, length-append (spaces (suc n)) (name_of b ++ u), length-append (name_of b) u) } in
      let k : length u < left = omega (arith, h, l, name_some b, length-append (spaces (suc n)) (name_of b ++ u), length-append (name_of b) u) in
      rw (
        e,
        lt-leb (length s) (at + suc n) f.0,
        lt-ltb at (at + suc n) (omega arith),
        name_read s (at + suc n) b i p.0,
        names_read left qs u (at + suc n + length (name_of b)) x q k,
      )

-- the word before them
word_first : (s : List ℕ) (at : ℕ) → Stands (word_text alarms) s at → byte_at s at ≡ space → ⊥
unfolding word_text
word_first s at st e = omega (arith, st.1.0)

pub alarms_told : (left : ℕ) (s vs : List ℕ) → alarms_from left s ≡ found vs → length vs < suc most_named → AlarmsLine s (map bit_ref vs)
unfolding alarms_from
alarms_told left s vs e h =
    pick_case (λ (x : Found). x ≡ found vs → AlarmsLine s (map bit_ref vs)) (stands_at (word_text alarms) s (after_spaces s 0))
    (λ t q.
    let p = after_spaces s 0 in
    let st = (stands_exactly (word_text alarms) s p).0 t in
    let k = skipped s 0 {next = p} refl in
    let i = skipped_within s 0 {next = p} (omega arith) refl in
    let r = names_told s left vs (p + length (word_text alarms)) (stands_within s (word_text alarms) p i.1 st) q in
    let y : Spans s p (word_text alarms) (p + length (word_text alarms)) = record { stands = st; end = refl } in
    subst (λ (u : List ℕ). AlarmsLine u (map bit_ref vs)) (all_of s _ (after s k.stands (after s y r.stands)))
    (alarms_line k.n (rw (length-map vs bit_ref) h) r.names))
    (λ _ q. let z : ◌≡◌ {A = ℕ} 0 1 = cc in absurd (omega arith))
    e

alarms_there :
    (left m : ℕ) (s w : List ℕ) (rs : List Bit) → Names rs w → Spans s 0 (spaces m ++ (word_text alarms ++ w)) (length s) → length s < left →
    alarms_from left s ≡ found (map bit_code rs)
unfolding alarms_from
alarms_there left m s w rs x y h =
    let l : length (spaces m) ≡ m = length-replicate m space in
    let o = stands_both (spaces m) (word_text alarms ++ w) s 0 y.stands in
    let z : 0 + length (spaces m) ≡ m = omega arith in
    let p = stands_both (word_text alarms) w s m (rw z at o.1) in
    let e : after_spaces s 0 ≡ m = after_spaces_lem s m 0 o.0 (let u : 0 + m ≡ m = omega arith in rw u (word_first s m p.0)) ∙ omega arith in
    let a = length-append (spaces m) (word_text alarms ++ w) in
    let b = length-append (word_text alarms) w in
    let q : Spans s (m + length (word_text alarms)) w (length s) = record { stands = p.1; end = omega (arith, y.end, a, b) } in
    rw (e, (stands_exactly (word_text alarms) s m).1 p.0) (names_read s left rs w (m + length (word_text alarms)) x q (omega (arith, y.end, a, b)))

pub alarms_read : (left : ℕ) (s : List ℕ) (rs : List Bit) → AlarmsLine s rs → length s < left → (alarms_from left s ≡ found (map bit_code rs)) × (length rs < suc most_named)
alarms_read left s rs (alarms_line {w = w} m c x) h =
    let t = spaces m ++ (word_text alarms ++ w) in
    (alarms_there left m t w rs x (record { stands = itself t; end = omega arith }) h, c)
