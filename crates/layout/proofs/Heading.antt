-- The beginning of a block's line: its number and its kind, as the code finds them and as the form has them. Assumes nothing.
use Prim.Native.Nat.{ℕ, zero, suc, ◌+◌, ◌-◌, ◌<◌, ◌≤◌}
use mathlib.Core.Path.{◌≡◌, refl, sym, ap, subst, ◌∙◌}
use mathlib.Core.Logic.{⊎_elim}
use mathlib.Core.Bool.{Bool, true, false, not, ◌&&◌, ◌||◌}
use mathlib.Core.List.{List, [], ◌∷◌, ◌++◌, append-nil}
use native.Mathlib.Nat.{le_refl}
use native.Mathlib.Omega.{arith}
use lib.ListN.{length, get_or, length-append, length-replicate, drop_of_length-le}
use lib.Dec.{T, T_not, ltb, eqb, eqb→eq}
use borrow.Author.Tests.{lt-ltb, ltb-true, eqb-true, eq-eqb}
use Rattle.terms.proofs.Choice.{both, pick_case, never, le_or_lt}
use Rattle.terms.proofs.Table.{every, at as entry}
use Rattle.wire.specs.Number.{byte_at}
use Rattle.wire.specs.Facts.{Stands}
use Rattle.numbers.specs.Blocks.{output, Content, Block}
use Rattle.numbers.specs.Types.{kind_count, bit_ref}
use Rattle.grammar.specs.Grammar.{space, spaces}
use Rattle.grammar.specs.Machine.{Spans}
use Rattle.grammar.proofs.From.{after, rest, stands_there}
use Rattle.writing.proofs.Back.{ref_back}
use Rattle.spelling.specs.Spelling.{Named}
use Rattle.spelling.specs.Spelling.{Bit as BitName, NoName}
use Rattle.spelling.specs.Spelling.{after_spaces, name_at}
use Rattle.spelling.proofs.Spaces.{skipped}
use Rattle.forms.proofs.Standing.{stands_both}
use Rattle.shown.specs.Show.{name_of}
use Rattle.words.specs.Words.{letters_of, word_text}
use Rattle.words.specs.Standing.{stands_at}
use Rattle.words.proofs.Standing.{stands_exactly}
use Rattle.kinds.specs.Kinds.{Kind, kind, kinds, fields_of}
use Rattle.layout.specs.Layout.{Fields, BlockLine, block_line}
use Rattle.layout.specs.Heads.{kind_from, kind_at, Heading, of_kind, letters_at, behind_number, heading_of}
use Rattle.layout.proofs.Rows.{same, same_self}
use Rattle.layout.proofs.Signed.{Read}
use Rattle.layout.proofs.Names.{name_told, name_read}
use Rattle.layout.proofs.Fielding.{after_spaces_lem}

-- the letters of a kind: two, and no other kind's
letters_apart : ℕ → ℕ → Bool
letters_apart j k = eqb j k || not (same (word_text (letters_of j)) (word_text (letters_of k)))

pub two_letters : (k : ℕ) → k < kind_count → length (word_text (letters_of k)) ≡ 2
unfolding word_text
two_letters k h = eqb→eq _ _ (entry (λ (k : ℕ) (r : Kind). eqb (length (word_text (letters_of k))) 2) (kind [] 0 false) kinds tt k h)

same_kind : (j k : ℕ) → j < kind_count → k < kind_count → word_text (letters_of j) ≡ word_text (letters_of k) → j ≡ k
unfolding letters_apart same word_text
same_kind j k h l e =
    let t : T (letters_apart j k) =
    entry (λ (k : ℕ) (r : Kind). letters_apart j k) (kind [] 0 false) kinds
    (entry (λ (j : ℕ) (r : Kind). every (λ (k : ℕ) (r : Kind). letters_apart j k) (kind [] 0 false) 0 kinds) (kind [] 0 false) kinds tt j h) k l in
    told (eqb j k) refl (same (word_text (letters_of j)) (word_text (letters_of k))) (ap (same (word_text (letters_of j))) (sym e) ∙ same_self (word_text (letters_of j))) t
  where
    told : (b : Bool) → eqb j k ≡ b → (c : Bool) → c ≡ true → T (b || not c) → j ≡ k
    told true q c r t = eqb-true j k q
    told false q true r t = absurd t
    told false q false r t = never (sym r)

-- two texts of one length that stand at one place are one
stands_same : (s x y : List ℕ) (at : ℕ) → length x ≡ length y → Stands x s at → Stands y s at → x ≡ y
stands_same s [] [] at e a b = refl
stands_same s [] (y ∷ ys) at e a b = absurd (omega arith)
stands_same s (x ∷ xs) [] at e a b = absurd (omega arith)
stands_same s (x ∷ xs) (y ∷ ys) at e a b =
    let q : x ≡ y = sym a.1.0 ∙ b.1.0 in
    rw q (ap (λ (l : List ℕ). y ∷ l) (stands_same s xs ys (at + 1) (omega arith) a.1.1 b.1.1))

further : (j k : ℕ) → j ≤ k → (j ≡ k → ⊥) → suc j ≤ k
further j k l n = ⊎_elim (λ (h : suc j ≤ k). h) (λ (h : k < suc j). absurd (n (omega arith))) (le_or_lt (suc j) k)

module _ (s : List ℕ) (at : ℕ) where
  kind_from_lem : (left j k : ℕ) → j ≤ k → k < j + left → j + left ≤ kind_count → Stands (word_text (letters_of k)) s at → kind_from left j s at ≡ k
  unfolding kind_from
  kind_from_lem zero j k l h m st = absurd (omega arith)
  kind_from_lem (suc left) j k l h m st =
      pick_case (λ (r : ℕ). r ≡ k) (stands_at (word_text (letters_of j)) s at)
      (λ e.
      let a = (stands_exactly (word_text (letters_of j)) s at).0 e in
      let n : length (word_text (letters_of j)) ≡ length (word_text (letters_of k)) = two_letters j (omega arith) ∙ sym (two_letters k (omega arith)) in
      same_kind j k (omega arith) (omega arith) (stands_same s (word_text (letters_of j)) (word_text (letters_of k)) at n a st))
      (λ e.
      let n : j ≡ k → ⊥ = λ q. never (sym ((stands_exactly (word_text (letters_of k)) s at).1 st) ∙ rw (← q) e) in
      kind_from_lem left (suc j) k (further j k l n) (omega arith) (omega arith) st)

  pub kind_stands : (left j k : ℕ) → kind_from left j s at ≡ k → k < j + left → Stands (word_text (letters_of k)) s at
  unfolding kind_from
  kind_stands zero j k e h = absurd (omega arith)
  kind_stands (suc left) j k e h =
      pick_case (λ (r : ℕ). r ≡ k → Stands (word_text (letters_of k)) s at) (stands_at (word_text (letters_of j)) s at)
      (λ t q. rw (← q) ((stands_exactly (word_text (letters_of j)) s at).0 t))
      (λ _ q. kind_stands left (suc j) k q (omega arith))
      e

  -- the letters of a kind that stand here are found, and what is found stands here
  letters_read : (k : ℕ) → k < kind_count → Stands (word_text (letters_of k)) s at → letters_at s at ≡ of_kind k (at + length (word_text (letters_of k)))
  unfolding letters_at kind_at
  letters_read k h st =
      let e : kind_from kind_count 0 s at ≡ k = kind_from_lem kind_count 0 k (omega arith) (omega arith) (omega arith) st in
      rw (e, lt-ltb k kind_count h)

  letters_told : (k next : ℕ) → letters_at s at ≡ of_kind k next → (k < kind_count) × (Stands (word_text (letters_of k)) s at × (next ≡ at + length (word_text (letters_of k))))
  unfolding letters_at kind_at
  letters_told k next =
      pick_case
      (λ (x : Heading). x ≡ of_kind k next → (k < kind_count) × (Stands (word_text (letters_of k)) s at × (next ≡ at + length (word_text (letters_of k)))))
      (ltb (kind_from kind_count 0 s at) kind_count)
      (λ t e.
      let j = kind_from kind_count 0 s at in
      let a : j ≡ k = cc in
      let b : at + length (word_text (letters_of j)) ≡ next = cc in
      let l = ltb-true j kind_count t in
      let st : Stands (word_text (letters_of k)) s at = kind_stands kind_count 0 k a (omega arith) in
      (omega arith, (st, rw (← b, a) refl)))
      (λ _ e. let z : ◌≡◌ {A = ℕ} 0 1 = cc in absurd (omega arith))

-- a text that stands from the front to the end is the whole
pub all_of : (s w : List ℕ) → Spans s 0 w (length s) → w ≡ s
all_of s w x = sym (rest s x ∙ rw (drop_of_length-le s (le_refl (length s))) (append-nil w))

pub itself : (s : List ℕ) → Stands s s 0
itself s = stands_there s s [] 0 (sym (append-nil s))

module _ (i : ℕ) (small : i < 200) (s : List ℕ) where
  -- a heading that was found, and where the fields of its kind begin
  pub record Headed (k at : ℕ) : Type 0 where
    pub known : k < kind_count
    pub within : at ≤ length s
    pub line : (cs : List Content) (w : List ℕ) → Fields (fields_of k) cs w → Spans s at w (length s) → BlockLine i s (record { kind = k; fields = cs })

  headed_at :
      (k at r q : ℕ) → Read s (name_of (output i)) (after_spaces s 0) q → q < after_spaces s q → k < kind_count →
      Stands (word_text (letters_of k)) s (after_spaces s q) → at ≡ after_spaces s q + length (word_text (letters_of k)) → Headed k at
  headed_at k at r q n l h st e =
      let a = skipped s 0 {next = after_spaces s 0} refl in
      let b = skipped s q {next = after_spaces s q} refl in
      let c : b.n ≡ suc (b.n - 1) = omega (arith, b.stands.end, length-replicate b.n space) in
      let g = rw c at b.stands in
      let x : Spans s (after_spaces s 0) (name_of (output i)) q = record { stands = n.stands; end = n.end } in
      let y : Spans s (after_spaces s q) (word_text (letters_of k)) at = record { stands = st; end = e } in
      record {
        known = h;
        within = letters_inside (word_text (letters_of k)) (after_spaces s q) (two_letters k h) st e;
        line = λ cs w f z.
            subst (λ (u : List ℕ). BlockLine i u (record { kind = k; fields = cs })) (all_of s _ (after s a.stands (after s x (after s g (after s y z)))))
            (block_line a.n (b.n - 1) small h f);
      }
    where
      letters_inside : (w : List ℕ) (p : ℕ) → length w ≡ 2 → Stands w s p → at ≡ p + length w → at ≤ length s
      letters_inside [] p l st e = absurd (omega arith)
      letters_inside (x ∷ []) p l st e = absurd (omega arith)
      letters_inside (x ∷ y ∷ []) p l st e = omega (arith, st.1.1.0)
      letters_inside (x ∷ y ∷ z ∷ w) p l st e = absurd (omega arith)

  by_name : (k at : ℕ) (x : Named) → name_at s (after_spaces s 0) ≡ x → behind_number i s x ≡ of_kind k at → Headed k at
  by_name k at (NoName q) e g = let z : ◌≡◌ {A = ℕ} 0 1 = cc in absurd (omega arith)
  by_name k at (BitName r q) e g =
      pick_case (λ (x : Heading). x ≡ of_kind k at → Headed k at) (eqb r (34 + i) && ltb q (after_spaces s q))
      (λ t f.
      let o = both (eqb r (34 + i)) (ltb q (after_spaces s q)) t in
      let n = name_told s (after_spaces s 0) r q e in
      let c : r ≡ i + 34 = omega (arith, eqb-true r (34 + i) o.0) in
      let b : bit_ref r ≡ output i = ap bit_ref c ∙ (ref_back (output i) small).0 in
      let l = letters_told s (after_spaces s q) k at f in
      headed_at k at r q (rw b at n.0) (ltb-true q (after_spaces s q) o.1) l.0 l.1.0 l.1.1)
      (λ _ f. let z : ◌≡◌ {A = ℕ} 0 1 = cc in absurd (omega arith))
      g

  pub heading_told : (k at : ℕ) → heading_of i s ≡ of_kind k at → Headed k at
  unfolding heading_of
  heading_told k at e = by_name k at (name_at s (after_spaces s 0)) refl e

-- a block's line, its heading and its fields
pub record Begun (i : ℕ) (s : List ℕ) (b : Block) : Type 0 where
  pub at : ℕ
  pub head : heading_of i s ≡ of_kind b.kind at
  pub small : i < 200
  pub known : b.kind < kind_count
  pub text : List ℕ
  pub fields : Fields (fields_of b.kind) b.fields text
  pub stands : Spans s at text (length s)

-- a name and letters do not begin with a space
no_space_name : (i : ℕ) (s : List ℕ) (at : ℕ) → Stands (name_of (output i)) s at → byte_at s at ≡ space → ⊥
unfolding name_of
no_space_name i s at st e = omega (arith, st.1.0)

first_letter : ℕ → Bool
first_letter k = not (eqb (get_or (word_text (letters_of k)) 0 space) space)

no_space_letters : (k : ℕ) (s : List ℕ) (at : ℕ) → k < kind_count → Stands (word_text (letters_of k)) s at → byte_at s at ≡ space → ⊥
unfolding first_letter word_text
no_space_letters k s at h = go (word_text (letters_of k)) (entry (λ (k : ℕ) (r : Kind). first_letter k) (kind [] 0 false) kinds tt k h)
  where
    go : (w : List ℕ) → T (not (eqb (get_or w 0 space) space)) → Stands w s at → byte_at s at ≡ space → ⊥
    go [] t st e = t
    go (x ∷ w) t st e = T_not (eqb x space) t (rw (eq-eqb x space (sym st.1.0 ∙ e)) tt)

module _ (s : List ℕ) (i k m n : ℕ) (w : List ℕ) (small : i < 200) (known : k < kind_count) where
  abbrev name : List ℕ
  name = name_of (output i)

  abbrev letters : List ℕ
  letters = word_text (letters_of k)

  abbrev behind_letters : ℕ
  behind_letters = m + length name + suc n + length letters

  heading_read :
      Spans s 0 (spaces m ++ (name ++ (spaces (suc n) ++ (letters ++ w)))) (length s) → (heading_of i s ≡ of_kind k behind_letters) × Spans s behind_letters w (length s)
  unfolding heading_of
  heading_read x =
      let a = length-replicate m space in
      let b = length-replicate (suc n) space in
      let z : 0 + length (spaces m) ≡ m = omega arith in
      let o = stands_both (spaces m) (name ++ (spaces (suc n) ++ (letters ++ w))) s 0 x.stands in
      let p = stands_both name (spaces (suc n) ++ (letters ++ w)) s m (rw z at o.1) in
      let q = stands_both (spaces (suc n)) (letters ++ w) s (m + length name) p.1 in
      let y : m + length name + length (spaces (suc n)) ≡ m + length name + suc n = omega arith in
      let r = stands_both letters w s (m + length name + suc n) (rw y at q.1) in
      let e : after_spaces s 0 ≡ m = after_spaces_lem s m 0 o.0 (let u : 0 + m ≡ m = omega arith in rw u (no_space_name i s m p.0)) ∙ omega arith in
      let f : after_spaces s (m + length name) ≡ m + length name + suc n =
      after_spaces_lem s (suc n) (m + length name) q.0 (no_space_letters k s (m + length name + suc n) known r.0) in
      let g = name_read s m (output i) small p.0 in
      let j : i + 34 ≡ 34 + i = omega arith in (
        rw (e, g, f, eq-eqb (i + 34) (34 + i) j, lt-ltb (m + length name) (m + length name + suc n) (omega arith), letters_read s (m + length name + suc n) k known r.0),
        record {
          stands = r.1;
          end = omega (
            arith,
            x.end,
            a,
            b,
            length-append (spaces m) (name ++ (spaces (suc n) ++ (letters ++ w))),
            length-append name (spaces (suc n) ++ (letters ++ w)),
            length-append (spaces (suc n)) (letters ++ w),
            length-append letters w,
          );
        },
      )

pub begun : (i : ℕ) (s : List ℕ) (b : Block) → BlockLine i s b → Begun i s b
begun i s b (block_line {kind = k} {cs = cs} {w = w} m n h l f) =
    let t = spaces m ++ (name_of (output i) ++ (spaces (suc n) ++ (word_text (letters_of k) ++ w))) in
    let r = heading_read t i k m n w h l (record { stands = itself t; end = omega arith }) in
    record { at = behind_letters t i k m n w h l; head = r.0; small = h; known = l; text = w; fields = f; stands = r.1 }
