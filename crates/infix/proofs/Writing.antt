-- The text of a node from the texts of its parts, whatever is read as its parts: bytes put one after another are the text put whole. Assumes nothing.
use Prim.Native.Nat.{ℕ, suc, ◌+◌, ◌-◌}
use mathlib.Core.Path.{◌≡◌, refl, sym, ◌∙◌}
use mathlib.Core.Bool.{Bool, true, false}
use mathlib.Core.List.{List, [], ◌∷◌, ◌++◌, append_assoc, append-nil}
use native.Mathlib.Omega.{arith}
use lib.ListN.{set}
use lib.Dec.{ltb}
use Rattle.wire.specs.Reading.{Read, got, fault, and_then, IsGot, is_got}
use Rattle.numbers.specs.Blocks.{Expr, ref, inv, gate, nodes}
use Rattle.numbers.specs.Types.{bit_ref}
use Rattle.numbers.specs.Reading.{Marks}
use Rattle.nodes.specs.Reading.{head_at, grow, expr_at}
use Rattle.nodes.specs.Reading.{Node, Leaf, One, Two, Stop}
use Rattle.nodes.proofs.Expressions.{sound, step}
use Rattle.grammar.specs.Grammar.{bang, opening, closing}
use Rattle.filling.specs.Filling.{Put}
use Rattle.filling.proofs.Puts.{put_then}
use Rattle.shown.specs.Show.{name_of, list_of, between, enclosed, show_at}
use Rattle.shown.proofs.Plain.{name_short}
use Rattle.infix.specs.declared.Written.{Written}
use Rattle.infix.specs.Infix.{spaced, byte_if, Infixed, Writes, text_in}
use Rattle.infix.proofs.Lengths.{put_within, spaced_short, byte_short}

-- what is read as NOT or as an operator of two parts has parts
data Inverted (q : Read Expr) (t : Expr) (next : ℕ) : Type 0 where
  inverted : (a : Expr) → q ≡ got a next → t ≡ inv a → Inverted q t next

inverted_of : (q : Read Expr) {t : Expr} {next : ℕ} → and_then q (λ a n. got (inv a) n) ≡ got t next → Inverted q t next
inverted_of (got a n) e = inverted a (cc) (cc)
inverted_of (fault n at) e = let z : ◌≡◌ {A = ℕ} 0 1 = cc in absurd (omega arith)

data Gated (op left : ℕ) (f : ℕ → ℕ → Read Expr) (q : Read Expr) (t : Expr) (next : ℕ) : Type 0 where
  gated : (a b : Expr) (n : ℕ) → q ≡ got a n → f (left - nodes a) n ≡ got b next → t ≡ gate op a b → Gated op left f q t next

gated_of :
    (op left : ℕ) (f : ℕ → ℕ → Read Expr) (q : Read Expr) {t : Expr} {next : ℕ} →
    and_then q (λ a n. and_then (f (left - nodes a) n) (λ b m. got (gate op a b) m)) ≡ got t next → Gated op left f q t next
gated_of op left f (got a n) = go (f (left - nodes a) n) refl
  where
    go :
        (g : Read Expr) {t : Expr} {next : ℕ} → f (left - nodes a) n ≡ g → and_then g (λ b m. got (gate op a b) m) ≡ got t next →
        Gated op left f (got a n) t next
    go (got b m) h e = gated a b n refl (cc) (cc)
    go (fault k p) h e = let z : ◌≡◌ {A = ℕ} 0 1 = cc in absurd (omega arith)
gated_of op left f (fault n at) = λ e. let z : ◌≡◌ {A = ℕ} 0 1 = cc in absurd (omega arith)

-- the text of an operator, piece by piece
pieces : (o : ℕ) (b : Bool) (v w : List ℕ) → byte_if b opening ++ (v ++ (spaced o ++ (w ++ byte_if b closing))) ≡ enclosed b (between o v w)
unfolding byte_if
pieces o true v w = simp append_assoc
pieces o false v w = simp (append_assoc, append-nil)

module _ (k : Marks) (d left : ℕ) (s : List ℕ) (at level : ℕ) (l : List ℕ) (to : ℕ) where
  part : ℕ → ℕ → Read Expr
  part n p = expr_at k (d - 1) n s p

  by_head : {x : Node} {t : Expr} {next : ℕ} → head_at k d left s at ≡ x → expr_at k d left s at ≡ got t next → grow part left x ≡ got t next
  unfolding part
  by_head h e = rw h at (sym (step k d left s at) ∙ e)

  pub stop_writes :
      {n p : ℕ} → head_at k d left s at ≡ Stop n p → Writes level left (expr_at k d left s at) l to l (record { next = at; left = left; to = to })
  stop_writes h =
      record { within = omega arith; whole = λ t next e. let f = by_head h e in let z : ◌≡◌ {A = ℕ} 0 1 = cc in absurd (omega arith) }

  pub leaf_writes :
      {r next : ℕ} (m : List ℕ) (e : ℕ) → head_at k d left s at ≡ Leaf r next → Put (name_of (bit_ref r)) l to m e →
      Writes level left (expr_at k d left s at) l to m (record { next = next; left = left - 1; to = e })
  leaf_writes {r} {next} m e h p =
      record {
        within = omega (arith, sound k d left s at h, name_short (bit_ref r), p.place);
        whole = λ t n g.
            let f = by_head h g in
            let a : t ≡ ref (bit_ref r) = cc in
            let b : n ≡ next = cc in
            rw (a, b) (record { text = p; place = refl; rest = refl });
      }

  pub not_writes :
      {next : ℕ} (m : List ℕ) (r : Written) → head_at k d left s at ≡ One next →
      Writes 3 (left - 1) (expr_at k (d - 1) (left - 1) s next) (set l to bang) (to + 1) m r → Writes level left (expr_at k d left s at) l to m r
  unfolding part
  not_writes {next} m r h w =
      record {
        within = omega (arith, sound k d left s at h, w.within);
        whole = λ t n g. made t n (inverted_of (part (left - 1) next) (by_head h g));
      }
    where
      made : (t : Expr) (n : ℕ) → Inverted (part (left - 1) next) t n → Infixed level t n left l to m r
      made t n (inverted a e f) =
          let i = w.whole a n e in
          rw f (record {
            text = put_then {xs = bang ∷ []} {j = to + 1} (record { bytes = refl; place = refl }) i.text;
            place = i.place;
            rest = omega (arith, i.rest);
          })

  module _
      {op next : ℕ} (p q : ℕ) (asked : Bool) (l₁ : List ℕ) (from : ℕ) (l₂ : List ℕ) (a : Written) (l₃ : List ℕ) (e : ℕ) (l₄ : List ℕ) (b : Written)
      (l₅ : List ℕ) (end : ℕ) where
    pub two_writes :
        head_at k d left s at ≡ Two op next → p ≡ list_of op → q ≡ suc (list_of op) → asked ≡ ltb (list_of op) level →
        Put (byte_if asked opening) l to l₁ from → Writes p (left - 1) (expr_at k (d - 1) (left - 1) s next) l₁ from l₂ a →
        Put (spaced op) l₂ a.to l₃ e → Writes q a.left (expr_at k (d - 1) a.left s a.next) l₃ e l₄ b →
        Put (byte_if asked closing) l₄ b.to l₅ end →
        Writes level left (expr_at k d left s at) l to l₅ (record { next = b.next; left = b.left; to = end })
    unfolding part
    two_writes h i j k o x y z c =
        record {
          within = omega (
            arith,
            sound _ _ _ _ _ h,
            put_within 1 o (byte_short asked opening),
            x.within,
            put_within 4 y (spaced_short op),
            z.within,
            put_within 1 c (byte_short asked closing),
          );
          whole = λ t n g. made t n (gated_of op (left - 1) part (part (left - 1) next) (by_head h g));
        }
      where
        made : (t : Expr) (n : ℕ) → Gated op (left - 1) part (part (left - 1) next) t n
            → Infixed level t n left l to l₅ (record { next = b.next; left = b.left; to = end })
        made t n (gated u v m f g e) =
            let first = x.whole u m f in
            let second = z.whole v n (rw (first.rest, first.place) g) in
            let whole = put_then o (put_then first.text (put_then y (put_then second.text c))) in
            rw e (record {
              text = rw (← k, ← (pieces op asked (show_at (list_of op) u) (show_at (suc (list_of op)) v))) (rw (i, j) at whole);
              place = second.place;
              rest = omega (arith, first.rest, second.rest);
            })

-- a whole expression
pub whole_put : {left : ℕ} {x : Read Expr} {l : List ℕ} {to : ℕ} {m : List ℕ} {r : Written} → IsGot x → Writes 0 left x l to m r → Put (text_in x) l to m r.to
whole_put (is_got t next e) w = rw e (w.whole t next e).text
