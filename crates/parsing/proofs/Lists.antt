-- What each turn of a list's loop comes to: the first item, one more behind an operator, and the end. Assumes nothing.
use Prim.Native.Nat.{ℕ, zero, suc, ◌+◌, max, ◌<◌, ◌≤◌}
use mathlib.Core.Path.{◌≡◌, refl, sym, ap, ◌∙◌}
use mathlib.Core.List.{List, ◌∷◌, ◌++◌}
use native.Mathlib.Omega.{arith}
use lib.ListN.{length, take, drop, length-append, length-drop}
use lib.Seq.{sets}
use Rattle.terms.proofs.Sets.{sets_append, sets_over, inserted}
use Rattle.numbers.specs.Blocks.{Expr, gate, nodes}
use Rattle.writing.specs.Expressions.{operator_first, depth}
use Rattle.grammar.specs.Grammar.{Level, MadeOf, xor_lists, and_lists, parts, Reads, alone, joined}
use Rattle.grammar.specs.Machine.{want, had, dead, stop, from, Spans}
use Rattle.grammar.proofs.Complete.{passes, sign}
use Rattle.grammar.proofs.Places.{not_dead}
use Rattle.grammar.proofs.From.{rest, after, goes}
use Rattle.spelling.specs.Spelling.{Nothing, Broken}
use Rattle.spelling.specs.Spelling.{number_of, level_of, sign_at}
use Rattle.spelling.proofs.Signs.{Signed, sign_broken}
use Rattle.parsing.specs.Parsing.{Ready, NoSign, Free, Took}
use Rattle.parsing.proofs.Trees.{numbers_of, some_nodes, no_deeper, sign_long, reads_long}

-- what a list of a level is made of
pub made : (level : ℕ) → level < 3 → MadeOf (level_of level) (level_of (level + 1))
made zero h = xor_lists
made (suc zero) h = and_lists
made (suc (suc zero)) h = parts
made (suc (suc (suc n))) h = absurd (omega arith)

number_back : (level : ℕ) → level < 3 → number_of (level_of level) ≡ level
number_back zero h = refl
number_back (suc zero) h = refl
number_back (suc (suc zero)) h = refl
number_back (suc (suc (suc n))) h = absurd (omega arith)

pub not_want : {d : ℕ} → want d ≡ dead → ⊥
not_want e = let z : ◌≡◌ {A = ℕ} 0 1 = cc in omega arith

module _ (s : List ℕ) where
  pub stands_within : {at next : ℕ} {w : List ℕ} → Spans s at w next → at ≤ length s → next ≤ length s
  stands_within {at} {next} {w} x h =
      omega (arith, x.end, ap length (rest s x), length-append w (drop next s), length-drop at s, length-drop next s)

  pub passed : {around : ℕ} {level : Level} {at next : ℕ} {w : List ℕ} {t : Expr} → Spans s at w next → Reads around level w t
      → from s (want around) at ≡ from s (had around) next
  passed x y = goes s x (passes y) (not_dead refl)

  pub no_sign_of : (level p : ℕ) → level < 3 → sign_at level s p ≡ Nothing → NoSign (level_of level) s p
  no_sign_of level p h e = rw (number_back level h) e

  free_list : {list item : Level} (p : ℕ) → MadeOf list item → Free item s p → NoSign list s p → Free list s p
  free_list p xor_lists f n = (f, n)
  free_list p and_lists f n = (f, n)
  free_list p parts f n = (f, n)

  -- how long a piece is
  pub record Sized (at next count deep : ℕ) : Type 0 where
    pub some : 1 ≤ count
    pub long : at + count ≤ next
    pub flat : deep ≤ count

  pub sized :
      {around : ℕ} {level : Level} {at next count deep : ℕ} {w : List ℕ} {t : Expr} → Spans s at w next → Reads around level w t → count ≡ nodes t →
      deep ≡ depth t → Sized at next count deep
  sized {t = t} x y e f =
      record { some = omega (arith, some_nodes t); long = omega (arith, x.end, reads_long y); flat = omega (arith, no_deeper t) }

  -- a list up to here, its nodes put over l, where its first item had n₀ of them
  pub record Going (around : ℕ) (list item : Level) (at first : ℕ) (l : List ℕ) (n₀ : ℕ) (m : List ℕ) (p n d : ℕ) : Type 0 where
    pub text : List ℕ
    pub tree : Expr
    pub reads : Reads around list text tree
    pub stands : Spans s at text p
    pub put : m ≡ sets l first (operator_first tree)
    pub counted : n ≡ nodes tree
    pub measured : d ≡ depth tree
    pub free : Free item s p
    pub within : p ≤ length s
    pub grown : n₀ ≤ n

  module _ {around : ℕ} {list item : Level} (c : MadeOf list item) {at first : ℕ} where
    pub begins : {l m : List ℕ} {p n d : ℕ} → Took s around item at first l m p n d → Going around list item at first m n m p n d
    begins {l} {m} h =
        let own = operator_first h.tree in
        record {
          text = h.text;
          tree = h.tree;
          reads = alone c h.reads;
          stands = h.stands;
          put = h.put ∙ sym (ap (λ (k : List ℕ). sets k first own) h.put ∙ sets_over own own l first (omega arith));
          counted = h.counted;
          measured = h.measured;
          free = h.free;
          within = h.within;
          grown = omega arith;
        }

    -- the end of the list; its first item was put over l
    pub ends :
        {l k m : List ℕ} {q n₀ d₀ p n d : ℕ} → Took s around item at first l k q n₀ d₀ → Going around list item at first k n₀ m p n d → NoSign list s p →
        Took s around list at first l m p n d
    ends {l} {k} {p = p} h g e =
        record {
          text = g.text;
          tree = g.tree;
          reads = g.reads;
          stands = g.stands;
          put =
              g.put ∙ ap (λ (x : List ℕ). sets x first (operator_first g.tree)) h.put
              ∙ sets_over (operator_first h.tree) (operator_first g.tree) l first
              (omega (arith, numbers_of h.tree, numbers_of g.tree, h.counted, g.counted, g.grown));
          counted = g.counted;
          measured = g.measured;
          free = free_list p c g.free e;
          within = g.within;
        }

    module _ {l m : List ℕ} {n₀ p n d : ℕ} (g : Going around list item at first l n₀ m p n d) where
      pub size : Sized at p n d
      size = sized g.stands g.reads g.counted g.measured

      pub breaks : (level : ℕ) {k : ℕ} → sign_at level s p ≡ Broken k → from s (want around) at ≡ stop k
      breaks level {k} e = passed g.stands g.reads ∙ sign_broken s level p k around e

      module _ {o k : ℕ} (x : Signed s list p o k) where
        -- the operator's node, and the place for the next item's
        pub later : Ready s at first → (at + n < k) × Ready s k (first + n + 1)
        later r =
            let e = x.stands.end in
            let b = sign_long x.sign in
            let l = size.long in
            (omega arith, record { within = stands_within x.stands g.within; behind = omega (arith, r.behind) })

        pub reaches : from s (want around) at ≡ from s (want around) k
        reaches = passed g.stands g.reads ∙ goes s x.stands (sign around x.sign) not_want

        -- the sizes with one item more
        pub sums :
            {i j : List ℕ} {q b e : ℕ} → Ready s at first → Took s around item k (first + n + 1) i j q b e →
            (n + b + 1 ≤ length s) × ((max d e < length s) × (p < q))
        sums r h =
            let z = sized h.stands h.reads h.counted h.measured in
            let o = later r in
            let y = size in
            (omega (arith, o.0, h.within), (omega (arith, o.0, h.within), omega (arith, x.stands.end, sign_long x.sign)))

        -- one item more
        pub goes_on :
            {i j : List ℕ} {q b e r : ℕ} → i ≡ sets m first (o ∷ take n (drop first m)) → Took s around item k (first + n + 1) i j q b e → r ≡ suc (max d e) →
            Going around list item at first l n₀ j q (n + b + 1) r
        goes_on {i} {j} {q} {b} {e} put h f =
            let t = operator_first g.tree in
            let u = operator_first h.tree in
            let a : n ≡ length t = omega (arith, numbers_of g.tree, g.counted) in
            let before : i ≡ sets l first (o ∷ t) = put ∙ rw (a, g.put) (inserted t l first o 0) in
            let place : first + n + 1 ≡ first + length (o ∷ t) = omega arith in
            record {
              text = g.text ++ (x.text ++ h.text);
              tree = gate o g.tree h.tree;
              reads = joined c g.reads x.sign h.reads;
              stands = after s g.stands (after s x.stands h.stands);
              put = h.put ∙ rw (before, place) (sets_append (o ∷ t) l u first);
              counted = omega (arith, g.counted, h.counted);
              measured = f ∙ rw (g.measured, h.measured);
              free = h.free;
              within = h.within;
              grown = omega (arith, g.grown);
            }
