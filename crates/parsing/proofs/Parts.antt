-- What each way through a part comes to: `!` any number of times, then a name, or an or-list in parentheses. Assumes nothing.
use Prim.Native.Nat.{ℕ, suc, ◌+◌, ◌<◌, ◌≤◌}
use mathlib.Core.Path.{◌≡◌, refl, sym, ap, ◌∙◌}
use mathlib.Core.List.{List, [], ◌∷◌, ◌++◌, append_assoc}
use native.Mathlib.Numerals.{add-one}
use native.Mathlib.Omega.{arith}
use lib.ListN.{length, set, replicate-append-replicate}
use lib.Seq.{sets}
use borrow.Author.Tests.{le-ltb, ne_eqb}
use Rattle.wire.specs.Number.{byte_at}
use Rattle.numbers.specs.Blocks.{Expr, ref, inv, bit_code}
use Rattle.writing.specs.Expressions.{operator_first}
use Rattle.writing.proofs.Back.{ref_back}
use Rattle.grammar.specs.Grammar.{bang, opening, closing, spaces, most_open, Level, or_list, xor_list, and_list, part, MadeOf, xor_lists, and_lists, parts}
use Rattle.grammar.specs.Grammar.{Reads, alone, joined, named, negated, grouped}
use Rattle.grammar.specs.Machine.{want, had, step, stop, from, Spans}
use Rattle.grammar.proofs.Machines.{run, Goes, ◌then◌}
use Rattle.grammar.proofs.Complete.{opens, spaces_want}
use Rattle.grammar.proofs.From.{byte, after, there, goes, halts}
use Rattle.spelling.specs.Spelling.{NoName}
use Rattle.spelling.specs.Spelling.{name_at}
use Rattle.spelling.proofs.Names.{Called, name_bad}
use Rattle.spelling.proofs.Signs.{no_sign}
use Rattle.spelling.proofs.Spaces.{Skipped}
use Rattle.parsing.specs.Parsing.{Ready, NoSpace, Took}
use Rattle.parsing.proofs.Trees.{name_long, name_proper, nots, zeros, zeros_then, nots_numbers, nots_nodes, nots_depth}
use Rattle.parsing.proofs.Lists.{not_want, stands_within, passed, sized}

-- a part has no items
abbrev Items : Level → Type 0
Items or_list = Unit {0}
Items xor_list = Unit {0}
Items and_list = Unit {0}
Items part = ⊥

has_items : {list item : Level} → MadeOf list item → Items list
has_items xor_lists = tt
has_items and_lists = tt
has_items parts = tt

spaces_join : (m n : ℕ) (w : List ℕ) → spaces m ++ (spaces n ++ w) ≡ spaces (m + n) ++ w
spaces_join m n w = sym (append_assoc (spaces m) (spaces n) w) ∙ ap (λ (l : List ℕ). l ++ w) (replicate-append-replicate m n 32)

-- spaces may stand before a part
indented : {around : ℕ} {w : List ℕ} {t : Expr} (n : ℕ) → Reads around part w t → Reads around part (spaces n ++ w) t
indented n (alone c x) = absurd (has_items c)
indented n (joined c x o y) = absurd (has_items c)
indented n (named m k x) = rw (spaces_join n m _) (named (n + m) k x)
indented n (negated m x) = rw (spaces_join n m _) (negated (n + m) x)
indented n (grouped m k h x) = rw (spaces_join n m _) (grouped (n + m) k h x)

module _ (s : List ℕ) where
  -- after `!` n times and the spaces behind them, where the byte b stands; a zero was put over l for each
  pub record Nots (around at first : ℕ) (l m : List ℕ) (p n b : ℕ) : Type 0 where
    pub text : List ℕ
    pub stands : Spans s at text p
    pub wraps : (w : List ℕ) (t : Expr) → Reads around part w t → Reads around part (text ++ w) (nots n t)
    pub over : Goes step (want around) text (want around)
    pub put : m ≡ sets l first (zeros n)
    pub few : at + n ≤ p
    pub within : p ≤ length s
    pub full : NoSpace s p
    pub here : b ≡ byte_at s p

  module _ {around at first : ℕ} {l : List ℕ} where
    pub no_nots : {p b : ℕ} → at ≤ length s → Skipped s at p → b ≡ byte_at s p → Nots around at first l l p 0 b
    unfolding nots
    no_nots h k e =
        record {
          text = spaces k.n;
          stands = k.stands;
          wraps = λ w t x. indented k.n x;
          over = spaces_want around k.n;
          put = refl;
          few = omega (arith, k.stands.end);
          within = stands_within s k.stands h;
          full = k.full;
          here = e;
        }

    module _ {m : List ℕ} {p n b : ℕ} (g : Nots around at first l m p n b) where
      -- the byte here is x
      pub inside : (x : ℕ) → 0 < x → b ≡ x → p < length s
      inside x h e = there s p x h (sym g.here ∙ e)

      this : (x : ℕ) → 0 < x → b ≡ x → Spans s p (x ∷ []) (p + 1)
      this x h e = byte s p x (inside x h e) (sym g.here ∙ e)

      pub one_not : {m' : List ℕ} {q b' : ℕ} → b ≡ bang → m' ≡ set m (first + n) 0 → Skipped s (p + 1) q → b' ≡ byte_at s q
          → Nots around at first l m' q (n + 1) b'
      unfolding nots run step
      one_not {m'} e f k h =
          let at-bang = this bang (omega arith) e in
          let i : n + 1 ≡ suc n = add-one n in
          let more : m' ≡ sets l first (zeros (n + 1)) =
          f ∙ rw g.put (zeros_then n first l (0 ∷ []) ∙ ap (sets l first) (replicate-append-replicate n 1 0)) in
          record {
            text = g.text ++ (bang ∷ spaces k.n);
            stands = after s g.stands (after s at-bang k.stands);
            wraps = λ w t x. rw i (simp append_assoc (g.wraps (bang ∷ (spaces k.n ++ w)) (inv t) (negated 0 (indented k.n x))));
            over = g.over then record { there = (spaces_want around k.n).there };
            put = more;
            few = omega (arith, g.few, k.stands.end);
            within = stands_within s k.stands (omega (arith, inside bang (omega arith) e));
            full = k.full;
            here = h;
          }

      -- a 17th parenthesis
      pub too_many : b ≡ opening → most_open ≤ around → from s (want around) at ≡ stop p
      unfolding step
      too_many e h = goes s g.stands g.over not_want ∙ halts s (want around) p (rw (sym g.here ∙ e, le-ltb around 16 h)) refl

      module _ (e : b ≡ opening) (h : around < most_open) where
        pub into : from s (want around) at ≡ from s (want (around + 1)) (p + 1)
        into =
            goes s g.stands g.over not_want ∙ goes s (this opening (omega arith) e) (opens around h) not_want
            ∙ ap (λ (d : ℕ). from s (want d) (p + 1)) (sym (add-one around))

        module _ {m' : List ℕ} {next count deep : ℕ} (x : Took s (around + 1) or_list (p + 1) (first + n) m m' next count deep) where
          pub unclosed : (byte_at s next ≡ closing → ⊥) → from s (want around) at ≡ stop next
          unclosed f =
              let v = x.free in
              into ∙ passed s x.stands x.reads
              ∙ halts s (had (around + 1)) next
              (no_sign s next (around + 1) v.0.0.0 v.0.0.1 v.0.1 v.1 ∙ rw (ne_eqb (byte_at s next) closing f)) (rw (add-one around))

          pub closed :
              {q : ℕ} → byte_at s next ≡ closing → Skipped s (next + 1) q → Took s around part at first l m' q (n + count) (n + deep)
          closed f k =
              let i : around + 1 ≡ suc around = add-one around in
              let r : Reads (suc around) or_list x.text x.tree = (rw i at x.reads) in
              let at-close = byte s next closing (there s next closing (omega arith) f) f in
              let w = opening ∷ (x.text ++ (closing ∷ spaces k.n)) in
              record {
                text = g.text ++ w;
                tree = nots n x.tree;
                reads = g.wraps w x.tree (grouped 0 k.n h r);
                stands = after s g.stands (after s (this opening (omega arith) e) (after s x.stands (after s at-close k.stands)));
                put = x.put ∙ rw g.put (zeros_then n first l (operator_first x.tree) ∙ ap (sets l first) (sym (nots_numbers n x.tree)));
                counted = omega (arith, x.counted, nots_nodes n x.tree);
                measured = omega (arith, x.measured, nots_depth n x.tree);
                free = k.full;
                within = stands_within s k.stands (omega (arith, there s next closing (omega arith) f));
              }

      pub called :
          {m' : List ℕ} {r next q : ℕ} → Called s p r next → m' ≡ set m (first + n) (6 + r) → Skipped s next q →
          Took s around part at first l m' q (n + 1) (n + 1)
      called {m'} {r} {next} x f k =
          let t = ref x.bit in
          let w = x.text ++ spaces k.n in
          record {
            text = g.text ++ w;
            tree = nots n t;
            reads = g.wraps w t (named 0 k.n x.name);
            stands = after s g.stands (after s x.stands k.stands);
            put = f ∙ rw (g.put, x.code) (zeros_then n first l ((6 + bit_code x.bit) ∷ []) ∙ ap (sets l first) (sym (nots_numbers n t)));
            counted = omega (arith, nots_nodes n t);
            measured = omega (arith, nots_depth n t);
            free = k.full;
            within = stands_within s k.stands (stands_within s x.stands g.within);
          }

      pub uncalled : {k : ℕ} → (b ≡ bang → ⊥) → (b ≡ opening → ⊥) → name_at s p ≡ NoName k → from s (want around) at ≡ stop k
      uncalled {k} e f h =
          goes s g.stands g.over not_want
          ∙ name_bad s p k h g.full (λ z. e (g.here ∙ z)) (λ z. f (g.here ∙ z)) around

  -- the number of a name that is called, and its length
  pub called_small : {p r next : ℕ} → Called s p r next → r < 234
  called_small x = omega (arith, x.code, (ref_back x.bit (name_proper x.name)).1)

  pub called_long : {p r next : ℕ} → Called s p r next → p < next
  called_long x = omega (arith, x.stands.end, name_long x.name)

  module _ {around at first : ℕ} {l m : List ℕ} {p n b : ℕ} (g : Nots around at first l m p n b) where
    -- the places for nodes, and the sizes, fit the text
    pub nots_fit : Ready s at first → first + n ≤ length s
    nots_fit r = omega (arith, g.few, g.within, r.behind)

    pub inner_ready : p < length s → Ready s at first → (at < p + 1) × Ready s (p + 1) (first + n)
    inner_ready h r = (omega (arith, g.few), record { within = omega arith; behind = omega (arith, g.few, r.behind) })

    pub inner_fits :
        {m' : List ℕ} {next count deep : ℕ} → Took s (around + 1) or_list (p + 1) (first + n) m m' next count deep →
        (n + count ≤ length s) × (n + deep ≤ length s)
    inner_fits x =
        let z = sized s x.stands x.reads x.counted x.measured in
        (omega (arith, z.long, g.few, x.within), omega (arith, z.long, z.flat, g.few, x.within))

    pub name_fits : {r next : ℕ} → Called s p r next → n + 1 ≤ length s
    name_fits x = omega (arith, called_long x, stands_within s x.stands g.within, g.few)
