-- A journal keeps what the ledger says: what was handed out, then what is held, are the rises kept, in order; and as many are missed.
-- Assumes nothing.
use mathlib.Core.Path.{◌≡◌, refl, sym, ap, ◌∙◌}
use mathlib.Core.Bool.{Bool, true, false}
use mathlib.Core.List.{List, [], ◌∷◌, ◌++◌, map, append_assoc, append-nil}
use Prim.Native.Nat.{ℕ, ◌+◌, ◌-◌, ◌≤◌, ◌<◌}
use native.Mathlib.Omega.{arith}
use native.Mathlib.Numerals.{add-one}
use borrow.Author.Tests.{ltb-true, lt-ltb, le-ltb, eqb-true, eqb-false}
use lib.Dec.{ltb, eqb}
use lib.ListN.{length, take, drop, get_or, set, length-set, length-take, length-drop, length-append, get_or-eq_default}
use lib.Seq.{take-suc-set, take_at, length-take-le, get_or-append_seam}
use Rattle.journal.specs.declared.Entry.{Entry}
use Rattle.journal.specs.declared.Stamp.{Stamp}
use Rattle.journal.specs.declared.Journal.{Journal}
use Rattle.journal.specs.declared.Taken.{Taken}
use Rattle.std.specs.Prelude.{is_some, unwrap_or}
use Rattle.terms.specs.Choice.{pick}
use Rattle.journal.specs.Journal.{entry_of, zero_entry, stored, stored_all, taken}
use Rattle.promises.specs.History.{Ledger, entered, entered_all, crossed}
use Rattle.promises.specs.Demand3.{entries_held}

-- `out` is what was handed out so far
pub record Keeps (j : Journal) (l : Ledger) (out : List Entry) : Type 0 where
  pub long : length j.entries ≡ 32
  pub fit : j.held ≤ 32
  pub order : out ++ entries_held j ≡ l.kept
  pub taken : length out ≡ l.taken
  pub missed : j.missed ≡ length l.missed

module _ {j : Journal} {l : Ledger} {out : List Entry} (k : Keeps j l out) where
  pub held_long : length (entries_held j) ≡ j.held
  held_long = length-take-le j.held j.entries (omega (arith, k.long, k.fit))

  pub kept_long : length l.kept ≡ l.taken + j.held
  kept_long = ap length (sym k.order) ∙ length-append out (entries_held j) ∙ omega (arith, k.taken, held_long)

  -- as many wait as are held
  waiting : length l.kept - l.taken ≡ j.held
  waiting = omega (arith, kept_long)

  -- one rise
  pub enters : (t : Stamp) (a : ℕ) → Keeps (stored t j a) (entered l (entry_of t a)) out
  unfolding stored entered
  enters t a = go (ltb j.held 32) refl
    where
      go : (b : Bool) → ltb j.held 32 ≡ b → Keeps (stored t j a) (entered l (entry_of t a)) out
      go true e =
          let h : j.held < 32 = ltb-true _ _ e in
          let w = waiting in
          rw (w, e)
          (record {
            long = simp length-set k.long;
            fit = omega arith;
            order =
                ap (λ (n : ℕ). out ++ take n (set j.entries j.held (entry_of t a))) (add-one j.held)
                ∙ ap (λ (x : List Entry). out ++ x) (take-suc-set j.entries j.held (entry_of t a) (omega (arith, k.long)))
                ∙ sym (append_assoc out (entries_held j) (entry_of t a ∷ [])) ∙ ap (λ (x : List Entry). x ++ (entry_of t a ∷ [])) k.order;
            taken = k.taken;
            missed = k.missed;
          })
      go false e =
          let w = waiting in
          rw (w, e)
          (record {
            long = k.long;
            fit = k.fit;
            order = k.order;
            taken = k.taken;
            missed = sym (length-append l.missed (entry_of t a ∷ []) ∙ omega (arith, k.missed));
          })

-- the rises of a scan
pub enters_all : {j : Journal} {l : Ledger} {out : List Entry} → Keeps j l out → (t : Stamp) (ns : List ℕ)
    → Keeps (stored_all t j ns) (entered_all l (map (entry_of t) ns)) out
unfolding stored_all entered_all
enters_all k t [] = k
enters_all {j = j} {l = l} k t (a ∷ ns) = enters_all {j = stored t j a} {l = entered l (entry_of t a)} (enters k t a) t ns

-- as many rises are in the ledger as were entered
abbrev pub in_all : Ledger → ℕ
in_all l = length l.kept + length l.missed

one_more : (l : Ledger) (e : Entry) → in_all (entered l e) ≡ in_all l + 1
unfolding entered
one_more l e = go (ltb (length l.kept - l.taken) 32)
  where
    go : (b : Bool) →
        in_all (pick b (record { kept = l.kept ++ (e ∷ []); taken = l.taken; missed = l.missed })
        (record { kept = l.kept; taken = l.taken; missed = l.missed ++ (e ∷ []) })) ≡ in_all l + 1
    go true = omega (arith, length-append l.kept (e ∷ []))
    go false = omega (arith, length-append l.missed (e ∷ []))

pub all_more : (l : Ledger) (es : List Entry) → in_all (entered_all l es) ≡ in_all l + length es
unfolding entered_all
all_more l [] = omega arith
all_more l (e ∷ es) = all_more (entered l e) es ∙ omega (arith, one_more l e)

pub crossed_same : (l : Ledger) → in_all (crossed l) ≡ in_all l
unfolding crossed
crossed_same l = go (ltb l.taken (length l.kept))
  where
    go : (b : Bool) → in_all (pick b (record { kept = l.kept; taken = l.taken + 1; missed = l.missed }) l) ≡ in_all l
    go true = refl
    go false = refl

-- a take
front : (l : List Entry) (h : ℕ) → h < length l → take (h + 1) l ≡ get_or l 0 zero_entry ∷ take h (drop 1 l)
front [] h p = absurd (omega arith)
front (x ∷ l) h p = rw add-one

pub record Hands (j : Journal) (l : Ledger) (out : List Entry) (r : Taken) : Type 0 where
  pub keeps : Keeps r.journal (crossed l) (out ++ pick (is_some r.entry) (unwrap_or r.entry zero_entry ∷ []) [])
  pub found : is_some r.entry ≡ ltb l.taken (length l.kept)
  pub oldest : unwrap_or r.entry zero_entry ≡ get_or l.kept l.taken zero_entry

pub hands : {j : Journal} {l : Ledger} {out : List Entry} → Keeps j l out → Hands j l out (taken j)
unfolding taken crossed
hands {j} {l} {out} k = go (eqb j.held 0) refl
  where
    go : (b : Bool) → eqb j.held 0 ≡ b → Hands j l out (taken j)
    go true e =
        let z : j.held ≡ 0 = eqb-true _ _ e in
        let full : length l.kept ≤ l.taken = omega (arith, kept_long k) in
        let none : ltb l.taken (length l.kept) ≡ false = le-ltb _ _ full in
        rw e
        (record {
          keeps =
              rw none
              (record {
                long = k.long;
                fit = k.fit;
                order = ap (λ (x : List Entry). x ++ entries_held j) (append-nil out) ∙ k.order;
                taken = ap length (append-nil out) ∙ k.taken;
                missed = k.missed;
              });
          found = sym none;
          oldest = sym (get_or-eq_default l.kept zero_entry full);
        })
    go false e =
        let p : 0 < j.held = pos (eqb-false _ _ e) in
        let some : l.taken < length l.kept = omega (arith, kept_long k) in
        let up : j.held - 1 + 1 ≡ j.held = omega arith in
        let len : length (take (j.held - 1) (drop 1 j.entries)) ≡ j.held - 1 = simp (length-take, length-drop) (omega (arith, k.long, k.fit)) in
        let head : Entry = get_or j.entries 0 zero_entry in
        let rest : List Entry = take (j.held - 1) (drop 1 j.entries) in
        let same : entries_held j ≡ head ∷ rest = ap (λ (n : ℕ). take n j.entries) (sym up) ∙ front j.entries (j.held - 1) (omega (arith, k.long, k.fit)) in
        let all : l.kept ≡ out ++ (head ∷ rest) = sym k.order ∙ ap (λ (x : List Entry). out ++ x) same in
        let one : ltb l.taken (length l.kept) ≡ true = lt-ltb _ _ some in
        rw e
        (record {
          keeps =
              rw one
              (record {
                long = simp (length-append, length-take, length-drop) (omega (arith, k.long, k.fit));
                fit = omega (arith, k.fit);
                order =
                    append_assoc out (head ∷ []) _ ∙ ap (λ (x : List Entry). out ++ (head ∷ x)) (take_at _ _ _ len) ∙ sym all;
                taken = length-append out (head ∷ []) ∙ omega (arith, k.taken);
                missed = k.missed;
              });
          found = sym one;
          oldest =
              sym
              (ap (λ (x : List Entry). get_or x l.taken zero_entry) all
              ∙ ap (λ (n : ℕ). get_or (out ++ (head ∷ rest)) n zero_entry) (sym k.taken) ∙ get_or-append_seam out head rest zero_entry);
        })
      where
        pos : {n : ℕ} → (n ≡ 0 → ⊥) → 0 < n
        pos h = omega arith
