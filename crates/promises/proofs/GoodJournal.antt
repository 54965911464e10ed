-- A journal that passes the state check still does after any rises and after a take. The length of its entries does not matter:
-- beyond those held, what is cut off a list of empty entries leaves only empty ones. Assumes nothing.
use Prim.Native.Nat.{ℕ, zero, suc, ◌+◌, ◌-◌, ◌≤◌}
use mathlib.Core.Path.{◌≡◌, refl}
use mathlib.Core.Bool.{true, not, ◌&&◌}
use mathlib.Core.List.{List}
use native.Mathlib.Omega.{arith}
use lib.Dec.{ltb, leb, eqb}
use lib.ListN.{take, drop}
use lib.Seq.{drop-drop, drop-set-lt}
use borrow.Author.Tests.{ltb-true, leb-true, le-leb}
use Rattle.terms.specs.Choice.{every}
use Rattle.terms.proofs.Choice.{pick_case, both}
use Rattle.journal.specs.declared.Stamp.{Stamp}
use Rattle.journal.specs.declared.Journal.{Journal}
use Rattle.journal.specs.declared.Taken.{Taken}
use Rattle.terms.specs.Bits.{bit_of}
use Rattle.journal.specs.Journal.{zero_entry, fresh_journal, no_stamp, entry_of, numbered, empty, good_journal, rises_from, stored, stored_all, risen, taken}
use Rattle.terms.proofs.Every.{both_hold, every_append, every_beyond, every_drop, every_replicate, every_set, every_take}

record Sound (j : Journal) : Type 0 where
  few : j.held ≤ 32
  numbers : every numbered j.entries ≡ true
  rest : every empty (drop j.held j.entries) ≡ true

sound_of : (j : Journal) → good_journal j ≡ true → Sound j
unfolding good_journal
sound_of j e =
    let a = both (leb j.held 32) _ e in
    let b = both (every numbered j.entries) _ a.1 in
    record { few = leb-true j.held 32 a.0; numbers = b.0; rest = b.1 }

good_of : (j : Journal) → Sound j → good_journal j ≡ true
unfolding good_journal
good_of j s = both_hold (le-leb j.held 32 s.few) (both_hold s.numbers s.rest)

zero_numbered : numbered zero_entry ≡ true
unfolding numbered
zero_numbered = refl

zero_empty : empty zero_entry ≡ true
unfolding empty no_stamp
zero_empty = refl

pub fresh_journal_lem : good_journal fresh_journal ≡ true
unfolding fresh_journal
fresh_journal_lem =
    good_of fresh_journal
    (record {
      few = omega arith;
      numbers = every_replicate numbered 32 zero_numbered;
      rest = every_replicate empty 32 zero_empty;
    })

stored_good : (t : Stamp) (j : Journal) (k : ℕ) → k ≤ 31 → good_journal j ≡ true → good_journal (stored t j k) ≡ true
unfolding stored numbered
stored_good t j k h e =
    let s = sound_of j e in
    pick_case (λ (i : Journal). good_journal i ≡ true) (ltb j.held 32)
    (λ lt. good_of _
    (record {
      few = omega (arith, ltb-true j.held 32 lt);
      numbers = every_set numbered j.entries j.held s.numbers (le-leb k 31 h);
      rest =
          rw (drop-set-lt (j.held + 1) j.entries j.held (entry_of t k) (omega arith), ← drop-drop 1 j.held j.entries)
          (every_drop empty 1 (drop j.held j.entries) s.rest);
    }))
    (λ _. good_of _ (record { few = s.few; numbers = s.numbers; rest = s.rest }))

-- the numbers of rises, from k on, are below k + n
rises_good :
    (t : Stamp) (j : Journal) (n k word last : ℕ) → k + n ≤ 32 → good_journal j ≡ true →
    good_journal (stored_all t j (rises_from n k word last)) ≡ true
unfolding stored_all rises_from
rises_good t j zero k word last h e = e
rises_good t j (suc n) k word last h e =
    pick_case (λ (ks : List ℕ). good_journal (stored_all t j ks) ≡ true) (bit_of word k && not (bit_of last k))
    (λ _. rises_good t (stored t j k) n (suc k) word last (omega arith) (stored_good t j k (omega arith) e))
    (λ _. rises_good t j n (suc k) word last (omega arith) e)

pub risen_good : (word last : ℕ) (t : Stamp) (j : Journal) → good_journal j ≡ true → good_journal (risen word last t j).journal ≡ true
unfolding risen
risen_good word last t j e = rises_good t j 32 0 word last (omega arith) e

pub taken_good : (j : Journal) → good_journal j ≡ true → good_journal (taken j).journal ≡ true
unfolding taken
taken_good j e =
    let s = sound_of j e in
    let tail = drop 1 j.entries in
    pick_case (λ (a : Taken). good_journal a.journal ≡ true) (eqb j.held 0) (λ _. e)
    (λ _. good_of _
    (record {
      few = omega (arith, s.few);
      numbers =
          every_append numbered (take (j.held - 1) tail) _
          (every_take numbered (j.held - 1) tail (every_drop numbered 1 j.entries s.numbers))
          (both_hold zero_numbered (every_drop numbered j.held j.entries s.numbers));
      rest = every_beyond empty (j.held - 1) tail _ (both_hold zero_empty s.rest);
    }))
