-- "Places beyond the program stay the same": so the columns that a scan stores are those of all places after it. Assumes nothing.
use Prim.Native.Nat.{ℕ, zero, suc, ◌≤◌}
use mathlib.Core.Path.{◌≡◌, refl, sym, ap, ◌∙◌}
use mathlib.Core.List.{List, map}
use native.Mathlib.Omega.{arith}
use lib.ListN.{drop, take-append-drop}
use lib.Seq.{drop-set-lt}
use Rattle.numbers.specs.Blocks.{Block}
use Rattle.place.specs.declared.Place.{Place}
use Rattle.image.specs.Image.{ticks_of, word_of_place, pins_of, output_of, columns_of}
use Rattle.copies.specs.Copies.{over}
use Rattle.scanning.specs.Scan.{Inputs, scan_to}
use Rattle.scanning.specs.Loading.{stored_in}
use Rattle.scanning.proofs.FirstPlaces.{drop_map}

module _ (x : Inputs) (bs : List Block) (ps : List Place) where
  beyond : (n m : ℕ) → m ≤ n → drop n (scan_to x bs m ps) ≡ drop n ps
  unfolding scan_to
  beyond n zero h = refl
  beyond n (suc m) h = drop-set-lt n (scan_to x bs m ps) m _ (omega arith) ∙ beyond n m (omega arith)

  -- of any number of each place
  column : {A : Type 0} (f : Place → A) (n : ℕ) → over n (map f (scan_to x bs n ps)) (map f ps) ≡ map f (scan_to x bs n ps)
  column f n =
      let e : drop n (map f ps) ≡ drop n (map f (scan_to x bs n ps)) =
      drop_map f n ps ∙ ap (map f) (sym (beyond n n (omega arith))) ∙ sym (drop_map f n (scan_to x bs n ps)) in
      rw e (take-append-drop n (map f (scan_to x bs n ps)))

  pub stored_all_lem : (n : ℕ) → stored_in n (scan_to x bs n ps) (columns_of ps) ≡ columns_of (scan_to x bs n ps)
  stored_all_lem n = rw (column ticks_of n, column word_of_place n, column pins_of n, column output_of n)
