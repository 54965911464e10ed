-- Document 01, "One scan": CP, OG, ZC, ST, in the paper's order and letters.
use Rattle.std.specs.Prelude.{Bool, true, false, not, ◌&&◌, ℕ, ℤ, ◌+ℤ◌, ◌*ℤ◌, eqb}
use Rattle.std.specs.Int.Signed.{lt_z, le_z, quot_z}
use Rattle.terms.specs.Choice.{pick}
use Rattle.terms.specs.Words.{hold_word}
use Rattle.place.specs.declared.Place.{Place}
use Rattle.place.specs.Places.{out_to, word_to}

-- two words are the same
unfoldable pub same : ℤ → ℤ → Bool
same a b = le_z a b && le_z b a

-- "CP on exactly if I is on and A (relation 0..5: =, >, >=, <, <=, <>) B."
unfoldable pub related : ℕ → ℤ → ℤ → Bool
related relation a b =
    pick (eqb relation 0) (same a b)
    (pick (eqb relation 1) (lt_z b a)
    (pick (eqb relation 2) (le_z b a)
    (pick (eqb relation 3) (lt_z a b)
    (pick (eqb relation 4) (le_z a b)
    (not (same a b))))))

unfoldable pub cp : Bool → ℕ → ℤ → ℤ → Place → Place
cp i relation a b p = out_to (i && related relation a b) p

-- "OG I on: A times X divided by B, cut toward zero, plus C, then held to the word range; on exactly if that holding changed it.
-- I off: output off, word kept."
unfoldable pub scaled : ℤ → ℤ → ℤ → ℤ → ℤ
scaled a x b c = quot_z (a *ℤ x) b +ℤ c

unfoldable pub og : Bool → ℤ → ℤ → ℤ → ℤ → Place → Place
og i a b c x p =
    pick i (word_to (not (same (hold_word (scaled a x b c)) (scaled a x b c))) (hold_word (scaled a x b c)) p) (out_to false p)

-- "ZC I on and L ≤ X ≤ H (mode 0), or I on and not that (mode 1)."
unfoldable pub zc : Bool → ℕ → ℤ → ℤ → ℤ → Place → Place
zc i mode l x h p = out_to (i && pick (eqb mode 0) (le_z l x && le_z x h) (not (le_z l x && le_z x h))) p

-- "ST I off: holds. Else X ≥ H on; else X < L off; else holds."
unfoldable pub st : Bool → ℤ → ℤ → ℤ → Place → Place
st i x h l p = out_to (pick i (pick (le_z h x) true (pick (lt_z x l) false p.out)) p.out) p
