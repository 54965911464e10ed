-- Document 01, "One scan": CN, UD, in the paper's order and letters.
use Rattle.std.specs.Prelude.{Bool, ℤ, pos, negsuc, ◌+ℤ◌}
use Rattle.std.specs.Bool.{beq}
use Rattle.std.specs.Int.Signed.{le_z}
use Rattle.terms.specs.Choice.{pick}
use Rattle.terms.specs.Words.{hold_word}
use Rattle.place.specs.declared.Place.{Place}
use Rattle.place.specs.Places.{word_to, first_was, second_was, rises}

-- "CN C on: 0. Else a rise adds 1, stopping at 32,767. On exactly if word ≥ preset."
unfoldable pub cn_word : Bool → Bool → Place → ℤ
cn_word i c p = pick c (pos 0) (pick (rises i (first_was p)) (hold_word (p.word +ℤ pos 1)) p.word)

unfoldable pub cn : Bool → Bool → ℤ → Place → Place
cn i c preset p = word_to (le_z preset (cn_word i c p)) (cn_word i c p) p

-- "UD C on: 0; else P on: preset; else U rising alone +1, D rising alone −1, both nothing; stops at −32768 and 32767. On if word ≥ preset."
unfoldable pub ud_word : Bool → Bool → Bool → Bool → ℤ → Place → ℤ
ud_word u d set c preset p =
    pick c (pos 0)
    (pick set preset
    (pick (beq (rises u (first_was p)) (rises d (second_was p))) p.word
    (pick (rises u (first_was p)) (hold_word (p.word +ℤ pos 1)) (hold_word (p.word +ℤ negsuc 0)))))

unfoldable pub ud : Bool → Bool → Bool → Bool → ℤ → Place → Place
ud u d set c preset p = word_to (le_z preset (ud_word u d set c preset p)) (ud_word u d set c preset p) p
