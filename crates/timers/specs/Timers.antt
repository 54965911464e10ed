-- Document 01, "One scan": DL with request L3, OS, FL, in the paper's order and letters.
use Rattle.std.specs.Prelude.{Bool, true, false, ℕ, ◌+◌, ◌*◌, ◌%◌, leb, ltb, eqb}
use Rattle.terms.specs.Choice.{pick}
use Rattle.place.specs.declared.Place.{Place}
use Rattle.place.specs.Places.{timed_to, first_was, rises, differs, either_differs}

-- "Unit: 0, 1, 2 for 1, 10, 100 ticks"; "each time is multiplied by its unit"
unfoldable pub ticks_in : ℕ → ℕ → ℕ
ticks_in unit time = time * pick (eqb unit 0) 1 (pick (eqb unit 1) 10 100)

-- "DL C on: off, ticks 0. Else if I differs from the output, ticks grow by E, and on reaching the on time (I on) or off time (I off) the output
-- follows I and ticks are 0. Else ticks 0." In place of its last sentence, "E counts in full in the scan of the change too.", stands L3: "In DL, in a
-- scan where I or C differs from its last pin, ticks become 0 and grow by nothing; a time of 0 still switches at once." (Ticks of 0 reach it.)
unfoldable pub dl_ticks : Bool → Bool → ℕ → Place → ℕ
dl_ticks i c e p = pick (either_differs i c p) 0 (p.ticks + e)

unfoldable pub dl : Bool → Bool → ℕ → ℕ → ℕ → ℕ → Place → Place
dl i c unit on off e p =
    pick c (timed_to false 0 p)
    (pick (differs i p.out)
    (pick (leb (ticks_in unit (pick i on off)) (dl_ticks i c e p)) (timed_to i 0 p) (timed_to p.out (dl_ticks i c e p) p))
    (timed_to p.out 0 p))

-- "OS C on: off, ticks 0. Else if output on: ticks + E; on reaching the time off, ticks 0. Else a rise of I turns it on, ticks 0;
-- no rise: off, ticks 0. A rise while on is lost."
unfoldable pub os : Bool → Bool → ℕ → ℕ → ℕ → Place → Place
os i c unit time e p =
    pick c (timed_to false 0 p)
    (pick p.out
    (pick (leb (ticks_in unit time) (p.ticks + e)) (timed_to false 0 p) (timed_to true (p.ticks + e) p))
    (timed_to (rises i (first_was p)) 0 p))

-- "FL I off: off, ticks 0. I rises: ticks 0. Else ticks are (ticks + E) modulo (on + off). With I on, the output is on exactly if ticks < on."
unfoldable pub fl_ticks : Bool → ℕ → ℕ → ℕ → ℕ → Place → ℕ
fl_ticks i unit on off e p = pick (rises i (first_was p)) 0 ((p.ticks + e) % (ticks_in unit on + ticks_in unit off))

unfoldable pub fl : Bool → ℕ → ℕ → ℕ → ℕ → Place → Place
fl i unit on off e p =
    pick i (timed_to (ltb (fl_ticks i unit on off e p) (ticks_in unit on)) (fl_ticks i unit on off e p) p) (timed_to false 0 p)
