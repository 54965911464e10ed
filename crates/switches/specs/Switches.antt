-- Document 01, "One scan": BL (but for its expression), SR, PL, AL, in the paper's order and letters.
use Rattle.std.specs.Prelude.{Bool, true, false, not, ℕ, eqb}
use Rattle.terms.specs.Choice.{pick}
use Rattle.place.specs.declared.Place.{Place}
use Rattle.place.specs.Places.{out_to, first_was, rises, falls}

-- BL: the output is the expression's value
unfoldable pub bl : Bool → Place → Place
bl value p = out_to value p

-- "SR S alone sets, R alone resets, neither holds, both: priority 0 off, 1 on."
unfoldable pub sr : Bool → Bool → ℕ → Place → Place
sr s r priority p = out_to (pick s (pick r (eqb priority 1) true) (pick r false p.out)) p

-- "PL on exactly in a scan where I rises (mode 0) or falls (1)."
unfoldable pub pl : Bool → ℕ → Place → Place
pl i mode p = out_to (pick (eqb mode 0) (rises i (first_was p)) (falls i (first_was p))) p

-- "AL C on: off. Else a rise of I inverts."
unfoldable pub al : Bool → Bool → Place → Place
al i c p = out_to (pick c false (pick (rises i (first_was p)) (not p.out) p.out)) p
