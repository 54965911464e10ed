-- Request L4, "Whole programs as a listing": what export and import answer, and what the lent buffer holds then.
use Rattle.std.specs.Prelude.{ℕ, List, length, ltb}
use Rattle.std.proofs.lemmas.List.Edits.{sets}
use Rattle.terms.specs.Choice.{pick}
use Rattle.terms.specs.Refusals.{short_buffer}
use Rattle.exchange.specs.declared.Exchange.{Exchange}

-- "Refusals": refused, the length is 0 (ours)
abbrev pub refused : ℕ → ℕ → Exchange
refused n at = record { refusal = n; place = at; length = 0 }

-- no refusal is number 0 at place 0
abbrev pub done : ℕ → Exchange
done n = record { refusal = 0; place = 0; length = n }

-- "last 12 at 0, the lent buffer is shorter than the exact result, and nothing is written": bytes x that are to be handed over in the buffer l
unfoldable pub handed : List ℕ → List ℕ → Exchange
handed x l = pick (ltb (length l) (length x)) (refused short_buffer 0) (done (length x))

-- the buffer then: the result stands at its front, and the rest is as it was
unfoldable pub filled : List ℕ → List ℕ → List ℕ
filled x l = pick (ltb (length l) (length x)) l (sets l 0 x)
