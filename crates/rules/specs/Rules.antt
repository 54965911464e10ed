-- Document 01, "One scan": what a block does in its turn, by the values of its references.
use Rattle.std.specs.Prelude.{Bool, false, List, [], ◌∷◌, ℕ, ◌+◌, ℤ, pos, get_or}
use Rattle.terms.specs.Words.{signed, constant_of}
use Rattle.numbers.specs.Blocks.{Bit, Word, analog, word_of, constant, Content, bit, word, number, tree, Block}
use Rattle.numbers.specs.Types.{setting_of}
use Rattle.expression.specs.Expression.{value, steps}
use Rattle.place.specs.declared.Place.{Place}
use Rattle.terms.specs.Bits.{packed}
use Rattle.place.specs.Places.{pinned}
use Rattle.switches.specs.Switches.{bl, sr, pl, al}
use Rattle.timers.specs.Timers.{dl, os, fl}
use Rattle.counters.specs.Counters.{cn, ud}
use Rattle.analog.specs.Analog.{cp, og, zc, st}

-- what stands in field i of a row
abbrev pub field_of : List Content → ℕ → Content
field_of cs i = get_or cs i (number 0)

-- the value at a field, where bit references read as f and word references as g; an expression is BL's one pin
abbrev pub pin_of : (Bit → Bool) → Content → Bool
pin_of f (bit b) = f b
pin_of f (word w) = false
pin_of f (number n) = false
pin_of f (tree t) = value f t

abbrev pub word_of_field : (Word → ℤ) → Content → ℤ
word_of_field g (bit b) = pos 0
word_of_field g (word w) = g w
word_of_field g (number n) = pos 0
word_of_field g (tree t) = pos 0

-- A rule for each kind, from the values at its fields, by their place in the row, the elapsed ticks and the old place to the new one.
abbrev pub Rule : Type 0
Rule = (ℕ → Bool) → (ℕ → ℤ) → (ℕ → ℕ) → ℕ → Place → Place

-- "Every kind but BL then stores its bit pins in field order (first lowest) as last pins, other bits zero, whether or not it was cleared."
abbrev pub stores : List Bool → Place → Place
stores pins p = pinned (packed pins) p

-- the letters of each kind, in the order of the table of kinds
abbrev pub rules : List Rule
rules =
    -- 0 BL: expression
    (λ pin word set e p. bl (pin 0) p)
    -- 1 SR: S, R, priority
    ∷ (λ pin word set e p. stores (pin 0 ∷ pin 1 ∷ []) (sr (pin 0) (pin 1) (set 2) p))
    -- 2 PL: I, mode
    ∷ (λ pin word set e p. stores (pin 0 ∷ []) (pl (pin 0) (set 1) p))
    -- 3 AL: I, C
    ∷ (λ pin word set e p. stores (pin 0 ∷ pin 1 ∷ []) (al (pin 0) (pin 1) p))
    -- 4 DL: I, C, unit, on, off
    ∷ (λ pin word set e p. stores (pin 0 ∷ pin 1 ∷ []) (dl (pin 0) (pin 1) (set 2) (set 3) (set 4) e p))
    -- 5 OS: I, C, unit, time
    ∷ (λ pin word set e p. stores (pin 0 ∷ pin 1 ∷ []) (os (pin 0) (pin 1) (set 2) (set 3) e p))
    -- 6 FL: I, unit, on, off
    ∷ (λ pin word set e p. stores (pin 0 ∷ []) (fl (pin 0) (set 1) (set 2) (set 3) e p))
    -- 7 CN: I, C, preset
    ∷ (λ pin word set e p. stores (pin 0 ∷ pin 1 ∷ []) (cn (pin 0) (pin 1) (pos (set 2)) p))
    -- 8 UD: U, D, P, C, preset ±
    ∷ (λ pin word set e p. stores (pin 0 ∷ pin 1 ∷ pin 2 ∷ pin 3 ∷ []) (ud (pin 0) (pin 1) (pin 2) (pin 3) (signed (set 4)) p))
    -- 9 CP: I, relation, words A, B
    ∷ (λ pin word set e p. stores (pin 0 ∷ []) (cp (pin 0) (set 1) (word 2) (word 3) p))
    -- 10 OG: I, A ±, B ±, C ±, word X
    ∷ (λ pin word set e p. stores (pin 0 ∷ []) (og (pin 0) (signed (set 1)) (signed (set 2)) (signed (set 3)) (word 4) p))
    -- 11 ZC: I, mode, words L, X, H
    ∷ (λ pin word set e p. stores (pin 0 ∷ []) (zc (pin 0) (set 1) (word 2) (word 3) (word 4) p))
    -- 12 ST: I, words X, H, L
    ∷ (λ pin word set e p. stores (pin 0 ∷ []) (st (pin 0) (word 1) (word 2) (word 3) p))
    ∷ []

unfoldable pub rule_of : ℕ → Rule
rule_of kind = get_or rules kind (λ pin word set e p. p)

-- the new place of a block whose old place is p
unfoldable pub ruled : (Bit → Bool) → (Word → ℤ) → ℕ → Block → Place → Place
ruled f g e b p =
    rule_of b.kind (λ i. pin_of f (field_of b.fields i)) (λ i. word_of_field g (field_of b.fields i))
    (λ i. setting_of (field_of b.fields i)) e p

-- "Steps are the nodes visited; every other block is 1."
abbrev pub steps_of : (Bit → Bool) → List Content → ℕ
steps_of f [] = 1
steps_of f (bit b ∷ cs) = 1
steps_of f (word w ∷ cs) = 1
steps_of f (number n ∷ cs) = 1
steps_of f (tree t ∷ cs) = steps f t

-- A list that has at each number below 208 what the word reference of that number reads as (ours): 8 analog words, 200 words.
abbrev pub word_in : List ℤ → Word → ℤ
word_in l (analog i) = get_or l i (pos 0)
word_in l (word_of k) = get_or l (k + 8) (pos 0)
word_in l (constant n) = constant_of n
