-- Document 01, "Examples", as requests have changed them: P1 to P13, one table under one claim, over the definitions that the calls' contracts cite.
use Rattle.std.specs.Prelude.{Bool, true, false, List, [], ◌∷◌, ◌++◌, ◌≡◌, ℕ, ◌+◌, ◌-◌, ℤ, pos, negsuc, replicate}
use Rattle.wire.specs.Number.{groups_of}
use Rattle.program.specs.declared.Acceptance.{Acceptance}
use Rattle.program.specs.Acceptance.{refused, granted, accepted}
use Rattle.image.specs.declared.State.{State}
use Rattle.image.specs.State.{fresh_state}
use Rattle.scanning.specs.Scan.{Inputs, place_of}
use Rattle.calls.specs.Calls.{scan_of}

-- what is seen of a scan: the output and the word of block 0, and the steps
pub record Seen : Type 0 where
  pub out : Bool
  pub word : ℤ
  pub steps : ℕ

abbrev pub seen : Bool → ℤ → ℕ → Seen
seen o w n = record { out = o; word = w; steps = n }

-- what is seen of scans with states handed on
unfoldable pub seen_in : List ℕ → State → List Inputs → List Seen
seen_in program s [] = []
seen_in program s (x ∷ xs) =
    let a = scan_of program x s in
    seen (place_of a.state.places 0).out (place_of a.state.places 0).word a.steps ∷ seen_in program a.state xs

-- an example: a program and the answer of its acceptance, or a program, scans from fresh and what is seen of them
pub data Example : Type 0 where
  accepting : List ℕ → Acceptance → Example
  running : List ℕ → List Inputs → List Seen → Example

abbrev pub Shown : Example → Type 0
Shown (accepting program a) = accepted program ≡ a
Shown (running program xs l) = seen_in program fresh_state xs ≡ l

abbrev pub AllShown : List Example → Type 0
AllShown [] = Unit {0}
AllShown (e ∷ es) = Shown e × AllShown es

-- a program written as its numbers
abbrev pub numbers : List ℕ → List ℕ
numbers [] = []
numbers (v ∷ vs) = groups_of 3 v ++ numbers vs

-- a scan: elapsed ticks, input bits and the first word
abbrev pub after : ℕ → ℕ → ℤ → Inputs
after e bits w = record { elapsed = e; bits = bits; words = w ∷ replicate 7 (pos 0) }

-- `01 07 02 00 02 01`, and the last byte
abbrev pub p1 : List ℕ → List ℕ
p1 last = 0x01 ∷ 0x07 ∷ 0x02 ∷ 0x00 ∷ 0x02 ∷ 0x01 ∷ last

abbrev pub examples : List Example
examples =
    -- P1 `01 07 02 00 02 01 22`: accepted, memory 16, steps 1.
    accepting (p1 (0x22 ∷ [])) (granted 16 1)
    -- P2 no bytes: 8 at 0 (L2).
    ∷ accepting [] (refused 8 0)
    -- P3 `00`: 2 at 0.
    ∷ accepting (0x00 ∷ []) (refused 2 0)
    -- P4 `81 00`: 1 at 0.
    ∷ accepting (0x81 ∷ 0x00 ∷ []) (refused 1 0)
    -- P5 P1 and `00`: 2 at 7.
    ∷ accepting (p1 (0x22 ∷ 0x00 ∷ [])) (refused 2 7)
    -- P6 P1 ending `23`: 3 at 6.
    ∷ accepting (p1 (0x23 ∷ [])) (refused 3 6)
    -- P7 P1 without its last byte: 8 at 6 (L2).
    ∷ accepting (p1 []) (refused 8 6)
    -- P8 AND(off, XOR(on, on)): off, 2 steps.
    ∷ running (numbers (1 ∷ 0 ∷ 1 ∷ (6 + 0) ∷ 3 ∷ (6 + 1) ∷ (6 + 1) ∷ 0 ∷ [])) (after 0 0 (pos 0) ∷ []) (seen false (pos 0) 2 ∷ [])
    -- P9 DL on 50, unit 0, I on, E 20: on in the fourth scan (L3).
    ∷ running (numbers (1 ∷ 4 ∷ 1 ∷ 0 ∷ 0 ∷ 50 ∷ 0 ∷ 0 ∷ [])) (replicate 4 (after 20 0 (pos 0)))
    (seen false (pos 0) 1 ∷ seen false (pos 0) 1 ∷ seen false (pos 0) 1 ∷ seen true (pos 0) 1 ∷ [])
    -- P10 FL on 3, off 2, I on, E 4: on, off, off, on.
    ∷ running (numbers (1 ∷ 6 ∷ 1 ∷ 0 ∷ 3 ∷ 2 ∷ 0 ∷ [])) (replicate 4 (after 4 0 (pos 0)))
    (seen true (pos 0) 1 ∷ seen false (pos 0) 1 ∷ seen false (pos 0) 1 ∷ seen true (pos 0) 1 ∷ [])
    -- P11 OG −7, 2, 0, X 1: −3.
    ∷ running (numbers (1 ∷ 10 ∷ 1 ∷ (32768 - 7) ∷ (32768 + 2) ∷ (32768 + 0) ∷ (33768 + 1) ∷ 0 ∷ [])) (after 0 0 (pos 0) ∷ [])
    (seen false (negsuc 2) 1 ∷ [])
    -- P12 UD at 32767, U and D both rise: 32767. The preset, by P, brings it there first.
    ∷ running (numbers (1 ∷ 8 ∷ 2 ∷ 3 ∷ 4 ∷ 0 ∷ (32768 + 32767) ∷ 0 ∷ [])) (after 0 4 (pos 0) ∷ after 0 3 (pos 0) ∷ [])
    (seen true (pos 32767) 1 ∷ seen true (pos 32767) 1 ∷ [])
    -- P13 ST H 10, L 4, X 10, 4, 3, 9: on, on, off, off.
    ∷ running (numbers (1 ∷ 12 ∷ 1 ∷ 0 ∷ (33768 + 10) ∷ (33768 + 4) ∷ 0 ∷ []))
    (after 0 0 (pos 10) ∷ after 0 0 (pos 4) ∷ after 0 0 (pos 3) ∷ after 0 0 (pos 9) ∷ [])
    (seen true (pos 0) 1 ∷ seen true (pos 0) 1 ∷ seen false (pos 0) 1 ∷ seen false (pos 0) 1 ∷ [])
    ∷ []
