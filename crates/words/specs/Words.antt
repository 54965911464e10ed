-- Request L4, "Whole programs as a listing": the words of a listing, each by a number (ours). A text is a list of bytes, in ASCII.
use Rattle.std.specs.Prelude.{ℕ, ◌+◌, List, [], ◌∷◌, get_or}

-- "fields by name": document 01's words for them
abbrev pub name_s : ℕ
name_s = 0

abbrev pub name_r : ℕ
name_r = 1

abbrev pub name_priority : ℕ
name_priority = 2

abbrev pub name_i : ℕ
name_i = 3

abbrev pub name_mode : ℕ
name_mode = 4

abbrev pub name_c : ℕ
name_c = 5

abbrev pub name_unit : ℕ
name_unit = 6

abbrev pub name_on : ℕ
name_on = 7

abbrev pub name_off : ℕ
name_off = 8

abbrev pub name_time : ℕ
name_time = 9

abbrev pub name_preset : ℕ
name_preset = 10

abbrev pub name_u : ℕ
name_u = 11

abbrev pub name_d : ℕ
name_d = 12

abbrev pub name_p : ℕ
name_p = 13

abbrev pub name_relation : ℕ
name_relation = 14

abbrev pub name_a : ℕ
name_a = 15

abbrev pub name_b : ℕ
name_b = 16

abbrev pub name_x : ℕ
name_x = 17

abbrev pub name_l : ℕ
name_l = 18

abbrev pub name_h : ℕ
name_h = 19

-- "then the alarms"
abbrev pub alarms : ℕ
alarms = 20

-- "one line a block with kind": the letters of a kind
abbrev pub letters_of : ℕ → ℕ
letters_of kind = 21 + kind

-- how many words there are
abbrev pub word_count : ℕ
word_count = 34

abbrev pub words : List (List ℕ)
words =
    -- S
    (83 ∷ [])
    -- R
    ∷ (82 ∷ [])
    -- PRIORITY
    ∷ (80 ∷ 82 ∷ 73 ∷ 79 ∷ 82 ∷ 73 ∷ 84 ∷ 89 ∷ [])
    -- I
    ∷ (73 ∷ [])
    -- MODE
    ∷ (77 ∷ 79 ∷ 68 ∷ 69 ∷ [])
    -- C
    ∷ (67 ∷ [])
    -- UNIT
    ∷ (85 ∷ 78 ∷ 73 ∷ 84 ∷ [])
    -- ON
    ∷ (79 ∷ 78 ∷ [])
    -- OFF
    ∷ (79 ∷ 70 ∷ 70 ∷ [])
    -- TIME
    ∷ (84 ∷ 73 ∷ 77 ∷ 69 ∷ [])
    -- PRESET
    ∷ (80 ∷ 82 ∷ 69 ∷ 83 ∷ 69 ∷ 84 ∷ [])
    -- U
    ∷ (85 ∷ [])
    -- D
    ∷ (68 ∷ [])
    -- P
    ∷ (80 ∷ [])
    -- RELATION
    ∷ (82 ∷ 69 ∷ 76 ∷ 65 ∷ 84 ∷ 73 ∷ 79 ∷ 78 ∷ [])
    -- A
    ∷ (65 ∷ [])
    -- B
    ∷ (66 ∷ [])
    -- X
    ∷ (88 ∷ [])
    -- L
    ∷ (76 ∷ [])
    -- H
    ∷ (72 ∷ [])
    -- ALARMS
    ∷ (65 ∷ 76 ∷ 65 ∷ 82 ∷ 77 ∷ 83 ∷ [])
    -- BL
    ∷ (66 ∷ 76 ∷ [])
    -- SR
    ∷ (83 ∷ 82 ∷ [])
    -- PL
    ∷ (80 ∷ 76 ∷ [])
    -- AL
    ∷ (65 ∷ 76 ∷ [])
    -- DL
    ∷ (68 ∷ 76 ∷ [])
    -- OS
    ∷ (79 ∷ 83 ∷ [])
    -- FL
    ∷ (70 ∷ 76 ∷ [])
    -- CN
    ∷ (67 ∷ 78 ∷ [])
    -- UD
    ∷ (85 ∷ 68 ∷ [])
    -- CP
    ∷ (67 ∷ 80 ∷ [])
    -- OG
    ∷ (79 ∷ 71 ∷ [])
    -- ZC
    ∷ (90 ∷ 67 ∷ [])
    -- ST
    ∷ (83 ∷ 84 ∷ [])
    ∷ []

unfoldable pub word_text : ℕ → List ℕ
word_text w = get_or words w []
