-- Document 01, "Program bytes": the table of kinds, and the memory, step figure and mark of a block.
use Rattle.std.specs.Prelude.{List, [], ◌∷◌, Bool, true, false, ℕ, suc, ◌+◌, get_or, eqb}
use Rattle.terms.specs.Choice.{pick}
use Rattle.words.specs.Words.{name_s, name_r, name_priority, name_i, name_mode, name_c, name_unit, name_on, name_off, name_time, name_preset, name_u, name_d, name_p, name_relation, name_a, name_b, name_x, name_l, name_h, word_count}
use Rattle.numbers.specs.Blocks.{Block, nodes_in}
use Rattle.numbers.specs.Types.{pin, word_pin, plus_minus, time, unit, either_way, relation, divisor, off_time, number_types}

-- an expression is no number but a tree of nodes
abbrev pub expression : ℕ
expression = number_types

-- no field (ours): what a row is said to have past its end
abbrev pub nothing : ℕ
nothing = suc expression

-- The table of kinds: fields, memory (of a BL without its nodes), and whether there is a word output.
pub record Kind : Type 0 where
  pub types : List ℕ
  pub memory : ℕ
  pub has_word : Bool

abbrev pub kind : List ℕ → ℕ → Bool → Kind
kind ts m w = record { types = ts; memory = m; has_word = w }

abbrev pub kinds : List Kind
kinds =
    -- 0 BL: expression
    kind (expression ∷ []) 10 false
    -- 1 SR: S, R, priority 0/1
    ∷ kind (pin ∷ pin ∷ either_way ∷ []) 14 false
    -- 2 PL: I, mode 0/1
    ∷ kind (pin ∷ either_way ∷ []) 10 false
    -- 3 AL: I, C
    ∷ kind (pin ∷ pin ∷ []) 13 false
    -- 4 DL: I, C, unit, on, off
    ∷ kind (pin ∷ pin ∷ unit ∷ time ∷ time ∷ []) 19 false
    -- 5 OS: I, C, unit, time
    ∷ kind (pin ∷ pin ∷ unit ∷ time ∷ []) 17 false
    -- 6 FL: I, unit, on, off
    ∷ kind (pin ∷ unit ∷ time ∷ off_time ∷ []) 19 false
    -- 7 CN: I, C, preset
    ∷ kind (pin ∷ pin ∷ time ∷ []) 16 true
    -- 8 UD: U, D, P, C, preset ±
    ∷ kind (pin ∷ pin ∷ pin ∷ pin ∷ plus_minus ∷ []) 22 true
    -- 9 CP: I, relation 0..5, words A, B
    ∷ kind (pin ∷ relation ∷ word_pin ∷ word_pin ∷ []) 17 false
    -- 10 OG: I, A ±, B ±, C ±, word X
    ∷ kind (pin ∷ plus_minus ∷ divisor ∷ plus_minus ∷ word_pin ∷ []) 22 true
    -- 11 ZC: I, mode 0/1, words L, X, H
    ∷ kind (pin ∷ either_way ∷ word_pin ∷ word_pin ∷ word_pin ∷ []) 20 false
    -- 12 ST: I, words X, H, L
    ∷ kind (pin ∷ word_pin ∷ word_pin ∷ word_pin ∷ []) 19 false
    ∷ []

unfoldable pub kind_of : ℕ → Kind
kind_of k = get_or kinds k (kind [] 0 false)

abbrev pub types_of : ℕ → List ℕ
types_of k = (kind_of k).types

-- "memory over 5,000" is refused
abbrev pub memory_limit : ℕ
memory_limit = 5000

-- "memory": BL is 10 + nodes
abbrev pub memory_of : Block → ℕ
memory_of b = (kind_of b.kind).memory + nodes_in b.fields

-- "step figure (BL nodes, 1 per other block)": only a BL has nodes
unfoldable pub figure_for : ℕ → ℕ
figure_for n = pick (eqb n 0) 1 n

abbrev pub figure_of : Block → ℕ
figure_of b = figure_for (nodes_in b.fields)

-- the mark of a block that is in the program, by its kind: 1, or 2 where it has a word
unfoldable pub mark_for : ℕ → ℕ
mark_for k = pick (kind_of k).has_word 2 1

abbrev pub mark_of : Block → ℕ
mark_of b = mark_for b.kind

-- what a field that is left out of a listing is read as (request L4)
pub data LeftOut : Type 0 where
  never : LeftOut
  reads : ℕ → LeftOut

pub record Field : Type 0 where
  pub name : ℕ
  pub type : ℕ
  pub left_out_as : LeftOut

-- L4: "A bit pin left out is read as off."
abbrev pub bit_pin : ℕ → Field
bit_pin n = record { name = n; type = pin; left_out_as = reads 0 }

-- any other field must be there
abbrev pub field : ℕ → ℕ → Field
field n ty = record { name = n; type = ty; left_out_as = never }

-- an expression stands in a listing without a name
abbrev pub bare_field : ℕ → Field
bare_field ty = field word_count ty

abbrev pub types_in : List Field → List ℕ
types_in [] = []
types_in (f ∷ fs) = f.type ∷ types_in fs

-- the names of the fields in a listing, and how one left out is read, in the order of the table of kinds (request L4)
abbrev pub listed_fields : List (List Field)
listed_fields =
    -- 0 BL
    (bare_field expression ∷ [])
    -- 1 SR
    ∷ (bit_pin name_s ∷ bit_pin name_r ∷ field name_priority either_way ∷ [])
    -- 2 PL
    ∷ (bit_pin name_i ∷ field name_mode either_way ∷ [])
    -- 3 AL
    ∷ (bit_pin name_i ∷ bit_pin name_c ∷ [])
    -- 4 DL
    ∷ (bit_pin name_i ∷ bit_pin name_c ∷ field name_unit unit ∷ field name_on time ∷ field name_off time ∷ [])
    -- 5 OS
    ∷ (bit_pin name_i ∷ bit_pin name_c ∷ field name_unit unit ∷ field name_time time ∷ [])
    -- 6 FL
    ∷ (bit_pin name_i ∷ field name_unit unit ∷ field name_on time ∷ field name_off off_time ∷ [])
    -- 7 CN
    ∷ (bit_pin name_i ∷ bit_pin name_c ∷ field name_preset time ∷ [])
    -- 8 UD
    ∷ (bit_pin name_u ∷ bit_pin name_d ∷ bit_pin name_p ∷ bit_pin name_c ∷ field name_preset plus_minus ∷ [])
    -- 9 CP
    ∷ (bit_pin name_i ∷ field name_relation relation ∷ field name_a word_pin ∷ field name_b word_pin ∷ [])
    -- 10 OG
    ∷ (bit_pin name_i ∷ field name_a plus_minus ∷ field name_b divisor ∷ field name_c plus_minus ∷ field name_x word_pin ∷ [])
    -- 11 ZC
    ∷ (bit_pin name_i ∷ field name_mode either_way ∷ field name_l word_pin ∷ field name_x word_pin ∷ field name_h word_pin ∷ [])
    -- 12 ST
    ∷ (bit_pin name_i ∷ field name_x word_pin ∷ field name_h word_pin ∷ field name_l word_pin ∷ [])
    ∷ []

unfoldable pub fields_of : ℕ → List Field
fields_of k = get_or listed_fields k []
