-- Worked figures about the definitions: one table. Each row is computed from the definitions alone.
use Rattle.std.specs.Prelude.{◌≡◌, ℕ, ◌<◌, List, [], ◌∷◌, map, Result, Ok, Err}
use Rattle.fields.specs.Meaning.{Meaning}
use Rattle.fields.specs.Shipped.{gf256, gf16, gf81, mod13}
use Rattle.fields.specs.Elements.{Elem, elem, elems, ops}
use Rattle.skew.specs.Values.{value_code}
use Rattle.sheets.specs.declared.faults.Fault.{Fault}
use Rattle.sheets.specs.declared.faults.Reason.TheVariants as reason
use Rattle.sheets.specs.Sheets.{Text, Spells}
use Rattle.codes.specs.declared.shape.Code.{Code}
use Rattle.codes.specs.Holdings.{held as numbers}
use Rattle.codes.specs.Codes.{word_of}
use Rattle.codes.specs.Duals.{DualLocators, syndrome}
use Rattle.codes.specs.Fitness.{at_code, Unfit, Made}
use Rattle.hints.specs.declared.not_taken.NotTaken.TheVariants as not_taken
use Rattle.hints.specs.Splittings.{Given, full_part}
use Rattle.hints.specs.Taking.{RowJudged}
use Rattle.recovery.specs.declared.outcome.Recovery.{Recovery}
use Rattle.recovery.specs.Reach.{InReach}
use Rattle.station.specs.Calls.{row, column, decode, Reply, done, at_station}
use Rattle.station.specs.Tables.{Refuses, Accepts}
use Rattle.station.specs.Positions.{held, solved, Tallied, Position, at, most_words}
use Rattle.station.specs.Refusals.{rows_of}
use Rattle.station.specs.Rules.{Answered}
use Rattle.station.specs.Histories.{History}

-- Code A: kind 4, dimension 2, four blocks of one symbol. Code B: kind 2, dimension 2, two blocks of two symbols; and B with other
-- parameters or other locators in its first block.
abbrev pub sheet_a : List ℕ
sheet_a = 4 ∷ 2 ∷ 4 ∷ 1 ∷ 1 ∷ 1 ∷ 1 ∷ 4 ∷ 1 ∷ 2 ∷ 3 ∷ 4 ∷ 4 ∷ 1 ∷ 1 ∷ 1 ∷ 1 ∷ []

abbrev pub sheet_b : List ℕ
sheet_b = 2 ∷ 2 ∷ 2 ∷ 2 ∷ 2 ∷ 2 ∷ 1 ∷ 2 ∷ 4 ∷ 1 ∷ 2 ∷ 1 ∷ 2 ∷ []

abbrev pub text_a : Text
text_a = record { dimension = 2; blocks = 1 ∷ 1 ∷ 1 ∷ 1 ∷ []; parameters = 1 ∷ 2 ∷ 3 ∷ 4 ∷ []; locators = 1 ∷ 1 ∷ 1 ∷ 1 ∷ [] }

abbrev pub text_b : List ℕ → List ℕ → Text
text_b ps xs = record { dimension = 2; blocks = 2 ∷ 2 ∷ []; parameters = ps; locators = xs }

abbrev pub points_a : List (Elem mod13 × Elem mod13)
points_a = map (λ a. (elem mod13 a, elem mod13 1)) (1 ∷ 2 ∷ 3 ∷ 4 ∷ [])

-- The hints of a block: elements as row hints, and rows of coefficients as column hints; and no hints.
abbrev pub told : (m : Meaning) → List ℕ → List (List ℕ) → Given (Elem m)
told m rows columns = record { rows = elems m rows; columns = map (elems m) columns }

abbrev pub untold : (m : Meaning) → Given (Elem m)
untold m = told m [] []

-- The codeword v is in reach of the word w, with this many errors and this full part.
abbrev pub Reaches : (m : Meaning) → Code → List (Given (Elem m)) → List ℕ → List ℕ → ℕ → List (List ℕ) → Type 0
Reaches m c gs w v t full = (r : InReach m c gs (elems m w) (elems m v)) × (r.errors ≡ t) × (full_part r.parts ≡ map (elems m) full)

-- The row hint 8 in block 1 of B, without and with the column hint (0, 1) in block 2.
abbrev pub row_hint_b : List (Given (Elem gf16))
row_hint_b = told gf16 (8 ∷ []) [] ∷ untold gf16 ∷ []

abbrev pub both_hints_b : List (Given (Elem gf16))
both_hints_b = told gf16 (8 ∷ []) [] ∷ told gf16 [] ((0 ∷ 1 ∷ []) ∷ []) ∷ []

-- Where this word of the code is held with these hints, and the tally is not full, the table of decode refuses with 14, and it is answered
-- nothing else.
abbrev pub Refused : (m : Meaning) → Code → List (Given (Elem m)) → List ℕ → Type 0
Refused m c gs w =
    (t : Tallied) → t.words < most_words
    → Refuses (rows_of m (at m (held c w gs) t) decode) (at_station reason.OutOfReach 0)
    × ((a : Result Reply Fault) (q : Position m) → Answered m (at m (held c w gs) t) decode a q → a ≡ Err (at_station reason.OutOfReach 0))

-- Or the table does not refuse, decode is done, and so is what it recovers: it has this codeword with tF full errors, and this full part.
abbrev pub Decodes : (m : Meaning) → Code → List (Given (Elem m)) → List ℕ → (Recovery → Type 0) → Type 0
Decodes m c gs w So =
    (t : Tallied) → t.words < most_words
    → Accepts (rows_of m (at m (held c w gs) t) decode)
    × ((a : Result Reply Fault) (q : Position m) → Answered m (at m (held c w gs) t) decode a q → (a ≡ Ok done) × ((r : Recovery) × (q.standing ≡ solved c gs r) × So r))

abbrev pub Gives : (m : Meaning) → Code → List (Given (Elem m)) → List ℕ → List ℕ → ℕ → Type 0
Gives m c gs w v n = Decodes m c gs w (λ r. (numbers r.codeword ≡ v) × (r.errors ≡ n))

abbrev pub GivesFull : (m : Meaning) → Code → List (Given (Elem m)) → List ℕ → List ℕ → ℕ → List ℕ → Type 0
GivesFull m c gs w v n full = Decodes m c gs w (λ r. (numbers r.codeword ≡ v) × (r.errors ≡ n) × (numbers r.parts.full ≡ full))

pub record Figures : Type 0 where
  -- kinds: 128 × 2 is 29 and 214 is fixed in kind 1; 8 × 6 is 5 and 2 twisted is 3 in kind 2; 27 × 3 is 7 and 3 twisted is 27
  -- in kind 3
  pub kind_1_product : gf256.product 128 2 ≡ 29
  pub kind_1_fixed : gf256.twist 214 ≡ 214
  pub kind_2_product : gf16.product 8 6 ≡ 5
  pub kind_2_twist : gf16.twist 2 ≡ 3
  pub kind_3_product : gf81.product 27 3 ≡ 7
  pub kind_3_twist : gf81.twist 3 ≡ 27
  -- values: at the locator 1 with the parameters 1 2 3 4 the polynomial 5 3 of kind 4 has the values 8 11 1 4; at the locators
  -- 1 2 with the parameter 1, and then 2, the polynomial 1 1 of kind 2 has the values 0 1 and 3 4
  pub kind_4_values : map (λ a. value_code mod13 (5 ∷ 3 ∷ []) a 1) (1 ∷ 2 ∷ 3 ∷ 4 ∷ []) ≡ 8 ∷ 11 ∷ 1 ∷ 4 ∷ []
  pub kind_2_values_1 : map (λ b. value_code gf16 (1 ∷ 1 ∷ []) 1 b) (1 ∷ 2 ∷ []) ≡ 0 ∷ 1 ∷ []
  pub kind_2_values_2 : map (λ b. value_code gf16 (1 ∷ 1 ∷ []) 2 b) (1 ∷ 2 ∷ []) ≡ 3 ∷ 4 ∷ []
  -- codes: the sheets A and B read as above, and nothing refuses them; A has the dual locators 1 10 3 12, and the word 8 12 1 4 the syndromes 10 7; B with the
  -- parameters 1 and 8 is refused 6 at place 7, and B with the locators 1 and 6 in block 1 is refused 7 at place 10
  pub a_spelled : Spells 4 sheet_a text_a
  pub b_spelled : Spells 2 sheet_b (text_b (1 ∷ 2 ∷ []) (1 ∷ 2 ∷ 1 ∷ 2 ∷ []))
  pub a_fit : (e : Fault) → ¬ Unfit mod13 text_a e
  pub b_fit : (e : Fault) → ¬ Unfit gf16 (text_b (1 ∷ 2 ∷ []) (1 ∷ 2 ∷ 1 ∷ 2 ∷ [])) e
  pub a_dual : DualLocators (ops mod13) points_a (elems mod13 (1 ∷ 10 ∷ 3 ∷ 12 ∷ []))
  pub a_syndromes : map (λ j. (syndrome (ops mod13) points_a (elems mod13 (1 ∷ 10 ∷ 3 ∷ 12 ∷ [])) (elems mod13 (8 ∷ 12 ∷ 1 ∷ 4 ∷ [])) j).code) (0 ∷ 1 ∷ []) ≡ 10 ∷ 7 ∷ []
  pub b_conjugate : Unfit gf16 (text_b (1 ∷ 8 ∷ []) (1 ∷ 2 ∷ 1 ∷ 2 ∷ [])) (at_code reason.Conjugate 7)
  pub b_dependent : Unfit gf16 (text_b (1 ∷ 2 ∷ []) (1 ∷ 6 ∷ 1 ∷ 2 ∷ [])) (at_code reason.Dependent 10)
  -- reach: of the code of sheet A, the message 5 3 has the word 8 11 1 4, and of that of B the message 1 1 the word 0 1 3 4; the first is in reach of 8 12 1 4 without hints, with one error
  -- and the full part 0 1 0 0
  pub a_word : (c : Code) → Made mod13 text_a c → word_of mod13 c (elems mod13 (5 ∷ 3 ∷ [])) ≡ elems mod13 (8 ∷ 11 ∷ 1 ∷ 4 ∷ [])
  pub b_word : (c : Code) → Made gf16 (text_b (1 ∷ 2 ∷ []) (1 ∷ 2 ∷ 1 ∷ 2 ∷ [])) c → word_of gf16 c (elems gf16 (1 ∷ 1 ∷ [])) ≡ elems gf16 (0 ∷ 1 ∷ 3 ∷ 4 ∷ [])
  pub a_one_error : (c : Code) → Made mod13 text_a c
      → Reaches mod13 c (untold mod13 ∷ untold mod13 ∷ untold mod13 ∷ untold mod13 ∷ []) (8 ∷ 12 ∷ 1 ∷ 4 ∷ []) (8 ∷ 11 ∷ 1 ∷ 4 ∷ []) 1 ((0 ∷ []) ∷ (1 ∷ []) ∷ (0 ∷ []) ∷ (0 ∷ []) ∷ [])
  -- no codeword is in reach of 8 12 2 4 without hints, nor with the column hint (1) in block 2
  pub a_two_errors : (c : Code) → Made mod13 text_a c → (v : List (Elem mod13))
      → ¬ InReach mod13 c (untold mod13 ∷ untold mod13 ∷ untold mod13 ∷ untold mod13 ∷ []) (elems mod13 (8 ∷ 12 ∷ 2 ∷ 4 ∷ [])) v
  pub a_one_hint : (c : Code) → Made mod13 text_a c → (v : List (Elem mod13))
      → ¬ InReach mod13 c (untold mod13 ∷ told mod13 [] ((1 ∷ []) ∷ []) ∷ untold mod13 ∷ untold mod13 ∷ []) (elems mod13 (8 ∷ 12 ∷ 2 ∷ 4 ∷ [])) v
  -- with the column hint (1) in blocks 2 and 3 the word of 5 3 is in reach of it, with no error
  pub a_two_hints : (c : Code) → Made mod13 text_a c
      → Reaches mod13 c (untold mod13 ∷ told mod13 [] ((1 ∷ []) ∷ []) ∷ told mod13 [] ((1 ∷ []) ∷ []) ∷ untold mod13 ∷ []) (8 ∷ 12 ∷ 2 ∷ 4 ∷ []) (8 ∷ 11 ∷ 1 ∷ 4 ∷ []) 0 ((0 ∷ []) ∷ (0 ∷ []) ∷ (0 ∷ []) ∷ (0 ∷ []) ∷ [])
  -- of the code of sheet B, the codeword 0 1 3 4 is in reach of 8 4 3 4 without hints, with one error and the full part 8 5 0 0; and of
  -- 8 4 3 13 with the row hint 8 in block 1 and the column hint (0, 1) in block 2, with no error; without hints 4 4 3 13 is, with one
  pub b_one_error : (c : Code) → Made gf16 (text_b (1 ∷ 2 ∷ []) (1 ∷ 2 ∷ 1 ∷ 2 ∷ [])) c → Reaches gf16 c (untold gf16 ∷ untold gf16 ∷ []) (8 ∷ 4 ∷ 3 ∷ 4 ∷ []) (0 ∷ 1 ∷ 3 ∷ 4 ∷ []) 1 ((8 ∷ 5 ∷ []) ∷ (0 ∷ 0 ∷ []) ∷ [])
  pub b_two_hints : (c : Code) → Made gf16 (text_b (1 ∷ 2 ∷ []) (1 ∷ 2 ∷ 1 ∷ 2 ∷ [])) c → Reaches gf16 c both_hints_b (8 ∷ 4 ∷ 3 ∷ 13 ∷ []) (0 ∷ 1 ∷ 3 ∷ 4 ∷ []) 0 ((0 ∷ 0 ∷ []) ∷ (0 ∷ 0 ∷ []) ∷ [])
  pub b_without_hints : (c : Code) → Made gf16 (text_b (1 ∷ 2 ∷ []) (1 ∷ 2 ∷ 1 ∷ 2 ∷ [])) c → Reaches gf16 c (untold gf16 ∷ untold gf16 ∷ []) (8 ∷ 4 ∷ 3 ∷ 13 ∷ []) (4 ∷ 4 ∷ 3 ∷ 13 ∷ []) 1 ((12 ∷ 0 ∷ []) ∷ (0 ∷ 0 ∷ []) ∷ [])
  -- hints for B: after the row hint 8 in block 1 the row hint 5 there is dependent; after both hints the row hint 1 in block 2 meets a
  -- spent budget
  pub b_dependent_hint : RowJudged gf16 (2 ∷ 2 ∷ []) 2 row_hint_b 1 5 (Err not_taken.Dependent)
  pub b_spent : RowJudged gf16 (2 ∷ 2 ∷ []) 2 both_hints_b 2 1 (Err not_taken.Spent)
  -- a station: where the word 8 4 3 13 of B is held, the row hint 8 in block 1 is taken, then 5 there is refused 12, the column hint (0, 1)
  -- in block 2 is taken, and the row hint 1 there is refused 13
  pub b_hints_called : (c : Code) → Made gf16 (text_b (1 ∷ 2 ∷ []) (1 ∷ 2 ∷ 1 ∷ 2 ∷ [])) c → (t : Tallied) (rs : List (Result Reply Fault)) (q : Position gf16)
      → History gf16 (at gf16 (held c (8 ∷ 4 ∷ 3 ∷ 13 ∷ []) (untold gf16 ∷ untold gf16 ∷ [])) t) (row 1 8 ∷ row 1 5 ∷ column 2 (0 ∷ 1 ∷ []) ∷ row 2 1 ∷ []) rs q
      → rs ≡ Ok done ∷ Err (at_station reason.DependentHint 0) ∷ Ok done ∷ Err (at_station reason.Spent 0) ∷ []
  -- where the word 8 12 2 4 of A is held, decode is refused 14 without hints, and with the column hint (1) in block 2
  pub a_two_errors_called : (c : Code) → Made mod13 text_a c
      → Refused mod13 c (untold mod13 ∷ untold mod13 ∷ untold mod13 ∷ untold mod13 ∷ []) (8 ∷ 12 ∷ 2 ∷ 4 ∷ [])
  pub a_one_hint_called : (c : Code) → Made mod13 text_a c
      → Refused mod13 c (untold mod13 ∷ told mod13 [] ((1 ∷ []) ∷ []) ∷ untold mod13 ∷ untold mod13 ∷ []) (8 ∷ 12 ∷ 2 ∷ 4 ∷ [])
  -- and it recovers as above: 8 12 1 4 without hints, 8 12 2 4 with the hints in blocks 2 and 3; in B 8 4 3 4 without hints, 8 4 3 13 with both
  -- hints and without; and without hints with the full part of above
  pub a_one_error_called : (c : Code) → Made mod13 text_a c
      → GivesFull mod13 c (untold mod13 ∷ untold mod13 ∷ untold mod13 ∷ untold mod13 ∷ []) (8 ∷ 12 ∷ 1 ∷ 4 ∷ []) (8 ∷ 11 ∷ 1 ∷ 4 ∷ []) 1 (0 ∷ 1 ∷ 0 ∷ 0 ∷ [])
  pub a_two_hints_called : (c : Code) → Made mod13 text_a c
      → Gives mod13 c (untold mod13 ∷ told mod13 [] ((1 ∷ []) ∷ []) ∷ told mod13 [] ((1 ∷ []) ∷ []) ∷ untold mod13 ∷ []) (8 ∷ 12 ∷ 2 ∷ 4 ∷ []) (8 ∷ 11 ∷ 1 ∷ 4 ∷ []) 0
  pub b_one_error_called : (c : Code) → Made gf16 (text_b (1 ∷ 2 ∷ []) (1 ∷ 2 ∷ 1 ∷ 2 ∷ [])) c → GivesFull gf16 c (untold gf16 ∷ untold gf16 ∷ []) (8 ∷ 4 ∷ 3 ∷ 4 ∷ []) (0 ∷ 1 ∷ 3 ∷ 4 ∷ []) 1 (8 ∷ 5 ∷ 0 ∷ 0 ∷ [])
  pub b_two_hints_called : (c : Code) → Made gf16 (text_b (1 ∷ 2 ∷ []) (1 ∷ 2 ∷ 1 ∷ 2 ∷ [])) c → Gives gf16 c both_hints_b (8 ∷ 4 ∷ 3 ∷ 13 ∷ []) (0 ∷ 1 ∷ 3 ∷ 4 ∷ []) 0
  pub b_without_hints_called : (c : Code) → Made gf16 (text_b (1 ∷ 2 ∷ []) (1 ∷ 2 ∷ 1 ∷ 2 ∷ [])) c → GivesFull gf16 c (untold gf16 ∷ untold gf16 ∷ []) (8 ∷ 4 ∷ 3 ∷ 13 ∷ []) (4 ∷ 4 ∷ 3 ∷ 13 ∷ []) 1 (12 ∷ 0 ∷ 0 ∷ 0 ∷ [])
