-- A test that gaps and tokens part in a table: what begins with white space or a comment is a gap alone, and white space
-- ends each token. It computes. The kinds of gaps are those that pass a test.
use Rattle.std.specs.Prelude.{ℕ, ◌+◌, ◌==◌, Bool, true, false, ◌&&◌, ◌||◌, not, List, [], ◌∷◌, map, Option, None, Some, slice_index_or}
use Rattle.std.specs.List.{list_all, list_any}
use Rattle.owl_characters.specs.Iri.{is_among}
use Rattle.owl_lexer.specs.Tables.{Table, class_in, kind_in, kind_number, state_of, step_in}

abbrev pub is_none : Option ℕ → Bool
is_none None = true
is_none (Some n) = false

-- the kind is one of a gap, or of a token

abbrev pub is_gap_kind : (ℕ → Bool) → Option ℕ → Bool
is_gap_kind gap None = false
is_gap_kind gap (Some kind) = gap kind

abbrev pub is_token_kind : (ℕ → Bool) → Option ℕ → Bool
is_token_kind gap None = false
is_token_kind gap (Some kind) = not (gap kind)

-- nothing was led to, or a state where a gap is whole
abbrev pub is_in_gap : (ℕ → Bool) → List ℕ → Option ℕ → Bool
is_in_gap gap kinds None = true
is_in_gap gap kinds (Some state) = is_gap_kind gap (kind_in kinds state)

abbrev pub row_stays : (ℕ → Bool) → List ℕ → List ℕ → Bool
row_stays gap kinds row = list_all (λ next. is_in_gap gap kinds (state_of next)) row

-- each row passes a test with the kind that is whole at its state
abbrev pub rows_pass : (Option ℕ → List ℕ → Bool) → List (List ℕ) → List ℕ → Bool
rows_pass test (row ∷ rows) (kind ∷ kinds) = test (kind_number kind) row && rows_pass test rows kinds
rows_pass test rows kinds = true

-- from a state where a gap is whole, characters lead to such states alone
abbrev pub gaps_stay : (ℕ → Bool) → List ℕ → List (List ℕ) → List ℕ → Bool
gaps_stay gap all rows kinds = rows_pass (λ kind row. not (is_gap_kind gap kind) || row_stays gap all row) rows kinds

-- from a state where a token is whole, a class leads nowhere
abbrev pub tokens_end : (ℕ → Bool) → ℕ → List (List ℕ) → List ℕ → Bool
tokens_end gap class rows kinds =
    rows_pass (λ kind row. not (is_token_kind gap kind) || is_none (state_of (slice_index_or row class 255))) rows kinds

-- space, tab, line feed and carriage return
abbrev pub spaces : List ℕ
spaces = 32 ∷ 9 ∷ 10 ∷ 13 ∷ []

-- what white space and comments begin with
abbrev pub gap_starts : List ℕ
gap_starts = 35 ∷ spaces

abbrev pub class_of : Table → ℕ → ℕ
class_of table c = class_in table.intervals table.others c

abbrev pub check_gaps : (ℕ → Bool) → Table → Bool
check_gaps gap table =
    is_none (kind_in table.kinds 0)
    && list_all (λ c. is_in_gap gap table.kinds (step_in table.rows 0 (class_of table c))) gap_starts
    && gaps_stay gap table.kinds table.rows table.kinds
    && list_all (λ c. tokens_end gap (class_of table c) table.rows table.kinds) spaces

-- A test that nothing behind a token leads to white space. The states that are loud are those from which white space may
-- come: from each other state no class of white space leads on, and others lead to states that are not loud. No token is
-- whole at a loud state. But a short string that is empty may be the beginning of long quotes: three characters alike, of
-- which two lead to a state where a token is whole, and the third may lead from there to a loud state.

-- a long quote: its character, and the states behind one and behind two of them
pub record Quote : Type 0 where
  pub character : ℕ
  pub once : ℕ
  pub twice : ℕ

-- the words that they are
abbrev pub words_of : List Quote → List (List ℕ)
words_of quotes = map (λ q. q.character ∷ q.character ∷ q.character ∷ []) quotes

-- each class that leads on from a state of these rows passes a test with the states

abbrev pub passes_next : (ℕ → Bool) → Option ℕ → Bool
passes_next test None = true
passes_next test (Some next) = test next

abbrev pub row_leads : (ℕ → ℕ → Bool) → ℕ → List ℕ → Bool
row_leads test class [] = true
row_leads test class (next ∷ row) = passes_next (test class) (state_of next) && row_leads test (class + 1) row

abbrev pub rows_lead : (ℕ → ℕ → ℕ → Bool) → ℕ → List (List ℕ) → Bool
rows_lead test state [] = true
rows_lead test state (row ∷ rows) = row_leads (test state) 0 row && rows_lead test (state + 1) rows

abbrev pub is_quiet : List ℕ → Option ℕ → Bool
is_quiet loud None = true
is_quiet loud (Some state) = not (is_among loud state)

-- the class is that of the third character of a long quote behind two of them
abbrev pub is_third : Table → List Quote → ℕ → ℕ → Bool
is_third table quotes state class = list_any (λ q. (q.twice == state) && (class_of table q.character == class)) quotes

abbrev pub space_classes : Table → List ℕ
space_classes table = class_of table 32 ∷ class_of table 9 ∷ class_of table 10 ∷ class_of table 13 ∷ []

abbrev pub leads_quietly : List ℕ → List Quote → Table → ℕ → ℕ → ℕ → Bool
leads_quietly loud quotes table state class next =
    is_among loud state || ((not (is_among loud next) && not (is_among (space_classes table) class)) || is_third table quotes state class)

abbrev pub tokens_are_quiet : (ℕ → Bool) → List ℕ → ℕ → List ℕ → Bool
tokens_are_quiet gap loud first [] = true
tokens_are_quiet gap loud first (kind ∷ kinds) =
    (not (is_token_kind gap (kind_number kind)) || not (is_among loud first)) && tokens_are_quiet gap loud (first + 1) kinds

-- a class has this character alone, among those from the first one on
abbrev pub is_alone : ℕ → List (ℕ × ℕ) → ℕ → ℕ → ℕ → Bool
is_alone first [] others class c = not (others == class)
is_alone first (interval ∷ intervals) others class c =
    (not (interval.1 == class) || ((first == c) && (interval.0 == c))) && is_alone (interval.0 + 1) intervals others class c

-- only the character leads to the states behind one and behind two of it, to the second from the first
abbrev pub is_quote : Table → Quote → Bool
is_quote table q =
    not (q.once == 0) && not (q.twice == 0) && is_alone 0 table.intervals table.others (class_of table q.character) q.character
    && rows_lead (λ state class next. not (next == q.once) || (class_of table q.character == class)) 0 table.rows
    && rows_lead (λ state class next. not (next == q.twice) || ((q.once == state) && (class_of table q.character == class))) 0 table.rows

abbrev pub check_quiet : (ℕ → Bool) → List ℕ → List Quote → Table → Bool
check_quiet gap loud quotes table =
    rows_lead (leads_quietly loud quotes table) 0 table.rows && tokens_are_quiet gap loud 0 table.kinds && list_all (is_quote table) quotes
