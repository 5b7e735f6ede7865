-- A test that a table is the automaton of a grammar, over partial derivatives. It computes.
use Rattle.std.specs.Prelude.{ℕ, ◌+◌, ◌==◌, nat_lt, nat_le, Bool, true, false, ◌&&◌, ◌||◌, not, List, [], ◌∷◌, ◌++◌, length, Option, None, Some, if◌then◌else◌, slice_index_or}
use Rattle.owl_lexer.specs.Grammars.{CharacterSet, Grammar, Terminal, has}
use Rattle.owl_lexer.specs.Grammars.CharacterSet.{inside, outside}
use Rattle.owl_lexer.specs.Patterns.{Pattern}
use Rattle.owl_lexer.specs.Patterns.Pattern.{empty, one, both, either, many}
use Rattle.owl_lexer.proofs.Rests.{is_nullable, rests}
use Rattle.owl_lexer.specs.Tables.{Table, kind_number, state_of}

-- How a table came about: for each class a character of it, and for each state but the first an earlier state and a class
-- that lead to it.
pub record Origin : Type 0 where
  pub characters : List ℕ
  pub parents : List (ℕ × ℕ)

-- terminals as sets

abbrev pub is_pattern : Pattern → Pattern → Bool
is_pattern empty empty = true
is_pattern (one m) (one n) = m == n
is_pattern (both p q) (both a b) = is_pattern p a && is_pattern q b
is_pattern (either p q) (either a b) = is_pattern p a && is_pattern q b
is_pattern (many p) (many a) = is_pattern p a
is_pattern p q = false

abbrev pub is_terminal : Terminal → Terminal → Bool
is_terminal x y = (x.kind == y.kind) && is_pattern x.pattern y.pattern

abbrev pub is_among : Terminal → List Terminal → Bool
is_among x [] = false
is_among x (y ∷ ys) = is_terminal x y || is_among x ys

abbrev pub are_among : List Terminal → List Terminal → Bool
are_among [] ys = true
are_among (x ∷ xs) ys = is_among x ys && are_among xs ys

abbrev pub are_same : List Terminal → List Terminal → Bool
are_same xs ys = are_among xs ys && are_among ys xs

-- what may be left of terminals behind a character

abbrev pub of_kind : ℕ → List Pattern → List Terminal
of_kind kind [] = []
of_kind kind (p ∷ ps) = record { kind = kind; pattern = p } ∷ of_kind kind ps

abbrev pub terminal_rests : (ℕ → Bool) → List Terminal → List Terminal
terminal_rests test [] = []
terminal_rests test (x ∷ xs) = of_kind x.kind (rests test x.pattern) ++ terminal_rests test xs

-- the classes: the characters of an interval are in the same sets as the character that stands for their class

abbrev pub sets_of : List CharacterSet → ℕ → List Bool
sets_of [] c = []
sets_of (set ∷ sets) c = has set c ∷ sets_of sets c

abbrev pub sets_of_each : List CharacterSet → List ℕ → List (List Bool)
sets_of_each sets [] = []
sets_of_each sets (c ∷ cs) = sets_of sets c ∷ sets_of_each sets cs

-- whether a class is in the set of this number
abbrev pub is_in : List Bool → ℕ → Bool
is_in class set = slice_index_or class set false

-- the interval from first to last lies in one of the ranges, or outside of all
abbrev pub lies_in_one : ℕ → ℕ → List (ℕ × ℕ) → Bool
lies_in_one first last [] = false
lies_in_one first last (range ∷ ranges) = (nat_le range.0 first && nat_le last range.1) || lies_in_one first last ranges

abbrev pub misses_all : ℕ → ℕ → List (ℕ × ℕ) → Bool
misses_all first last [] = true
misses_all first last (range ∷ ranges) = (nat_lt last range.0 || nat_lt range.1 first) && misses_all first last ranges

-- the set has all of the interval, or none of it
abbrev pub has_all_or_none : ℕ → ℕ → Bool → CharacterSet → Bool
has_all_or_none first last true (inside ranges) = lies_in_one first last ranges
has_all_or_none first last false (inside ranges) = misses_all first last ranges
has_all_or_none first last true (outside ranges) = misses_all first last ranges
has_all_or_none first last false (outside ranges) = lies_in_one first last ranges

abbrev pub check_interval : ℕ → ℕ → List Bool → List CharacterSet → Bool
check_interval first last [] [] = true
check_interval first last (b ∷ class) (set ∷ sets) = has_all_or_none first last b set && check_interval first last class sets
check_interval first last class sets = false

-- no range goes as far as this
abbrev pub all_below : ℕ → List (ℕ × ℕ) → Bool
all_below first [] = true
all_below first (range ∷ ranges) = nat_lt range.1 first && all_below first ranges

abbrev pub check_others : ℕ → List Bool → List CharacterSet → Bool
check_others first [] [] = true
check_others first (false ∷ class) (inside ranges ∷ sets) = all_below first ranges && check_others first class sets
check_others first (true ∷ class) (outside ranges ∷ sets) = all_below first ranges && check_others first class sets
check_others first class sets = false

abbrev pub check_intervals : List CharacterSet → List (List Bool) → ℕ → ℕ → List (ℕ × ℕ) → Bool
check_intervals sets classes others first [] = nat_lt others (length classes) && check_others first (slice_index_or classes others []) sets
check_intervals sets classes others first (interval ∷ intervals) =
    nat_lt interval.1 (length classes) && check_interval first interval.0 (slice_index_or classes interval.1 []) sets
    && check_intervals sets classes others (interval.0 + 1) intervals

-- the rows: behind a character of a class the terminals of a state leave, as a set, those of the state in the row

abbrev pub are_none : List Terminal → Bool
are_none [] = true
are_none (x ∷ xs) = false

abbrev pub check_cell : List (List Terminal) → List Terminal → Option ℕ → Bool
check_cell states left None = are_none left
check_cell states left (Some next) = are_same left (slice_index_or states next [])

abbrev pub check_row : List (List Terminal) → List Terminal → List (List Bool) → List ℕ → Bool
check_row states here [] [] = true
check_row states here (class ∷ classes) (next ∷ row) =
    check_cell states (terminal_rests (is_in class) here) (state_of next) && check_row states here classes row
check_row states here classes row = false

-- the kinds: the terminals of a state that are whole there are of its kind, and there is one

abbrev pub are_of_kind : Option ℕ → List Terminal → Bool
are_of_kind kind [] = true
are_of_kind None (x ∷ xs) = not (is_nullable x.pattern) && are_of_kind None xs
are_of_kind (Some kind) (x ∷ xs) = (not (is_nullable x.pattern) || (x.kind == kind)) && are_of_kind (Some kind) xs

abbrev pub one_is_whole : List Terminal → Bool
one_is_whole [] = false
one_is_whole (x ∷ xs) = is_nullable x.pattern || one_is_whole xs

abbrev pub check_kind : Option ℕ → List Terminal → Bool
check_kind None here = are_of_kind None here
check_kind (Some kind) here = are_of_kind (Some kind) here && one_is_whole here

abbrev pub check_states : List (List Terminal) → List (List Bool) → List (List Terminal) → List (List ℕ) → List ℕ → Bool
check_states states classes [] [] [] = true
check_states states classes (here ∷ others) (row ∷ rows) (kind ∷ kinds) =
    check_row states here classes row && check_kind (kind_number kind) here && check_states states classes others rows kinds
check_states states classes others rows kinds = false

-- the terminals of each state: those of the grammar at the first, and what they leave at the others

abbrev pub add_terminal : Terminal → List Terminal → List Terminal
add_terminal x ys = if is_among x ys then ys else x ∷ ys

abbrev pub add_terminals : List Terminal → List Terminal → List Terminal
add_terminals [] ys = ys
add_terminals (x ∷ xs) ys = add_terminal x (add_terminals xs ys)

abbrev pub child_of : List (List Bool) → List (List Terminal) → ℕ × ℕ → List Terminal
child_of classes states parent =
    add_terminals (terminal_rests (is_in (slice_index_or classes parent.1 [])) (slice_index_or states parent.0 [])) []

abbrev pub grow_states : List (List Bool) → List (ℕ × ℕ) → List (List Terminal) → List (List Terminal)
grow_states classes [] states = states
grow_states classes (parent ∷ parents) states = grow_states classes parents (states ++ child_of classes states parent ∷ [])

abbrev pub check_with : Grammar → List (List Bool) → List (List Terminal) → Table → Bool
check_with grammar classes states table =
    check_intervals grammar.sets classes table.others 0 table.intervals && check_states states classes states table.rows table.kinds

abbrev pub check_grown : Grammar → List (List Bool) → List (ℕ × ℕ) → Table → Bool
check_grown grammar classes parents table = check_with grammar classes (grow_states classes parents (grammar.terminals ∷ [])) table

abbrev pub check_table : Grammar → Origin → Table → Bool
check_table grammar origin table = check_grown grammar (sets_of_each grammar.sets origin.characters) origin.parents table
