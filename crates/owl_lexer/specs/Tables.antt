-- Automata as tables.
use Rattle.std.specs.Prelude.{ℕ, ◌+◌, ◌==◌, nat_le, Bool, true, ◌&&◌, List, [], ◌∷◌, Option, None, Some, if◌then◌else◌, slice_index_or}
use Rattle.owl_lexer.specs.Automata.{Automaton}

-- The last character of each interval and the class of its characters, in order; the class of those behind the last; for
-- each state its row, which has a state for each class, or 255 for none; and the kind of each state, or 0 for none. The
-- first state is where it begins.
pub record Table : Type 0 where
  pub intervals : List (ℕ × ℕ)
  pub others : ℕ
  pub rows : List (List ℕ)
  pub kinds : List ℕ

-- the class of a character
abbrev pub class_in : List (ℕ × ℕ) → ℕ → ℕ → ℕ
class_in [] others c = others
class_in (interval ∷ intervals) others c = if nat_le c interval.0 then interval.1 else class_in intervals others c

-- the intervals stand in order, the first one at or behind this character

abbrev pub ascend_from : ℕ → List (ℕ × ℕ) → Bool
ascend_from first [] = true
ascend_from first (interval ∷ intervals) = nat_le first interval.0 && ascend_from interval.0 intervals

abbrev pub are_ascending : List (ℕ × ℕ) → Bool
are_ascending intervals = ascend_from 0 intervals

-- these are the classes of the characters from the first one on

abbrev pub are_classes_from : ℕ → List (ℕ × ℕ) → ℕ → List ℕ → Bool
are_classes_from first intervals others [] = true
are_classes_from first intervals others (class ∷ classes) =
    (class == class_in intervals others first) && are_classes_from (first + 1) intervals others classes

abbrev pub are_classes : List (ℕ × ℕ) → ℕ → List ℕ → Bool
are_classes intervals others classes = are_classes_from 0 intervals others classes

abbrev pub state_of : ℕ → Option ℕ
state_of n = if n == 255 then None else Some n

abbrev pub kind_number : ℕ → Option ℕ
kind_number n = if n == 0 then None else Some n

-- the state to which a class leads from a state
abbrev pub step_in : List (List ℕ) → ℕ → ℕ → Option ℕ
step_in rows state class = state_of (slice_index_or (slice_index_or rows state []) class 255)

-- the kind of lexeme that is whole at a state
abbrev pub kind_in : List ℕ → ℕ → Option ℕ
kind_in kinds state = kind_number (slice_index_or kinds state 0)

abbrev pub automaton_of : Table → Automaton
automaton_of table = record {
  start = 0;
  step = λ state c. step_in table.rows state (class_in table.intervals table.others c);
  kind = λ state. kind_in table.kinds state;
}
