-- A table that passes the test knows the lexemes of its grammar.
use Rattle.std.proofs.Common.{◌≡◌, ◌↔◌, ◌⊎◌, inl, inr, ℕ, zero, suc, ◌+◌, ◌<◌, ◌≤◌, Bool, true, false, Option, None, Some, List, [], ◌∷◌, ◌++◌, length, get_or, refl, sym, ap, ◌∙◌, subst, arith, if◌then◌else◌}
use Rattle.std.specs.Prelude.{◌&&◌, ◌||◌, ◌==◌, not, nat_le, nat_lt}
use Rattle.std.proofs.lemmas.Bool.{and_parts, eqb-true, leb-false, leb-true, lt-leb, ltb-true, not-true, or_cases, or_from, or_left, or_right, le-leb, and_from, and_left, and_right}
use Rattle.owl_lexer.specs.Automata.{Knows, kind_at, run}
use Rattle.owl_lexer.specs.Grammars.{CharacterSet, Grammar, IsLexeme, IsLexemeOf, Terminal, has, is_in_ranges, test_of}
use Rattle.owl_lexer.specs.Grammars.CharacterSet.{inside, outside}
use Rattle.owl_lexer.proofs.HoldingLaws.{run-none}
use Rattle.owl_lexer.specs.Patterns.{Matches, Pattern}
use Rattle.owl_lexer.specs.Patterns.Pattern.{empty, one, both, either, many}
use Rattle.owl_lexer.proofs.RestLaws.{left_by, matches_nothing, nullable_of, rest_of}
use Rattle.owl_lexer.proofs.Rests.{MatchesOne, is_nullable, rests}
use Rattle.owl_lexer.specs.Tables.{Table, automaton_of, class_in, kind_number, state_of}
use Rattle.owl_lexer.proofs.TableCheckLaws.{Origin, all_below, are_among, are_none, are_of_kind, check_cell, check_interval, check_intervals, check_kind, check_others, check_row, check_states, check_table, check_with, child_of, grow_states, has_all_or_none, is_among, is_in, is_pattern, is_terminal, lies_in_one, misses_all, of_kind, one_is_whole, sets_of_each, terminal_rests}

-- terminals as sets

same_pattern : (p q : Pattern) → is_pattern p q ≡ true → p ≡ q
same_pattern empty empty h = refl
same_pattern (one m) (one n) h = ap one (eqb-true m n h)
same_pattern (both p q) (both a b) h =
    let parts = and_parts (is_pattern p a) (is_pattern q b) h in
    let e : p ≡ a = same_pattern p a parts.0 in
    let f : q ≡ b = same_pattern q b parts.1 in
    cc
same_pattern (either p q) (either a b) h =
    let parts = and_parts (is_pattern p a) (is_pattern q b) h in
    let e : p ≡ a = same_pattern p a parts.0 in
    let f : q ≡ b = same_pattern q b parts.1 in
    cc
same_pattern (many p) (many a) h = ap many (same_pattern p a h)
same_pattern p q h = absurd (cc)

among : (test : ℕ → ℕ → Bool) (x : Terminal) (ys : List Terminal) (kind : ℕ) (cs : List ℕ) → is_among x ys ≡ true → x.kind ≡ kind → Matches test x.pattern cs → IsLexemeOf test ys kind cs
among test x [] kind cs h e m = absurd (cc)
among test x (y ∷ ys) kind cs h e m = elim (or_cases (is_terminal x y) (is_among x ys) h) [
  | inl same ↦
      let parts = and_parts (x.kind == y.kind) (is_pattern x.pattern y.pattern) same in
      inl (sym (eqb-true x.kind y.kind parts.0) ∙ e, subst (λ (p : Pattern). Matches test p cs) (same_pattern x.pattern y.pattern parts.1) m)
  | inr more ↦ inr (among test x ys kind cs more e m)
]

all_among : (test : ℕ → ℕ → Bool) (xs ys : List Terminal) (kind : ℕ) (cs : List ℕ) → are_among xs ys ≡ true → IsLexemeOf test xs kind cs → IsLexemeOf test ys kind cs
all_among test [] ys kind cs h m = elim m [ ]
all_among test (x ∷ xs) ys kind cs h (inl m) = among test x ys kind cs (and_parts (is_among x ys) (are_among xs ys) h).0 m.0 m.1
all_among test (x ∷ xs) ys kind cs h (inr m) = all_among test xs ys kind cs (and_parts (is_among x ys) (are_among xs ys) h).1 m

-- what is left of terminals

lexeme_left : (test : ℕ → ℕ → Bool) (xs ys : List Terminal) (kind : ℕ) (cs : List ℕ) → IsLexemeOf test xs kind cs → IsLexemeOf test (xs ++ ys) kind cs
lexeme_left test [] ys kind cs m = elim m [ ]
lexeme_left test (x ∷ xs) ys kind cs (inl m) = inl m
lexeme_left test (x ∷ xs) ys kind cs (inr m) = inr (lexeme_left test xs ys kind cs m)

lexeme_right : (test : ℕ → ℕ → Bool) (xs ys : List Terminal) (kind : ℕ) (cs : List ℕ) → IsLexemeOf test ys kind cs → IsLexemeOf test (xs ++ ys) kind cs
lexeme_right test [] ys kind cs m = m
lexeme_right test (x ∷ xs) ys kind cs m = inr (lexeme_right test xs ys kind cs m)

lexeme_of_both : (test : ℕ → ℕ → Bool) (xs ys : List Terminal) (kind : ℕ) (cs : List ℕ) → IsLexemeOf test (xs ++ ys) kind cs → IsLexemeOf test xs kind cs ⊎ IsLexemeOf test ys kind cs
lexeme_of_both test [] ys kind cs m = inr m
lexeme_of_both test (x ∷ xs) ys kind cs (inl m) = inl (inl m)
lexeme_of_both test (x ∷ xs) ys kind cs (inr m) = elim (lexeme_of_both test xs ys kind cs m) [ inl l ↦ inl (inr l) | inr r ↦ inr r ]

of_kind_matches : (test : ℕ → ℕ → Bool) (n kind : ℕ) (ps : List Pattern) (cs : List ℕ) → n ≡ kind → MatchesOne test ps cs → IsLexemeOf test (of_kind n ps) kind cs
of_kind_matches test n kind [] cs e m = elim m [ ]
of_kind_matches test n kind (p ∷ ps) cs e (inl m) = inl (e, m)
of_kind_matches test n kind (p ∷ ps) cs e (inr m) = inr (of_kind_matches test n kind ps cs e m)

matches_of_kind : (test : ℕ → ℕ → Bool) (n kind : ℕ) (ps : List Pattern) (cs : List ℕ) → IsLexemeOf test (of_kind n ps) kind cs → (n ≡ kind) × MatchesOne test ps cs
matches_of_kind test n kind [] cs m = elim m [ ]
matches_of_kind test n kind (p ∷ ps) cs (inl m) = (m.0, inl m.1)
matches_of_kind test n kind (p ∷ ps) cs (inr m) = let o = matches_of_kind test n kind ps cs m in (o.0, inr o.1)

lexeme_rest : (test : ℕ → ℕ → Bool) (xs : List Terminal) (kind c : ℕ) (cs : List ℕ) → IsLexemeOf test xs kind (c ∷ cs) → IsLexemeOf test (terminal_rests (λ set. test set c) xs) kind cs
lexeme_rest test [] kind c cs m = elim m [ ]
lexeme_rest test (x ∷ xs) kind c cs (inl m) =
    let t = λ (set : ℕ). test set c in
    lexeme_left test (of_kind x.kind (rests t x.pattern)) (terminal_rests t xs) kind cs (of_kind_matches test x.kind kind (rests t x.pattern) cs m.0 (rest_of test x.pattern c cs m.1))
lexeme_rest test (x ∷ xs) kind c cs (inr m) =
    let t = λ (set : ℕ). test set c in
    lexeme_right test (of_kind x.kind (rests t x.pattern)) (terminal_rests t xs) kind cs (lexeme_rest test xs kind c cs m)

rest_lexeme : (test : ℕ → ℕ → Bool) (xs : List Terminal) (kind c : ℕ) (cs : List ℕ) → IsLexemeOf test (terminal_rests (λ set. test set c) xs) kind cs → IsLexemeOf test xs kind (c ∷ cs)
rest_lexeme test [] kind c cs m = elim m [ ]
rest_lexeme test (x ∷ xs) kind c cs m =
    let t = λ (set : ℕ). test set c in
    elim (lexeme_of_both test (of_kind x.kind (rests t x.pattern)) (terminal_rests t xs) kind cs m) [
      | inl l ↦ let o = matches_of_kind test x.kind kind (rests t x.pattern) cs l in inl (o.0, left_by test x.pattern c cs o.1)
      | inr r ↦ inr (rest_lexeme test xs kind c cs r)
    ]

-- classes

in_one : (first last c : ℕ) (ranges : List (ℕ × ℕ)) → lies_in_one first last ranges ≡ true → first ≤ c → c ≤ last → is_in_ranges ranges c ≡ true
in_one first last c [] h f l = absurd (cc)
in_one first last c (range ∷ ranges) h f l = elim (or_cases (nat_le range.0 first && nat_le last range.1) (lies_in_one first last ranges) h) [
  | inl x ↦
      let parts = and_parts (nat_le range.0 first) (nat_le last range.1) x in
      let low = leb-true range.0 first parts.0 in
      let high = leb-true last range.1 parts.1 in
      or_left (nat_le range.0 c && nat_le c range.1) (is_in_ranges ranges c)
      (and_from (nat_le range.0 c) (nat_le c range.1) (le-leb range.0 c (omega arith)) (le-leb c range.1 (omega arith)))
  | inr x ↦ or_right (nat_le range.0 c && nat_le c range.1) (is_in_ranges ranges c) (in_one first last c ranges x f l)
]

in_none : (first last c : ℕ) (ranges : List (ℕ × ℕ)) → misses_all first last ranges ≡ true → first ≤ c → c ≤ last → is_in_ranges ranges c ≡ false
in_none first last c [] h f l = refl
in_none first last c (range ∷ ranges) h f l =
    let parts = and_parts (nat_lt last range.0 || nat_lt range.1 first) (misses_all first last ranges) h in
    let here : (nat_le range.0 c && nat_le c range.1) ≡ false = elim (or_cases (nat_lt last range.0) (nat_lt range.1 first) parts.0) [
      | inl x ↦ let lt = ltb-true last range.0 x in and_left (nat_le range.0 c) (nat_le c range.1) (lt-leb range.0 c (omega arith))
      | inr x ↦ let lt = ltb-true range.1 first x in and_right (nat_le range.0 c) (nat_le c range.1) (lt-leb c range.1 (omega arith))
    ] in
    or_from (nat_le range.0 c && nat_le c range.1) (is_in_ranges ranges c) here (in_none first last c ranges parts.1 f l)

above_all : (first c : ℕ) (ranges : List (ℕ × ℕ)) → all_below first ranges ≡ true → first ≤ c → is_in_ranges ranges c ≡ false
above_all first c [] h f = refl
above_all first c (range ∷ ranges) h f =
    let parts = and_parts (nat_lt range.1 first) (all_below first ranges) h in
    let lt = ltb-true range.1 first parts.0 in
    or_from (nat_le range.0 c && nat_le c range.1) (is_in_ranges ranges c) (and_right (nat_le range.0 c) (nat_le c range.1) (lt-leb c range.1 (omega arith))) (above_all first c ranges parts.1 f)

has_as_told : (first last c : ℕ) (b : Bool) (set : CharacterSet) → has_all_or_none first last b set ≡ true → first ≤ c → c ≤ last → has set c ≡ b
has_as_told first last c true (inside ranges) h f l = in_one first last c ranges h f l
has_as_told first last c false (inside ranges) h f l = in_none first last c ranges h f l
has_as_told first last c true (outside ranges) h f l = ap not (in_none first last c ranges h f l)
has_as_told first last c false (outside ranges) h f l = ap not (in_one first last c ranges h f l)

-- the class tells of each set whether the character is in it
abbrev pub Tells : List CharacterSet → ℕ → List Bool → Type 0
Tells sets c class = (set : ℕ) → test_of sets set c ≡ is_in class set

interval_tells : (first last c : ℕ) (class : List Bool) (sets : List CharacterSet) → check_interval first last class sets ≡ true → first ≤ c → c ≤ last → Tells sets c class
interval_tells first last c [] [] h f l set = refl
interval_tells first last c (b ∷ class) (s ∷ sets) h f l zero = has_as_told first last c b s (and_parts (has_all_or_none first last b s) (check_interval first last class sets) h).0 f l
interval_tells first last c (b ∷ class) (s ∷ sets) h f l (suc set) = interval_tells first last c class sets (and_parts (has_all_or_none first last b s) (check_interval first last class sets) h).1 f l set
interval_tells first last c class sets h f l set = absurd (cc)

others_tell : (first c : ℕ) (class : List Bool) (sets : List CharacterSet) → check_others first class sets ≡ true → first ≤ c → Tells sets c class
others_tell first c [] [] h f set = refl
others_tell first c (false ∷ class) (inside ranges ∷ sets) h f zero = above_all first c ranges (and_parts (all_below first ranges) (check_others first class sets) h).0 f
others_tell first c (true ∷ class) (outside ranges ∷ sets) h f zero = ap not (above_all first c ranges (and_parts (all_below first ranges) (check_others first class sets) h).0 f)
others_tell first c (false ∷ class) (inside ranges ∷ sets) h f (suc set) = others_tell first c class sets (and_parts (all_below first ranges) (check_others first class sets) h).1 f set
others_tell first c (true ∷ class) (outside ranges ∷ sets) h f (suc set) = others_tell first c class sets (and_parts (all_below first ranges) (check_others first class sets) h).1 f set
others_tell first c class sets h f set = absurd (cc)

record IsClass (sets : List CharacterSet) (classes : List (List Bool)) (c class : ℕ) : Type 0 where
  below : class < length classes
  tells : Tells sets c (get_or classes class [])

class_tells : (sets : List CharacterSet) (classes : List (List Bool)) (others first c : ℕ) (intervals : List (ℕ × ℕ)) → check_intervals sets classes others first intervals ≡ true → first ≤ c → IsClass sets classes c (class_in intervals others c)
class_tells sets classes others first c [] h f =
    let parts = and_parts (nat_lt others (length classes)) (check_others first (get_or classes others []) sets) h in
    record { below = ltb-true others (length classes) parts.0; tells = others_tell first c (get_or classes others []) sets parts.1 f }
class_tells sets classes others first c (interval ∷ intervals) h f =
    let outer = and_parts (nat_lt interval.1 (length classes) && check_interval first interval.0 (get_or classes interval.1 []) sets) (check_intervals sets classes others (interval.0 + 1) intervals) h in
    let parts = and_parts (nat_lt interval.1 (length classes)) (check_interval first interval.0 (get_or classes interval.1 []) sets) outer.0 in
    at (nat_le c interval.0) refl parts.0 parts.1 (λ lt. class_tells sets classes others (interval.0 + 1) c intervals outer.1 (omega arith))
  where
    at : (within : Bool) → nat_le c interval.0 ≡ within → nat_lt interval.1 (length classes) ≡ true → check_interval first interval.0 (get_or classes interval.1 []) sets ≡ true → (interval.0 < c → IsClass sets classes c (class_in intervals others c)) → IsClass sets classes c (if within then interval.1 else class_in intervals others c)
    at true e below here behind = record { below = ltb-true interval.1 (length classes) below; tells = interval_tells first interval.0 c (get_or classes interval.1 []) sets here f (leb-true c interval.0 e) }
    at false e below here behind = behind (leb-false c interval.0 e)

-- states

data Checks (states : List (List Terminal)) (classes : List (List Bool)) (here : List Terminal) (row : List ℕ) (kind : ℕ) : Type 0 where
  known : check_row states here classes row ≡ true → check_kind (kind_number kind) here ≡ true → Checks states classes here row kind
  unknown : here ≡ [] → row ≡ [] → kind ≡ 0 → Checks states classes here row kind

state_checks : (all : List (List Terminal)) (classes : List (List Bool)) (states : List (List Terminal)) (rows : List (List ℕ)) (kinds : List ℕ) → check_states all classes states rows kinds ≡ true → (state : ℕ) → Checks all classes (get_or states state []) (get_or rows state []) (get_or kinds state 0)
state_checks all classes [] [] [] h state = unknown refl refl refl
state_checks all classes (here ∷ states) (row ∷ rows) (kind ∷ kinds) h zero =
    let outer = and_parts (check_row all here classes row && check_kind (kind_number kind) here) (check_states all classes states rows kinds) h in
    let parts = and_parts (check_row all here classes row) (check_kind (kind_number kind) here) outer.0 in
    known parts.0 parts.1
state_checks all classes (here ∷ states) (row ∷ rows) (kind ∷ kinds) h (suc state) =
    state_checks all classes states rows kinds (and_parts (check_row all here classes row && check_kind (kind_number kind) here) (check_states all classes states rows kinds) h).1 state
state_checks all classes states rows kinds h state = absurd (cc)

cell_checks : (states : List (List Terminal)) (here : List Terminal) (classes : List (List Bool)) (row : List ℕ) → check_row states here classes row ≡ true → (class : ℕ) → class < length classes → check_cell states (terminal_rests (is_in (get_or classes class [])) here) (state_of (get_or row class 255)) ≡ true
cell_checks states here [] [] h class lt = absurd (omega arith)
cell_checks states here (bits ∷ classes) (next ∷ row) h zero lt = (and_parts (check_cell states (terminal_rests (is_in bits) here) (state_of next)) (check_row states here classes row) h).0
cell_checks states here (bits ∷ classes) (next ∷ row) h (suc class) lt =
    cell_checks states here classes row (and_parts (check_cell states (terminal_rests (is_in bits) here) (state_of next)) (check_row states here classes row) h).1 class (omega arith)
cell_checks states here classes row h class lt = absurd (cc)

-- kinds

nullable_kind : (x : Terminal) (kind : ℕ) → (not (is_nullable x.pattern) || (x.kind == kind)) ≡ true → is_nullable x.pattern ≡ true → x.kind ≡ kind
nullable_kind x kind h nullable = elim (or_cases (not (is_nullable x.pattern)) (x.kind == kind) h) [
  | inl l ↦ let e : true ≡ false = sym nullable ∙ not-true (is_nullable x.pattern) l in cc
  | inr r ↦ eqb-true x.kind kind r
]

whole_lexeme : (test : ℕ → ℕ → Bool) (here : List Terminal) (kind : ℕ) → are_of_kind (Some kind) here ≡ true → one_is_whole here ≡ true → IsLexemeOf test here kind []
whole_lexeme test [] kind h w = absurd (cc)
whole_lexeme test (x ∷ xs) kind h w =
    let parts = and_parts (not (is_nullable x.pattern) || (x.kind == kind)) (are_of_kind (Some kind) xs) h in
    elim (or_cases (is_nullable x.pattern) (one_is_whole xs) w) [
      | inl l ↦ inl (nullable_kind x kind parts.0 l, matches_nothing test x.pattern l)
      | inr r ↦ inr (whole_lexeme test xs kind parts.1 r)
    ]

lexeme_kind : (test : ℕ → ℕ → Bool) (here : List Terminal) (kind other : ℕ) → are_of_kind (Some kind) here ≡ true → IsLexemeOf test here other [] → kind ≡ other
lexeme_kind test [] kind other h m = elim m [ ]
lexeme_kind test (x ∷ xs) kind other h (inl m) = sym (nullable_kind x kind (and_parts (not (is_nullable x.pattern) || (x.kind == kind)) (are_of_kind (Some kind) xs) h).0 (nullable_of test x.pattern m.1)) ∙ m.0
lexeme_kind test (x ∷ xs) kind other h (inr m) = lexeme_kind test xs kind other (and_parts (not (is_nullable x.pattern) || (x.kind == kind)) (are_of_kind (Some kind) xs) h).1 m

no_lexeme : (test : ℕ → ℕ → Bool) (here : List Terminal) (other : ℕ) → are_of_kind None here ≡ true → IsLexemeOf test here other [] → ⊥
no_lexeme test [] other h m = elim m [ ]
no_lexeme test (x ∷ xs) other h (inl m) =
    let e : true ≡ false = sym (nullable_of test x.pattern m.1) ∙ not-true (is_nullable x.pattern) (and_parts (not (is_nullable x.pattern)) (are_of_kind None xs) h).0 in cc
no_lexeme test (x ∷ xs) other h (inr m) = no_lexeme test xs other (and_parts (not (is_nullable x.pattern)) (are_of_kind None xs) h).1 m

kind_reads : (test : ℕ → ℕ → Bool) (here : List Terminal) (kind : Option ℕ) (other : ℕ) → check_kind kind here ≡ true → (kind ≡ Some other) ↔ IsLexemeOf test here other []
kind_reads test here None other h = (λ e. absurd (cc), λ m. absurd (no_lexeme test here other h m))
kind_reads test here (Some kind) other h =
    let parts = and_parts (are_of_kind (Some kind) here) (one_is_whole here) h in
    (λ e. let same : kind ≡ other = cc in subst (λ (k : ℕ). IsLexemeOf test here k []) same (whole_lexeme test here kind parts.0 parts.1), λ m. ap Some (lexeme_kind test here kind other parts.0 m))

-- from a state on, the automaton reads what the terminals of the state say

Reads : List CharacterSet → Table → List (List Terminal) → List ℕ → Type 0
Reads sets table states cs = (state kind : ℕ) → (kind_at (automaton_of table) (run (automaton_of table) (Some state) cs) ≡ Some kind) ↔ IsLexemeOf (test_of sets) (get_or states state []) kind cs

none_left : (xs : List Terminal) → are_none xs ≡ true → xs ≡ []
none_left [] h = refl
none_left (x ∷ xs) h = absurd (cc)

step_reads : (sets : List CharacterSet) (table : Table) (states : List (List Terminal)) (left : List Terminal) (next : Option ℕ) (kind : ℕ) (cs : List ℕ) → check_cell states left next ≡ true → Reads sets table states cs → (kind_at (automaton_of table) (run (automaton_of table) next cs) ≡ Some kind) ↔ IsLexemeOf (test_of sets) left kind cs
unfolding Reads
step_reads sets table states left None kind cs h reads = (
  λ e. let none : None ≡ Some kind = ap (kind_at (automaton_of table)) (sym (run-none (automaton_of table) cs)) ∙ e in absurd (cc),
  λ m. absurd (subst (λ (xs : List Terminal). IsLexemeOf (test_of sets) xs kind cs) (none_left left h) m),
)
step_reads sets table states left (Some next) kind cs h reads =
    let parts = and_parts (are_among left (get_or states next [])) (are_among (get_or states next []) left) h in (
      λ e. all_among (test_of sets) (get_or states next []) left kind cs parts.1 ((reads next kind).0 e),
      λ m. (reads next kind).1 (all_among (test_of sets) left (get_or states next []) kind cs parts.0 m),
    )

-- what is left is told by the class
left_by_class : (sets : List CharacterSet) (here : List Terminal) (c kind : ℕ) (cs : List ℕ) (class : List Bool) → Tells sets c class → IsLexemeOf (test_of sets) here kind (c ∷ cs) ↔ IsLexemeOf (test_of sets) (terminal_rests (is_in class) here) kind cs
left_by_class sets here c kind cs class tells =
    let same : terminal_rests (λ set. test_of sets set c) here ≡ terminal_rests (is_in class) here = λ i. terminal_rests (λ set. tells set i) here in (
      λ m. subst (λ (xs : List Terminal). IsLexemeOf (test_of sets) xs kind cs) same (lexeme_rest (test_of sets) here kind c cs m),
      λ m. rest_lexeme (test_of sets) here kind c cs (subst (λ (xs : List Terminal). IsLexemeOf (test_of sets) xs kind cs) (sym same) m),
    )

at_end : (sets : List CharacterSet) (states : List (List Terminal)) (classes : List (List Bool)) (here : List Terminal) (row : List ℕ) (n kind : ℕ) → Checks states classes here row n → (kind_number n ≡ Some kind) ↔ IsLexemeOf (test_of sets) here kind []
at_end sets states classes here row n kind (known h k) = kind_reads (test_of sets) here (kind_number n) kind k
at_end sets states classes here row n kind (unknown e f g) = (
  λ h. let none : None ≡ Some kind = ap kind_number (sym g) ∙ h in absurd (cc),
  λ m. absurd (subst (λ (xs : List Terminal). IsLexemeOf (test_of sets) xs kind []) e m),
)

at_more : (sets : List CharacterSet) (table : Table) (states : List (List Terminal)) (classes : List (List Bool)) (here : List Terminal) (row : List ℕ) (n kind c class : ℕ) (cs : List ℕ) → Checks states classes here row n → IsClass sets classes c class → Reads sets table states cs → (kind_at (automaton_of table) (run (automaton_of table) (state_of (get_or row class 255)) cs) ≡ Some kind) ↔ IsLexemeOf (test_of sets) here kind (c ∷ cs)
at_more sets table states classes here row n kind c class cs (known h k) is reads =
    let left = left_by_class sets here c kind cs (get_or classes class []) is.tells in
    let step = step_reads sets table states (terminal_rests (is_in (get_or classes class [])) here) (state_of (get_or row class 255)) kind cs (cell_checks states here classes row h class is.below) reads in
    (λ e. left.1 (step.0 e), λ m. step.1 (left.0 m))
at_more sets table states classes here row n kind c class cs (unknown e f g) is reads = (
  λ h.
      let stuck : state_of (get_or row class 255) ≡ None = ap (λ (r : List ℕ). state_of (get_or r class 255)) f in
      let runs : run (automaton_of table) (state_of (get_or row class 255)) cs ≡ None = ap (λ (o : Option ℕ). run (automaton_of table) o cs) stuck ∙ run-none (automaton_of table) cs in
      let none : None ≡ Some kind = sym (ap (kind_at (automaton_of table)) runs) ∙ h in
      absurd (cc),
  λ m. absurd (subst (λ (xs : List Terminal). IsLexemeOf (test_of sets) xs kind (c ∷ cs)) e m),
)

reads_all : (grammar : Grammar) (classes : List (List Bool)) (states : List (List Terminal)) (table : Table) → check_with grammar classes states table ≡ true → (cs : List ℕ) → Reads grammar.sets table states cs
unfolding Reads
reads_all grammar classes states table h [] state kind =
    let parts = and_parts (check_intervals grammar.sets classes table.others 0 table.intervals) (check_states states classes states table.rows table.kinds) h in
    at_end grammar.sets states classes (get_or states state []) (get_or table.rows state []) (get_or table.kinds state 0) kind (state_checks states classes states table.rows table.kinds parts.1 state)
reads_all grammar classes states table h (c ∷ cs) state kind =
    let parts = and_parts (check_intervals grammar.sets classes table.others 0 table.intervals) (check_states states classes states table.rows table.kinds) h in
    at_more grammar.sets table states classes (get_or states state []) (get_or table.rows state []) (get_or table.kinds state 0) kind c (class_in table.intervals table.others c) cs
    (state_checks states classes states table.rows table.kinds parts.1 state)
    (class_tells grammar.sets classes table.others 0 c table.intervals parts.0 (omega arith))
    (reads_all grammar classes states table h cs)

first_grown : (classes : List (List Bool)) (parents : List (ℕ × ℕ)) (first : List Terminal) (states : List (List Terminal)) → get_or (grow_states classes parents (first ∷ states)) 0 [] ≡ first
first_grown classes [] first states = refl
first_grown classes (parent ∷ parents) first states = first_grown classes parents first (states ++ child_of classes (first ∷ states) parent ∷ [])

pub table_knows : (grammar : Grammar) (origin : Origin) (table : Table) → check_table grammar origin table ≡ true → Knows (automaton_of table) (IsLexeme grammar)
unfolding Reads
table_knows grammar origin table h kind cs =
    let classes = sets_of_each grammar.sets origin.characters in
    let states = grow_states classes origin.parents (grammar.terminals ∷ []) in
    let reads : (kind_at (automaton_of table) (run (automaton_of table) (Some 0) cs) ≡ Some kind) ↔ IsLexemeOf (test_of grammar.sets) (get_or states 0 []) kind cs = reads_all grammar classes states table h cs 0 kind in
    let first = first_grown classes origin.parents grammar.terminals [] in (
      λ e. subst (λ (xs : List Terminal). IsLexemeOf (test_of grammar.sets) xs kind cs) first (reads.0 e),
      λ m. reads.1 (subst (λ (xs : List Terminal). IsLexemeOf (test_of grammar.sets) xs kind cs) (sym first) m),
    )
