-- Before which characters a token is the longest, by its table.
use Rattle.std.proofs.Common.{◌≡◌, ℕ, Bool, true, false, not, ◌||◌, Option, None, Some, List, [], ◌∷◌, length, get_or, refl, ap, ◌∙◌, arith}
use Rattle.std.specs.List.{list_all}
use Rattle.std.proofs.lemmas.Bool.{not_from_false}
use Rattle.owl_lexer.specs.Automata.{kind_at, run}
use Rattle.owl_lexer.proofs.GapCheckLaws.{class_of, is_none, is_token_kind, rows_pass, tokens_end}
use Rattle.owl_lexer.proofs.GapTestLaws.{cell_passes, nothing, row_passes, state_ends}
use Rattle.owl_lexer.specs.Holding.{IsBarren, NoneBeyond}
use Rattle.owl_lexer.proofs.HoldingLaws.{no_longer, stuck_barren}
use Rattle.owl_lexer.specs.Languages.{IsLanguage}
use Rattle.owl_lexer.specs.Splitting.{IsLongest}
use Rattle.owl_lexer.specs.Tables.{Table, automaton_of, kind_in, state_of, step_in}

-- from a state where a lexeme of a kind is whole that doesn't pass the test, no character leads on
abbrev pub tokens_are_closed : (ℕ → Bool) → List (List ℕ) → List ℕ → Bool
tokens_are_closed passes rows kinds =
    rows_pass (λ kind row. not (is_token_kind passes kind) || list_all (λ next. is_none (state_of next)) row) rows kinds

state_is_closed : (passes : ℕ → Bool) (rows : List (List ℕ)) (kinds : List ℕ) (state class : ℕ) → tokens_are_closed passes rows kinds ≡ true → is_token_kind passes (kind_in kinds state) ≡ true → step_in rows state class ≡ None
state_is_closed passes rows kinds state class h whole =
    nothing (step_in rows state class)
    (cell_passes is_none refl (get_or rows state []) class
    (row_passes (is_token_kind passes) (λ row. list_all (λ next. is_none (state_of next)) row) refl refl rows kinds state h whole))

module _ {T : Type 0} (table : Table) (value : ℕ → List ℕ → Option T) (spells : T → List ℕ → Type 0) (language : IsLanguage (automaton_of table) value spells) (passes : ℕ → Bool) where
  none_beyond : (cs : List ℕ) → NoneBeyond (automaton_of table) cs (length cs)
  none_beyond cs n kind lt le s = absurd (omega arith)

  -- where the state to which a token leads has no step on what follows
  longest_at : (cs rest : List ℕ) (kind : ℕ) (o : Option ℕ) → run (automaton_of table) (Some 0) cs ≡ o → kind_at (automaton_of table) o ≡ Some kind → passes kind ≡ false → ((state : ℕ) → is_token_kind passes (kind_in table.kinds state) ≡ true → IsBarren (automaton_of table) (Some state) rest) → IsLongest spells cs rest
  longest_at cs rest kind None leads whole is stuck = absurd (cc)
  longest_at cs rest kind (Some state) leads whole is stuck = λ other longer more s e.
      let lexeme = language.token other longer s in
      no_longer (automaton_of table) cs state (length cs) rest leads (stuck state (ap (is_token_kind passes) whole ∙ not_from_false (passes kind) is)) (none_beyond cs) lexeme.0 longer more lexeme.1 e

  module _ (t : T) (cs : List ℕ) (spelled : spells t cs) (is : (kind : ℕ) → value kind cs ≡ Some t → passes kind ≡ false) where
    -- before a character that no such token goes on with
    pub longest_before : (c : ℕ) (rest : List ℕ) → tokens_end passes (class_of table c) table.rows table.kinds ≡ true → IsLongest spells cs (c ∷ rest)
    longest_before c rest h =
        let lexeme = language.token t cs spelled in
        longest_at cs (c ∷ rest) lexeme.0 (run (automaton_of table) (Some 0) cs) refl lexeme.1 (is lexeme.0 lexeme.2) (λ state whole. stuck_barren (automaton_of table) state c rest (state_ends passes (class_of table c) table.rows table.kinds state h whole))

    -- before anything, where no such token goes on with any character
    pub longest_always : (rest : List ℕ) → tokens_are_closed passes table.rows table.kinds ≡ true → IsLongest spells cs rest
    longest_always rest h =
        let lexeme = language.token t cs spelled in
        longest_at cs rest lexeme.0 (run (automaton_of table) (Some 0) cs) refl lexeme.1 (is lexeme.0 lexeme.2) (λ state whole. stuck rest state whole)
      where
        stuck : (rest : List ℕ) (state : ℕ) → is_token_kind passes (kind_in table.kinds state) ≡ true → IsBarren (automaton_of table) (Some state) rest
        stuck [] state whole = tt
        stuck (c ∷ rest) state whole = stuck_barren (automaton_of table) state c rest (state_is_closed passes table.rows table.kinds state (class_of table c) h whole)
