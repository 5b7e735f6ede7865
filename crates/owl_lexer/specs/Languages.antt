-- Languages of tokens: an automaton whose lexemes are what is written for the tokens, white space, and comments.
use Rattle.std.specs.Prelude.{◌≡◌, ◌⊎◌, ℕ, ◌<◌, false, not, true, List, [], ◌∷◌, ◌++◌, length, Option, None, Some}
use Rattle.std.specs.List.{AllByRecursion}
use Rattle.owl_characters.specs.Iri.{AllAre}
use Rattle.owl_characters.specs.Names.{IsRunOf}
use Rattle.owl_lexer.specs.Automata.{Automaton, Spells, run}
use Rattle.owl_lexer.specs.Splitting.{is_comment_start, is_line_end, is_space}
use Rattle.owl_lexer.specs.Words.{HoldsOne}
use Rattle.owl_lexer.specs.declared.placed.Placed.{Placed}

-- a number sign, and then no line end
abbrev pub IsCommentText : List ℕ → Type 0
IsCommentText [] = ⊥
IsCommentText (c ∷ cs) = (c ≡ 35) × AllAre (λ d. not (is_line_end d)) cs

-- What a lexeme of this value says of its characters: they are written for its token, or they are white space or a
-- comment.
pub data IsLexemeWith {T : Type 0} (spells : T → List ℕ → Type 0) (value : Option T) (cs : List ℕ) : Type 0 where
  token : (t : T) → value ≡ Some t → spells t cs → IsLexemeWith spells value cs
  space : value ≡ None → IsRunOf is_space cs → IsLexemeWith spells value cs
  comment : value ≡ None → IsCommentText cs → IsLexemeWith spells value cs

-- the characters begin with neither white space nor a comment
abbrev pub BeginsNoGap : List ℕ → Type 0
BeginsNoGap [] = Unit {0}
BeginsNoGap (c ∷ cs) = (is_space c ≡ false) × (is_comment_start c ≡ false)

-- The lexemes that the automaton knows, with the values of their kinds, are the tokens with their spellings, white space
-- and comments. A spelling is not empty, begins with neither white space nor a comment, and white space ends it.
pub record IsLanguage {T : Type 0} (a : Automaton) (value : ℕ → List ℕ → Option T) (spells : T → List ℕ → Type 0) : Type 0 where
  pub says : (kind : ℕ) (cs : List ℕ) → Spells a kind cs → IsLexemeWith spells (value kind cs) cs
  pub token : (t : T) (cs : List ℕ) → spells t cs → (kind : ℕ) × Spells a kind cs × (value kind cs ≡ Some t)
  pub space : (cs : List ℕ) → IsRunOf is_space cs → (kind : ℕ) × Spells a kind cs
  pub comment : (cs : List ℕ) → IsCommentText cs → (kind : ℕ) × Spells a kind cs
  pub some : (t : T) (cs : List ℕ) → spells t cs → 0 < length cs
  pub no_gap : (t : T) (cs : List ℕ) → spells t cs → BeginsNoGap cs
  pub ends : (t : T) (cs : List ℕ) (c : ℕ) → spells t cs → is_space c ≡ true → run a (Some a.start) (cs ++ c ∷ []) ≡ None

-- Behind a token no characters lead on to white space, unless one of these words stands among them, and what begins as white
-- space or a comment is one, as far as the automaton goes on. So a token can be told as soon as white space follows it. The
-- words are the long quotes of Turtle, which begin with an empty string.
pub record IsPrompt {T : Type 0} (a : Automaton) (spells : T → List ℕ → Type 0) (words : List (List ℕ)) : Type 0 where
  pub token : (t : T) (cs more : List ℕ) (c : ℕ) → spells t cs → is_space c ≡ true → (run a (Some a.start) (cs ++ (more ++ c ∷ [])) ≡ None) ⊎ HoldsOne words (cs ++ (more ++ c ∷ []))
  pub gap : (c : ℕ) (cs : List ℕ) (state : ℕ) → (is_space c ≡ true) ⊎ (is_comment_start c ≡ true) → run a (Some a.start) (c ∷ cs) ≡ Some state → (kind : ℕ) × Spells a kind (c ∷ cs)

-- each token is written somehow
abbrev pub AreSpelled : {T : Type 0} → (T → List ℕ → Type 0) → List (Placed T) → Type 0
AreSpelled {T} spells tokens = AllByRecursion (λ (p : Placed T). (spelling : List ℕ) × spells p.token spelling) tokens
