-- Before what a token of a written text is the longest.
use Rattle.std.proofs.Common.{◌≡◌, ℕ, true, List, [], ◌∷◌}
use Rattle.std.proofs.lemmas.Bool.{false≢true}
use Rattle.owl_characters.specs.Names.{begins_with}
use Rattle.owl_lexer.specs.Splitting.{IsLongest}
use Rattle.owl_tokens.proofs.StopLaws.{is_stop, longest_before_stop}
use Rattle.owl_tokens.specs.Tokens.{Spells}
use Rattle.owl_tokens.specs.declared.token.Token.{Token}

abbrev pub Ends : List ℕ → Type 0
Ends rest = begins_with is_stop rest ≡ true

pub token_longest : (token : Token) (spelling rest : List ℕ) → Spells token spelling → Ends rest → IsLongest Spells spelling rest
token_longest token spelling [] h e = absurd (false≢true e)
token_longest token spelling (c ∷ rest) h e = longest_before_stop token spelling c rest h e
