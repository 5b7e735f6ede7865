-- What is written for tokens says what they hold.
use Rattle.std.proofs.Common.{List, ℕ}
use Rattle.owl_characters.proofs.NameCharacterLaws.{local_fits}
use Rattle.owl_tokens.specs.Tokens.{IsToken, Spells}
use Rattle.owl_tokens.specs.declared.token.Token.{Token}
use Rattle.owl_tokens.specs.declared.token.Token.TheVariants.{Iri, Name, Blank, Str, At, Word, Int, Dec, Sign}

pub spelled_is_token : (t : Token) (cs : List ℕ) → Spells t cs → IsToken t
spelled_is_token (Iri iri) cs h = h.0
spelled_is_token (Name prefix local) cs h = (h.1, local_fits h.0 local h.2)
spelled_is_token (Blank label) cs h = h.0
spelled_is_token (Str text) cs h = tt
spelled_is_token (At tag) cs h = h.0
spelled_is_token (Word word) cs h = h.0
spelled_is_token (Int digits) cs h = h.0
spelled_is_token (Dec number) cs h = absurd h
spelled_is_token (Sign mark) cs h = tt
