-- Characters that are cut into terms.
use Rattle.std.proofs.Common.{ℕ, List, [], ◌∷◌, ◌++◌, refl}
use Rattle.std.specs.Prelude.{codes}
use Rattle.owl_characters.specs.Names.{IsNameFrom, is_start}
use Rattle.owl_tokens.specs.Tokens.{Spells}
use Rattle.owl_tokens.specs.declared.token.Sign.TheVariants as sign
use Rattle.owl_tokens.specs.declared.token.Token.TheVariants as token
use Rattle.owl_tokens.proofs.StopLaws.{longest_closed}
use Rattle.owl_atom.specs.declared.prefixes.Prefix.{Prefix}
use Rattle.owl_writing.proofs.CutLaws.{Cuts, cuts_none, cuts_space, cuts_token}
use Rattle.fss_terms.specs.Terms.{AreTerms}
use Rattle.fss_terms.specs.declared.term.Term.{Term}
use Rattle.fss_terms.specs.declared.term.Term.TheVariants.{Keyword, Opening, Closing}
use Rattle.fss_write.proofs.Stops.{token_longest}

-- the characters are these terms, by these prefixes
abbrev pub SaysTerms : List Prefix → List ℕ → List Term → Type 0
SaysTerms prefixes cs terms = Cuts Spells cs (λ tokens. AreTerms prefixes tokens terms)

module _ (prefixes : List Prefix) where
  pub says_none : SaysTerms prefixes [] []
  says_none = cuts_none Spells (λ tokens. AreTerms prefixes tokens []) refl

  pub says_space : (cs : List ℕ) (terms : List Term) → SaysTerms prefixes cs terms → SaysTerms prefixes (32 ∷ cs) terms
  says_space cs terms k = cuts_space Spells (λ tokens. AreTerms prefixes tokens terms) 32 cs refl k

  pub says_line : (cs : List ℕ) (terms : List Term) → SaysTerms prefixes cs terms → SaysTerms prefixes (10 ∷ cs) terms
  says_line cs terms k = cuts_space Spells (λ tokens. AreTerms prefixes tokens terms) 10 cs refl k

  pub says_open : (cs : List ℕ) (terms : List Term) → SaysTerms prefixes cs terms → SaysTerms prefixes (40 ∷ cs) (Opening ∷ terms)
  says_open cs terms k =
      cuts_token Spells (λ tokens. AreTerms prefixes tokens (Opening ∷ terms)) (λ tokens. AreTerms prefixes tokens terms) (token.Sign sign.Open) (codes "(") cs refl (longest_closed (token.Sign sign.Open) (codes "(") cs refl refl) (λ ts h. (ts, refl, h)) k

  pub says_close : (cs : List ℕ) (terms : List Term) → SaysTerms prefixes cs terms → SaysTerms prefixes (41 ∷ cs) (Closing ∷ terms)
  says_close cs terms k =
      cuts_token Spells (λ tokens. AreTerms prefixes tokens (Closing ∷ terms)) (λ tokens. AreTerms prefixes tokens terms) (token.Sign sign.Close) (codes ")") cs refl (longest_closed (token.Sign sign.Close) (codes ")") cs refl refl) (λ ts h. (ts, refl, h)) k

  -- a keyword, and the bracket behind it
  pub says_opening : (word cs : List ℕ) (terms : List Term) → IsNameFrom is_start word → SaysTerms prefixes cs terms → SaysTerms prefixes (word ++ 40 ∷ cs) (Keyword word ∷ Opening ∷ terms)
  says_opening word cs terms h k =
      cuts_token Spells (λ tokens. AreTerms prefixes tokens (Keyword word ∷ Opening ∷ terms)) (λ tokens. AreTerms prefixes tokens (Opening ∷ terms)) (token.Word word) word (40 ∷ cs) (h, refl) (token_longest (token.Word word) word (40 ∷ cs) (h, refl) refl) (λ ts m. (ts, refl, m)) (says_open cs terms k)
