-- Words by their IRIs.
use Rattle.std.specs.Prelude.{◌≡◌, ◌↔◌, ℕ, Bool, cond, nat_eq, List, Option, None, Some, codes}
use Rattle.std.specs.List.{find, starts_with}
use Rattle.std.specs.Str.{bytes_eq}
use Rattle.rdf_meaning.specs.declared.word.Word.{Word}
use Rattle.rdf_meaning.specs.Words.{is_type, word_iri}

-- the word with this IRI among the classes, or among the predicates
abbrev pub IsWordOf : Bool → List ℕ → Option Word → Type 0
IsWordOf type iri result = (w : Word) → ((is_type w ≡ type) × (word_iri w ≡ iri)) ↔ (result ≡ Some w)

-- the one of these words with this IRI
unfoldable pub word_in : List Word → List ℕ → Option Word
word_in words iri = cond (starts_with nat_eq iri (codes "http://www.w3.org/")) (find (λ w. bytes_eq (word_iri w) iri) words) None
