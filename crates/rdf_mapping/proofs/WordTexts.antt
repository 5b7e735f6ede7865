-- The IRIs of words, by their characters.
use Rattle.std.proofs.Common.{◌≡◌, ◌≢◌, ℕ, true, List, get_or, refl, sym, ap, ◌∙◌, true≢false}
use Rattle.std.specs.Prelude.{nat_eq}
use Rattle.rdf_terms.specs.Literals.{lang_string, plain_literal}
use Rattle.rdf_terms.specs.Tables.{is_ascii_iri}
use Rattle.rdf_terms.specs.Vocabulary.{xsd}
use Rattle.rdf_meaning.specs.declared.word.Word.{Word}
use Rattle.rdf_meaning.specs.declared.word.Word.TheVariants as word
use Rattle.rdf_meaning.specs.Words.{word_iri}

pub word_is_ascii : (w : Word) → is_ascii_iri (word_iri w) ≡ true
unfolding word_iri
word_is_ascii word.Class = refl
word_is_ascii _ = refl

-- a datatype of XML Schema is none of RDF
pub of_xml_schema : (name datatype : List ℕ) → datatype ≡ xsd name → (datatype ≢ plain_literal) × (datatype ≢ lang_string)
of_xml_schema name datatype e =
    (λ h. true≢false (ap (λ (cs : List ℕ). nat_eq (get_or cs 18 0) 50) (sym e ∙ h)), λ h. true≢false (ap (λ (cs : List ℕ). nat_eq (get_or cs 18 0) 50) (sym e ∙ h)))
