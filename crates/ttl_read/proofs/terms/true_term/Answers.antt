use Rattle.std.proofs.Common.{ℕ, List, codes, refl, subst}
use Rattle.owl_characters.proofs.AsciiLaws.{ascii_chars}
use Rattle.rdf_terms.specs.Vocabulary.{xsd}
use Rattle.ttl_grammar.specs.States.{literal_term}
use Rattle.lexical_values.specs.TypedLiterals.{typed_literal}
use Rattle.owl_reader.specs.Computing.{Computes}
use Rattle.ttl_read.proofs.terms.true_term.Goals as goal

pub returns : goal.returns
returns c =
    subst (λ (form : List ℕ). Computes c.of_xsd.result (literal_term (typed_literal form (xsd (codes "boolean"))))) (ascii_chars (codes "true") refl) c.of_xsd.ensures
