-- Which rows may say a triple, by the word that is its class or its predicate.
use Rattle.std.specs.Prelude.{cond, Option, None, Some}
use Rattle.std.specs.List.{list_any}
use Rattle.rdf_meaning.specs.declared.row.Site.{Site}
use Rattle.rdf_meaning.specs.declared.row.Site.TheVariants.{TypedBy, OtherType, LinkedBy, OtherLink}
use Rattle.rdf_meaning.specs.declared.word.Word.{Word}
use Rattle.rdf_meaning.specs.Denotation.{axiom_predicates, axiom_types}
use Rattle.rdf_meaning.specs.Nodes.{is_word}

abbrev pub typed_site : Option Word → Site
typed_site None = OtherType
typed_site (Some w) = cond (list_any (λ v. is_word v w) axiom_types) (TypedBy w) OtherType

abbrev pub linked_site : Option Word → Site
linked_site None = OtherLink
linked_site (Some w) = cond (list_any (λ v. is_word v w) axiom_predicates) (LinkedBy w) OtherLink
