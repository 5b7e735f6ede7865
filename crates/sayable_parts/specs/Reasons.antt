-- Why a syntax can't say a part of a document, with the IRI where there is one.
use Rattle.std.specs.Prelude.{ℕ, List}
use Rattle.owl_doc.specs.declared.item.Why.{Why}
use Rattle.owl_doc.specs.declared.item.Why.TheVariants as why

pub data Objection : Type 0 where
  reserved : List ℕ → Objection
  facet_name : List ℕ → Objection
  unnamed_subject : Objection
  inverse_subject : Objection
  two_inverses : Objection
  inverse_assertion : Objection
  many_properties : Objection
  annotated_declaration : Objection
  undeclared_subject : List ℕ → Objection

-- the objection that the code has
abbrev pub why_seen : Why → Objection
why_seen (why.Reserved iri) = reserved iri.now
why_seen (why.FacetName iri) = facet_name iri.now
why_seen why.UnnamedSubject = unnamed_subject
why_seen why.InverseSubject = inverse_subject
why_seen why.TwoInverses = two_inverses
why_seen why.InverseAssertion = inverse_assertion
why_seen why.ManyProperties = many_properties
why_seen why.AnnotatedDeclaration = annotated_declaration
why_seen (why.UndeclaredSubject iri) = undeclared_subject iri.now
