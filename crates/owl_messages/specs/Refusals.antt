-- What is told where a main document can't be translated: it is not well typed, or the target can't say a part of it.
use Rattle.std.specs.Prelude.{ℕ, List, ◌++◌, Option, None, Some, codes}
use Rattle.std.specs.Str.{encode_utf8_all}
use Rattle.fss_write.specs.Text.{axiom_text}
use Rattle.owl_command.specs.declared.status.Status.TheVariants.{Target}
use Rattle.owl_kind.specs.declared.kind.Kind.{Kind}
use Rattle.owl_kind.specs.declared.kind.Kind.TheVariants.{Class, Datatype, ObjectProperty, DataProperty, AnnotationProperty, Individual}
use Rattle.owl_kind.specs.Kinds.{Entity}
use Rattle.owl_tree.specs.declared.tag.Tag.{Tag}
use Rattle.owl_tree.specs.declared.tag.Tag.TheVariants as tag
use Rattle.owl_tree.specs.Tags.{keyword_of}
use Rattle.owl_doc.specs.Parts.{Part, of_axiom, of_header}
use Rattle.sayable_parts.specs.Reasons.{Objection, annotated_declaration, facet_name, inverse_assertion, inverse_subject, many_properties, reserved, two_inverses, undeclared_subject, unnamed_subject}
use Rattle.owl_messages.specs.Outcome.{Outcome, noted_as, refused}

-- the part, as a line of the note has it: an axiom has its IRIs in full
abbrev pub item_text : Part → List ℕ
item_text (of_header annotations) = codes "header"
item_text (of_axiom t) = noted_as (codes "axiom") (encode_utf8_all (axiom_text t))

-- the tag of the leaves that name an IRI as this kind
abbrev pub tag_of_kind : Kind → Tag
tag_of_kind Class = tag.Class
tag_of_kind Datatype = tag.Datatype
tag_of_kind ObjectProperty = tag.ObjectProperty
tag_of_kind DataProperty = tag.DataProperty
tag_of_kind AnnotationProperty = tag.AnnotationProperty
tag_of_kind Individual = tag.NamedIndividual

-- an IRI of two kinds that no IRI may share
abbrev pub two_kinds : List ℕ → Outcome
two_kinds iri = refused Target (codes "typing: TwoKinds <" ++ (encode_utf8_all iri ++ codes ">\n"))

abbrev pub undeclared_line : Entity → List ℕ → List ℕ
undeclared_line e item =
    codes "typing: Undeclared " ++ (keyword_of (tag_of_kind e.kind) ++ (codes " <" ++ (encode_utf8_all e.iri ++ (codes ">: " ++ (item ++ codes "\n")))))

-- an entity in this part that is neither declared nor built in
abbrev pub undeclared : Part → Entity → Outcome
undeclared part e = refused Target (undeclared_line e (item_text part))

abbrev pub objection_word : Objection → List ℕ
objection_word (reserved iri) = codes "Reserved"
objection_word (facet_name iri) = codes "FacetName"
objection_word unnamed_subject = codes "UnnamedSubject"
objection_word inverse_subject = codes "InverseSubject"
objection_word two_inverses = codes "TwoInverses"
objection_word inverse_assertion = codes "InverseAssertion"
objection_word many_properties = codes "ManyProperties"
objection_word annotated_declaration = codes "AnnotatedDeclaration"
objection_word (undeclared_subject iri) = codes "UndeclaredSubject"

abbrev pub objection_iri : Objection → Option (List ℕ)
objection_iri (reserved iri) = Some iri
objection_iri (facet_name iri) = Some iri
objection_iri (undeclared_subject iri) = Some iri
objection_iri _ = None

-- a word, and behind it an IRI in full, if it is there
abbrev pub with_iri : List ℕ → Option (List ℕ) → List ℕ
with_iri word None = word
with_iri word (Some iri) = word ++ (codes " <" ++ (encode_utf8_all iri ++ codes ">"))

abbrev pub objection_text : Objection → List ℕ
objection_text why = with_iri (objection_word why) (objection_iri why)

abbrev pub unsayable_line : Objection → List ℕ → List ℕ
unsayable_line why item = codes "target: " ++ (objection_text why ++ (codes ": " ++ (item ++ codes "\n")))

-- what the target can't say in this part
abbrev pub unsayable : Part → Objection → Outcome
unsayable part why = refused Target (unsayable_line why (item_text part))
