-- The subjects of axioms (Manchester Syntax, section 2.5): the frame of an axiom is that of a name.
use Rattle.std.specs.Prelude.{ℕ, Bool, false, ◌&&◌, ◌||◌, if◌then◌else◌, not, List, Option, None, Some}
use Rattle.std.specs.List.{slice_get}
use Rattle.owl_tree.specs.declared.tag.Tag.{Tag}
use Rattle.owl_tree.specs.declared.tag.Tag.TheVariants as tag
use Rattle.owl_tree.specs.Rows.{is_tag}
use Rattle.owl_tree.specs.Trees.{Tree, tag_of}
use Rattle.sayable_parts.specs.Reasons.{Objection, inverse_assertion, inverse_subject, two_inverses, unnamed_subject}
use Rattle.man_sayable.specs.declared.subjects.Subject.{Subject}
use Rattle.man_sayable.specs.declared.subjects.Subject.TheVariants as subject

-- what the subject of an axiom with this tag has to be
unfoldable pub subject_of : Tag → Subject
subject_of tag.SubClassOf = subject.ClassName
subject_of tag.HasKey = subject.ClassName
subject_of tag.SubObjectPropertyOf = subject.SubProperty
subject_of tag.InverseObjectProperties = subject.OneName
subject_of tag.ObjectPropertyDomain = subject.PropertyName
subject_of tag.ObjectPropertyRange = subject.PropertyName
subject_of tag.FunctionalObjectProperty = subject.PropertyName
subject_of tag.InverseFunctionalObjectProperty = subject.PropertyName
subject_of tag.ReflexiveObjectProperty = subject.PropertyName
subject_of tag.IrreflexiveObjectProperty = subject.PropertyName
subject_of tag.SymmetricObjectProperty = subject.PropertyName
subject_of tag.AsymmetricObjectProperty = subject.PropertyName
subject_of tag.TransitiveObjectProperty = subject.PropertyName
subject_of tag.ObjectPropertyAssertion = subject.FactName
subject_of tag.NegativeObjectPropertyAssertion = subject.FactName
subject_of _ = subject.Any

abbrev pub is_tagged : Tag → Option Tree → Bool
is_tagged t None = false
is_tagged t (Some u) = is_tag t (tag_of u)

-- the kid at this place, from 0, has the tag
abbrev pub has_tag_at : Tag → ℕ → List Tree → Bool
has_tag_at t place kids = is_tagged t (slice_get kids place)

-- the objection, where this holds
abbrev pub against : Bool → Objection → Option Objection
against holds why = if holds then Some why else None

-- What is to be said against the subject of an axiom with these kids. The first of them, at 0, are its annotations.
abbrev pub subject_objection : Subject → List Tree → Option Objection
subject_objection subject.ClassName kids = against (not (has_tag_at tag.Class 1 kids)) unnamed_subject
subject_objection subject.PropertyName kids = against (has_tag_at tag.ObjectInverseOf 1 kids) inverse_subject
subject_objection subject.SubProperty kids =
    against (has_tag_at tag.ObjectInverseOf 1 kids || has_tag_at tag.ObjectPropertyChain 1 kids && has_tag_at tag.ObjectInverseOf 2 kids) inverse_subject
-- in canonical form names stand before inverse properties
subject_objection subject.OneName kids = against (not (has_tag_at tag.ObjectProperty 1 kids)) two_inverses
subject_objection subject.FactName kids = against (has_tag_at tag.ObjectInverseOf 1 kids) inverse_assertion
subject_objection subject.Any kids = None
