-- What can be said in Manchester Syntax (sections 2.3 to 2.6), of axioms in canonical form.
use Rattle.std.specs.Prelude.{◌≡◌, ℕ, Bool, true, false, ◌&&◌, ◌||◌, if◌then◌else◌, List, ◌∷◌, Option, None, Some}
use Rattle.std.specs.List.{slice_get}
use Rattle.std.specs.Option.{option_or}
use Rattle.owl_doc.specs.Parts.{Part, of_axiom, of_header}
use Rattle.owl_kind.specs.declared.kind.Kind.{Kind}
use Rattle.owl_kind.specs.Kinds.{Entity}
use Rattle.owl_tree.specs.declared.atom.Atom.{Atom}
use Rattle.owl_tree.specs.declared.atom.Atom.TheVariants as atom
use Rattle.owl_tree.specs.declared.tag.Tag.{Tag}
use Rattle.owl_tree.specs.declared.tag.Tag.TheVariants as tag
use Rattle.owl_tree.specs.Ontologies.{Ontology}
use Rattle.owl_tree.specs.Rows.{is_tag}
use Rattle.owl_tree.specs.Trees.{Tree, Kids, leaf, node, no_kids, kid, kids_in, tag_of}
use Rattle.man_raw.specs.declared.form.Facet.{Facet}
use Rattle.man_resolve.specs.Expressions.{Knows, knows}
use Rattle.sayable_parts.specs.Reasons.{Objection, annotated_declaration, facet_name, many_properties, undeclared_subject}
use Rattle.sayable_parts.specs.Unsaid.{IsFirstUnsaid, Says, SaysAll}
use Rattle.man_sayable.specs.declared.inside.Look.{Look}
use Rattle.man_sayable.specs.declared.inside.Look.TheVariants.{Properties, Facets}
use Rattle.man_sayable.specs.FrameKinds.{frame_kind}
use Rattle.man_sayable.specs.Facets.{facet_named}
use Rattle.man_sayable.specs.Subjects.{against, subject_objection, subject_of}

-- ---- inside of axioms

-- more than two
abbrev pub are_many : List Tree → Bool
are_many (a ∷ b ∷ c ∷ ts) = true
are_many _ = false

abbrev pub is_data_quantifier : Tag → Bool
is_data_quantifier t = is_tag tag.DataSomeValuesFrom t || is_tag tag.DataAllValuesFrom t

-- against a quantifier: that its kids are not one property and a data range (section 2.4)
abbrev pub properties_objection : Tree → Option Objection
properties_objection t = against (is_data_quantifier (tag_of t) && are_many (kids_in t)) many_properties

abbrev pub wordless : List ℕ → Option Facet → Option Objection
wordless iri None = Some (facet_name iri)
wordless iri (Some f) = None

-- against the IRI of a facet: that the facet has no word or sign (section 2.3)
abbrev pub facet_iri_objection : Atom → Option Objection
facet_iri_objection (atom.Iri iri) = wordless iri (facet_named iri)
facet_iri_objection _ = None

abbrev pub facet_objection : Tree → Option Objection
facet_objection (leaf t a) = if is_tag tag.Facet t then facet_iri_objection a else None
facet_objection (node t ks) = None

-- what is to be said against a tree itself, by what is looked for
abbrev pub own_objection : Look → Tree → Option Objection
own_objection Properties t = properties_objection t
own_objection Facets t = facet_objection t

-- and first against a tree and all that stands inside, from left to right
abbrev mutual
  pub inner_objection : Look → Tree → Option Objection
  inner_objection look (leaf t a) = own_objection look (leaf t a)
  inner_objection look (node t ks) = option_or (own_objection look (node t ks)) (kids_objection look ks)

  pub kids_objection : Look → Kids → Option Objection
  kids_objection look no_kids = None
  kids_objection look (kid t ks) = option_or (inner_objection look t) (kids_objection look ks)

-- ---- what no frame can say (section 2.5)

abbrev pub has_kids : Option Tree → Bool
has_kids (Some (node t (kid u us))) = true
has_kids _ = false

abbrev pub undeclared : List ℕ → Option Kind → Option Objection
undeclared iri None = Some (undeclared_subject iri)
undeclared iri (Some kind) = None

-- against the IRI of the subject of an annotation: that it has the kind of no frame
abbrev pub annotated_iri_objection : Knows → Atom → Option Objection
annotated_iri_objection known (atom.Iri iri) = undeclared iri (frame_kind known iri)
annotated_iri_objection known _ = None

abbrev pub annotated_objection : Knows → Option Tree → Option Objection
annotated_objection known (Some (leaf t a)) = annotated_iri_objection known a
annotated_objection known _ = None

-- against an axiom with this tag and these kids: a declaration's annotations, which stand at 0, and an annotation's subject, at 2
unfoldable pub frame_objection : Knows → Tag → List Tree → Option Objection
frame_objection known tag.Declaration kids = against (has_kids (slice_get kids 0)) annotated_declaration
frame_objection known tag.AnnotationAssertion kids = annotated_objection known (slice_get kids 2)
frame_objection known _ kids = None

-- ---- all of it

-- what is to be said first against an axiom: of its subject, of properties and then of facets inside, and of its frame
abbrev pub axiom_objection : Knows → Tree → Option Objection
axiom_objection known t =
    option_or (subject_objection (subject_of (tag_of t)) (kids_in t))
    (option_or (inner_objection Properties t) (option_or (inner_objection Facets t) (frame_objection known (tag_of t) (kids_in t))))

-- nothing is to be said against a tree and all that stands inside
pub record IsClear (t : Tree) : Type 0 where
  pub properties : inner_objection Properties t ≡ None
  pub facets : inner_objection Facets t ≡ None

-- nothing is to be said against an axiom
pub record IsUnopposed (known : Knows) (t : Tree) : Type 0 where
  pub subject : subject_objection (subject_of (tag_of t)) (kids_in t) ≡ None
  pub inside : IsClear t
  pub frame : frame_objection known (tag_of t) (kids_in t) ≡ None

-- Each header can be said: in annotations stand no quantifiers and no facets.
abbrev pub part_objection : Knows → Part → Option Objection
part_objection known (of_header annotations) = None
part_objection known (of_axiom t) = axiom_objection known t

-- the part can be said under these kinds
abbrev pub CanSay : List Entity → Part → Type 0
CanSay kinds part = Says (part_objection (knows kinds)) part

-- all that the ontology says can be said
abbrev pub CanSayAll : List Entity → Ontology → Type 0
CanSayAll kinds o = SaysAll (part_objection (knows kinds)) o

-- the first part of the ontology that can't be said, its header before its axioms in canonical order
abbrev pub IsFirstUnsayable : List Entity → Ontology → Part → Objection → Type 0
IsFirstUnsayable kinds o part why = IsFirstUnsaid (part_objection (knows kinds)) o part why
