-- What frames and the other items of a document mean (Manchester Syntax, sections 2.4 to 2.6).
use Rattle.std.specs.Prelude.{ℕ, suc, ◌+◌, Bool, true, false, not, ◌==◌, if◌then◌else◌, List, [], ◌∷◌, ◌++◌, filter, length, map, Option, None, Some, Ok, Err}
use Rattle.std.specs.List.{filter_map, flat_map}
use Rattle.man_raw.specs.declared.document.RawPart.{RawPart}
use Rattle.man_raw.specs.declared.form.Form.TheVariants as form
use Rattle.man_raw.specs.declared.form.What.TheVariants as what
use Rattle.man_raw.specs.declared.heading.Heading.{Heading}
use Rattle.man_raw.specs.Documents.{DocumentTree, HeadTree, ItemTree}
use Rattle.man_raw.specs.Raws.{RawTree, list_of, place_of, raw}
use Rattle.owl_doc.specs.Entities.{entity_of}
use Rattle.owl_doc.specs.Heads.{name_of}
use Rattle.owl_kind.specs.declared.kind.Kind.{Kind}
use Rattle.owl_kind.specs.Kinds.{Entity}
use Rattle.owl_tree.specs.declared.atom.Atom.TheVariants as atom
use Rattle.owl_tree.specs.declared.tag.Tag.{Tag}
use Rattle.owl_tree.specs.declared.tag.Tag.TheVariants as tag
use Rattle.owl_tree.specs.Ontologies.{Head, Ontology}
use Rattle.owl_tree.specs.Rows.{is_tag}
use Rattle.owl_tree.specs.Trees.{Tree, kids_of, leaf, no_kids, node, tag_of}
use Rattle.man_resolve.specs.declared.fault.ResolveFault.TheVariants.{WrongForm}
use Rattle.man_resolve.specs.declared.place.Place.{Place}
use Rattle.man_resolve.specs.declared.place.Place.TheVariants as place
use Rattle.man_resolve.specs.declared.sentence.Sentence.{Sentence}
use Rattle.man_resolve.specs.declared.sentence.Sentence.TheVariants.{Beside, Ahead, Members, Properties, Key, Fact, Note, Word, Wrong}
use Rattle.man_resolve.specs.declared.shape.ByKind.{ByKind}
use Rattle.man_resolve.specs.Expressions.{Knows, Meaning, Stem, Told, after, all_at, all_of, behind, by_property, in_front, is_data, meant, meant_atom, node_of, stem, takes, where_takes}
use Rattle.man_resolve.specs.Places.{declared_kind, fact_tags, name_place, negative_tags, sentence_of, word_tag}

-- ---- what stands behind the annotations of an axiom

abbrev pub meanings_of : Knows → List RawTree → List Meaning
meanings_of ks ts = map (meant ks) ts

abbrev pub one : Told Tree → Told (List Tree)
one t = in_front t (Ok [])

-- what is said of what is found, if it is
abbrev pub where_found : {X : Type 0} → ℕ → Option X → (X → Told Stem) → Told Stem
where_found at None says = Err (WrongForm at)
where_found at (Some x) says = says x

-- the members of a list
abbrev pub members_in : RawTree → Option (List RawTree)
members_in (raw at (what.Form form.List) ts) = Some (list_of ts)
members_in _ = None

-- the subject, and the members
abbrev pub members_said : Knows → Tag → Place → List Tree → ℕ → List RawTree → Told Stem
members_said ks t p subject at ts =
    where_takes (takes t (suc (length subject + length ts))) at (stem t (after subject (all_of (all_at p (meanings_of ks ts)))))

abbrev pub members : Knows → Tag → Place → List Tree → RawTree → Told Stem
members ks t p subject body = where_found (place_of body) (members_in body) (members_said ks t p subject (place_of body))

-- the members, of which the first decides
abbrev pub properties : Knows → ByKind → RawTree → Told Stem
properties ks by body =
    where_found (place_of body) (members_in body) (λ ts. by_property by [] 1 (place_of body) (meanings_of ks ts))

-- the data properties, or all others, as a group
abbrev pub is_wanted : Bool → Tree → Bool
is_wanted true t = is_data t
is_wanted false t = not (is_data t)

abbrev pub group : Tag → Bool → Told (List Tree) → Told Tree
group t datas (Err f) = Err f
group t datas (Ok ts) = Ok (node t (kids_of (filter (is_wanted datas) ts)))

abbrev pub groups : Told (List Tree) → Told (List Tree)
groups ps = in_front (group tag.ObjectKeys false ps) (one (group tag.DataKeys true ps))

-- the subject, and the members in two groups
abbrev pub key_said : Knows → List Tree → ℕ → List RawTree → Told Stem
key_said ks subject at ts =
    where_takes (not (length ts == 0)) at (stem tag.HasKey (after subject (groups (all_of (all_at place.Property (meanings_of ks ts))))))

abbrev pub key : Knows → List Tree → RawTree → Told Stem
key ks subject body = where_found (place_of body) (members_in body) (key_said ks subject (place_of body))

-- what a fact says, or one behind `not`
abbrev pub fact_by : RawTree → Option ByKind
fact_by (raw at (what.Form form.Fact) ts) = Some fact_tags
fact_by (raw at (what.Form form.NegativeFact) ts) = Some negative_tags
fact_by _ = None

abbrev pub parts_of : RawTree → List RawTree
parts_of (raw at w ts) = list_of ts

-- a property, the subject and a value
abbrev pub fact_said : Knows → List Tree → ℕ → List RawTree → ByKind → Told Stem
fact_said ks subject at ts by =
    where_takes (takes by.object_tag (suc (length subject + length ts))) at (by_property by subject 1 at (meanings_of ks ts))

abbrev pub fact : Knows → List Tree → RawTree → Told Stem
fact ks subject body = where_found (place_of body) (fact_by body) (fact_said ks subject (place_of body) (parts_of body))

-- the property and the value of an assertion
abbrev pub pair_of : List RawTree → Option (RawTree × RawTree)
pair_of [] = None
pair_of (p ∷ []) = None
pair_of (p ∷ v ∷ []) = Some (p, v)
pair_of (p ∷ v ∷ t ∷ ts) = None

abbrev pub assertion_in : RawTree → Option (RawTree × RawTree)
assertion_in (raw at (what.Form form.Assertion) ts) = pair_of (list_of ts)
assertion_in _ = None

-- what an annotation that is about the subject calls it
abbrev pub called : Tree → Tree
called (leaf t (atom.Iri iri)) = leaf tag.PlainIri (atom.Iri iri)
called (leaf t (atom.Label label)) = leaf tag.Anonymous (atom.Label label)
called t = t

-- an annotation property, the subject and a value
abbrev pub note_said : Knows → List Tree → RawTree × RawTree → Told Stem
note_said ks subject parts =
    stem tag.AnnotationAssertion (in_front (meant ks parts.0 place.AnnotationProperty) (after (map called subject) (one (meant ks parts.1 place.Value))))

abbrev pub note : Knows → List Tree → RawTree → Told Stem
note ks subject body = where_found (place_of body) (assertion_in body) (note_said ks subject)

-- what the word says
abbrev pub word_in : Heading → RawTree → Option Tag
word_in h (raw at (what.Word w) ts) = word_tag h w
word_in h _ = None

abbrev pub word : List Tree → Heading → RawTree → Told Stem
word subject h body = where_found (place_of body) (word_in h body) (λ t. Ok (record { tag = t; kids = subject }))

-- what the sentence says of the subject with this element
abbrev pub stated : Knows → Heading → Sentence → List Tree → RawTree → Told Stem
stated ks h (Beside t p) subject body = stem t (after subject (one (meant ks body p)))
stated ks h (Ahead t p) subject body = stem t (in_front (meant ks body p) (Ok subject))
stated ks h (Members t p) subject body = members ks t p subject body
stated ks h (Properties by) subject body = properties ks by body
stated ks h Key subject body = key ks subject body
stated ks h Fact subject body = fact ks subject body
stated ks h Note subject body = note ks subject body
stated ks h Word subject body = word subject h body
stated ks h Wrong subject body = Err (WrongForm (place_of body))

-- ---- items

-- the axiom of one element
unfoldable pub axiom_of : Knows → Heading → List Tree → RawPart → Told Tree
axiom_of ks h subject part = node_of (behind (meant ks part.notes place.Notes) (stated ks h (sentence_of h part.section) subject part.body))

-- a name means what its atom means
abbrev pub named : Knows → RawTree → Place → Told Tree
named ks (raw at (what.Atom a) ts) p = meant_atom ks at a p
named ks t p = Err (WrongForm (place_of t))

-- what a frame is of; another item is of nothing
abbrev pub subject_of : Knows → ℕ → Option Place → Option RawTree → Told (List Tree)
subject_of ks at (Some p) (Some t) = one (named ks t p)
subject_of ks at None None = Ok []
subject_of ks at _ _ = Err (WrongForm at)

-- a name is declared, and no anonymous individual
abbrev pub declaration_of : Tree → List Tree
declaration_of t = if is_tag tag.Anonymous (tag_of t) then [] else node tag.Declaration (kids_of (node tag.Notes no_kids ∷ t ∷ [])) ∷ []

abbrev pub said_of : Knows → ItemTree → Told (List Tree) → List (Told Tree)
said_of ks item (Err f) = Err f ∷ []
said_of ks item (Ok subject) = map Ok (flat_map declaration_of subject) ++ map (axiom_of ks item.heading subject) item.parts

-- the axioms of an item
unfoldable pub axioms_of : Knows → ItemTree → List (Told Tree)
axioms_of ks item = said_of ks item (subject_of ks item.at (name_place item.heading) item.name)

-- the annotations of a block
abbrev pub annotations_of : Knows → RawTree → List (Told Tree)
annotations_of ks (raw at (what.Form form.Notes) ts) = all_at place.Note (meanings_of ks (list_of ts))
annotations_of ks t = Err (WrongForm (place_of t)) ∷ []

-- ---- documents

abbrev pub head_in : HeadTree → Head
head_in h = record { name = name_of h.iri h.version; imports = h.imports }

abbrev pub ontology_with : Head → Told (List Tree) → Told (List Tree) → Told Ontology
ontology_with h (Err f) axioms = Err f
ontology_with h (Ok notes) (Err f) = Err f
ontology_with h (Ok notes) (Ok axioms) = Ok (record { head = h; annotations = notes; axioms = axioms })

-- what the document means, or what is wrong first in the order of the text
unfoldable pub resolved : Knows → DocumentTree → Told Ontology
resolved ks d = ontology_with (head_in d.head) (all_of (flat_map (annotations_of ks) d.notes)) (all_of (flat_map (axioms_of ks) d.items))

-- ---- what is declared

-- the name, as this kind
abbrev pub named_entity : Option Kind → Option RawTree → Option Entity
named_entity k (Some (raw at (what.Atom a) ts)) = entity_of k a
named_entity k _ = None

abbrev pub frame_entity : ItemTree → Option Entity
frame_entity item = named_entity (declared_kind item.heading) item.name

-- what the frames of names declare
abbrev pub frame_entities : DocumentTree → List Entity
frame_entities d = filter_map frame_entity d.items
