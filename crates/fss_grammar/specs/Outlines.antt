-- What a maker looks like but for its atoms, which tells whether an act finds what it needs.
use Rattle.std.specs.Prelude.{◌≡◌, ℕ, List, [], ◌∷◌, ◌++◌, map, Option, None, Some}
use Rattle.grammar.specs.Derivations.{Event}
use Rattle.grammar.specs.Derivations.Event.{Do, Take}
use Rattle.owl_tokens.specs.declared.token.Token.{Token}
use Rattle.owl_tree.specs.declared.row.AtomSort.TheVariants as atom
use Rattle.owl_tree.specs.declared.tag.Tag.{Tag}
use Rattle.owl_tree.specs.declared.tag.Tag.TheVariants as tag
use Rattle.owl_tree.specs.Frames.{Frame}
use Rattle.owl_tree.specs.Ontologies.{OntologyName}
use Rattle.owl_tree.specs.Rows.{Row, Leaf, Node, row_of}
use Rattle.owl_tree.specs.Trees.{tag_of}
use Rattle.fss_grammar.specs.Acts.{act_number}
use Rattle.fss_grammar.specs.Making.{Kept, Maker, beginning}
use Rattle.fss_grammar.specs.declared.acts.Act.{Act}
use Rattle.fss_grammar.specs.declared.acts.Act.TheVariants.{AddAnnotation, AddAxiom, Begin, DeclareIri, DeclareName, EndItem, HeldDatatype, HeldProperty, Hold, ImportIri, OntologyIri, Plain, Shut, Tagged, Typed, VersionIri}

-- of what is kept its form, and of a tree or a string its tag
pub data KeptOutline : Type 0 where
  nothing iri prefix : KeptOutline
  string item : Tag → KeptOutline

-- of an open construct its tag, and the tags of its kids so far
pub record FrameOutline : Type 0 where
  pub tag : Tag
  pub kids : List Tag

-- whether the ontology has an IRI, and a version
pub data Naming : Type 0 where
  unnamed named versioned : Naming

pub record Outline : Type 0 where
  pub kept : KeptOutline
  pub frames : List FrameOutline
  pub naming : Naming

-- ---- the outline of a maker

abbrev pub kept_outline : Kept → KeptOutline
kept_outline Kept.nothing = nothing
kept_outline (Kept.string t form) = string t
kept_outline (Kept.iri i) = iri
kept_outline (Kept.prefix name) = prefix
kept_outline (Kept.item t) = item (tag_of t)

abbrev pub frame_outline : Frame → FrameOutline
frame_outline f = record { tag = f.tag; kids = map tag_of f.kids }

abbrev pub naming_by : Option (List ℕ) → Naming
naming_by None = named
naming_by (Some version) = versioned

abbrev pub naming_of : Option OntologyName → Naming
naming_of None = unnamed
naming_of (Some name) = naming_by name.version

abbrev pub outline_of : Maker → Outline
outline_of m = record {
  kept = kept_outline m.kept;
  frames = map frame_outline m.frames;
  naming = naming_of m.document.ontology.head.name;
}

-- ---- what acts make of an outline

abbrev pub with_tag : Tag → FrameOutline → FrameOutline
with_tag t f = record { tag = f.tag; kids = f.kids ++ t ∷ [] }

-- a tree with this tag is the next kid of the innermost construct, or else it is kept
abbrev pub put_tag_in : List FrameOutline → Tag → Outline → Outline
put_tag_in [] t o = record o { kept = item t }
put_tag_in (f ∷ frames) t o = record o { kept = nothing; frames = with_tag t f ∷ frames }

abbrev pub put_tag : Tag → Outline → Outline
put_tag t o = put_tag_in o.frames t o

abbrev pub opened_by : Tag → Row → Outline → Outline
opened_by t (Leaf atom.Literal) o = record o { kept = string t }
opened_by t (Leaf sort) o = put_tag t o
opened_by t (Node front rest) o = record o { frames = record { tag = t; kids = [] } ∷ o.frames }

abbrev pub shut_by : List FrameOutline → Outline → Outline
shut_by [] o = o
shut_by (f ∷ frames) o = put_tag f.tag (record o { frames = frames })

abbrev pub literal_by : KeptOutline → Outline → Outline
literal_by (string t) o = put_tag t o
literal_by _ o = o

-- what an act makes of an outline, where it can be done
abbrev pub outline_behind : Act → Outline → Outline
outline_behind (Begin t) o = opened_by t (row_of t) o
outline_behind Shut o = shut_by o.frames o
outline_behind Plain o = literal_by o.kept o
outline_behind Tagged o = literal_by o.kept o
outline_behind Typed o = literal_by o.kept o
outline_behind Hold o = record o { kept = iri }
outline_behind HeldProperty o = put_tag tag.DataProperty o
outline_behind HeldDatatype o = put_tag tag.Datatype o
outline_behind DeclareName o = record o { kept = prefix }
outline_behind DeclareIri o = record o { kept = nothing }
outline_behind OntologyIri o = record o { kept = nothing; naming = named }
outline_behind VersionIri o = record o { kept = nothing; naming = versioned }
outline_behind ImportIri o = record o { kept = nothing }
outline_behind AddAnnotation o = record o { kept = nothing }
outline_behind AddAxiom o = record o { kept = nothing }
outline_behind EndItem o = o

-- ---- what events make of it

-- an act of this number comes, and then the rest
pub record ActThen (a : ℕ) (o : Outline) (Then : Outline → Type 0) : Type 0 where
  pub act : Act
  pub number_is : act_number act ≡ a
  pub later : Then (outline_behind act o)

-- The acts of these events, in order, take the one outline to the other.
abbrev pub LeadsTo : {X : Type 0} → List (Event X) → Outline → Outline → Type 0
LeadsTo [] o p = o ≡ p
LeadsTo (Take x ∷ events) o p = LeadsTo events o p
LeadsTo (Do a ∷ events) o p = ActThen a o (λ middle. LeadsTo events middle p)

-- A maker looks as these events make it.
abbrev pub Resembles : List (Event Token) → Maker → Type 0
Resembles events m = LeadsTo events (outline_of beginning) (outline_of m)
