-- The triples of a node that is written by a row: one for each of its parts.
use Rattle.std.specs.Prelude.{◌≡◌, Bool, true, false, ◌&&◌, ◌||◌, nat_eq, nat_le, List, [], ◌∷◌, ◌++◌}
use Rattle.std.specs.List.{filter, list_all, list_any}
use Rattle.owl_kind.specs.Kinds.{Entity}
use Rattle.owl_tree.specs.Trees.{Tree}
use Rattle.rdf_graph.specs.declared.triple.Triple.{Triple}
use Rattle.rdf_meaning.specs.declared.role.Role.{Role}
use Rattle.rdf_meaning.specs.declared.role.Role.TheVariants as role
use Rattle.rdf_meaning.specs.declared.row.Part.{Part}
use Rattle.rdf_meaning.specs.declared.row.Place.{Place}
use Rattle.rdf_meaning.specs.declared.row.Place.TheVariants.{At, Subject, Predicate, Object}
use Rattle.rdf_meaning.specs.declared.row.Site.{Site}
use Rattle.rdf_meaning.specs.declared.row.Site.TheVariants.{Node, TypedBy, OtherType, LinkedBy, OtherLink}
use Rattle.rdf_meaning.specs.declared.word.Word.{Word}
use Rattle.rdf_meaning.specs.declared.word.Word.TheVariants as word
use Rattle.rdf_meaning.specs.Denotation.{Denotes, times}
use Rattle.rdf_meaning.specs.Nodes.{carries, first_role, is_word, marked_roles, words_of}
use Rattle.rdf_meaning.specs.RowTests.{is_site}
use Rattle.rdf_meaning.specs.Rows.{Row}
use Rattle.rdf_mapping.specs.Frames.{is_node_word}

-- the triple carries the word at the place
abbrev pub CarriesAt : Place → Triple → Type 0
CarriesAt (At w) t = carries w t ≡ true
CarriesAt Subject t = ⊥
CarriesAt Predicate t = ⊥
CarriesAt Object t = ⊥

-- the triples carry the words of the parts, one each, in their order
abbrev pub SpellParts : List Triple → List Part → Type 0
SpellParts [] [] = Unit {0}
SpellParts [] (p ∷ ps) = ⊥
SpellParts (t ∷ ts) [] = ⊥
SpellParts (t ∷ ts) (p ∷ ps) = CarriesAt p.place t × SpellParts ts ps

-- and their objects denote what is wanted there
pub data DenoteParts (g : List Triple) (k : List Entity) : List Triple → List Part → List Tree → Type 0 where
  no_parts : DenoteParts g k [] [] []
  one_part : (t : Triple) (ts : List Triple) (p : Part) (ps : List Part) (us vs : List Tree) → Denotes g k t.object p.want us →
      DenoteParts g k ts ps vs → DenoteParts g k (t ∷ ts) (p ∷ ps) (us ++ vs)

-- the word makes a node with it one of the role
abbrev pub marks_word : Role → Word → Bool
marks_word role.List w = is_word word.First w || (is_word word.Rest w || false)
marks_word role.Property w = is_word word.InverseOf w
marks_word role.Class w = is_word word.Class w || (is_word word.Restriction w || false)
marks_word role.Range w = is_word word.Datatype w
marks_word role.Facet w = false
marks_word role.Main w =
    is_word word.AllDisjointClasses w
    || (is_word word.AllDisjointProperties w || (is_word word.AllDifferent w || (is_word word.NegativePropertyAssertion w || false)))
marks_word role.Note w = is_word word.Axiom w || (is_word word.Annotation w || false)
marks_word role.Header w = is_word word.Ontology w
marks_word role.Individual w = false

abbrev pub marks_at : Role → Place → Bool
marks_at r (At w) = marks_word r w
marks_at r Subject = false
marks_at r Predicate = false
marks_at r Object = false

-- the role of a node that is written by these parts
abbrev pub role_by : List Part → Role
role_by parts = first_role (filter (λ r. list_any (λ p. marks_at r p.place) parts) marked_roles)

abbrev pub stands_once : List Part → Place → Bool
stands_once parts (At w) = is_node_word w && nat_eq (times w parts) 1
stands_once parts Subject = false
stands_once parts Predicate = false
stands_once parts Object = false

-- each word of the row stands in it once, and they make the role of its node
abbrev pub is_written_well : Row → Bool
is_written_well row =
    is_site row.site (Node (role_by row.parts))
    && (list_all (λ p. stands_once row.parts p.place) row.parts
    && list_all (λ w. is_node_word w && nat_le (times w row.parts) 1) (words_of (role_by row.parts)))

abbrev pub is_at_node : Site → Bool
is_at_node (Node r) = true
is_at_node (TypedBy w) = false
is_at_node OtherType = false
is_at_node (LinkedBy w) = false
is_at_node OtherLink = false
