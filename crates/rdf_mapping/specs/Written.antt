-- The trees that a drawing stands for: a set of one member, where two have to be written, has it twice.
use Rattle.std.specs.Prelude.{◌≡◌, ◌≤◌, ◌+◌, ◌-◌, ℕ, Bool, true, false, not, ◌&&◌, ◌||◌, cond, nat_le, List, [], ◌∷◌, ◌++◌, Contains, drop, length, take, Option, None, Some}
use Rattle.owl_kind.specs.Kinds.{Entity}
use Rattle.owl_tree.specs.declared.row.Sort.{Sort}
use Rattle.owl_tree.specs.declared.row.Sort.TheVariants as sort
use Rattle.owl_tree.specs.declared.tag.Tag.TheVariants as tag
use Rattle.owl_tree.specs.declared.atom.Atom.TheVariants as atom
use Rattle.owl_tree.specs.Rows.{admits}
use Rattle.owl_tree.specs.Trees.{Tree, Kids, leaf, node, no_kids, kid, kids_of, tag_of}
use Rattle.rdf_graph.specs.declared.triple.Triple.{Triple}
use Rattle.rdf_meaning.specs.declared.row.Part.{Part}
use Rattle.rdf_meaning.specs.declared.row.Want.{Want}
use Rattle.rdf_meaning.specs.declared.row.Want.TheVariants.{One, Many, Whole, Keys, Declared, Mark, True}
use Rattle.rdf_meaning.specs.declared.row.Place.{Place}
use Rattle.rdf_meaning.specs.declared.row.Place.TheVariants.{At, Subject, Predicate, Object}
use Rattle.rdf_meaning.specs.declared.word.Word.{Word}
use Rattle.rdf_meaning.specs.declared.word.Word.TheVariants as word
use Rattle.rdf_graph.specs.declared.term.Term.TheVariants.{Blank}
use Rattle.rdf_meaning.specs.declared.role.Role.TheVariants as role
use Rattle.rdf_meaning.specs.Nodes.{is_facet, is_iri, is_word, role_of}
use Rattle.rdf_mapping.specs.Graphs.{all_labels_in, labels_in}
use Rattle.rdf_meaning.specs.Words.{is_type}
use Rattle.rdf_meaning.specs.Denotation.{Denotes}
use Rattle.rdf_meaning.specs.Rows.{Row, node_rows}
use Rattle.rdf_mapping.specs.Forms.{nodes, term_of, triples}
use Rattle.rdf_mapping.specs.Drawing.{form_of, kids_seen, row_for, singles, tags_of}
use Rattle.rdf_mapping.specs.Frames.{IsOfNode, Keeps}

-- one member twice, where two have to be written
abbrev pub doubled : ℕ → List Tree → List Tree
doubled least [] = []
doubled least (u ∷ []) = cond (nat_le 2 least) (u ∷ u ∷ []) (u ∷ [])
doubled least (u ∷ v ∷ us) = u ∷ v ∷ us

abbrev pub next_given : (List Tree → List Tree) → List Tree → List Tree
next_given behind [] = []
next_given behind (u ∷ us) = u ∷ behind us

abbrev keys_given : (List Tree → List Tree) → List Tree → List Tree
keys_given behind [] = []
keys_given behind (u ∷ []) = []
keys_given behind (u ∷ v ∷ us) = u ∷ v ∷ behind us

abbrev pub given_by : Want → ℕ → (List Tree → List Tree) → List Tree → List Tree
given_by (One s) left behind us = next_given behind us
given_by (Many s least) left behind us = doubled least (take (length us - left) us) ++ behind (drop (length us - left) us)
given_by (Whole t s least) left behind us = next_given behind us
given_by Keys left behind us = keys_given behind us
given_by (Declared t) left behind us = next_given behind us
given_by Mark left behind us = behind us
given_by True left behind us = behind us

-- the kids as the parts write them
unfoldable pub given : List Part → List Tree → List Tree
given [] us = []
given (p ∷ ps) us = given_by p.want (singles ps) (λ vs. given ps vs) us

-- as the row writes them, if there is one
abbrev pub given_of : Option Row → List Tree → List Tree
given_of None us = us
given_of (Some r) us = given r.parts us

-- the tree as it is written
abbrev mutual
  pub written : Tree → Tree
  written (leaf t a) = leaf t a
  written (node t ks) = node t (kids_of (given_of (row_for node_rows t (tags_of (kids_seen ks))) (all_written ks)))

  pub all_written : Kids → List Tree
  all_written no_kids = []
  all_written (kid t ks) = written t ∷ all_written ks

-- What is kept of the tree's drawing, wherever its numbers begin, denotes the tree as it is written, where a tree of the sort may stand.
abbrev pub IsDrawn : (ℕ → List ℕ) → ℕ → List Triple → List Entity → Sort → Tree → Type 0
IsDrawn name most g k s t =
    (n : ℕ) → n + nodes (form_of t) ≤ most → Keeps name IsOfNode g (triples name (form_of t) n) n (n + nodes (form_of t)) →
    Denotes g k (term_of name (form_of t) n) (One s) (written t ∷ [])

-- the sorts of which trees stand at the parts of rows
abbrev pub is_wanted : Sort → Bool
is_wanted sort.AnnotationProperty = true
is_wanted sort.AnnotationSubject = true
is_wanted sort.AnnotationValue = true
is_wanted sort.Iri = true
is_wanted sort.ClassExpression = true
is_wanted sort.Class = true
is_wanted sort.DataRange = true
is_wanted sort.Datatype = true
is_wanted sort.ObjectPropertyExpression = true
is_wanted sort.ObjectProperty = true
is_wanted sort.DataPropertyExpression = true
is_wanted sort.Individual = true
is_wanted sort.Literal = true
is_wanted sort.Number = true
is_wanted sort.FacetPair = true
is_wanted _ = false

-- The tree is drawn so wherever a tree of its tag may stand, and an object property as its IRI.
pub record IsDrawnWell (name : ℕ → List ℕ) (most : ℕ) (g : List Triple) (k : List Entity) (t : Tree) : Type 0 where
  pub drawn : (s : Sort) → is_wanted s ≡ true → admits s (tag_of t) ≡ true → IsDrawn name most g k s t
  pub named : admits sort.ObjectProperty (tag_of t) ≡ true → (n : ℕ) → is_iri (term_of name (form_of t) n) ≡ true

abbrev pub is_object_property : Sort → Bool
is_object_property sort.ObjectProperty = true
is_object_property _ = false

-- the link for the want carries the word
abbrev pub draws_part : Word → Want → Bool
draws_part w (One s) = is_wanted s && (not (is_type w) && (not (is_word w word.InverseOf) || is_object_property s))
draws_part w (Many s least) = is_wanted s && (nat_le least 2 && (not (is_type w) && not (is_word w word.InverseOf)))
draws_part w (Whole t s least) = false
draws_part w Keys = false
draws_part w (Declared t) = false
draws_part w Mark = true
draws_part w True = not (is_type w) && not (is_word w word.InverseOf)

abbrev pub draws_at : Place → Want → Bool
draws_at (At w) want = draws_part w want
draws_at Subject want = false
draws_at Predicate want = false
draws_at Object want = false

-- the labels in the tree are those of nodes that are nothing but individuals
abbrev pub AreIndividuals : List Triple → Tree → Type 0
AreIndividuals g t = (label : List ℕ) → Contains (labels_in t) label → role_of g (Blank label) ≡ role.Individual

abbrev pub HaveIndividuals : List Triple → Kids → Type 0
HaveIndividuals g ks = (label : List ℕ) → Contains (all_labels_in ks) label → role_of g (Blank label) ≡ role.Individual

-- each facet has an IRI of facets
abbrev mutual
  pub HasFacetNames : Tree → Type 0
  HasFacetNames (leaf t (atom.Iri iri)) = t ≡ tag.Facet → is_facet iri ≡ true
  HasFacetNames (leaf t (atom.Label label)) = Unit {0}
  HasFacetNames (leaf t (atom.Literal literal)) = Unit {0}
  HasFacetNames (leaf t (atom.Number n)) = Unit {0}
  HasFacetNames (node t ks) = HaveFacetNames ks

  pub HaveFacetNames : Kids → Type 0
  HaveFacetNames no_kids = Unit {0}
  HaveFacetNames (kid t ks) = HasFacetNames t × HaveFacetNames ks
