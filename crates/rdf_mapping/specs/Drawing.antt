-- How each expression and each axiom is drawn, by the rows of the mapping (Mapping to RDF Graphs, section 2.1).
use Rattle.std.specs.Prelude.{ℕ, ◌-◌, Bool, true, false, ◌&&◌, cond, min, nat_le, List, [], ◌∷◌, ◌++◌, codes, drop, length, map, take, Option, None, Some}
use Rattle.std.specs.Fmt.{decimal}
use Rattle.std.specs.List.{count_by, filter, list_all, list_any}
use Rattle.rdf_terms.specs.Literals.{LiteralParts}
use Rattle.rdf_terms.specs.Vocabulary.{xsd}
use Rattle.owl_tree.specs.declared.atom.Atom.{Atom}
use Rattle.owl_tree.specs.declared.atom.Atom.TheVariants as atom
use Rattle.owl_tree.specs.declared.tag.Tag.{Tag}
use Rattle.owl_tree.specs.declared.tag.Tag.TheVariants as tag
use Rattle.owl_tree.specs.declared.row.Sort.{Sort}
use Rattle.owl_tree.specs.Rows.{admits, is_tag}
use Rattle.owl_tree.specs.Trees.{Tree, Kids, leaf, node, no_kids, kid}
use Rattle.rdf_graph.specs.declared.term.Term.{Term}
use Rattle.rdf_graph.specs.declared.term.Term.TheVariants.{Iri, Blank, Literal}
use Rattle.rdf_meaning.specs.declared.word.Word.{Word}
use Rattle.rdf_meaning.specs.declared.row.Place.{Place}
use Rattle.rdf_meaning.specs.declared.row.Place.TheVariants.{At, Subject, Predicate, Object}
use Rattle.rdf_meaning.specs.declared.row.Want.{Want}
use Rattle.rdf_meaning.specs.declared.row.Want.TheVariants.{One, Many, Whole, Keys, Declared, Mark, True}
use Rattle.rdf_meaning.specs.declared.row.Part.{Part}
use Rattle.rdf_meaning.specs.declared.row.Site.{Site}
use Rattle.rdf_meaning.specs.declared.row.Site.TheVariants.{Node, TypedBy, OtherType, LinkedBy, OtherLink}
use Rattle.rdf_meaning.specs.Words.{is_type, word_iri}
use Rattle.rdf_meaning.specs.Nodes.{type_iri}
use Rattle.rdf_meaning.specs.Denotation.{true_literal}
use Rattle.rdf_meaning.specs.Rows.{Row, axiom_rows, node_rows}
use Rattle.rdf_mapping.specs.Forms.{Form, plain, made, twice, Arcs, no_arcs, arc, list_form}

-- a kid of a tree, as rows look at it: its tag, how it is drawn, and how its own kids are
pub record Kid : Type 0 where
  pub tag : Tag
  pub form : Form
  pub members : List Form

abbrev pub forms_of : List Kid → List Form
forms_of kids = map (λ k. k.form) kids

abbrev pub tags_of : List Kid → List Tag
tags_of kids = map (λ k. k.tag) kids

-- Which row a tree is drawn by.

abbrev pub takes_one : Want → Bool
takes_one (One s) = true
takes_one (Many s least) = false
takes_one (Whole t s least) = true
takes_one Keys = false
takes_one (Declared t) = true
takes_one Mark = false
takes_one True = false

-- how many of the parts take one kid each
abbrev pub singles : List Part → ℕ
singles ps = count_by (λ p. takes_one p.want) ps

-- the want is for this kid
abbrev pub suits : Want → Tag → Bool
suits (One s) t = admits s t
suits (Whole u s least) t = is_tag u t
suits (Declared u) t = is_tag u t
suits (Many s least) t = false
suits Keys t = false
suits Mark t = false
suits True t = false

-- the next kid is for the want, and those behind it are for what is behind
abbrev next_fits : Want → (List Tag → Bool) → List Tag → Bool
next_fits w behind [] = false
next_fits w behind (t ∷ ts) = suits w t && behind ts

abbrev keys_fit : (List Tag → Bool) → List Tag → Bool
keys_fit behind [] = false
keys_fit behind (t ∷ []) = false
keys_fit behind (t ∷ u ∷ ts) = is_tag tag.ObjectKeys t && (is_tag tag.DataKeys u && behind ts)

abbrev list_fits : Sort → ℕ → ℕ → (List Tag → Bool) → List Tag → Bool
list_fits s least n behind ts = nat_le (min least 1) n && (list_all (admits s) (take n ts) && behind (drop n ts))

abbrev fits_here : Want → ℕ → (List Tag → Bool) → List Tag → Bool
fits_here (One s) left behind ts = next_fits (One s) behind ts
fits_here (Many s least) left behind ts = list_fits s least (length ts - left) behind ts
fits_here (Whole u s least) left behind ts = next_fits (Whole u s least) behind ts
fits_here Keys left behind ts = keys_fit behind ts
fits_here (Declared u) left behind ts = next_fits (Declared u) behind ts
fits_here Mark left behind ts = behind ts
fits_here True left behind ts = behind ts

-- Kids with these tags stand at the parts, in order. A list takes all that the parts behind it leave.
unfoldable pub fit : List Part → List Tag → Bool
fit [] [] = true
fit [] (t ∷ ts) = false
fit (p ∷ ps) ts = fits_here p.want (singles ps) (λ us. fit ps us) ts

abbrev pub first_row : List Row → Option Row
first_row [] = None
first_row (r ∷ rs) = Some r

-- the first row of the tag that kids with these tags fit
unfoldable pub row_for : List Row → Tag → List Tag → Option Row
row_for rows t ts = first_row (filter (λ r. is_tag r.tag t && fit r.parts ts) rows)

-- the axioms of a set of which two members make a triple
unfoldable pub is_pair : Tag → Bool
is_pair t =
    list_any (λ u. is_tag u t)
    (tag.EquivalentClasses ∷ tag.DisjointClasses ∷ tag.EquivalentObjectProperties ∷ tag.DisjointObjectProperties ∷
    tag.InverseObjectProperties ∷ tag.EquivalentDataProperties ∷ tag.DisjointDataProperties ∷ tag.SameIndividual ∷
    tag.DifferentIndividuals ∷ [])

-- What stands at its parts.

-- a list of one, where two have to be written, has its element twice
abbrev pub listed : ℕ → List Form → Form
listed least [] = list_form []
listed least (f ∷ []) = cond (nat_le 2 least) (twice f) (list_form (f ∷ []))
listed least (f ∷ g ∷ fs) = list_form (f ∷ g ∷ fs)

pub record Placed : Type 0 where
  pub place : Place
  pub form : Form

abbrev pub placed_at : Place → Form → Placed
placed_at p f = record { place = p; form = f }

-- the class of the word, where one stands there
abbrev class_placed : Place → List Placed → List Placed
class_placed (At w) behind = placed_at (At w) (plain (Iri (word_iri w))) ∷ behind
class_placed Subject behind = []
class_placed Predicate behind = []
class_placed Object behind = []

-- the form of the next kid, in its place
abbrev next_placed : Place → (Kid → Form) → (List Kid → List Placed) → List Kid → List Placed
next_placed p drawn behind [] = []
next_placed p drawn behind (k ∷ ks) = placed_at p (drawn k) ∷ behind ks

abbrev keys_placed : Place → (List Kid → List Placed) → List Kid → List Placed
keys_placed p behind [] = []
keys_placed p behind (k ∷ []) = []
keys_placed p behind (k ∷ l ∷ ks) = placed_at p (list_form (k.members ++ l.members)) ∷ behind ks

abbrev pub placed_by : Want → Place → ℕ → (List Kid → List Placed) → List Kid → List Placed
placed_by (One s) p left behind ks = next_placed p (λ k. k.form) behind ks
placed_by (Many s least) p left behind ks =
    placed_at p (listed least (forms_of (take (length ks - left) ks))) ∷ behind (drop (length ks - left) ks)
placed_by (Whole t s least) p left behind ks = next_placed p (λ k. listed least k.members) behind ks
placed_by Keys p left behind ks = keys_placed p behind ks
placed_by (Declared t) p left behind ks = next_placed p (λ k. k.form) behind ks
placed_by Mark p left behind ks = class_placed p (behind ks)
placed_by True p left behind ks = placed_at p (plain (Literal true_literal)) ∷ behind ks

unfoldable pub placed : List Part → List Kid → List Placed
placed [] ks = []
placed (p ∷ ps) ks = placed_by p.want p.place (singles ps) (λ ls. placed ps ls) ks

-- the predicate of a word's triples
abbrev pub arc_iri : Word → List ℕ
arc_iri w = cond (is_type w) type_iri (word_iri w)

abbrev arc_at : Place → Form → Arcs → Arcs
arc_at (At w) f more = arc (arc_iri w) f more
arc_at Subject f more = more
arc_at Predicate f more = more
arc_at Object f more = more

-- the arcs of a node
abbrev pub arcs_of : List Placed → Arcs
arcs_of [] = no_arcs
arcs_of (p ∷ ps) = arc_at p.place p.form (arcs_of ps)

-- How trees are drawn.

abbrev pub number_literal : ℕ → LiteralParts
number_literal n = record { lexical = decimal n; datatype = xsd (codes "nonNegativeInteger"); tag = None }

abbrev pub atom_term : Atom → Term
atom_term (atom.Iri iri) = Iri iri
atom_term (atom.Label label) = Blank label
atom_term (atom.Literal literal) = Literal literal
atom_term (atom.Number n) = Literal (number_literal n)

abbrev drawn_by : Option Row → List Kid → Form
drawn_by None ks = made no_arcs
drawn_by (Some r) ks = made (arcs_of (placed r.parts ks))

abbrev facet_arc : Form → Form → Arcs
facet_arc (plain (Iri iri)) value = arc iri value no_arcs
facet_arc f value = no_arcs

-- a facet is the predicate that leads to its value
abbrev pub facet_arcs : List Kid → Arcs
facet_arcs (k ∷ l ∷ []) = facet_arc k.form l.form
facet_arcs ks = no_arcs

abbrev pub node_form : Tag → List Kid → Form
node_form t ks = cond (is_tag tag.FacetPair t) (made (facet_arcs ks)) (drawn_by (row_for node_rows t (tags_of ks)) ks)

abbrev mutual
  pub kid_of : Tree → Kid
  kid_of (leaf t a) = record { tag = t; form = plain (atom_term a); members = [] }
  kid_of (node t ks) = record { tag = t; form = node_form t (kids_seen ks); members = forms_of (kids_seen ks) }

  pub kids_seen : Kids → List Kid
  kids_seen no_kids = []
  kids_seen (kid t ks) = kid_of t ∷ kids_seen ks

-- the expression as it is drawn
abbrev pub form_of : Tree → Form
form_of t = (kid_of t).form

-- What an axiom is: a triple between two forms, of which the first has the first numbers, and is the subject or the object; a triple from
-- one form to itself; or a node of its own. An axiom that is none of these has no place in a graph.
pub data Statement : Type 0 where
  linked : Form → List ℕ → Form → Statement
  linked_back : Form → List ℕ → Form → Statement
  looped : List ℕ → Form → Statement
  standing : Arcs → Statement
  unsaid : Statement

abbrev pub between : Place → Form → List ℕ → Form → Statement
between Object f iri g = linked_back f iri g
between Subject f iri g = linked f iri g
between Predicate f iri g = unsaid
between (At w) f iri g = unsaid

abbrev pub by_predicate : Form → Form → Form → Statement
by_predicate (plain (Iri iri)) s o = linked s iri o
by_predicate _ s o = unsaid

-- a triple, by what stands at its parts
abbrev pub by_triple : Site → List Placed → Statement
by_triple (TypedBy w) (p ∷ []) = linked p.form type_iri (plain (Iri (word_iri w)))
by_triple OtherType (p ∷ q ∷ []) = between p.place p.form type_iri q.form
by_triple (LinkedBy w) (p ∷ q ∷ []) = between p.place p.form (word_iri w) q.form
by_triple OtherLink (p ∷ q ∷ r ∷ []) = by_predicate p.form q.form r.form
by_triple site ps = unsaid

abbrev pub stated : Site → List Placed → Statement
stated (Node role) ps = standing (arcs_of ps)
stated site ps = by_triple site ps

abbrev pub stated_by : Option Row → List Kid → Statement
stated_by None ks = unsaid
stated_by (Some r) ks = stated r.site (placed r.parts ks)

-- an axiom whose set has one member is a triple from it to itself
abbrev pub loop_at : Site → Form → Statement
loop_at (LinkedBy w) f = looped (word_iri w) f
loop_at _ f = unsaid

abbrev pub loop_by : Option Row → Form → Statement
loop_by None f = unsaid
loop_by (Some r) f = loop_at r.site f

abbrev pub by_kids : Tag → List Kid → Statement
by_kids t (k ∷ []) =
    cond (is_pair t) (loop_by (row_for axiom_rows t (k.tag ∷ k.tag ∷ [])) k.form) (stated_by (row_for axiom_rows t (k.tag ∷ [])) (k ∷ []))
by_kids t ks = stated_by (row_for axiom_rows t (tags_of ks)) ks

-- how an axiom is drawn, but for its annotations, which are its first kid
abbrev pub statement_of : Tree → Statement
statement_of (leaf t a) = unsaid
statement_of (node t no_kids) = unsaid
statement_of (node t (kid notes ks)) = by_kids t (kids_seen ks)
