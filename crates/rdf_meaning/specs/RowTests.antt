-- Tests over the rows of the mapping, from which it follows that no two of them are of one node or triple.
use Rattle.std.specs.Prelude.{ℕ, Bool, true, false, not, ◌&&◌, ◌||◌, nat_le, List, [], ◌∷◌, map}
use Rattle.std.specs.List.{list_all}
use Rattle.std.specs.Str.{bytes_eq}
use Rattle.owl_tree.specs.declared.row.Sort.{Sort}
use Rattle.owl_tree.specs.declared.row.Sort.TheVariants as sort
use Rattle.rdf_meaning.specs.declared.role.Role.{Role}
use Rattle.rdf_meaning.specs.declared.role.Role.TheVariants as role
use Rattle.rdf_meaning.specs.declared.row.Place.{Place}
use Rattle.rdf_meaning.specs.declared.row.Place.TheVariants.{At, Subject, Predicate, Object}
use Rattle.rdf_meaning.specs.declared.row.Want.{Want}
use Rattle.rdf_meaning.specs.declared.row.Want.TheVariants.{Mark, Many, One}
use Rattle.rdf_meaning.specs.declared.row.Part.{Part}
use Rattle.rdf_meaning.specs.declared.row.Site.{Site}
use Rattle.rdf_meaning.specs.declared.row.Site.TheVariants.{Node, TypedBy, OtherType, LinkedBy, OtherLink}
use Rattle.rdf_meaning.specs.Nodes.{is_role, is_word, words_of}
use Rattle.rdf_meaning.specs.Rows.{Row}
use Rattle.rdf_meaning.specs.Words.{is_type}
use Rattle.rdf_meaning.specs.Denotation.{times}

-- nodes of the role are expressions, which have a row of their own
abbrev pub has_row : Role → Bool
has_row role.Property = true
has_row role.Class = true
has_row role.Range = true
has_row _ = false

abbrev pub has_row_at : Site → Bool
has_row_at (Node r) = has_row r
has_row_at (TypedBy w) = false
has_row_at OtherType = false
has_row_at (LinkedBy w) = false
has_row_at OtherLink = false

abbrev pub is_site : Site → Site → Bool
is_site (Node a) (Node b) = is_role a b
is_site (TypedBy a) (TypedBy b) = is_word a b
is_site OtherType OtherType = true
is_site (LinkedBy a) (LinkedBy b) = is_word a b
is_site OtherLink OtherLink = true
is_site _ _ = false

abbrev pub is_place : Place → Place → Bool
is_place (At a) (At b) = is_word a b
is_place Subject Subject = true
is_place Predicate Predicate = true
is_place Object Object = true
is_place _ _ = false

-- how often the words of a node stand among the parts
abbrev pub counts : Site → List Part → List ℕ
counts (Node r) parts = map (λ w. times w parts) (words_of r)
counts (TypedBy w) parts = []
counts OtherType parts = []
counts (LinkedBy w) parts = []
counts OtherLink parts = []

-- a node or triple that the one row may be of, the other may be of too
abbrev pub has_same_form : Row → Row → Bool
has_same_form r s = is_site r.site s.site && bytes_eq (counts r.site r.parts) (counts s.site s.parts)

-- The first has named entities of one kind, the second none but those of a kind that no IRI shares with it, and no blank nodes.
abbrev pub are_opposed : Sort → Sort → Bool
are_opposed sort.ClassExpression sort.Datatype = true
are_opposed sort.ObjectPropertyExpression sort.DataPropertyExpression = true
are_opposed sort.ObjectPropertyExpression sort.AnnotationProperty = true
are_opposed sort.ObjectProperty sort.DataPropertyExpression = true
are_opposed sort.ObjectProperty sort.AnnotationProperty = true
are_opposed sort.DataPropertyExpression sort.AnnotationProperty = true
are_opposed _ _ = false

-- no term denotes both
abbrev pub are_opposed_wants : Want → Want → Bool
are_opposed_wants (One s) (One t) = are_opposed s t
are_opposed_wants (Many s least) (Many t other) = are_opposed s t && nat_le 1 least
are_opposed_wants _ _ = false

-- up to some part they have the same places, and what is wanted there is opposed
abbrev pub clash : List Part → List Part → Bool
clash [] qs = false
clash (p ∷ ps) [] = false
clash (p ∷ ps) (q ∷ qs) = is_place p.place q.place && (are_opposed_wants p.want q.want || clash ps qs)

abbrev pub is_told_from : Row → Row → Bool
is_told_from r s = not (has_same_form r s) || (clash r.parts s.parts || clash s.parts r.parts)

abbrev pub are_told_apart : List Row → Bool
are_told_apart [] = true
are_told_apart (r ∷ rows) = list_all (is_told_from r) rows && are_told_apart rows

-- the want of a part of which no kid comes, since its object is a class of the mapping's own
abbrev pub is_mark : Want → Bool
is_mark Mark = true
is_mark _ = false

abbrev pub is_at_type : Place → Bool
is_at_type (At w) = is_type w
is_at_type Subject = false
is_at_type Predicate = false
is_at_type Object = false

-- the row is of no node with a facet
abbrev pub is_apart_from_facets : Site → Bool
is_apart_from_facets (Node r) = not (is_role role.Facet r)
is_apart_from_facets _ = true

-- only types of the node are marks
abbrev pub is_marked_well : Row → Bool
is_marked_well row = is_apart_from_facets row.site && list_all (λ p. not (is_mark p.want) || is_at_type p.place) row.parts
