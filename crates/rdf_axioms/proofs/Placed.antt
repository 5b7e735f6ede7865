-- What stands at the parts of a row whose axioms are triples.
use Rattle.std.specs.Prelude.{◌≡◌, ℕ, Bool, true, false, not, ◌&&◌, ◌||◌, nat_eq, nat_le, List, [], ◌∷◌, ◌++◌, map}
use Rattle.std.specs.List.{list_any}
use Rattle.owl_tree.specs.declared.row.Sort.{Sort}
use Rattle.owl_tree.specs.declared.row.Sort.TheVariants as sort
use Rattle.owl_tree.specs.declared.tag.Tag.{Tag}
use Rattle.owl_tree.specs.declared.tag.Tag.TheVariants as tag
use Rattle.owl_tree.specs.Rows.{admits, is_tag}
use Rattle.owl_tree.specs.Trees.{Tree}
use Rattle.rdf_meaning.specs.declared.row.Part.{Part}
use Rattle.rdf_meaning.specs.declared.row.Place.{Place}
use Rattle.rdf_meaning.specs.declared.row.Place.TheVariants.{Subject, Predicate, Object}
use Rattle.rdf_meaning.specs.declared.row.Site.{Site}
use Rattle.rdf_meaning.specs.declared.row.Site.TheVariants.{TypedBy, OtherType, LinkedBy, OtherLink}
use Rattle.rdf_meaning.specs.declared.row.Want.{Want}
use Rattle.rdf_meaning.specs.declared.row.Want.TheVariants.{One, Many, Whole, Keys, Declared, Mark, True}
use Rattle.rdf_meaning.specs.declared.word.Word.{Word}
use Rattle.rdf_meaning.specs.Denotation.{axiom_predicates, axiom_types}
use Rattle.rdf_meaning.specs.Nodes.{is_word}
use Rattle.rdf_mapping.specs.Drawing.{Placed, kid_of, placed, placed_at}
use Rattle.rdf_mapping.specs.Forms.{Form}
use Rattle.rdf_mapping.specs.Frames.{is_node_word}
use Rattle.rdf_mapping.specs.Written.{given, is_wanted, written}

-- A form and trees that are known to be so at each part, in order.
module _ (IsSo : Want → Form → List Tree → Type 0) where
  pub record IsPlaced (w : Want) : Type 0 where
    pub form : Form
    pub trees : List Tree
    pub fact : IsSo w form trees

  abbrev pub ArePlaced : List Part → Type 0
  ArePlaced [] = Unit {0}
  ArePlaced (p ∷ ps) = IsPlaced p.want × ArePlaced ps

  abbrev pub placings : (ps : List Part) → ArePlaced ps → List Placed
  placings [] d = []
  placings (p ∷ ps) d = placed_at p.place d.0.form ∷ placings ps d.1

  abbrev pub trees_of : (ps : List Part) → ArePlaced ps → List Tree
  trees_of [] d = []
  trees_of (p ∷ ps) d = d.0.trees ++ trees_of ps d.1

  -- these kids stand at the parts
  pub record StandAt (ps : List Part) (ts : List Tree) : Type 0 where
    pub placed_so : ArePlaced ps
    pub forms : placed ps (map kid_of ts) ≡ placings ps placed_so
    pub trees : given ps (map written ts) ≡ trees_of ps placed_so

-- Rows by what their parts want.

abbrev pub is_property_expression : Sort → Bool
is_property_expression sort.ObjectPropertyExpression = true
is_property_expression _ = false

-- a chain of two properties or more
abbrev pub is_chain : Tag → Sort → ℕ → Bool
is_chain t s least = is_tag tag.ObjectPropertyChain t && (is_property_expression s && nat_eq least 2)

abbrev pub is_last : List Part → Bool
is_last [] = true
is_last (p ∷ ps) = false

-- one kid stands here, or a list that is the last
abbrev pub is_end : Want → List Part → Bool
is_end (One s) ps = is_wanted s
is_end (Many s least) ps = is_last ps && (is_wanted s && nat_le least 2)
is_end (Whole t s least) ps = is_chain t s least
is_end Keys ps = false
is_end (Declared t) ps = admits sort.Entity t
is_end Mark ps = false
is_end True ps = false

abbrev pub are_ends : List Part → Bool
are_ends [] = true
are_ends (p ∷ ps) = is_end p.want ps && are_ends ps

-- no tree of the sort is a literal
abbrev pub is_of_subjects : Sort → Bool
is_of_subjects s = not (admits s tag.Literal) && not (admits s tag.Number)

abbrev pub is_subject : Want → Bool
is_subject (One s) = is_of_subjects s
is_subject (Declared t) = true
is_subject _ = false

abbrev pub is_declared : Want → Bool
is_declared (Declared t) = true
is_declared _ = false

abbrev pub is_class : Want → Bool
is_class (One sort.ClassExpression) = true
is_class _ = false

-- properties whose triples are told by no word
abbrev pub is_free : Sort → Bool
is_free sort.ObjectProperty = true
is_free sort.DataPropertyExpression = true
is_free sort.AnnotationProperty = true
is_free _ = false

abbrev pub is_free_property : Want → Bool
is_free_property (One s) = is_free s
is_free_property _ = false

-- only what is declared is given a type that could make a node what it is
abbrev pub types_at : Word → Place → Want → Bool
types_at w Subject want = is_subject want && (not (is_node_word w) || is_declared want)
types_at w _ want = false

-- what comes first has the first numbers
abbrev pub links_at : Word → Place → Place → Want → Want → Bool
links_at w Subject Object a b = is_subject a
links_at w Object Subject a b = is_subject b && not (is_node_word w)
links_at w _ _ a b = false

abbrev pub classes_at : Place → Place → Want → Want → Bool
classes_at Object Subject a b = is_class a && is_subject b
classes_at _ _ a b = false

abbrev pub asserts_at : Place → Place → Place → Want → Want → Bool
asserts_at Predicate Subject Object a b = is_free_property a && is_subject b
asserts_at _ _ _ a b = false

-- a row whose axioms are triples
abbrev pub is_triple_row : Site → List Part → Bool
is_triple_row (TypedBy w) (p ∷ []) = list_any (is_word w) axiom_types && types_at w p.place p.want
is_triple_row (LinkedBy w) (p ∷ q ∷ []) = list_any (is_word w) axiom_predicates && links_at w p.place q.place p.want q.want
is_triple_row OtherType (p ∷ q ∷ []) = classes_at p.place q.place p.want q.want
is_triple_row OtherLink (p ∷ q ∷ r ∷ []) = asserts_at p.place q.place r.place p.want q.want
is_triple_row _ _ = false
