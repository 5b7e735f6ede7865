-- That the tables of places fit the rows of the tags (Structural Specification, sections 5 to 10).
use Rattle.std.specs.Prelude.{Bool, true, false, ◌&&◌, ◌||◌, not, List, [], ◌∷◌, ◌++◌, option_to_list, Option, None, Some}
use Rattle.std.specs.List.{list_all}
use Rattle.man_raw.specs.declared.form.Characteristic.TheVariants as word
use Rattle.man_raw.specs.declared.heading.Heading.{Heading}
use Rattle.owl_tree.specs.declared.atom.Atom.{Atom}
use Rattle.owl_tree.specs.declared.row.Rest.{Rest}
use Rattle.owl_tree.specs.declared.row.Rest.TheVariants.{Nothing, Optional, AtLeast, SomeThen, Set}
use Rattle.owl_tree.specs.declared.row.Sort.{Sort}
use Rattle.owl_tree.specs.declared.row.Sort.TheVariants as sort
use Rattle.owl_tree.specs.declared.tag.Tag.{Tag}
use Rattle.owl_tree.specs.declared.tag.Tag.TheVariants as tag
use Rattle.owl_tree.specs.Places.{counts}
use Rattle.owl_tree.specs.Rows.{Row, Leaf, Node, admits, is_tag, row_of, takes}
use Rattle.owl_tree.specs.Tags.{all_tags}
use Rattle.man_resolve.specs.declared.place.Place.{Place}
use Rattle.man_resolve.specs.declared.place.Place.TheVariants as place
use Rattle.man_resolve.specs.declared.sentence.Sentence.{Sentence}
use Rattle.man_resolve.specs.declared.sentence.Sentence.TheVariants as sentence
use Rattle.man_resolve.specs.declared.shape.ByKind.{ByKind}
use Rattle.man_resolve.specs.declared.shape.Shape.{Shape}
use Rattle.man_resolve.specs.declared.shape.Shape.TheVariants as shape
use Rattle.man_resolve.specs.Places.{fact_tags, name_place, negative_tags, tags_at, word_tag}

-- what is meant at the place may have the tag
abbrev pub may_stand : Place → Tag → Bool
may_stand place.Class t = admits sort.ClassExpression t
may_stand place.ClassName t = admits sort.Class t
may_stand place.Range t = admits sort.DataRange t
may_stand place.Datatype t = admits sort.Datatype t
may_stand place.Object t = admits sort.ObjectPropertyExpression t
may_stand place.ObjectName t = admits sort.ObjectProperty t
may_stand place.Data t = admits sort.DataPropertyExpression t
may_stand place.Property t = admits sort.ObjectPropertyExpression t || admits sort.DataPropertyExpression t
may_stand place.AnnotationProperty t = admits sort.AnnotationProperty t
may_stand place.Individual t = admits sort.Individual t
may_stand place.Value t = admits sort.AnnotationValue t
may_stand place.Iri t = admits sort.Iri t
may_stand place.Literal t = admits sort.Literal t
may_stand place.Number t = admits sort.Number t
may_stand place.Facet t = admits sort.Facet t
may_stand place.FacetPair t = admits sort.FacetPair t
may_stand place.Notes t = admits sort.Notes t
may_stand place.Note t = admits sort.Annotation t
may_stand place.Chain t = is_tag tag.ObjectPropertyChain t

-- all that may stand there is of the sort
abbrev pub suits : Place → Sort → Bool
suits p s = list_all (λ t. not (may_stand p t) || admits s t) all_tags

abbrev pub all_suit : List Place → Place → Sort → Bool
all_suit ps others s = list_all (λ p. suits p s) ps && suits others s

-- what stands at these places, and at the last behind them, may be what is left of a row
abbrev pub rest_suits : Rest → List Place → Place → Bool
rest_suits Nothing ps others = true
rest_suits (Optional s) ps others = all_suit ps others s
rest_suits (AtLeast s least) ps others = all_suit ps others s
rest_suits (SomeThen s last) ps others = list_all (λ p. suits p s) ps && suits others last
rest_suits (Set s least) ps others = all_suit ps others s

abbrev pub front_suits : List Sort → Rest → List Place → Place → Bool
front_suits [] rest ps others = rest_suits rest ps others
front_suits (s ∷ front) rest [] others = suits others s && front_suits front rest [] others
front_suits (s ∷ front) rest (p ∷ ps) others = suits p s && front_suits front rest ps others

abbrev pub row_suits : Row → List Place → Place → Bool
row_suits (Leaf s) ps others = false
row_suits (Node front rest) ps others = front_suits front rest ps others

abbrev pub takes_at : Tag → List Place → Place → Bool
takes_at t ps others = row_suits (row_of t) ps others

-- the property stands behind these
abbrev pub either_takes : ByKind → List Place → List Place → Bool
either_takes by ps behind = takes_at by.object_tag (ps ++ place.Object ∷ behind) by.objects && takes_at by.data_tag (ps ++ place.Data ∷ behind) by.datas

-- leaves that the atom may be may stand there, and have such atoms
abbrev pub atom_fits : Place → Atom → Bool
atom_fits p a = list_all (λ t. may_stand p t && takes (row_of t) a) (tags_at p a)

-- nodes that the form stands for may stand there, and have such kids
abbrev pub shape_fits : Place → Shape → Bool
shape_fits p shape.Inside = true
shape_fits p (shape.Over t ps) = may_stand p t && takes_at t (ps.first ∷ ps.second ∷ []) ps.others
shape_fits p (shape.Restriction by) = may_stand p by.object_tag && may_stand p by.data_tag && either_takes by [] []
shape_fits p (shape.Cardinality by) = may_stand p by.object_tag && may_stand p by.data_tag && either_takes by (place.Number ∷ []) []
shape_fits p shape.Wrong = true

abbrev pub takes_word : List Place → Option Tag → Bool
takes_word subject None = true
takes_word subject (Some t) = takes_at t (place.Notes ∷ subject) place.Iri && counts (row_of t) 2

-- axioms that the sentence says have such kids; the subject stands at this place
abbrev pub sentence_fits : Heading → List Place → Sentence → Bool
sentence_fits h subject (sentence.Beside t p) = takes_at t (place.Notes ∷ subject) p && counts (row_of t) 3
sentence_fits h subject (sentence.Ahead t p) = takes_at t (place.Notes ∷ p ∷ subject) place.Iri && counts (row_of t) 3
sentence_fits h subject (sentence.Members t p) = takes_at t (place.Notes ∷ subject) p
sentence_fits h subject (sentence.Properties by) = either_takes by (place.Notes ∷ []) []
sentence_fits h subject sentence.Key =
    front_suits (sort.Notes ∷ sort.ClassExpression ∷ []) Nothing (place.Notes ∷ subject) place.Iri
    && takes_at tag.ObjectKeys [] place.Object
    && takes_at tag.DataKeys [] place.Data
sentence_fits h subject sentence.Fact = either_takes fact_tags (place.Notes ∷ []) subject && either_takes negative_tags (place.Notes ∷ []) subject
sentence_fits h subject sentence.Note =
    front_suits (sort.Notes ∷ sort.AnnotationProperty ∷ []) Nothing (place.Notes ∷ place.AnnotationProperty ∷ []) place.Value && suits place.Value sort.AnnotationValue
sentence_fits h subject sentence.Word =
    list_all (λ w. takes_word subject (word_tag h w)) (word.Functional ∷ word.InverseFunctional ∷ word.Reflexive ∷ word.Irreflexive ∷ word.Symmetric ∷ word.Asymmetric ∷ word.Transitive ∷ [])
sentence_fits h subject sentence.Wrong = true

abbrev pub section_fits : Heading → Sentence → Bool
section_fits h s = sentence_fits h (option_to_list (name_place h)) s
