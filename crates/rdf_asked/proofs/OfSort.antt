-- What stands for a tree of a sort is told by the kind of an IRI, the role of a node, and whether it is a literal.
use Rattle.std.specs.Prelude.{◌≡◌, ℕ, Bool, true, false, ◌&&◌, ◌||◌, cond, List, Option, None, Some}
use Rattle.std.specs.Option.{is_some}
use Rattle.std.proofs.Common.{refl, ◌∙◌, sym}
use Rattle.rdf_terms.specs.Literals.{LiteralParts}
use Rattle.owl_kind.specs.declared.kind.Kind.{Kind}
use Rattle.owl_kind.specs.declared.kind.Kind.TheVariants as kind
use Rattle.owl_kind.specs.Kinds.{Entity}
use Rattle.owl_tree.specs.declared.atom.Atom.TheVariants as atom
use Rattle.owl_tree.specs.declared.tag.Tag.{Tag}
use Rattle.owl_tree.specs.declared.row.Sort.{Sort}
use Rattle.owl_tree.specs.declared.row.Sort.TheVariants as sort
use Rattle.owl_tree.specs.Trees.{Tree, leaf}
use Rattle.rdf_graph.specs.declared.term.Term.{Term}
use Rattle.rdf_graph.specs.declared.term.Term.TheVariants.{Iri, Blank, Literal}
use Rattle.rdf_graph.specs.declared.triple.Triple.{Triple}
use Rattle.rdf_meaning.specs.declared.role.Role.{Role}
use Rattle.rdf_meaning.specs.declared.role.Role.TheVariants as role
use Rattle.rdf_meaning.specs.Denotation.{declared_entity, declared_kind, kind_of_entity, number_leaf, or_else, simple}
use Rattle.rdf_meaning.specs.Kinds.{has_kind, may_be_declared}
use Rattle.rdf_meaning.specs.Nodes.{is_role, role_of}
use Rattle.rdf_faults.specs.Asked.{is_of_sort, role_gives}
use Rattle.rdf_rows.specs.Cardinalities.{cardinality_of}
use Rattle.rdf_rows.specs.Roles.{is_the_role}
use Rattle.rdf_asked.specs.Sorts.{is_declared_as, is_literal_for, kind_for, role_for, takes_all_iris}

some_where : (b : Bool) (t : Tree) → is_some (cond b (Some t) None) ≡ b
some_where true t = refl
some_where false t = refl

or_false : (b : Bool) → (b || false) ≡ b
or_false true = refl
or_false false = refl

or_true : (b : Bool) → (b || true) ≡ true
or_true true = refl
or_true false = refl

-- an IRI

abbrev pub by_kind : List Entity → Option Kind → Bool → List ℕ → Bool
by_kind k None all iri = all
by_kind k (Some kind) all iri = has_kind k kind iri

of_kind : (b : Bool) (t : Tree) (s : Sort) → role_gives role.Individual s ≡ false → (is_some (cond b (Some t) None) || role_gives role.Individual s) ≡ b
of_kind b t s none = (λ i. some_where b t i || none i) ∙ or_false b

pub iri_of_sort : (g : List Triple) (k : List Entity) (s : Sort) (iri : List ℕ) → by_kind k (kind_for s) (takes_all_iris s) iri ≡ is_of_sort g k s (Iri iri)
unfolding simple
iri_of_sort g k sort.ClassExpression iri = sym (of_kind (has_kind k kind.Class iri) _ sort.ClassExpression refl)
iri_of_sort g k sort.Class iri = sym (of_kind (has_kind k kind.Class iri) _ sort.Class refl)
iri_of_sort g k sort.DataRange iri = sym (of_kind (has_kind k kind.Datatype iri) _ sort.DataRange refl)
iri_of_sort g k sort.Datatype iri = sym (of_kind (has_kind k kind.Datatype iri) _ sort.Datatype refl)
iri_of_sort g k sort.ObjectPropertyExpression iri = sym (of_kind (has_kind k kind.ObjectProperty iri) _ sort.ObjectPropertyExpression refl)
iri_of_sort g k sort.ObjectProperty iri = sym (of_kind (has_kind k kind.ObjectProperty iri) _ sort.ObjectProperty refl)
iri_of_sort g k sort.DataPropertyExpression iri = sym (of_kind (has_kind k kind.DataProperty iri) _ sort.DataPropertyExpression refl)
iri_of_sort g k sort.AnnotationProperty iri = sym (of_kind (has_kind k kind.AnnotationProperty iri) _ sort.AnnotationProperty refl)
iri_of_sort g k _ iri = refl

-- a blank node

gives : (r : Role) (s : Sort) → is_the_role (role_for s) role.Individual ≡ false → role_gives r s ≡ is_the_role (role_for s) r
gives role.List sort.Number e = refl
gives role.List _ e = cc
gives role.Property sort.ObjectPropertyExpression e = refl
gives role.Property _ e = cc
gives role.Class sort.ClassExpression e = refl
gives role.Class _ e = cc
gives role.Range sort.DataRange e = refl
gives role.Range _ e = cc
gives role.Facet sort.FacetPair e = refl
gives role.Facet _ e = cc
gives role.Main sort.Number e = refl
gives role.Main _ e = cc
gives role.Note sort.Number e = refl
gives role.Note _ e = cc
gives role.Header sort.Number e = refl
gives role.Header _ e = cc
gives role.Individual sort.Number e = refl
gives role.Individual _ e = cc

anonymous_subject : (r : Role) (t : Tree) → (is_some (cond (is_role role.Individual r) (Some t) None) || role_gives r sort.AnnotationSubject) ≡ is_role role.Individual r
anonymous_subject role.Individual t = refl
anonymous_subject _ t = refl

anonymous_individual : (r : Role) (t : Tree) → (is_some (cond (is_role role.Individual r) (Some t) None) || role_gives r sort.Individual) ≡ is_role role.Individual r
anonymous_individual role.Individual t = refl
anonymous_individual _ t = refl

anonymous_value : (r : Role) (t : Tree) → (is_some (or_else (cond (is_role role.Individual r) (Some t) None) None) || role_gives r sort.AnnotationValue) ≡ is_role role.Individual r
anonymous_value role.Individual t = refl
anonymous_value _ t = refl

facet_pair_is : (r : Role) (o : Option Tree) → (is_some (cond (is_role role.Facet r) o None) || role_gives r sort.FacetPair) ≡ is_role role.Facet r
facet_pair_is role.Facet o = or_true (is_some o)
facet_pair_is _ o = refl

pub node_of_sort : (g : List Triple) (k : List Entity) (s : Sort) (label : List ℕ) → is_the_role (role_for s) (role_of g (Blank label)) ≡ is_of_sort g k s (Blank label)
unfolding simple
node_of_sort g k sort.Individual label = sym (anonymous_individual (role_of g (Blank label)) _)
node_of_sort g k sort.AnnotationSubject label = sym (anonymous_subject (role_of g (Blank label)) _)
node_of_sort g k sort.AnnotationValue label = sym (anonymous_value (role_of g (Blank label)) _)
node_of_sort g k sort.FacetPair label = sym (facet_pair_is (role_of g (Blank label)) _)
node_of_sort g k sort.Number label = sym (gives (role_of g (Blank label)) sort.Number refl)
node_of_sort g k sort.ObjectPropertyExpression label = sym (gives (role_of g (Blank label)) sort.ObjectPropertyExpression refl)
node_of_sort g k sort.ClassExpression label = sym (gives (role_of g (Blank label)) sort.ClassExpression refl)
node_of_sort g k sort.DataRange label = sym (gives (role_of g (Blank label)) sort.DataRange refl)
node_of_sort g k s label = sym (gives (role_of g (Blank label)) s refl)

-- a literal

number_of_literal : (b : Bool) (n : ℕ) (t : Tag) → is_some (cardinality_of (cond b (Some (leaf t (atom.Number n))) None)) ≡ is_some (cond b (Some (leaf t (atom.Number n))) None)
number_of_literal true n t = refl
number_of_literal false n t = refl

pub number_is : (x : Term) → is_some (cardinality_of (number_leaf x)) ≡ is_some (number_leaf x)
number_is (Iri iri) = refl
number_is (Blank label) = refl
number_is (Literal literal) = number_of_literal _ _ _

pub literal_of_sort : (g : List Triple) (k : List Entity) (s : Sort) (literal : LiteralParts) → is_literal_for s (Literal literal) ≡ is_of_sort g k s (Literal literal)
unfolding simple
literal_of_sort g k sort.Number literal = sym (or_false (is_some (number_leaf (Literal literal))))
literal_of_sort g k _ literal = refl

-- a declared entity

pub declared_is : (k : List Entity) (t : Tag) (iri : List ℕ) (kind : Option Kind) → is_declared_as k kind iri ≡ is_some (declared_kind k t iri kind)
declared_is k t iri None = refl
declared_is k t iri (Some kind.Individual) = sym (some_where (may_be_declared kind.Individual iri) _)
declared_is k t iri (Some kind.Class) = sym (some_where (has_kind k kind.Class iri && may_be_declared kind.Class iri) _)
declared_is k t iri (Some kind.Datatype) = sym (some_where (has_kind k kind.Datatype iri && may_be_declared kind.Datatype iri) _)
declared_is k t iri (Some kind.ObjectProperty) = sym (some_where (has_kind k kind.ObjectProperty iri && may_be_declared kind.ObjectProperty iri) _)
declared_is k t iri (Some kind.DataProperty) = sym (some_where (has_kind k kind.DataProperty iri && may_be_declared kind.DataProperty iri) _)
declared_is k t iri (Some kind.AnnotationProperty) = sym (some_where (has_kind k kind.AnnotationProperty iri && may_be_declared kind.AnnotationProperty iri) _)

pub entity_is : (k : List Entity) (t : Tag) (iri : List ℕ) → is_declared_as k (kind_of_entity t) iri ≡ is_some (declared_entity k t (Iri iri))
unfolding declared_entity
entity_is k t iri = declared_is k t iri (kind_of_entity t)
