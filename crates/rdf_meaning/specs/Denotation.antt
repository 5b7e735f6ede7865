-- What terms and nodes of a graph stand for (Mapping to RDF Graphs, section 3.2).
use Rattle.std.specs.Prelude.{◌≡◌, ◌≤◌, ℕ, Bool, true, false, not, ◌&&◌, cond, nat_eq, List, [], ◌∷◌, ◌++◌, Contains, length, map, Option, None, Some, option_map, codes}
use Rattle.std.specs.List.{filter, list_all}
use Rattle.std.specs.Char.{is_ascii_digit}
use Rattle.std.specs.Str.{bytes_eq}
use Rattle.std.specs.Str.Parse.{digits_value}
use Rattle.rdf_terms.specs.Literals.{LiteralParts}
use Rattle.rdf_terms.specs.Vocabulary.{xsd}
use Rattle.owl_kind.specs.declared.kind.Kind.{Kind}
use Rattle.owl_kind.specs.declared.kind.Kind.TheVariants as kind
use Rattle.owl_kind.specs.Kinds.{Entity}
use Rattle.owl_tree.specs.declared.atom.Atom.TheVariants as atom
use Rattle.owl_tree.specs.declared.tag.Tag.{Tag}
use Rattle.owl_tree.specs.declared.tag.Tag.TheVariants as tag
use Rattle.owl_tree.specs.declared.row.Sort.{Sort}
use Rattle.owl_tree.specs.declared.row.Sort.TheVariants as sort
use Rattle.owl_tree.specs.Rows.{admits}
use Rattle.owl_tree.specs.Trees.{Tree, leaf, node, kids_of}
use Rattle.rdf_graph.specs.declared.term.Term.{Term}
use Rattle.rdf_graph.specs.declared.term.Term.TheVariants.{Iri, Blank, Literal}
use Rattle.rdf_graph.specs.declared.triple.Triple.{Triple}
use Rattle.rdf_meaning.specs.declared.word.Word.{Word}
use Rattle.rdf_meaning.specs.declared.word.Word.TheVariants as word
use Rattle.rdf_meaning.specs.declared.role.Role.TheVariants as role
use Rattle.rdf_meaning.specs.declared.row.Place.{Place}
use Rattle.rdf_meaning.specs.declared.row.Place.TheVariants.{At, Subject, Predicate, Object}
use Rattle.rdf_meaning.specs.declared.row.Want.{Want}
use Rattle.rdf_meaning.specs.declared.row.Want.TheVariants.{One, Many, Whole, Keys, Declared, Mark, True}
use Rattle.rdf_meaning.specs.declared.row.Part.{Part}
use Rattle.rdf_meaning.specs.declared.row.Site.{Site}
use Rattle.rdf_meaning.specs.declared.row.Site.TheVariants.{Node, TypedBy, OtherType, LinkedBy, OtherLink}
use Rattle.rdf_meaning.specs.Words.{word_iri}
use Rattle.rdf_meaning.specs.Kinds.{has_kind, may_be_declared}
use Rattle.rdf_meaning.specs.Nodes.{chosen, is_facet, is_role, is_word, nil_iri, of_subject, role_of, says_type, type_iri, words_of}
use Rattle.rdf_meaning.specs.Rows.{Row, node_rows}
use Rattle.rdf_meaning.specs.declared.role.Role.{Role}

-- what a row may be of: a blank node, or a triple that is an axiom
pub data Bearer : Type 0 where
  of_node : Term → Bearer
  of_triple : Triple → Bearer

-- the terms at a place of it
abbrev pub select : List Triple → Bearer → Place → List Term
select g (of_node x) (At w) = chosen g x w
select g (of_node x) Subject = []
select g (of_node x) Predicate = []
select g (of_node x) Object = []
select g (of_triple t) (At w) = []
select g (of_triple t) Subject = t.subject ∷ []
select g (of_triple t) Predicate = Iri t.predicate ∷ []
select g (of_triple t) Object = t.object ∷ []

-- classes that say, as an object of rdf:type, which axiom a triple is
unfoldable pub axiom_types : List Word
axiom_types =
    word.Class ∷ word.Datatype ∷ word.ObjectProperty ∷ word.DatatypeProperty ∷ word.AnnotationProperty ∷ word.NamedIndividual ∷
    word.FunctionalProperty ∷ word.InverseFunctionalProperty ∷ word.ReflexiveProperty ∷ word.IrreflexiveProperty ∷
    word.SymmetricProperty ∷ word.AsymmetricProperty ∷ word.TransitiveProperty ∷ []

-- predicates that say it
unfoldable pub axiom_predicates : List Word
axiom_predicates =
    word.SubClassOf ∷ word.EquivalentClass ∷ word.DisjointWith ∷ word.DisjointUnionOf ∷ word.HasKey ∷ word.SubPropertyOf ∷
    word.PropertyChainAxiom ∷ word.EquivalentProperty ∷ word.PropertyDisjointWith ∷ word.InverseOf ∷ word.Domain ∷ word.Range ∷
    word.SameAs ∷ word.DifferentFrom ∷ []

abbrev pub first_of : {A : Type 0} → (A → Site) → Site → List A → Site
first_of site other [] = other
first_of site other (a ∷ more) = site a

-- which rows may say the triple, whatever the kinds of its terms
unfoldable pub site_of : Triple → Site
site_of t =
    cond (bytes_eq t.predicate type_iri)
    (first_of TypedBy OtherType (filter (λ w. says_type (word_iri w) t) axiom_types))
    (first_of LinkedBy OtherLink (filter (λ w. bytes_eq t.predicate (word_iri w)) axiom_predicates))

-- how often a word stands among the parts of a row
abbrev pub stands_at : Word → Part → Bool
stands_at w part = is_at part.place
  where
    is_at : Place → Bool
    is_at (At v) = is_word w v
    is_at Subject = false
    is_at Predicate = false
    is_at Object = false

abbrev pub times : Word → List Part → ℕ
times w parts = length (filter (stands_at w) parts)

-- The row is one for this bearer: a node has exactly the triples of its role that the row has, and a triple is read by its type or predicate.
abbrev pub Fits : List Triple → Bearer → Row → Type 0
Fits g (of_node x) row =
    (row.site ≡ Node (role_of g x)) × (map (λ w. length (chosen g x w)) (words_of (role_of g x)) ≡ map (λ w. times w row.parts) (words_of (role_of g x)))
Fits g (of_triple t) row = row.site ≡ site_of t

abbrev pub iri_leaf : Tag → List ℕ → Tree
iri_leaf t iri = leaf t (atom.Iri iri)

-- the name of an entity of the kind
abbrev pub named : List Entity → Kind → Tag → Term → Option Tree
named k kind t (Iri iri) = cond (has_kind k kind iri) (Some (iri_leaf t iri)) None
named k kind t (Blank label) = None
named k kind t (Literal literal) = None

abbrev pub plain_iri : Term → Option Tree
plain_iri (Iri iri) = Some (iri_leaf tag.PlainIri iri)
plain_iri (Blank label) = None
plain_iri (Literal literal) = None

-- a blank node that is nothing else
abbrev pub anonymous : List Triple → Term → Option Tree
anonymous g (Iri iri) = None
anonymous g (Blank label) =
    cond (is_role role.Individual (role_of g (Blank label))) (Some (leaf tag.Anonymous (atom.Label label))) None
anonymous g (Literal literal) = None

abbrev pub literal_leaf : Term → Option Tree
literal_leaf (Iri iri) = None
literal_leaf (Blank label) = None
literal_leaf (Literal literal) = Some (leaf tag.Literal (atom.Literal literal))

abbrev pub or_else : Option Tree → Option Tree → Option Tree
or_else (Some t) other = Some t
or_else None other = other

abbrev pub named_individual : Term → Option Tree
named_individual (Iri iri) = Some (iri_leaf tag.NamedIndividual iri)
named_individual (Blank label) = None
named_individual (Literal literal) = None

-- one digit or more, with leading zeros or without
abbrev pub is_digits : List ℕ → Bool
is_digits cs = not (nat_eq (length cs) 0) && list_all is_ascii_digit cs

-- a cardinality: digits of xsd:nonNegativeInteger
abbrev pub number_leaf : Term → Option Tree
number_leaf (Iri iri) = None
number_leaf (Blank label) = None
number_leaf (Literal literal) =
    cond (bytes_eq literal.datatype (xsd (codes "nonNegativeInteger")) && is_digits literal.lexical)
    (Some (leaf tag.Number (atom.Number (digits_value 10 literal.lexical)))) None

-- a facet and its value, from the facet triples of a node
abbrev pub facet_pair : List Triple → Option Tree
facet_pair [] = None
facet_pair (t ∷ []) = option_map (λ value. node tag.FacetPair (kids_of (iri_leaf tag.Facet t.predicate ∷ value ∷ []))) (literal_leaf t.object)
facet_pair (t ∷ u ∷ more) = None

abbrev pub facets_of : List Triple → Term → List Triple
facets_of g x = filter (λ t. is_facet t.predicate) (of_subject g x)

-- What the term stands for where a tree of the sort stands, if no other node has to be looked at.
unfoldable pub simple : List Triple → List Entity → Sort → Term → Option Tree
simple g k sort.ClassExpression x = named k kind.Class tag.Class x
simple g k sort.Class x = named k kind.Class tag.Class x
simple g k sort.DataRange x = named k kind.Datatype tag.Datatype x
simple g k sort.Datatype x = named k kind.Datatype tag.Datatype x
simple g k sort.ObjectPropertyExpression x = named k kind.ObjectProperty tag.ObjectProperty x
simple g k sort.ObjectProperty x = named k kind.ObjectProperty tag.ObjectProperty x
simple g k sort.DataPropertyExpression x = named k kind.DataProperty tag.DataProperty x
simple g k sort.AnnotationProperty x = named k kind.AnnotationProperty tag.AnnotationProperty x
simple g k sort.Individual x = or_else (named_individual x) (anonymous g x)
simple g k sort.Iri x = plain_iri x
simple g k sort.AnnotationSubject x = or_else (plain_iri x) (anonymous g x)
simple g k sort.AnnotationValue x = or_else (plain_iri x) (or_else (anonymous g x) (literal_leaf x))
simple g k sort.Literal x = literal_leaf x
simple g k sort.Number x = number_leaf x
simple g k sort.FacetPair x = cond (is_role role.Facet (role_of g x)) (facet_pair (facets_of g x)) None
simple g k _ x = None

abbrev pub kind_of_entity : Tag → Option Kind
kind_of_entity tag.Class = Some kind.Class
kind_of_entity tag.Datatype = Some kind.Datatype
kind_of_entity tag.ObjectProperty = Some kind.ObjectProperty
kind_of_entity tag.DataProperty = Some kind.DataProperty
kind_of_entity tag.AnnotationProperty = Some kind.AnnotationProperty
kind_of_entity tag.NamedIndividual = Some kind.Individual
kind_of_entity _ = None

abbrev pub declared_kind : List Entity → Tag → List ℕ → Option Kind → Option Tree
declared_kind k t iri None = None
declared_kind k t iri (Some kind.Individual) = cond (may_be_declared kind.Individual iri) (Some (iri_leaf t iri)) None
declared_kind k t iri (Some other) = cond (has_kind k other iri && may_be_declared other iri) (Some (iri_leaf t iri)) None

-- the entity that is declared
unfoldable pub declared_entity : List Entity → Tag → Term → Option Tree
declared_entity k t (Iri iri) = declared_kind k t iri (kind_of_entity t)
declared_entity k t (Blank label) = None
declared_entity k t (Literal literal) = None

abbrev pub true_literal : LiteralParts
true_literal = record { lexical = codes "true"; datatype = xsd (codes "boolean"); tag = None }

-- An IRI stands for the entity of its name, a literal for itself, a blank node for what a row says of its parts. What is wanted decides,
-- and the least relation by these cases is meant. A goal is a list of trees, since some parts stand for no kid, or for more than one.
mutual
  pub data Denotes (g : List Triple) (k : List Entity) : Term → Want → List Tree → Type 0 where
    by_itself : (s : Sort) (x : Term) (t : Tree) → simple g k s x ≡ Some t → Denotes g k x (One s) (t ∷ [])
    by_row : (s : Sort) (x : Term) (row : Row) (ts : List Tree) → Contains node_rows row → admits s row.tag ≡ true →
        Fits g (of_node x) row → Holds g k (of_node x) row.parts ts → Denotes g k x (One s) (node row.tag (kids_of ts) ∷ [])
    by_list : (s : Sort) (x : Term) (least : ℕ) (ts : List Tree) → least ≤ length ts → Lists g k x s ts → Denotes g k x (Many s least) ts
    by_whole : (t : Tag) (s : Sort) (x : Term) (least : ℕ) (ts : List Tree) → least ≤ length ts → Lists g k x s ts →
        Denotes g k x (Whole t s least) (node t (kids_of ts) ∷ [])
    by_keys : (x : Term) (os ds : List Tree) → 1 ≤ length (os ++ ds) → AreKeys g k x os ds →
        Denotes g k x Keys (node tag.ObjectKeys (kids_of os) ∷ node tag.DataKeys (kids_of ds) ∷ [])
    by_declaration : (t : Tag) (x : Term) (u : Tree) → declared_entity k t x ≡ Some u → Denotes g k x (Declared t) (u ∷ [])
    mark : (x : Term) → Denotes g k x Mark []
    is_true : (x : Term) → x ≡ Literal true_literal → Denotes g k x True []

  -- the elements of a list, in order (Mapping to RDF Graphs, section 2.1; RDF Schema 1.1, section 5.2)
  pub data Lists (g : List Triple) (k : List Entity) : Term → Sort → List Tree → Type 0 where
    no_cell : (s : Sort) (x : Term) → x ≡ Iri nil_iri → Lists g k x s []
    cell : (s : Sort) (x first rest : Term) (ts us : List Tree) → role_of g x ≡ role.List → chosen g x word.First ≡ first ∷ [] →
        chosen g x word.Rest ≡ rest ∷ [] → Denotes g k first (One s) ts → Lists g k rest s us → Lists g k x s (ts ++ us)

  -- the object properties and the data properties of a list, each in order
  pub data AreKeys (g : List Triple) (k : List Entity) : Term → List Tree → List Tree → Type 0 where
    no_key : (x : Term) → x ≡ Iri nil_iri → AreKeys g k x [] []
    object_key : (x first rest : Term) (ts os ds : List Tree) → role_of g x ≡ role.List → chosen g x word.First ≡ first ∷ [] →
        chosen g x word.Rest ≡ rest ∷ [] → Denotes g k first (One sort.ObjectPropertyExpression) ts → AreKeys g k rest os ds →
        AreKeys g k x (ts ++ os) ds
    data_key : (x first rest : Term) (ts os ds : List Tree) → role_of g x ≡ role.List → chosen g x word.First ≡ first ∷ [] →
        chosen g x word.Rest ≡ rest ∷ [] → Denotes g k first (One sort.DataPropertyExpression) ts → AreKeys g k rest os ds →
        AreKeys g k x os (ts ++ ds)

  -- what stands at the parts of a row, in order
  pub data Holds (g : List Triple) (k : List Entity) : Bearer → List Part → List Tree → Type 0 where
    no_parts : (b : Bearer) → Holds g k b [] []
    part : (b : Bearer) (p : Part) (ps : List Part) (x : Term) (ts us : List Tree) → select g b p.place ≡ x ∷ [] →
        Denotes g k x p.want ts → Holds g k b ps us → Holds g k b (p ∷ ps) (ts ++ us)

-- the row, of this list, is one of the bearer
pub record IsRowOf (g : List Triple) (k : List Entity) (b : Bearer) (rows : List Row) (row : Row) : Type 0 where
  pub among : Contains rows row
  pub fits : Fits g b row
  pub kids : List Tree
  pub holds : Holds g k b row.parts kids

abbrev pub AtMostOne : {A : Type 0} → (A → Type 0) → Type 0
AtMostOne {A} P = (a : A) → P a → (b : A) → P b → a ≡ b

-- the sort of the tree that a node of the role denotes, where the role is that of expressions
abbrev pub sort_of : Role → Option Sort
sort_of role.Property = Some sort.ObjectPropertyExpression
sort_of role.Class = Some sort.ClassExpression
sort_of role.Range = Some sort.DataRange
sort_of _ = None

-- the term denotes the tree, of the sort that its role gives
pub record DenotesOwn (g : List Triple) (k : List Entity) (x : Term) (t : Tree) : Type 0 where
  pub sort : Sort
  pub gives : sort_of (role_of g x) ≡ Some sort
  pub denotes : Denotes g k x (One sort) (t ∷ [])
