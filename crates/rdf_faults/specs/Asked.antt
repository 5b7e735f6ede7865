-- What the triples of a node, and those that are axioms or annotations, ask of the terms that they name: told by the kinds of IRIs and the roles
-- of nodes, and by nothing below these (Mapping to RDF Graphs, section 3.2).
use Rattle.std.specs.Prelude.{◌≡◌, ◌≤◌, ℕ, Bool, true, false, ◌||◌, IsTrue, List, [], ◌∷◌, ◌++◌, Contains, IsSome, length}
use Rattle.std.specs.List.{AllByRecursion}
use Rattle.std.specs.Option.{is_some}
use Rattle.owl_kind.specs.Kinds.{Entity}
use Rattle.owl_tree.specs.declared.row.Sort.{Sort}
use Rattle.owl_tree.specs.declared.row.Sort.TheVariants as sort
use Rattle.rdf_graph.specs.declared.term.Term.{Term}
use Rattle.rdf_graph.specs.declared.term.Term.TheVariants.{Iri, Literal}
use Rattle.rdf_graph.specs.declared.triple.Triple.{Triple}
use Rattle.rdf_meaning.specs.declared.word.Word.{Word}
use Rattle.rdf_meaning.specs.declared.word.Word.TheVariants as word
use Rattle.rdf_meaning.specs.declared.role.Role.{Role}
use Rattle.rdf_meaning.specs.declared.role.Role.TheVariants as role
use Rattle.rdf_meaning.specs.declared.row.Place.{Place}
use Rattle.rdf_meaning.specs.declared.row.Place.TheVariants.{At, Subject, Predicate, Object}
use Rattle.rdf_meaning.specs.declared.row.Want.{Want}
use Rattle.rdf_meaning.specs.declared.row.Want.TheVariants.{One, Many, Whole, Keys, Declared, Mark, True}
use Rattle.rdf_meaning.specs.declared.row.Part.{Part}
use Rattle.rdf_meaning.specs.Nodes.{carries, carries_some, chosen, nil_iri, role_of}
use Rattle.rdf_meaning.specs.Rows.{Row, axiom_rows, node_rows}
use Rattle.rdf_meaning.specs.Denotation.{Bearer, Fits, declared_entity, literal_leaf, of_node, of_triple, select, simple, true_literal}

-- a node of the role may stand for a tree of the sort
abbrev pub role_gives : Role → Sort → Bool
role_gives role.Property sort.ObjectPropertyExpression = true
role_gives role.Class sort.ClassExpression = true
role_gives role.Range sort.DataRange = true
role_gives role.Facet sort.FacetPair = true
role_gives _ _ = false

-- the term stands for a tree of the sort by its own, or is a node that may
abbrev pub is_of_sort : List Triple → List Entity → Sort → Term → Bool
is_of_sort g k s x = is_some (simple g k s x) || role_gives (role_of g x) s

-- the elements of a list
pub data HasElements (g : List Triple) : Term → List Term → Type 0 where
  no_element : (x : Term) → x ≡ Iri nil_iri → HasElements g x []
  element : (x first rest : Term) (more : List Term) → role_of g x ≡ role.List → chosen g x word.First ≡ first ∷ [] →
      chosen g x word.Rest ≡ rest ∷ [] → HasElements g rest more → HasElements g x (first ∷ more)

-- a list of so many terms or more, of each of which this is true
pub record IsListOf (g : List Triple) (test : Term → Bool) (least : ℕ) (x : Term) : Type 0 where
  pub elements : List Term
  pub has_elements : HasElements g x elements
  pub many : least ≤ length elements
  pub each : AllByRecursion (λ y. IsTrue (test y)) elements

-- a property that may be in a key
abbrev pub is_key : List Triple → List Entity → Term → Bool
is_key g k x = is_of_sort g k sort.ObjectPropertyExpression x || is_of_sort g k sort.DataPropertyExpression x

-- the term is what is wanted
abbrev pub IsMet : List Triple → List Entity → Want → Term → Type 0
IsMet g k (One s) x = IsTrue (is_of_sort g k s x)
IsMet g k (Many s least) x = IsListOf g (is_of_sort g k s) least x
IsMet g k (Whole t s least) x = IsListOf g (is_of_sort g k s) least x
IsMet g k Keys x = IsListOf g (is_key g k) 1 x
IsMet g k (Declared t) x = IsSome (declared_entity k t x)
IsMet g k Mark x = Unit {0}
IsMet g k True x = x ≡ Literal true_literal

-- the place is that of the triple's object
abbrev pub is_place_of : Triple → Place → Bool
is_place_of t (At w) = carries w t
is_place_of t Subject = false
is_place_of t Predicate = false
is_place_of t Object = false

-- the object is what the row wants there
abbrev pub Suits : List Triple → List Entity → Row → Triple → Type 0
Suits g k row t = AllByRecursion (λ (p : Part). is_place_of t p.place ≡ true → IsMet g k p.want t.object) row.parts

-- so is each property of the node's restriction
abbrev pub SuitsProperties : List Triple → List Entity → Row → Term → Type 0
SuitsProperties g k row x = (t : Triple) → Contains g t → t.subject ≡ x → IsTrue (carries word.OnProperty t) → Suits g k row t

-- what the object has to be is told by the kind of the property
abbrev pub by_property : List Word
by_property = word.SomeValuesFrom ∷ word.AllValuesFrom ∷ word.HasValue ∷ []

abbrev pub rows : List Row
rows = node_rows ++ axiom_rows

pub record IsRow (g : List Triple) (x : Term) (row : Row) : Type 0 where
  pub among : Contains rows row
  pub fits : Fits g (of_node x) row

-- A row of the node asks for the object, if need be one that its property suits. Where the property suits no row, nothing is asked of what its
-- kind would tell.
pub data IsAskedFor (g : List Triple) (k : List Entity) (t : Triple) : Type 0 where
  suited : (row : Row) → IsRow g t.subject row → Suits g k row t → (IsTrue (carries_some by_property t) → SuitsProperties g k row t.subject) →
      IsAskedFor g k t
  not_asked : IsTrue (carries_some by_property t) →
      ((row : Row) → IsRow g t.subject row → SuitsProperties g k row t.subject → ⊥) → IsAskedFor g k t

-- A structural triple of a node of this role names what it has to. The elements of a list are asked where the list is named, and what a
-- reification names is asked of the triple that it reifies.
abbrev pub IsTypedAs : List Triple → List Entity → Role → Triple → Type 0
IsTypedAs g k role.List t = Unit {0}
IsTypedAs g k role.Property t = IsAskedFor g k t
IsTypedAs g k role.Class t = IsAskedFor g k t
IsTypedAs g k role.Range t = IsAskedFor g k t
IsTypedAs g k role.Facet t = IsSome (literal_leaf t.object)
IsTypedAs g k role.Main t = IsAskedFor g k t
IsTypedAs g k role.Note t = Unit {0}
IsTypedAs g k role.Header t = Unit {0}
IsTypedAs g k role.Individual t = Unit {0}

abbrev pub IsTyped : List Triple → List Entity → Triple → Type 0
IsTyped g k t = IsTypedAs g k (role_of g t.subject) t

-- all terms at the part are what is wanted
abbrev pub IsMetAt : List Triple → List Entity → Bearer → Part → Type 0
IsMetAt g k b p = AllByRecursion (IsMet g k p.want) (select g b p.place)

-- the triple is an axiom by its terms
pub record IsTypedAxiom (g : List Triple) (k : List Entity) (t : Triple) : Type 0 where
  pub row : Row
  pub among : Contains axiom_rows row
  pub fits : Fits g (of_triple t) row
  pub met : AllByRecursion (IsMetAt g k (of_triple t)) row.parts

-- the triple is an annotation by its terms
pub record IsTypedNote (g : List Triple) (k : List Entity) (t : Triple) : Type 0 where
  pub property : IsSome (simple g k sort.AnnotationProperty (Iri t.predicate))
  pub value : IsSome (simple g k sort.AnnotationValue t.object)
