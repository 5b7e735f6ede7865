-- Nodes whose own triples have the form that their role asks for (Mapping to RDF Graphs, section 3).
use Rattle.std.specs.Prelude.{◌≡◌, ◌<◌, ℕ, suc, List, [], ◌∷◌, Contains, IsSome, length}
use Rattle.std.specs.List.{AllByRecursion}
use Rattle.owl_tree.specs.declared.row.Sort.TheVariants as sort
use Rattle.rdf_graph.specs.declared.term.Term.{Term}
use Rattle.rdf_graph.specs.declared.term.Term.TheVariants.{Iri, Literal}
use Rattle.rdf_graph.specs.declared.triple.Triple.{Triple}
use Rattle.rdf_meaning.specs.declared.word.Word.TheVariants as word
use Rattle.rdf_meaning.specs.declared.role.Role.{Role}
use Rattle.rdf_meaning.specs.declared.role.Role.TheVariants as role
use Rattle.rdf_meaning.specs.declared.row.Want.{Want}
use Rattle.rdf_meaning.specs.declared.row.Want.TheVariants.{One, Many, Whole, Keys, Declared, Mark, True}
use Rattle.rdf_meaning.specs.declared.row.Part.{Part}
use Rattle.rdf_meaning.specs.Nodes.{chosen, nil_iri, role_of}
use Rattle.rdf_meaning.specs.Rows.{Row, axiom_rows, node_rows}
use Rattle.rdf_meaning.specs.Denotation.{Fits, facets_of, number_leaf, of_node, select, true_literal}
use Rattle.rdf_meaning.specs.Statements.{IsCell, IsReification}

-- how many elements a list has
pub data HasLength (g : List Triple) : Term → ℕ → Type 0 where
  no_element : (x : Term) → x ≡ Iri nil_iri → HasLength g x 0
  one_more : (x rest : Term) (n : ℕ) → role_of g x ≡ role.List → chosen g x word.Rest ≡ rest ∷ [] → HasLength g rest n →
      HasLength g x (suc n)

-- the term is a list with fewer elements than this
pub record IsShort (g : List Triple) (least : ℕ) (x : Term) : Type 0 where
  pub count : ℕ
  pub has_length : HasLength g x count
  pub few : count < least

-- A list where one is wanted is not below its least length, a number is digits, and the word "true" is that: this is asked of the form alone,
-- whatever the kinds of IRIs are.
abbrev pub HasForm : List Triple → Want → Term → Type 0
HasForm g (One sort.Number) x = IsSome (number_leaf x)
HasForm g (One _) x = Unit {0}
HasForm g (Many s least) x = IsShort g least x → ⊥
HasForm g (Whole t s least) x = IsShort g least x → ⊥
HasForm g Keys x = IsShort g 1 x → ⊥
HasForm g (Declared t) x = Unit {0}
HasForm g Mark x = Unit {0}
HasForm g True x = x ≡ Literal true_literal

-- so have all objects of the node at the part
abbrev pub HasFormAt : List Triple → Term → Part → Type 0
HasFormAt g x p = AllByRecursion (HasForm g p.want) (select g (of_node x) p.place)

-- a row of the node, in which all objects have their form
pub record HasFormedRow (g : List Triple) (rows : List Row) (x : Term) : Type 0 where
  pub row : Row
  pub among : Contains rows row
  pub fits : Fits g (of_node x) row
  pub formed : AllByRecursion (HasFormAt g x) row.parts

-- The node's own triples are those of a row, and have their form: of a cell one first and one rest, of a facet one, of a reification one type,
-- source, property and target. An individual and a header have none.
abbrev pub IsFormedAs : List Triple → Role → Term → Type 0
IsFormedAs g role.List x = IsCell g x
IsFormedAs g role.Property x = HasFormedRow g node_rows x
IsFormedAs g role.Class x = HasFormedRow g node_rows x
IsFormedAs g role.Range x = HasFormedRow g node_rows x
IsFormedAs g role.Facet x = length (facets_of g x) ≡ 1
IsFormedAs g role.Main x = HasFormedRow g axiom_rows x
IsFormedAs g role.Note x = IsReification g x
IsFormedAs g role.Header x = Unit {0}
IsFormedAs g role.Individual x = Unit {0}
