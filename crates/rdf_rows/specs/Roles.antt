-- The roles of which the triples of one node are marks (Mapping to RDF Graphs, section 3).
use Rattle.std.specs.Prelude.{ℕ, Bool, false, not, ◌&&◌, ◌||◌, cond, nat_eq, nat_lt, List, [], ◌∷◌, Option, None, Some}
use Rattle.std.specs.List.{filter, find, list_any}
use Rattle.rdf_graph.specs.declared.triple.Triple.{Triple}
use Rattle.rdf_meaning.specs.declared.role.Role.{Role}
use Rattle.rdf_meaning.specs.declared.role.Role.TheVariants as role
use Rattle.rdf_meaning.specs.declared.word.Word.{Word}
use Rattle.rdf_meaning.specs.declared.word.Word.TheVariants as word
use Rattle.rdf_meaning.specs.Nodes.{is_role, is_word, marked_roles, marks_role}
use Rattle.rdf_rows.specs.declared.roles.Marked.{Marked}

-- the roles of which some of the triples are marks, as `roles_of` has them for the triples of a node
unfoldable pub roles_in : List Triple → List Role
roles_in ts = filter (λ r. list_any (marks_role r) ts) marked_roles

-- the words of which the triples are marks of the role
abbrev pub marks : Role → List Word
marks role.List = word.First ∷ word.Rest ∷ []
marks role.Property = word.InverseOf ∷ []
marks role.Class = word.Class ∷ word.Restriction ∷ []
marks role.Range = word.Datatype ∷ []
marks role.Main = word.AllDisjointClasses ∷ word.AllDisjointProperties ∷ word.AllDifferent ∷ word.NegativePropertyAssertion ∷ []
marks role.Note = word.Axiom ∷ word.Annotation ∷ []
marks role.Header = word.Ontology ∷ []
marks role.Facet = []
marks role.Individual = []

unfoldable pub role_marked : Word → Option Role
role_marked w = find (λ r. list_any (λ v. is_word v w) (marks r)) marked_roles

-- the role of which a triple is a mark, by its word, or without one by whether its predicate is that of a facet
abbrev pub told_role : Option Word → Bool → Option Role
told_role None facet = cond facet (Some role.Facet) None
told_role (Some w) facet = role_marked w

-- the role is this one
abbrev pub is_the_role : Option Role → Role → Bool
is_the_role None r = false
is_the_role (Some q) r = is_role q r

-- the place in the order of roles
unfoldable pub role_rank : Role → ℕ
role_rank role.List = 0
role_rank role.Property = 1
role_rank role.Class = 2
role_rank role.Range = 3
role_rank role.Facet = 4
role_rank role.Main = 5
role_rank role.Note = 6
role_rank role.Header = 7
role_rank role.Individual = 8

-- what a node becomes by one more mark
abbrev pub with_mark : Marked → Role → Marked
with_mark marked r = record {
  role = cond (nat_lt (role_rank r) (role_rank marked.role)) r marked.role;
  mixed = marked.mixed || (nat_lt (role_rank marked.role) 8 && not (nat_eq (role_rank marked.role) (role_rank r)));
}
