-- Whether a reification reifies anything, as a test (Mapping to RDF Graphs, section 2.3).
use Rattle.std.specs.Prelude.{◌≡◌, ℕ, Bool, true, not, ◌&&◌, ◌||◌, List, Option, None, Some}
use Rattle.std.specs.List.{list_any}
use Rattle.rdf_graph.specs.declared.term.Term.{Term}
use Rattle.rdf_graph.specs.declared.term.Term.TheVariants.{Iri, Blank}
use Rattle.rdf_graph.specs.declared.triple.Triple.{Triple}
use Rattle.rdf_meaning.specs.declared.role.Role.{Role}
use Rattle.rdf_meaning.specs.declared.role.Role.TheVariants as role
use Rattle.rdf_meaning.specs.declared.word.Word.{Word}
use Rattle.rdf_meaning.specs.declared.word.Word.TheVariants as word
use Rattle.rdf_meaning.specs.Nodes.{carries, is_role, is_same, marks_role, of_subject, role_of}
use Rattle.rdf_faults.specs.Faults.{IsOfNothing}
use Rattle.rdf_scans.specs.declared.reading.Reading.{Reading}
use Rattle.rdf_scans.specs.Sorts.{annotates, is_main, sort_in}

abbrev pub IsOfNothingIn : Reading → List ℕ → Type 0
IsOfNothingIn reading label = IsOfNothing reading.graph.now reading.kinds.now reading.header.now label

-- the blank node that the triple makes a reification, where this reifies nothing
abbrev pub FindsNothing : Reading → Triple → Option (List ℕ) → Type 0
FindsNothing reading t (Some label) = (t.subject ≡ Blank label) × (marks_role role.Note t ≡ true) × IsOfNothingIn reading label
FindsNothing reading t None = (label : List ℕ) → t.subject ≡ Blank label → marks_role role.Note t ≡ true → IsOfNothingIn reading label → ⊥

-- the term is an object of one of the triples that carries the word
abbrev pub names : List Triple → Word → Term → Bool
names note w x = list_any (λ t. carries w t && is_same x t.object) note

-- the node with these triples reifies the triple
abbrev pub reified_by : List Triple → Triple → Bool
reified_by note t =
    names note word.AnnotatedSource t.subject && names note word.AnnotatedProperty (Iri t.predicate) && names note word.AnnotatedTarget t.object

-- the triple is an axiom or an annotation
abbrev pub is_stated : Reading → Triple → Bool
is_stated reading t = annotates reading t || is_main (sort_in reading t)

abbrev pub states_reified : Reading → List Triple → Triple → Bool
states_reified reading note t = reified_by note t && is_stated reading t

-- it reifies one of those with this subject
abbrev pub reifies_at : Reading → List Triple → Term → Bool
reifies_at reading note x = list_any (states_reified reading note) (of_subject reading.graph.now x)

abbrev pub reifies_some : Reading → List Triple → Bool
reifies_some reading note = list_any (λ t. carries word.AnnotatedSource t && reifies_at reading note t.object) note

abbrev pub is_note : Role → Bool
is_note r = is_role role.Note r

abbrev pub is_of_nothing : Reading → Term → Bool
is_of_nothing reading x = is_note (role_of reading.graph.now x) && not (reifies_some reading (of_subject reading.graph.now x))

-- the triple makes its subject a reification, which is one of nothing
abbrev pub marks_nothing : Reading → Triple → Bool
marks_nothing reading t = marks_role role.Note t && is_of_nothing reading t.subject
