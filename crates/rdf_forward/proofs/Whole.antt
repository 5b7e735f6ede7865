-- All that is written of an ontology.
use Rattle.std.proofs.Common.{◌≡◌, ℕ, ◌+◌, List, [], ◌++◌, sym, ap, ◌∙◌, subst, arith}
use Rattle.std.proofs.lemmas.List.{append_assoc}
use Rattle.owl_arena.specs.Held.{Held, trees_at}
use Rattle.owl_doc.specs.Documents.{Document, ontology_of}
use Rattle.owl_tree.specs.Ontologies.{Ontology}
use Rattle.owl_tree.specs.Trees.{Tree}
use Rattle.blank_labels.specs.FreshLabels.{fresh_name}
use Rattle.rdf_mapping.specs.GraphEntries.{made_nodes}
use Rattle.rdf_mapping.specs.GraphLaws.{triples_of}
use Rattle.rdf_mapping.specs.Graphs.{group_triples, groups_of, head_triples, header_nodes, header_term, labels_of, made_triples, notes_from}
use Rattle.rdf_mapping.specs.GroupFrames.{group_nodes}
use Rattle.rdf_mapping.specs.Notes.{note_nodes, note_triples}
use Rattle.rdf_forward.specs.declared.writer.Writer.{Writer}
use Rattle.rdf_forward.specs.AxiomWalks.{WritesGroups}
use Rattle.rdf_forward.specs.HeaderWalks.{WritesHeader, WritesOntology}
use Rattle.rdf_forward.specs.Walks.{names}
use Rattle.rdf_forward.proofs.Writing.{followed}

-- the header, and then the axioms
pub document_written : (old mid new : Writer) (d : Document) (arena : Held) (axioms : List ℕ) → old.next ≡ 0 → arena ≡ d.arena → axioms ≡ d.axioms → WritesHeader old mid (ontology_of d) → WritesGroups mid new (groups_of (trees_at arena.trees axioms)) → WritesOntology old new (ontology_of d)
document_written old mid new d arena axioms n e f x y =
    let o = ontology_of d in
    let name = names old in
    let heads = head_triples (header_term name o.head.name) o.head in
    let notes = note_triples name (header_term name o.head.name) (notes_from o.annotations) (header_nodes o.head.name) in
    let at = header_nodes o.head.name + note_nodes (notes_from o.annotations) in
    let groups : WritesGroups mid new (groups_of o.axioms) = subst (λ (ts : List Tree). WritesGroups mid new (groups_of ts)) (ap (λ (a : Held). trees_at a.trees axioms) e ∙ ap (trees_at d.arena.trees) f) y in
    followed old mid new at (group_nodes (groups_of o.axioms)) (made_nodes o) at (heads ++ notes) (made_triples name o)
    (λ (m : ℕ → List ℕ) (k : ℕ). group_triples m (groups_of o.axioms) k) x groups (omega (arith, n)) (omega arith) (sym (append_assoc heads notes (group_triples name (groups_of o.axioms) at)))

pub made_from_nothing : (w new : Writer) (o : Ontology) → w.gather ≡ [] → names w ≡ fresh_name (labels_of o) → WritesOntology w new o → new.gather ≡ triples_of o
made_from_nothing w new o none name x =
    x.added ∙ ap (λ ts. ts ++ made_triples (names w) o) none ∙ ap (λ m. made_triples m o) name
