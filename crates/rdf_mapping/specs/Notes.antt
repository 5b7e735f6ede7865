-- Annotations as triples, and those of triples as nodes that reify them (Mapping to RDF Graphs, sections 2.2 and 2.3).
use Rattle.std.specs.Prelude.{ℕ, suc, ◌+◌, List, [], ◌∷◌, ◌++◌}
use Rattle.owl_tree.specs.declared.atom.Atom.TheVariants as atom
use Rattle.owl_tree.specs.Trees.{Tree, Kids, leaf, node, no_kids, kid}
use Rattle.rdf_graph.specs.declared.term.Term.{Term}
use Rattle.rdf_graph.specs.declared.term.Term.TheVariants.{Iri}
use Rattle.rdf_graph.specs.declared.triple.Triple.{Triple}
use Rattle.rdf_meaning.specs.declared.word.Word.{Word}
use Rattle.rdf_meaning.specs.declared.word.Word.TheVariants as word
use Rattle.rdf_meaning.specs.Words.{word_iri}
use Rattle.rdf_meaning.specs.Nodes.{type_iri}
use Rattle.rdf_mapping.specs.Forms.{blank, link}
use Rattle.rdf_mapping.specs.Drawing.{atom_term}

-- An annotation has a property, a value and annotations of its own; then come the others.
pub data Notes : Type 0 where
  no_notes : Notes
  note : List ℕ → Term → Notes → Notes → Notes

-- the annotations that a tree has below it
abbrev mutual
  pub notes_of : Tree → Notes
  notes_of (leaf t a) = no_notes
  notes_of (node t ks) = notes_in ks

  pub notes_in : Kids → Notes
  notes_in no_kids = no_notes
  notes_in (kid t ks) = annotation_in t (notes_in ks)

  -- one annotation, and then the others
  pub annotation_in : Tree → Notes → Notes
  annotation_in (node t (kid ns (kid (leaf tp (atom.Iri p)) (kid (leaf tv v) no_kids)))) more = note p (atom_term v) (notes_of ns) more
  annotation_in _ more = more

abbrev pub where_some : {A : Type 0} → Notes → A → A → A
where_some no_notes none some = none
where_some (note p v inside more) none some = some

-- how many nodes reify these annotations
abbrev pub note_nodes : Notes → ℕ
note_nodes no_notes = 0
note_nodes (note p v inside more) = where_some inside 0 (suc (note_nodes inside)) + note_nodes more

-- the node reifies the triple
abbrev pub reifying : Word → Term → Triple → List Triple
reifying w x t =
    link x type_iri (Iri (word_iri w)) ∷ link x (word_iri word.AnnotatedSource) t.subject ∷
    link x (word_iri word.AnnotatedProperty) (Iri t.predicate) ∷ link x (word_iri word.AnnotatedTarget) t.object ∷ []

module _ (name : ℕ → List ℕ) where
  -- A node with annotations, of which the first that has annotations is reified by the node of the number.
  abbrev pub note_triples : Term → Notes → ℕ → List Triple
  note_triples x no_notes n = []
  note_triples x (note p v inside more) n =
      link x p v ∷
      (where_some inside [] (reifying word.Annotation (blank name n) (link x p v) ++ note_triples (blank name n) inside (suc n)) ++
      note_triples x more (n + where_some inside 0 (suc (note_nodes inside))))

  -- a triple with its annotations, if it has any
  abbrev pub reified : Word → Triple → Notes → ℕ → List Triple
  reified w t ns n = where_some ns [] (reifying w (blank name n) t ++ note_triples (blank name n) ns (suc n))

abbrev pub reified_nodes : Notes → ℕ
reified_nodes ns = where_some ns 0 (suc (note_nodes ns))
