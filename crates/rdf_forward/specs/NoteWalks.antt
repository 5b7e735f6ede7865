-- Annotations by their numbers in an arena.
use Rattle.std.specs.Prelude.{◌≡◌, ℕ, Bool, true, false, List, [], ◌∷◌}
use Rattle.owl_arena.specs.Held.{tree_at, trees_at}
use Rattle.owl_tree.specs.Trees.{Tree}
use Rattle.rdf_forward.specs.declared.ends.Holder.{Holder}
use Rattle.rdf_forward.specs.declared.notes.Annotation.{Annotation}
use Rattle.rdf_forward.specs.declared.writer.Writer.{Writer}
use Rattle.rdf_mapping.specs.Drawing.{atom_term}
use Rattle.rdf_mapping.specs.Notes.{Notes, annotation_in, no_notes, note, note_nodes, note_triples, notes_of}
use Rattle.rdf_forward.specs.Walks.{Writes, holder_term, names}

abbrev pub notes_among : List Tree → Notes
notes_among [] = no_notes
notes_among (t ∷ ts) = annotation_in t (notes_among ts)

-- the annotations that these trees are
abbrev pub notes_at : List Tree → List ℕ → Notes
notes_at trees ids = notes_among (trees_at trees ids)

abbrev pub are_some : Notes → Bool
are_some no_notes = false
are_some (note p v inside more) = true

-- the tree is this annotation
abbrev pub IsNote : List Tree → Tree → Annotation → Type 0
IsNote trees t a = (more : Notes) → annotation_in t more ≡ note a.property.now (atom_term a.value.now) (notes_of (tree_at trees a.notes)) more

-- the tree is no annotation
abbrev pub IsNoNote : Tree → Type 0
IsNoNote t = (more : Notes) → annotation_in t more ≡ more

-- the annotations of what the term is, with the nodes that reify them
abbrev pub WritesNotes : Writer → Writer → Holder → Notes → Type 0
WritesNotes old new h ns = Writes old new (note_nodes ns) (note_triples (names old) (holder_term (names old) h) ns old.next)
