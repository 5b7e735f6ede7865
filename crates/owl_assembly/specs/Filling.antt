-- Documents that are filled.
use Rattle.std.specs.Prelude.{◌≡◌, ℕ, IsTrue, List}
use Rattle.std.specs.List.{AllByRecursion}
use Rattle.owl_doc.specs.Documents.{Document, ontology_of, with_head}
use Rattle.owl_list.specs.Ascending.{HoldSame}
use Rattle.owl_tree.specs.declared.tag.Tag.TheVariants as tag
use Rattle.owl_tree.specs.Ontologies.{Ontology, canonical_ontology}
use Rattle.owl_tree.specs.Tags.{is_axiom}
use Rattle.owl_tree.specs.Trees.{Tree, tag_of}

abbrev pub AreAnnotations : List Tree → Type 0
AreAnnotations = AllByRecursion (λ t. tag_of t ≡ tag.Annotation)

abbrev pub AreAxioms : List Tree → Type 0
AreAxioms = AllByRecursion (λ t. IsTrue (is_axiom (tag_of t)))

-- with these in place of those that there were
abbrev pub with_imports : List (List ℕ) → Document → Document
with_imports imports d = with_head (record { name = d.head.name; imports = imports }) d

abbrev pub with_notes : List ℕ → Document → Document
with_notes notes d = record { arena = d.arena; prefixes = d.prefixes; head = d.head; notes = notes; axioms = d.axioms }

abbrev pub with_axioms : List ℕ → Document → Document
with_axioms axioms d = record { arena = d.arena; prefixes = d.prefixes; head = d.head; notes = d.notes; axioms = axioms }

-- the annotations are these, in whatever order and however often, and all else is as it was
pub record HasNotes (old : Document) (ids : List ℕ) (new : Document) : Type 0 where
  pub rest : new ≡ with_notes new.notes old
  pub notes : HoldSame new.notes ids

-- the axioms are these
pub record HasAxioms (old : Document) (ids : List ℕ) (new : Document) : Type 0 where
  pub rest : new ≡ with_axioms new.axioms old
  pub axioms : HoldSame new.axioms ids

-- with the same prefixes it says what the ontology says
pub record IsFilled (old : Document) (o : Ontology) (new : Document) : Type 0 where
  pub prefixes : new.prefixes ≡ old.prefixes
  pub ontology : canonical_ontology (ontology_of new) ≡ canonical_ontology o
