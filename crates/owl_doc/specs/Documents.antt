-- Documents, and those that are begun: an ontology over an arena, and the prefixes that it was written with.
use Rattle.std.specs.Prelude.{◌≡◌, ◌≤◌, ◌<◌, ℕ, ◌+◌, Bool, true, false, List, [], ◌∷◌, ◌++◌, Contains, IsTrue, None, Option, refl}
use Rattle.std.specs.Coded.{Coded, code_by, coded×, coded_list, coded_ℕ}
use Rattle.std.specs.List.{sum_by}
use Rattle.owl_arena.specs.Held.{AreHeld, Held, held_code, tree_at, trees_at}
use Rattle.owl_arena.specs.Shared.{heaviest}
use Rattle.owl_atom.specs.contracts.prefixes.Prefix as prefix
use Rattle.owl_atom.specs.declared.prefixes.Prefix.{Prefix}
use Rattle.owl_doc.specs.Heads.{head_code}
use Rattle.owl_list.specs.Ascending.{AreApart, HoldSame}
use Rattle.owl_tree.specs.declared.tag.Tag.TheVariants as tag
use Rattle.owl_tree.specs.Ontologies.{Head, IsOntology, Ontology, OntologyName, canonical_ontology, ontology_weight}
use Rattle.owl_tree.specs.Tags.{is_axiom}
use Rattle.owl_tree.specs.Trees.{Tree, tag_of, weight}

-- a head, and annotations and axioms by their numbers in an arena
pub record Document : Type 0 where
  pub arena : Held
  pub prefixes : List Prefix
  pub head : Head
  pub notes : List ℕ
  pub axioms : List ℕ

-- it is stored as the tuple of its fields
abbrev pub document_code : Coded Document
document_code = code_by (Held × (List Prefix × (Head × (List ℕ × List ℕ)))) (coded× held_code (coded× (coded_list prefix.the_row.coded) (coded× head_code (coded× (coded_list coded_ℕ) (coded_list coded_ℕ))))) (λ d. (d.arena, (d.prefixes, (d.head, (d.notes, d.axioms))))) (λ p. record { arena = p.0; prefixes = p.1.0; head = p.1.1.0; notes = p.1.1.1.0; axioms = p.1.1.1.1 }) (λ _. refl)

-- the ontology that it says
abbrev pub ontology_of : Document → Ontology
ontology_of d = record { head = d.head; annotations = trees_at d.arena.trees d.notes; axioms = trees_at d.arena.trees d.axioms }

-- what every document is: its ontology is one, in canonical form, and not too heavy
pub record IsDocument (d : Document) : Type 0 where
  pub notes : AreHeld d.arena.trees d.notes
  pub axioms : AreHeld d.arena.trees d.axioms
  pub ontology : IsOntology (ontology_of d)
  pub canonical : canonical_ontology (ontology_of d) ≡ ontology_of d
  pub weight : ontology_weight (ontology_of d) ≤ heaviest

-- what the trees with these numbers weigh
abbrev pub weight_at : List Tree → List ℕ → ℕ
weight_at ts ids = sum_by weight (trees_at ts ids)

-- what all that was added weighs
abbrev pub total_weight : Document → ℕ
total_weight d = weight_at d.arena.trees d.notes + weight_at d.arena.trees d.axioms

-- what every document that is begun is: annotations and axioms in the order in which they were added, each once
pub record IsBegun (d : Document) : Type 0 where
  pub notes : AreHeld d.arena.trees d.notes
  pub axioms : AreHeld d.arena.trees d.axioms
  pub notes_once : AreApart d.notes
  pub axioms_once : AreApart d.axioms
  pub ontology : IsOntology (ontology_of d)
  pub weight : total_weight d ≤ heaviest

-- a document that is finished has what was added, each once, in canonical form
pub record IsFinished (begun finished : Document) : Type 0 where
  pub arena : finished.arena ≡ begun.arena
  pub prefixes : finished.prefixes ≡ begun.prefixes
  pub notes : HoldSame finished.notes begun.notes
  pub axioms : HoldSame finished.axioms begun.axioms
  pub ontology : ontology_of finished ≡ canonical_ontology (ontology_of begun)

-- nothing but prefixes and an arena
abbrev pub nothing_yet : List Prefix → Held → Document
nothing_yet prefixes arena = record { arena = arena; prefixes = prefixes; head = record { name = None; imports = [] }; notes = []; axioms = [] }

abbrev pub with_arena : Held → Document → Document
with_arena arena d = record { arena = arena; prefixes = d.prefixes; head = d.head; notes = d.notes; axioms = d.axioms }

abbrev pub with_prefixes : List Prefix → Document → Document
with_prefixes prefixes d = record { arena = d.arena; prefixes = prefixes; head = d.head; notes = d.notes; axioms = d.axioms }

abbrev pub with_head : Head → Document → Document
with_head head d = record { arena = d.arena; prefixes = d.prefixes; head = head; notes = d.notes; axioms = d.axioms }

abbrev pub with_name : Option OntologyName → Document → Document
with_name name d = with_head (record { name = name; imports = d.head.imports }) d

abbrev pub with_import : List ℕ → Document → Document
with_import iri d = with_head (record { name = d.head.name; imports = d.head.imports ++ iri ∷ [] }) d

-- behind the others, where it is added
abbrev pub with_note : Bool → ℕ → Document → Document
with_note true id d = record { arena = d.arena; prefixes = d.prefixes; head = d.head; notes = d.notes ++ id ∷ []; axioms = d.axioms }
with_note false id d = d

abbrev pub with_axiom : Bool → ℕ → Document → Document
with_axiom true id d = record { arena = d.arena; prefixes = d.prefixes; head = d.head; notes = d.notes; axioms = d.axioms ++ id ∷ [] }
with_axiom false id d = d

abbrev pub IsAnnotationAt : Document → ℕ → Type 0
IsAnnotationAt d id = tag_of (tree_at d.arena.trees id) ≡ tag.Annotation

abbrev pub IsAxiomAt : Document → ℕ → Type 0
IsAxiomAt d id = IsTrue (is_axiom (tag_of (tree_at d.arena.trees id)))

-- it is not among those that were added, and with it they would weigh too much
pub record PassesWeight (d : Document) (ids : List ℕ) (id : ℕ) : Type 0 where
  pub new : Contains ids id → ⊥
  pub heavy : heaviest < total_weight d + weight (tree_at d.arena.trees id)
