-- The declarations that an ontology needs and its import closure lacks (Structural Specification, sections 5.8 and 5.8.1).
use Rattle.std.specs.Prelude.{◌≡◌, ◌<◌, ◌≤◌, ◌↔◌, ◌⊎◌, ◌++◌, ℕ, List, Contains, map}
use Rattle.std.specs.declared.cmp.Ordering.{Ordering}
use Rattle.std.specs.Ordering.{nat_cmp, on, then_cmp}
use Rattle.owl_arena.specs.Shared.{heaviest}
use Rattle.owl_assembly.specs.declared.fault.AssembleFault.{AssembleFault}
use Rattle.owl_assembly.specs.declared.fault.AssembleFault.TheVariants as assemble
use Rattle.owl_characters.specs.Order.{text_cmp}
use Rattle.owl_declarations.specs.Declarations.{declaration}
use Rattle.owl_doc.specs.Entities.{entities_of}
use Rattle.owl_kind.specs.Kinds.{Entity, HasClash, HasKind, IsDeclared, IsFirstClash}
use Rattle.owl_kind.specs.declared.kind.Kind.{Kind}
use Rattle.owl_kind.specs.Order.{kind_number}
use Rattle.owl_list.specs.Ascending.{IsAscending}
use Rattle.owl_tree.specs.Ontologies.{Ontology, canonical_ontology, ontology_weight}
use Rattle.owl_tree.specs.Trees.{Tree, kids_of}
use Rattle.owl_declare.specs.declared.fault.DeclareFault.{DeclareFault}
use Rattle.owl_declare.specs.declared.fault.DeclareFault.TheVariants.{TwoKinds, TooHeavy, Memory}
use Rattle.owl_declare.specs.declared.need.Need.{Need}

abbrev pub entity_of : Need → Entity
entity_of need = record { kind = need.kind; iri = need.iri }

-- the classes, datatypes and properties that stand in the annotations and axioms of an ontology
abbrev pub named_in : Ontology → List Entity
named_in o = entities_of (kids_of (o.annotations ++ o.axioms))

-- one that stands there, and is neither declared nor built in
pub record IsNeeded (kinds : List Entity) (o : Ontology) (e : Entity) : Type 0 where
  pub named : Contains (named_in o) e
  pub lacking : HasKind kinds e.kind e.iri → ⊥

-- by kind, and then by bytes
abbrev pub by_kind : Entity → Entity → Ordering
by_kind = then_cmp (on (λ e. kind_number e.kind) nat_cmp) (on (λ e. e.iri) text_cmp)

-- what is needed, each once, in order
pub record AreNeeded (kinds : List Entity) (o : Ontology) (needs : List Entity) : Type 0 where
  pub each : (e : Entity) → Contains needs e ↔ IsNeeded kinds o e
  pub ordered : IsAscending by_kind needs

-- the declarations of these, without annotations
abbrev pub declarations : List Entity → List Tree
declarations = map (λ e. declaration e.kind e.iri)

-- the ontology, which declares these too
abbrev pub with_needs : List Entity → Ontology → Ontology
with_needs needs o = record { head = o.head; annotations = o.annotations; axioms = o.axioms ++ declarations needs }

-- with what is needed, no IRI has two kinds that no IRI may share, and the ontology is within the limits
pub record AreApart (kinds : List Entity) (needs : List Entity) : Type 0 where
  pub apart : (iri : List ℕ) → HasClash (kinds ++ needs) iri → ⊥

-- The second is the first with the declarations that it needs, in canonical form: no IRI has two kinds then that no IRI may share, and its
-- weight is within the limit.
pub record DeclaresWhole (kinds : List Entity) (o p : Ontology) : Type 0 where
  pub needs : List Entity
  pub needed : AreNeeded kinds o needs
  pub is : p ≡ canonical_ontology (with_needs needs o)
  pub apart : AreApart kinds needs
  pub light : ontology_weight (with_needs needs o) ≤ heaviest

-- what was declared, and what is needed
abbrev pub KnowsWhole : List Entity → Ontology → List Entity → Type 0
KnowsWhole old o new = (kind : Kind) (iri : List ℕ) →
    IsDeclared new kind iri ↔ (IsDeclared old kind iri ⊎ IsNeeded old o (record { kind = kind; iri = iri }))

-- what was declared, and perhaps some of what is needed
pub record KnowsSome (old : List Entity) (o : Ontology) (new : List Entity) : Type 0 where
  pub kept : (kind : Kind) (iri : List ℕ) → IsDeclared old kind iri → IsDeclared new kind iri
  pub only : (kind : Kind) (iri : List ℕ) → IsDeclared new kind iri → IsDeclared old kind iri ⊎ IsNeeded old o (record { kind = kind; iri = iri })

-- a refusal for two kinds names the first IRI that then has them
abbrev pub SharesKinds : List Entity → Ontology → DeclareFault → Type 0
SharesKinds kinds o (TwoKinds iri) = (needs : List Entity) × AreNeeded kinds o needs × IsFirstClash (kinds ++ needs) iri
SharesKinds kinds o TooHeavy = Unit {0}
SharesKinds kinds o Memory = Unit {0}

-- no IRI has then two such kinds, and the ontology would have too many nodes and leaves
pub record IsTooHeavy (kinds : List Entity) (o : Ontology) : Type 0 where
  pub needs : List Entity
  pub needed : AreNeeded kinds o needs
  pub apart : AreApart kinds needs
  pub heavy : heaviest < ontology_weight (with_needs needs o)

abbrev pub assemble_fault : AssembleFault → DeclareFault
assemble_fault assemble.TooHeavy = TooHeavy
assemble_fault assemble.Memory = Memory
