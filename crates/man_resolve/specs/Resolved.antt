-- What a document means under kinds of names, within the limits, or why it means nothing (Manchester Syntax, sections 2.4 to 2.6).
use Rattle.std.specs.Prelude.{◌≡◌, ◌≢◌, ◌≤◌, ◌<◌, ◌⊎◌, ℕ, List, ◌++◌, Contains, Ok, Err}
use Rattle.man_raw.specs.Documents.{DocumentTree}
use Rattle.owl_arena.specs.Shared.{deepest, heaviest}
use Rattle.owl_kind.specs.Kinds.{Entity, HasClash, IsFirstClash}
use Rattle.owl_tree.specs.Ontologies.{IsSameOntology, Ontology, ontology_weight}
use Rattle.owl_tree.specs.Trees.{Tree, depth}
use Rattle.man_resolve.specs.declared.fault.ResolveFault.{ResolveFault}
use Rattle.man_resolve.specs.declared.fault.ResolveFault.TheVariants.{TwoKinds, TooDeep, TooHeavy, Memory}
use Rattle.man_resolve.specs.Expressions.{knows}
use Rattle.man_resolve.specs.Items.{resolved}

-- no declared IRI has two kinds that no IRI may share
abbrev pub HaveNoClash : List Entity → Type 0
HaveNoClash kinds = (iri : List ℕ) → HasClash kinds iri → ⊥

-- the first IRI with two kinds that no IRI may share, or want of memory
abbrev pub IsClashFault : List Entity → ResolveFault → Type 0
IsClashFault kinds f = (f ≡ Memory) ⊎ ((iri : List ℕ) × (f ≡ TwoKinds iri) × IsFirstClash kinds iri)

-- under the kinds, which have no clash, this is said
pub record Says (d : DocumentTree) (kinds : List Entity) (o : Ontology) : Type 0 where
  pub no_clash : HaveNoClash kinds
  pub says : resolved (knows kinds) d ≡ Ok o

-- an annotation or an axiom is too deep
pub record HasDeepTree (o : Ontology) : Type 0 where
  pub tree : Tree
  pub of : Contains (o.annotations ++ o.axioms) tree
  pub deep : deepest < depth tree

-- The frames mean the ontology, up to structural equivalence, and it passes no limit.
pub record FramesMean (d : DocumentTree) (kinds : List Entity) (o : Ontology) : Type 0 where
  pub said : Ontology
  pub says : Says d kinds said
  pub same : IsSameOntology said o
  pub shallow : HasDeepTree said → ⊥
  pub light : ontology_weight said ≤ heaviest

-- Why the frames mean no ontology within the limits: what is wrong with the kinds, else first in the text, else with the depth of a tree, else with
-- the weight of all.
pub data IsUnresolved (d : DocumentTree) (kinds : List Entity) : ResolveFault → Type 0 where
  two_kinds : (iri : List ℕ) → IsFirstClash kinds iri → IsUnresolved d kinds (TwoKinds iri)
  ill_typed : (f : ResolveFault) → HaveNoClash kinds → f ≢ Memory → resolved (knows kinds) d ≡ Err f → IsUnresolved d kinds f
  too_deep : (o : Ontology) → Says d kinds o → HasDeepTree o → IsUnresolved d kinds TooDeep
  too_heavy : (o : Ontology) → Says d kinds o → (HasDeepTree o → ⊥) → heaviest < ontology_weight o → IsUnresolved d kinds TooHeavy

-- so; or memory ran out, which is told of any document
abbrev pub IsResolveFault : DocumentTree → List Entity → ResolveFault → Type 0
IsResolveFault d kinds f = (f ≡ Memory) ⊎ IsUnresolved d kinds f
