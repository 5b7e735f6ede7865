-- The laws of typing.
use Rattle.std.proofs.Common.{◌∙◌, inl, inr, subst, sym}
use Rattle.std.specs.Prelude.{◌≡◌, ℕ, List}
use Rattle.std.specs.List.{AllByRecursion}
use Rattle.owl_doc.proofs.EntityLaws.{same_typing}
use Rattle.owl_doc.specs.Entities.{IsFirstUndeclared}
use Rattle.owl_kind.specs.declared.kind.Kind.{Kind}
use Rattle.owl_kind.specs.declared.kind.Kind.TheVariants.{Class, Datatype, ObjectProperty, DataProperty, AnnotationProperty}
use Rattle.owl_kind.specs.Kinds.{Entity, HasClash, HasKind, IsFirstClash, SharesKinds}
use Rattle.owl_list.proofs.AscendingLaws.{all_later}
use Rattle.owl_tree.specs.Ontologies.{IsSameOntology, Ontology}
use Rattle.owl_doc.specs.Parts.{Part, part_entities, parts_of}
use Rattle.sayable_parts.proofs.PartLaws.{first_at, first_once, no_first, same_parts}
use Rattle.owl_answer.specs.Typing.{AllAreWellTyped, DeclareSame, IsFirstUntyped, IsUndeclaredIn, IsWellTyped}

undeclared_once : (kinds es : List Entity) (e f : Entity) → IsFirstUndeclared kinds es e → IsFirstUndeclared kinds es f → e ≡ f
undeclared_once kinds es e f h k =
    first_at (λ (d : Entity). HasKind kinds d.kind d.iri) h.before k.before h.after k.after e f (sym h.parts ∙ k.parts) h.well_typed k.well_typed h.undeclared k.undeclared

-- there is one first part at most that is not well typed, with one first entity
pub untyped_once : (kinds : List Entity) (o : Ontology) (part other : Part) (e f : Entity) → IsFirstUntyped kinds o part e → IsFirstUntyped kinds o other f → (part ≡ other) × (e ≡ f)
untyped_once kinds o part other e f h k =
    let same = first_once (IsWellTyped kinds) (parts_of o) part other h.first k.first in
    (same, undeclared_once kinds (part_entities other) e f (subst (λ (p : Part). IsFirstUndeclared kinds (part_entities p) e) same h.entity) k.entity)

-- and none where all are well typed
pub not_all_typed : (kinds : List Entity) (o : Ontology) (part : Part) (e : Entity) → IsFirstUntyped kinds o part e → AllAreWellTyped kinds o → ⊥
not_all_typed kinds o part e h all = no_first (IsWellTyped kinds) (parts_of o) part h.first all

-- the same holds of equivalent ontologies
pub same_ontology_typed : (kinds : List Entity) (o p : Ontology) → IsSameOntology o p → AllAreWellTyped kinds o → AllAreWellTyped kinds p
same_ontology_typed kinds o p h all = subst (λ (parts : List Part). AllByRecursion (IsWellTyped kinds) parts) (same_parts o p h) all

pub same_ontology_untyped : (kinds : List Entity) (o p : Ontology) (part : Part) (e : Entity) → IsSameOntology o p → IsFirstUntyped kinds o part e → IsFirstUntyped kinds p part e
same_ontology_untyped kinds o p part e h first = subst (λ (parts : List Part). IsUndeclaredIn kinds parts part e) (same_parts o p h) first

-- and so it does where the same is declared
part_typed : (kinds others : List Entity) → DeclareSame kinds others → (part : Part) → IsWellTyped kinds part → IsWellTyped others part
part_typed kinds others same part typed = same_typing kinds others (part_entities part) (λ kind iri. (same kind iri).0) typed

pub back : (kinds others : List Entity) → DeclareSame kinds others → DeclareSame others kinds
back kinds others same kind iri = ((same kind iri).1, (same kind iri).0)

pub has_kind : (kinds others : List Entity) → DeclareSame kinds others → (kind : Kind) (iri : List ℕ) → HasKind kinds kind iri → HasKind others kind iri
has_kind kinds others same kind iri h = elim h [ inl d ↦ inl ((same kind iri).0 d) | inr b ↦ inr b ]

pub same_kinds_typed : (kinds others : List Entity) (o : Ontology) → DeclareSame kinds others → AllAreWellTyped kinds o → AllAreWellTyped others o
same_kinds_typed kinds others o same all = all_later (IsWellTyped kinds) (IsWellTyped others) (part_typed kinds others same) (parts_of o) all

pub same_kinds_untyped : (kinds others : List Entity) (o : Ontology) (part : Part) (e : Entity) → DeclareSame kinds others → IsFirstUntyped kinds o part e → IsFirstUntyped others o part e
same_kinds_untyped kinds others o part e same h = record {
  first = record {
    before = h.first.before;
    after = h.first.after;
    split = h.first.split;
    held = all_later (IsWellTyped kinds) (IsWellTyped others) (part_typed kinds others same) h.first.before h.first.held;
    fails = λ typed. h.first.fails (part_typed others kinds (back kinds others same) part typed);
  };
  entity = record {
    before = h.entity.before;
    after = h.entity.after;
    parts = h.entity.parts;
    well_typed = same_typing kinds others h.entity.before (λ kind iri. (same kind iri).0) h.entity.well_typed;
    undeclared = λ has. h.entity.undeclared (has_kind others kinds (back kinds others same) e.kind e.iri has);
  };
}

shared_kinds : (kinds others : List Entity) → DeclareSame kinds others → (iri : List ℕ) → SharesKinds kinds iri → SharesKinds others iri
shared_kinds kinds others same iri shares =
    let has = has_kind kinds others same in
    elim shares [
      | inl h ↦ inl (has Class iri h.0, has Datatype iri h.1)
      | inr more ↦ elim more [
        | inl h ↦ inr (inl (has ObjectProperty iri h.0, has DataProperty iri h.1))
        | inr rest ↦ elim rest [
          | inl h ↦ inr (inr (inl (has ObjectProperty iri h.0, has AnnotationProperty iri h.1)))
          | inr h ↦ inr (inr (inr (has DataProperty iri h.0, has AnnotationProperty iri h.1)))
        ]
      ]
    ]

clash_of_same : (kinds others : List Entity) → DeclareSame kinds others → (iri : List ℕ) → HasClash kinds iri → HasClash others iri
clash_of_same kinds others same iri h =
    record { kind = h.kind; declared = (same h.kind iri).0 h.declared; clash = shared_kinds kinds others same iri h.clash }

pub same_kinds_clash : (kinds others : List Entity) (iri : List ℕ) → DeclareSame kinds others → IsFirstClash kinds iri → IsFirstClash others iri
same_kinds_clash kinds others iri same h =
    record { clash = clash_of_same kinds others same iri h.clash; first = λ other clash less. h.first other (clash_of_same others kinds (back kinds others same) other clash) less }

pub same_kinds_apart : (kinds others : List Entity) → DeclareSame kinds others → ((iri : List ℕ) → HasClash kinds iri → ⊥) → (iri : List ℕ) → HasClash others iri → ⊥
same_kinds_apart kinds others same apart iri h = apart iri (clash_of_same others kinds (back kinds others same) iri h)
