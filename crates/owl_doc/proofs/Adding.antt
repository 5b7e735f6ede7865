-- Documents that are begun, to which a tree is added.
use Rattle.std.proofs.Common.{◌≡◌, ◌↔◌, ◌<◌, ◌≤◌, ◌+◌, ℕ, Bool, true, false, List, [], ◌∷◌, ◌++◌, length, Contains, Result, Ok, Err, IsErrOf, refl, sym, ap, ◌∙◌, subst, arith}
use Rattle.std.specs.List.{AllByRecursion, sum_by}
use Rattle.std.proofs.lemmas.List.{map-append}
use Rattle.std.proofs.lemmas.List.Sums.{sum_by_push}
use Rattle.owl_list.proofs.AscendingLaws.{all_pushed}
use Rattle.owl_tree.specs.Ontologies.{IsAnnotation, IsAxiom}
use Rattle.owl_tree.specs.Trees.{Tree, weight}
use Rattle.owl_doc.specs.declared.builder.Builder.TheInside.{Inside}
use Rattle.owl_doc.specs.declared.fault.AddFault.{AddFault}
use Rattle.owl_doc.specs.declared.fault.AddFault.TheVariants.{Memory, TooHeavy, WrongTag}
use Rattle.owl_doc.specs.Adding.{Stock, Collects, Comes}
use Rattle.owl_doc.specs.Documents.{Document, IsBegun, PassesWeight, total_weight, weight_at, with_axiom, with_note}
use Rattle.owl_arena.specs.Held.{tree_at, trees_at}
use Rattle.owl_doc.specs.Kept.{IsKeptBegun, begun_of}
use Rattle.owl_arena.specs.Shared.{heaviest}
use Rattle.owl_doc.proofs.Collections.{once_pushed}

trees_pushed : (P : Tree → Type 0) (ts : List Tree) (ids : List ℕ) (id : ℕ) → AllByRecursion P (trees_at ts ids) → P (tree_at ts id) → AllByRecursion P (trees_at ts (ids ++ id ∷ []))
trees_pushed P ts ids id h p = subst (λ (us : List Tree). AllByRecursion P us) (sym (map-append (tree_at ts) ids (id ∷ []))) (all_pushed P (trees_at ts ids) (tree_at ts id) h p)

weight_pushed : (ts : List Tree) (ids : List ℕ) (id : ℕ) → weight_at ts (ids ++ id ∷ []) ≡ weight_at ts ids + weight (tree_at ts id)
weight_pushed ts ids id = ap (λ (us : List Tree). sum_by weight us) (map-append (tree_at ts) ids (id ∷ [])) ∙ sum_by_push weight (trees_at ts ids) (tree_at ts id)

-- the tree is of this kind, and weighs so much
pub record IsAddable (kind : Tree → Type 0) (ts : List Tree) (id w : ℕ) : Type 0 where
  pub held : id < length ts
  pub right : kind (tree_at ts id)
  pub weighs : w ≡ weight (tree_at ts id)

-- with one more note
note_begun : (d : Document) (id w : ℕ) → IsAddable IsAnnotation d.arena.trees id w → (Contains d.notes id → ⊥) → total_weight d + w ≤ heaviest → IsBegun d → IsBegun (with_note true id d)
note_begun d id w a absent light b = record {
  notes = all_pushed (λ (other : ℕ). other < length d.arena.trees) d.notes id b.notes a.held;
  axioms = b.axioms;
  notes_once = once_pushed d.notes id b.notes_once absent;
  axioms_once = b.axioms_once;
  ontology = record {
    head = b.ontology.head;
    annotations = trees_pushed IsAnnotation d.arena.trees d.notes id b.ontology.annotations a.right;
    axioms = b.ontology.axioms;
  };
  weight = omega (arith, weight_pushed d.arena.trees d.notes id, a.weighs);
}

-- with one more axiom
axiom_begun : (d : Document) (id w : ℕ) → IsAddable IsAxiom d.arena.trees id w → (Contains d.axioms id → ⊥) → total_weight d + w ≤ heaviest → IsBegun d → IsBegun (with_axiom true id d)
axiom_begun d id w a absent light b = record {
  notes = b.notes;
  axioms = all_pushed (λ (other : ℕ). other < length d.arena.trees) d.axioms id b.axioms a.held;
  notes_once = b.notes_once;
  axioms_once = once_pushed d.axioms id b.axioms_once absent;
  ontology = record {
    head = b.ontology.head;
    annotations = b.ontology.annotations;
    axioms = trees_pushed IsAxiom d.arena.trees d.axioms id b.ontology.axioms a.right;
  };
  weight = omega (arith, weight_pushed d.arena.trees d.axioms id, a.weighs);
}

-- what is true of what was there and of what comes is true of what is left
by_outcome : (P : Stock → Type 0) (old new : Stock) (id w : ℕ) (r : Result Bool AddFault) → Collects old id w r new → (Comes old new id w → P (record { ids = old.ids ++ id ∷ []; total = old.total + w })) → P old → P new
by_outcome P old new id w (Ok true) c more h = subst P (λ i. record { ids = sym c.ids i; total = sym c.total i }) (more c)
by_outcome P old new id w (Ok false) c more h = subst P (sym c.same) h
by_outcome P old new id w (Err TooHeavy) c more h = subst P (sym c.same) h
by_outcome P old new id w (Err Memory) c more h = subst P (sym c.same) h
by_outcome P old new id w (Err WrongTag) c more h = absurd c

-- a builder with other notes or axioms
abbrev with_notes : Inside → Stock → Inside
with_notes b s = record { arena = b.arena; prefixes = b.prefixes; head = b.head; notes = s.ids; axioms = b.axioms; weight = s.total }

abbrev with_axioms : Inside → Stock → Inside
with_axioms b s = record { arena = b.arena; prefixes = b.prefixes; head = b.head; notes = b.notes; axioms = s.ids; weight = s.total }

pub note_kept : (b : Inside) (id w : ℕ) (r : Result Bool AddFault) (s : Stock) → IsAddable IsAnnotation b.arena.trees id w → Collects (record { ids = b.notes; total = b.weight }) id w r s → IsKeptBegun b → IsKeptBegun (with_notes b s)
note_kept b id w r s a c h =
    by_outcome (λ (t : Stock). IsKeptBegun (with_notes b t)) _ s id w r c (
    λ come. record {
      begun = note_begun (begun_of b) id w a come.absent (omega (arith, come.light, h.weight)) h.begun;
      weight = omega (arith, weight_pushed b.arena.trees b.notes id, h.weight, a.weighs);
      version = h.version;
    }
    ) h

pub axiom_kept : (b : Inside) (id w : ℕ) (r : Result Bool AddFault) (s : Stock) → IsAddable IsAxiom b.arena.trees id w → Collects (record { ids = b.axioms; total = b.weight }) id w r s → IsKeptBegun b → IsKeptBegun (with_axioms b s)
axiom_kept b id w r s a c h =
    by_outcome (λ (t : Stock). IsKeptBegun (with_axioms b t)) _ s id w r c (
    λ come. record {
      begun = axiom_begun (begun_of b) id w a come.absent (omega (arith, come.light, h.weight)) h.begun;
      weight = omega (arith, weight_pushed b.arena.trees b.axioms id, h.weight, a.weighs);
      version = h.version;
    }
    ) h

not_both : (d : Document) (id w total : ℕ) → total ≡ total_weight d → w ≡ weight (tree_at d.arena.trees id) → total + w ≤ heaviest → heaviest < total_weight d + weight (tree_at d.arena.trees id) → ⊥
not_both d id w total e f l g = omega arith

-- what `TooHeavy` tells of a tree with the right tag
pub tells_heavy : (d : Document) (id w : ℕ) (old new : Stock) (right : Type 0) → right → old.total ≡ total_weight d → w ≡ weight (tree_at d.arena.trees id) → (r : Result Bool AddFault) → Collects old id w r new → IsErrOf r TooHeavy ↔ (right × PassesWeight d old.ids id)
tells_heavy d id w old new right h e f (Ok true) c = (λ k. cc, λ p. absurd (not_both d id w old.total e f c.light p.1.heavy))
tells_heavy d id w old new right h e f (Ok false) c = (λ k. cc, λ p. absurd (p.1.new c.there))
tells_heavy d id w old new right h e f (Err TooHeavy) c = (λ k. (h, record { new = c.absent; heavy = omega (arith, c.heavy, e, f) }), λ p. refl)
tells_heavy d id w old new right h e f (Err Memory) c = (λ k. cc, λ p. absurd (not_both d id w old.total e f c.light p.1.heavy))
tells_heavy d id w old new right h e f (Err WrongTag) c = absurd c
