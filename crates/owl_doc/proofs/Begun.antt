-- Documents that are begun, over an arena that grows.
use Rattle.std.proofs.Common.{◌≡◌, ◌≤◌, inl, inr, ℕ, List, [], ◌∷◌, Result, Ok, Err, OnOk, OnErr, refl, sym, ◌∙◌, subst}
use Rattle.std.specs.List.{AllByRecursion}
use Rattle.owl_tree.specs.Ontologies.{IsAnnotation, IsAxiom}
use Rattle.owl_tree.specs.Trees.{Tree}
use Rattle.owl_doc.specs.declared.builder.Builder.TheInside.{Inside}
use Rattle.owl_arena.specs.declared.grow.Grow.{Grow}
use Rattle.owl_doc.specs.Documents.{Document, IsBegun, total_weight, with_arena}
use Rattle.owl_arena.specs.Growth.{Adds}
use Rattle.owl_arena.specs.Held.{AreHeld, Held, trees_at}
use Rattle.owl_arena.proofs.HeldLaws.{held_more, kids_stay}
use Rattle.owl_doc.specs.Kept.{IsKeptBegun, begun_of}
use Rattle.owl_arena.specs.Shared.{heaviest}

-- numbers of the one list have the same trees in the other
record Keeps (old new : List Tree) : Type 0 where
  pub trees : (ids : List ℕ) → AreHeld old ids → trees_at new ids ≡ trees_at old ids
  pub held : (ids : List ℕ) → AreHeld old ids → AreHeld new ids

keeps_itself : (ts : List Tree) → Keeps ts ts
keeps_itself ts = record { trees = λ ids h. refl; held = λ ids h. h }

keeps_added : (old new : List Tree) (t : Tree) → Adds old new t → Keeps old new
keeps_added old new t (inl h) = subst (λ (ts : List Tree). Keeps old ts) (sym h.1) (keeps_itself old)
keeps_added old new t (inr h) =
    subst (λ (ts : List Tree). Keeps old ts) (sym h.1) record { trees = λ ids k. kids_stay old (t ∷ []) ids k; held = λ ids k. held_more old (t ∷ []) ids k }

weight_kept : (d : Document) (arena : Held) → Keeps d.arena.trees arena.trees → IsBegun d → total_weight (with_arena arena d) ≡ total_weight d
weight_kept d arena k b =
    let notes = k.trees d.notes b.notes in
    let axioms = k.trees d.axioms b.axioms in
    rw (notes, axioms) refl

begun_kept : (d : Document) (arena : Held) → Keeps d.arena.trees arena.trees → IsBegun d → IsBegun (with_arena arena d)
begun_kept d arena k b =
    let notes = k.trees d.notes b.notes in
    let axioms = k.trees d.axioms b.axioms in
    record {
      notes = k.held d.notes b.notes;
      axioms = k.held d.axioms b.axioms;
      notes_once = b.notes_once;
      axioms_once = b.axioms_once;
      ontology = record {
        head = b.ontology.head;
        annotations = subst (λ (ts : List Tree). AllByRecursion IsAnnotation ts) (sym notes) b.ontology.annotations;
        axioms = subst (λ (ts : List Tree). AllByRecursion IsAxiom ts) (sym axioms) b.ontology.axioms;
      };
      weight = subst (λ (n : ℕ). n ≤ heaviest) (sym (weight_kept d arena k b)) b.weight;
    }

-- over another arena
abbrev over : Held → Inside → Inside
over arena b = record { arena = arena; prefixes = b.prefixes; head = b.head; notes = b.notes; axioms = b.axioms; weight = b.weight }

builder_kept : (b : Inside) (arena : Held) → Keeps b.arena.trees arena.trees → IsKeptBegun b → IsKeptBegun (over arena b)
builder_kept b arena k h = record {
  begun = begun_kept (begun_of b) arena k h.begun;
  weight = h.weight ∙ sym (weight_kept (begun_of b) arena k h.begun);
  version = h.version;
}

pub grown_kept : (b : Inside) (arena : Held) (t : Tree) (r : Result ℕ Grow) → OnOk r (Adds b.arena.trees arena.trees t) → OnErr r (arena ≡ b.arena) → IsKeptBegun b → IsKeptBegun (over arena b)
grown_kept b arena t (Ok id) added same h = builder_kept b arena (keeps_added b.arena.trees arena.trees t added) h
grown_kept b arena t (Err e) added same h = subst (λ (a : Held). IsKeptBegun (over a b)) (sym same) h
