-- What a graph says with the declarations of guessed names is one ontology, and guesses make no clash.
use Rattle.std.specs.Prelude.{◌≡◌, ◌<◌, ◌≤◌, ◌↔◌, ◌++◌, ℕ, List, [], Contains, map}
use Rattle.std.proofs.Common.{inl, inr, refl, sym, ap, ◌∙◌, subst, arith}
use Rattle.std.proofs.lemmas.Bool.{cases_lt}
use Rattle.std.proofs.lemmas.List.{append-nil}
use Rattle.std.proofs.lemmas.List.Elements.{Contains-append_cases, Contains-append_left, Contains-append_right}
use Rattle.owl_arena.specs.Shared.{heaviest}
use Rattle.owl_declarations.specs.Declarations.{declaration}
use Rattle.owl_kind.specs.declared.kind.Kind.TheVariants.{AnnotationProperty}
use Rattle.owl_kind.specs.Kinds.{Entity}
use Rattle.owl_tree.proofs.EquivalenceLaws.{equivalent_refl}
use Rattle.owl_tree.proofs.OntologyLaws.{canonical_same_ontology, same_ontology_refl, same_ontology_sym, same_ontology_trans, same_ontology_weight}
use Rattle.owl_tree.specs.Ontologies.{AreAmong, HoldEquivalent, IsSameOntology, Ontology, canonical_ontology, ontology_weight}
use Rattle.owl_tree.specs.Trees.{Tree}
use Rattle.rdf_graph.specs.declared.triple.Triple.{Triple}
use Rattle.rdf_meaning.proofs.ListLaws.{same_only}
use Rattle.rdf_reverse.proofs.Assembling.{says_same}
use Rattle.rdf_reverse.proofs.ReverseLaws.{never_both, said_one_way, unsaid_one_way}
use Rattle.rdf_reverse.specs.declared.fault.ReverseFault.{ReverseFault}
use Rattle.owl_assembly.specs.declared.fault.AssembleFault.{AssembleFault}
use Rattle.owl_assembly.specs.declared.fault.AssembleFault.TheVariants as assemble
use Rattle.rdf_reverse.specs.Faults.{assemble_fault}
use Rattle.rdf_reverse.specs.Guesses.{IsFaultWith, IsSaidWith, IsUnsaidWith, of_graph, of_guesses, with_guesses}
use Rattle.rdf_reverse.specs.Reverse.{HasDeepTree, HasHeavyTree, of_all, IsReverseFault, IsSaid, IsUnsaid}

-- ---- more axioms

among_with : (ts us vs : List Tree) → AreAmong ts us → AreAmong (ts ++ vs) (us ++ vs)
among_with ts us vs h t m =
    elim (Contains-append_cases ts vs t m) [
      | inl n ↦ let u = h t n in (u.0, Contains-append_left us vs u.0 u.1, u.2)
      | inr n ↦ (t, Contains-append_right us vs t n, equivalent_refl t)
    ]

equivalent_with : (ts us vs : List Tree) → HoldEquivalent ts us → HoldEquivalent (ts ++ vs) (us ++ vs)
equivalent_with ts us vs h = record { there = among_with ts us vs h.there; back = among_with us ts vs h.back }

pub guesses_same : (names : List (List ℕ)) (o p : Ontology) → IsSameOntology o p → IsSameOntology (with_guesses names o) (with_guesses names p)
guesses_same names o p h = record {
  head = h.head;
  annotations = h.annotations;
  axioms = equivalent_with o.axioms p.axioms (map (declaration AnnotationProperty) names) h.axioms;
}

no_guesses : (o : Ontology) → with_guesses [] o ≡ o
no_guesses o = ap (λ (xs : List Tree). record { head = o.head; annotations = o.annotations; axioms = xs }) (append-nil o.axioms)

-- ---- one way

module _ (g : List Triple) (k : List Entity) (names : List (List ℕ)) where
  same_with : (a b : Ontology) → IsSaid g k a → IsSaid g k b → IsSameOntology (with_guesses names a) (with_guesses names b)
  same_with a b h i = guesses_same names a b (said_one_way g k a b h i)

  pub said_with_once : (o p : Ontology) → IsSaidWith g k names o → IsSaidWith g k names p → IsSameOntology o p
  said_with_once o p a b =
      same_ontology_trans o (with_guesses names a.bare) p (same_ontology_sym (with_guesses names a.bare) o a.same)
      (same_ontology_trans (with_guesses names a.bare) (with_guesses names b.bare) p (same_with a.bare b.bare a.said b.said) b.same)

  pub unsaid_with_once : (e f : ReverseFault) → IsUnsaidWith g k names e → IsUnsaidWith g k names f → e ≡ f
  unsaid_with_once e f (of_graph a) (of_graph b) = unsaid_one_way g k e f a b
  unsaid_with_once e f (of_graph a) (of_guesses bare said heavy is) = absurd (never_both g k bare e said a)
  unsaid_with_once e f (of_guesses bare said heavy is) (of_graph b) = absurd (never_both g k bare f said b)
  unsaid_with_once e f (of_guesses a x y i) (of_guesses b v w j) = i ∙ sym j

  pub never_both_with : (o : Ontology) (f : ReverseFault) → IsSaidWith g k names o → IsUnsaidWith g k names f → ⊥
  never_both_with o f a (of_graph b) = never_both g k a.bare f a.said b
  never_both_with o f a (of_guesses bare said heavy is) =
      let same = same_ontology_weight (with_guesses names a.bare) (with_guesses names bare) (same_with a.bare bare a.said said) in
      let light = a.light in
      omega (arith, same, light, heavy)

-- what is equivalent to what is said within the limits is said so
said_same : (g : List Triple) (k : List Entity) (o p : Ontology) → IsSaid g k o → IsSameOntology o p → IsSaid g k p
said_same g k o p said same =
    let says = says_same g k o p said.says same in
    let header = same_only says.states.header said.says.states.header (sym says.states.one_header ∙ said.says.states.one_header) in
    record {
      says = says;
      small = said.small;
      shallow = λ deep. said.shallow (subst (HasDeepTree g k) header deep);
      light = λ heavy. said.light (subst (HasHeavyTree g k) header heavy);
    }

light_said : (g : List Triple) (k : List Entity) (o : Ontology) → IsSaid g k o → ontology_weight o ≤ heaviest
light_said g k o said = elim (cases_lt heaviest (ontology_weight o)) [ inl h ↦ absurd (said.light (of_all o said.says h)) | inr h ↦ h ]

module _ (g : List Triple) (k : List Entity) (o : Ontology) where
  pub with_nothing : IsSaid g k o → IsSaidWith g k [] o
  with_nothing h = record {
    bare = o;
    said = h;
    same = subst (λ p. IsSameOntology p o) (sym (no_guesses o)) (same_ontology_refl o);
    light = subst (λ p. ontology_weight p ≤ heaviest) (sym (no_guesses o)) (light_said g k o h);
  }

  without : IsSaidWith g k [] o → IsSaid g k o
  without h = said_same g k h.bare o h.said (subst (λ p. IsSameOntology p o) (no_guesses h.bare) h.same)

  pub with_none : IsSaidWith g k [] o ↔ IsSaid g k o
  with_none = (without, with_nothing)

module _ (g : List Triple) (k : List Entity) (f : ReverseFault) where
  no_fault : IsUnsaidWith g k [] f → IsUnsaid g k f
  no_fault (of_graph h) = h
  no_fault (of_guesses bare said heavy is) =
      let light = light_said g k bare said in
      let same = ap (λ p. ontology_weight p) (no_guesses bare) in
      absurd (omega (arith, heavy, light, same))

  pub fault_with_none : IsUnsaidWith g k [] f ↔ IsUnsaid g k f
  fault_with_none = (no_fault, λ h. of_graph h)

-- ---- the declarations that are made

module _ (g : List Triple) (k : List Entity) (names : List (List ℕ)) (o p : Ontology) where
  pub said_with : IsSaid g k o → ontology_weight (with_guesses names o) ≤ heaviest → p ≡ canonical_ontology (with_guesses names o) → IsSaidWith g k names p
  said_with said light e = record {
    bare = o;
    said = said;
    same = subst (IsSameOntology (with_guesses names o)) (sym e) (canonical_same_ontology (with_guesses names o));
    light = light;
  }

-- none are guessed
pub none_said : (g : List Triple) (k : List Entity) (names : List (List ℕ)) (o : Ontology) → names ≡ [] → IsSaid g k o → IsSaidWith g k names o
none_said g k names o e said = subst (λ (ns : List (List ℕ)). IsSaidWith g k ns o) (sym e) (with_nothing g k o said)

-- why nothing is said, without them and with them
module _ (g : List Triple) (k : List Entity) (names : List (List ℕ)) where
  pub fault_before : (f : ReverseFault) → IsReverseFault g k f → IsFaultWith g k names f
  fault_before f (inl m) = inl m
  fault_before f (inr u) = inr (of_graph u)

  pub fault_of_guesses : (o : Ontology) → IsSaid g k o → (fault : AssembleFault) (f : ReverseFault) → f ≡ assemble_fault fault →
      (fault ≡ assemble.TooHeavy → heaviest < ontology_weight (with_guesses names o)) → IsFaultWith g k names f
  fault_of_guesses o said assemble.TooHeavy f e heavy = inr (of_guesses o said (heavy refl) e)
  fault_of_guesses o said assemble.Memory f e heavy = inl e
