-- The axioms of an ontology that is its own normal form can be said.
use Rattle.std.proofs.Common.{◌≡◌, List, ◌++◌, ap, subst}
use Rattle.std.specs.List.{AllByRecursion}
use Rattle.std.proofs.lemmas.List.Elements.{Contains-append_right}
use Rattle.owl_doc.specs.Entities.{AreWellTyped, entities}
use Rattle.owl_kind.specs.Kinds.{Entity}
use Rattle.owl_list.proofs.AscendingLaws.{all_from, all_in, all_later}
use Rattle.owl_tree.specs.Ontologies.{IsAxiom, IsOntology, Ontology}
use Rattle.owl_tree.specs.Shape.{IsShaped}
use Rattle.owl_doc.specs.Parts.{leaves, ontology_leaves}
use Rattle.sayable_parts.proofs.PartLaws.{from_leaf}
use Rattle.rdf_sayable.specs.Sayable.{CanSayAll}
use Rattle.rdf_sayable.proofs.SayableLaws.{said_among, said_by_leaves}
use Rattle.rdf_normal.specs.Tidied.{IsPlain}
use Rattle.rdf_normal.proofs.AgainLaws.{normal_plain}
use Rattle.rdf_normal.specs.NormalForms.{normal_form, settled, unsettled_axioms}
use Rattle.rdf_normal.proofs.TidiedLaws.{IsTidy, settled_tidy}
use Rattle.rdf_axioms.specs.AxiomReading.{IsSayableAxiom}

-- each axiom can be said, under kinds by which it is well typed
pub axioms_sayable : (k : List Entity) (o : Ontology) → IsOntology o → normal_form o ≡ o → CanSayAll o → AllByRecursion (λ a. AreWellTyped k (entities a)) o.axioms → AllByRecursion (IsSayableAxiom k) o.axioms
axioms_sayable k o is normal said typed =
    let same : settled (unsettled_axioms o) ≡ o.axioms = ap (λ (p : Ontology). p.axioms) normal in
    let tidy = subst (AllByRecursion IsTidy) same (settled_tidy (unsettled_axioms o)) in
    let shaped = all_later IsAxiom IsShaped (λ a h. h.shaped) o.axioms is.axioms in
    let plain = subst (AllByRecursion IsPlain) same (normal_plain o shaped) in
    all_from (IsSayableAxiom k) o.axioms
    (λ a m. record {
      is = all_in IsAxiom o.axioms a is.axioms m;
      canonical = (all_in IsTidy o.axioms a tidy m).canonical;
      plain = all_in IsPlain o.axioms a plain m;
      typed = all_in (λ b. AreWellTyped k (entities b)) o.axioms a typed m;
      sayable =
          said_among (ontology_leaves o) (leaves a)
          (λ l i. from_leaf (o.annotations ++ o.axioms) a l (Contains-append_right o.annotations o.axioms a m) i) ((said_by_leaves o).0 said);
    })
