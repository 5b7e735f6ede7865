-- A document means one ontology, or has one fault.
use Rattle.std.proofs.Common.{◌≡◌, ◌≢◌, List, refl, ap, subst, arith}
use Rattle.man_raw.specs.Documents.{DocumentTree}
use Rattle.owl_kind.specs.Kinds.{Entity}
use Rattle.owl_kind.proofs.OrderLaws.{clash_once}
use Rattle.owl_tree.specs.Ontologies.{IsSameOntology, Ontology, ontology_weight}
use Rattle.owl_tree.proofs.OntologyLaws.{same_ontology_sym, same_ontology_trans}
use Rattle.man_resolve.specs.declared.fault.ResolveFault.{ResolveFault}
use Rattle.man_resolve.specs.declared.fault.ResolveFault.TheVariants.{Memory, TwoKinds}
use Rattle.man_resolve.specs.Resolved.{FramesMean, HasDeepTree, IsUnresolved, Says, ill_typed, too_deep, too_heavy, two_kinds}

module _ (d : DocumentTree) (k : List Entity) where
  says_once : (o p : Ontology) → Says d k o → Says d k p → o ≡ p
  says_once o p h g = let a = h.says in let b = g.says in cc

  pub one_ontology : (o p : Ontology) → FramesMean d k o → FramesMean d k p → IsSameOntology o p
  one_ontology o p h g =
      let same = subst (λ q. IsSameOntology q o) (says_once h.said g.said h.says g.says) h.same in
      same_ontology_trans o g.said p (same_ontology_sym g.said o same) g.same

  pub one_fault : (e f : ResolveFault) → IsUnresolved d k e → IsUnresolved d k f → e ≡ f
  one_fault _ _ (two_kinds i c) (two_kinds j b) = ap TwoKinds (clash_once k i j c b)
  one_fault _ _ (two_kinds i c) (ill_typed f clear proper e) = absurd (clear i c.clash)
  one_fault _ _ (two_kinds i c) (too_deep o says deep) = absurd (says.no_clash i c.clash)
  one_fault _ _ (two_kinds i c) (too_heavy o says shallow heavy) = absurd (says.no_clash i c.clash)
  one_fault _ _ (ill_typed f clear proper e) (two_kinds i c) = absurd (clear i c.clash)
  one_fault _ _ (ill_typed f clear proper e) (ill_typed g other improper h) = cc
  one_fault _ _ (ill_typed f clear proper e) (too_deep o says deep) = let h = says.says in absurd cc
  one_fault _ _ (ill_typed f clear proper e) (too_heavy o says shallow heavy) = let h = says.says in absurd cc
  one_fault _ _ (too_deep o says deep) (two_kinds i c) = absurd (says.no_clash i c.clash)
  one_fault _ _ (too_deep o says deep) (ill_typed f clear proper e) = let h = says.says in absurd cc
  one_fault _ _ (too_deep o says deep) (too_deep p told more) = refl
  one_fault _ _ (too_deep o says deep) (too_heavy p told shallow heavy) = absurd (shallow (subst HasDeepTree (says_once o p says told) deep))
  one_fault _ _ (too_heavy o says shallow heavy) (two_kinds i c) = absurd (says.no_clash i c.clash)
  one_fault _ _ (too_heavy o says shallow heavy) (ill_typed f clear proper e) = let h = says.says in absurd cc
  one_fault _ _ (too_heavy o says shallow heavy) (too_deep p told deep) = absurd (shallow (subst HasDeepTree (says_once p o told says) deep))
  one_fault _ _ (too_heavy o says shallow heavy) (too_heavy p told low more) = refl

  pub never_both : (o : Ontology) (f : ResolveFault) → FramesMean d k o → IsUnresolved d k f → ⊥
  never_both o _ h (two_kinds i c) = h.says.no_clash i c.clash
  never_both o _ h (ill_typed f clear proper e) = let a = h.says.says in absurd cc
  never_both o _ h (too_deep p says deep) = h.shallow (subst HasDeepTree (says_once p h.said says h.says) deep)
  never_both o _ h (too_heavy p says shallow heavy) =
      let light = h.light in
      let same = ap ontology_weight (says_once p h.said says h.says) in
      omega (arith, light, same, heavy)

  pub is_proper : (f : ResolveFault) → IsUnresolved d k f → f ≢ Memory
  is_proper _ (two_kinds i c) = λ e. cc
  is_proper f (ill_typed _ clear proper e) = proper
  is_proper _ (too_deep p says deep) = λ e. cc
  is_proper _ (too_heavy p says shallow heavy) = λ e. cc
