-- What steps make is what the document means.
use Rattle.std.proofs.Common.{◌≡◌, ℕ, ◌+◌, ◌<◌, ◌≤◌, List, [], ◌∷◌, ◌++◌, Ok, Err, inl, inr, refl, sym, ap, ◌∙◌, subst, drop, take, get_or, length}
use Rattle.std.specs.List.{filter_map, flat_map}
use Rattle.std.proofs.lemmas.List.{take_all, take_more, take-append-drop}
use Rattle.std.proofs.lemmas.List.Elements.{filter_map-append}
use Rattle.man_raw.specs.Documents.{DocumentTree, ItemTree}
use Rattle.owl_doc.specs.Entities.{AddsAll as AddsEntities, AddsSome}
use Rattle.owl_doc.proofs.Declaring.{adds_both, adds_some}
use Rattle.owl_kind.specs.Kinds.{Entity}
use Rattle.owl_tree.specs.Ontologies.{Ontology}
use Rattle.owl_tree.specs.Trees.{Tree}
use Rattle.man_resolve.specs.declared.fault.ResolveFault.{ResolveFault}
use Rattle.man_resolve.specs.declared.fault.ResolveFault.TheVariants as fault
use Rattle.man_resolve.specs.declared.step.Step.{Step}
use Rattle.man_resolve.specs.Building.{AddsAll, IsFaultOf, all_built, built}
use Rattle.man_resolve.specs.Expressions.{Knows, Told, all_of, knows}
use Rattle.man_resolve.specs.Items.{annotations_of, axioms_of, frame_entity, head_in, ontology_with, resolved}
use Rattle.man_resolve.specs.Limits.{IsLimitFault, IsWithin, PassesLimit, ontology_made, too_deep, too_heavy}
use Rattle.man_resolve.specs.Making.{made, trees_of}
use Rattle.man_resolve.specs.Resolved.{FramesMean, HaveNoClash, IsClashFault, IsResolveFault, IsUnresolved}
use Rattle.man_resolve.specs.Resolved as resolving
use Rattle.man_resolve.proofs.MakingLaws.{all_made}

-- the trees of all steps are those that are meant
pub trees_meant : (old new : List Step) (wanted : Told (List Tree)) → old ≡ [] → AddsAll old new wanted → wanted ≡ Ok (trees_of new)
trees_meant old new wanted e adds =
    let all : built new ≡ all_built adds.trees = adds.added ∙ ap (λ ss. built ss ++ all_built adds.trees) e in
    adds.meant ∙ ap Ok (sym (ap (λ bs. made bs []) all ∙ all_made adds.trees))

module _ (ks : Knows) (d : DocumentTree) where
  abbrev notes : Told (List Tree)
  notes = all_of (flat_map (annotations_of ks) d.notes)

  abbrev axioms : Told (List Tree)
  axioms = all_of (flat_map (axioms_of ks) d.items)

  resolved_by : (r s : Told (List Tree)) → notes ≡ r → axioms ≡ s → resolved ks d ≡ ontology_with (head_in d.head) r s
  unfolding resolved
  resolved_by r s e f = λ i. ontology_with (head_in d.head) (e i) (f i)

  pub document_meant : (ns ms : List Step) → notes ≡ Ok (trees_of ns) → axioms ≡ Ok (trees_of ms) → resolved ks d ≡ Ok (ontology_made d.head ns ms)
  document_meant ns ms e f = resolved_by (Ok (trees_of ns)) (Ok (trees_of ms)) e f

  pub notes_failed : (f : ResolveFault) → IsFaultOf notes f → IsFaultOf (resolved ks d) f
  notes_failed f (inl e) = inl e
  notes_failed f (inr e) = inr (resolved_by (Err f) axioms e refl)

  pub axioms_failed : (ts : List Tree) (f : ResolveFault) → notes ≡ Ok ts → IsFaultOf axioms f → IsFaultOf (resolved ks d) f
  axioms_failed ts f e (inl g) = inl g
  axioms_failed ts f e (inr g) = inr (resolved_by (Ok ts) (Err f) e g)

-- ---- the answer

module _ (d : DocumentTree) (kinds : List Entity) where
  pub clash_found : (f : ResolveFault) → IsClashFault kinds f → IsResolveFault d kinds f
  clash_found f (inl e) = inl e
  clash_found f (inr h) = inr (subst (IsUnresolved d kinds) (sym h.1) (resolving.two_kinds h.0 h.2))

  ill_typed_found : HaveNoClash kinds → (f : ResolveFault) → resolved (knows kinds) d ≡ Err f → IsResolveFault d kinds f
  ill_typed_found clear (fault.TwoKinds iri) e = inr (resolving.ill_typed _ clear (λ m. cc) e)
  ill_typed_found clear (fault.Untyped iri at) e = inr (resolving.ill_typed _ clear (λ m. cc) e)
  ill_typed_found clear (fault.WrongKind iri at) e = inr (resolving.ill_typed _ clear (λ m. cc) e)
  ill_typed_found clear (fault.WrongForm at) e = inr (resolving.ill_typed _ clear (λ m. cc) e)
  ill_typed_found clear fault.TooDeep e = inr (resolving.ill_typed _ clear (λ m. cc) e)
  ill_typed_found clear fault.TooHeavy e = inr (resolving.ill_typed _ clear (λ m. cc) e)
  ill_typed_found clear fault.Memory e = inl refl

  pub fault_found : HaveNoClash kinds → (f : ResolveFault) → IsFaultOf (resolved (knows kinds) d) f → IsResolveFault d kinds f
  fault_found clear f (inl e) = inl e
  fault_found clear f (inr e) = ill_typed_found clear f e

  passed_limit : HaveNoClash kinds → (o : Ontology) → resolved (knows kinds) d ≡ Ok o → (f : ResolveFault) → PassesLimit o f → IsUnresolved d kinds f
  passed_limit clear o says _ (too_deep deep) = resolving.too_deep o (record { no_clash = clear; says = says }) deep
  passed_limit clear o says _ (too_heavy shallow heavy) = resolving.too_heavy o (record { no_clash = clear; says = says }) shallow heavy

  pub limit_found : HaveNoClash kinds → (o : Ontology) → resolved (knows kinds) d ≡ Ok o → (f : ResolveFault) → IsLimitFault o f → IsResolveFault d kinds f
  limit_found clear o says f (inl e) = inl e
  limit_found clear o says f (inr h) = inr (passed_limit clear o says f h)

  pub frames_mean : HaveNoClash kinds → (o p : Ontology) → resolved (knows kinds) d ≡ Ok o → IsWithin o p → FramesMean d kinds p
  frames_mean clear o p says within = record {
    said = o;
    says = record { no_clash = clear; says = says };
    same = within.same;
    shallow = within.shallow;
    light = within.light;
  }

-- ---- declarations

module _ (items : List ItemTree) (i : ℕ) (a b : List Entity) (h : AddsEntities a (filter_map frame_entity (take i items)) b) where
  pub one_more_declared : (item : ItemTree) (c : List Entity) → i < length items → item ≡ get_or items i item → AddsEntities b (filter_map frame_entity (item ∷ [])) c → AddsEntities a (filter_map frame_entity (take (i + 1) items)) c
  one_more_declared item c within is next =
      let more : take (i + 1) items ≡ take i items ++ item ∷ [] = take_more items i item within ∙ ap (λ x. take i items ++ x ∷ []) (sym is) in
      subst (λ es. AddsEntities a es c) (sym (ap (filter_map frame_entity) more ∙ filter_map-append frame_entity (take i items) (item ∷ [])))
      (adds_both a (filter_map frame_entity (take i items)) b (filter_map frame_entity (item ∷ [])) c h next)

  pub some_declared : AddsSome a (filter_map frame_entity items) b
  some_declared =
      let all = sym (filter_map-append frame_entity (take i items) (drop i items)) ∙ ap (filter_map frame_entity) (take-append-drop i items) in
      subst (λ es. AddsSome a es b) all (adds_some a (filter_map frame_entity (take i items)) b (filter_map frame_entity (drop i items)) h)

  pub all_declared : length items ≤ i → AddsEntities a (filter_map frame_entity items) b
  all_declared past = subst (λ us. AddsEntities a (filter_map frame_entity us) b) (take_all i items past) h
