-- The first of the entities of trees that is not declared.
use Rattle.std.proofs.Common.{◌≡◌, ◌<◌, ◌+◌, ℕ, List, [], ◌∷◌, ◌++◌, Option, None, Some, IsNone, IfSome, append_assoc, drop, drop-cons, get_or, length, refl, sym, ap, ◌∙◌, suc, subst, take}
use Rattle.std.specs.Prelude.{◌↔◌, Contains}
use Rattle.std.specs.List.{cons_option}
use denote.Ref.{Bor}
use Rattle.std.proofs.lemmas.Bool.{true≢false}
use Rattle.std.proofs.lemmas.List.{map-append, take-append-drop, take_more}
use Rattle.std.proofs.lemmas.List.Elements.{Contains-append_right}
use Rattle.std.proofs.lemmas.Option.{none-some, same_Some}
use Rattle.owl_arena.specs.Held.{tree_at, trees_at}
use Rattle.owl_kind.specs.declared.kind.Kind.{Kind}
use Rattle.owl_kind.specs.Kinds.{Entity, HasKind}
use Rattle.owl_doc.specs.Entities.{AreWellTyped, FindsUndeclared, IsFirstUndeclared, entities, entities_at, entities_of, entity_seen}
use Rattle.owl_list.proofs.AscendingLaws.{all_in, in_head}
use Rattle.owl_tree.specs.declared.atom.Atom.{Atom}
use Rattle.owl_tree.proofs.TreeLaws.{kids_of_list_of}
use Rattle.owl_tree.specs.Trees.{Tree, leaf, node, atom_in, kids_in, kids_of, tag_of}

pub leaf_is : (t : Tree) (a : Atom) → Some a ≡ atom_in t → leaf (tag_of t) a ≡ t
leaf_is (leaf t b) a e = ap (leaf t) (same_Some a b e)
leaf_is (node t ks) a e = absurd (none-some a (sym e))

pub node_entities : (t : Tree) → None ≡ atom_in t → entities_of (kids_of (kids_in t)) ≡ entities t
node_entities (leaf t a) e = absurd (none-some a e)
node_entities (node t ks) e = ap entities_of (kids_of_list_of ks)

-- the entities of these trees, and of those behind them
entities_both : (ts us : List Tree) → entities_of (kids_of (ts ++ us)) ≡ entities_of (kids_of ts) ++ entities_of (kids_of us)
entities_both [] us = refl
entities_both (t ∷ ts) us = ap (λ (es : List Entity). entities t ++ es) (entities_both ts us) ∙ sym (append_assoc (entities t) (entities_of (kids_of ts)) (entities_of (kids_of us)))

module _ (kinds : List Entity) where
  all_both : (es fs : List Entity) → AreWellTyped kinds es → AreWellTyped kinds fs → AreWellTyped kinds (es ++ fs)
  all_both [] fs h k = k
  all_both (e ∷ es) fs h k = (h.0, all_both es fs h.1 k)

  -- a leaf has one entity at most
  pub no_entity : (o : Option Entity) → None ≡ o → AreWellTyped kinds (cons_option o [])
  no_entity None s = tt
  no_entity (Some e) s = absurd (none-some e s)

  pub typed_entity : (o : Option Entity) (e : Entity) → Some e ≡ o → HasKind kinds e.kind e.iri → AreWellTyped kinds (cons_option o [])
  typed_entity None e s h = tt
  typed_entity (Some d) e s h = (subst (λ (x : Entity). HasKind kinds x.kind x.iri) (same_Some e d s) h, tt)

  pub untyped_entity : (o : Option Entity) (e : Entity) → Some e ≡ o → (HasKind kinds e.kind e.iri → ⊥) → IsFirstUndeclared kinds (cons_option o []) e
  untyped_entity None e s h = absurd (none-some e (sym s))
  untyped_entity (Some d) e s h = record { before = []; after = []; parts = ap (λ (x : Entity). x ∷ []) (sym (same_Some e d s)); well_typed = tt; undeclared = h }

  -- what stands behind it doesn't matter, nor what is well typed before it
  first_between : (front es more : List Entity) (e : Entity) → AreWellTyped kinds front → IsFirstUndeclared kinds es e → IsFirstUndeclared kinds (front ++ (es ++ more)) e
  first_between front es more e h k = record {
    before = front ++ k.before;
    after = k.after ++ more;
    parts =
        ap (λ (fs : List Entity). front ++ (fs ++ more)) k.parts
        ∙ ap (λ (fs : List Entity). front ++ fs) (append_assoc k.before (e ∷ k.after) more)
        ∙ sym (append_assoc front k.before (e ∷ (k.after ++ more)));
    well_typed = all_both front k.before h k.well_typed;
    undeclared = k.undeclared;
  }

  -- the trees before this one are well typed
  module _ (ts : List Tree) where
    abbrev pub AreTypedBefore : ℕ → List ℕ → Type 0
    AreTypedBefore index ids = AreWellTyped kinds (entities_at ts (take index ids))

    pub one_more_typed : (ids : List ℕ) (index id : ℕ) → index < length ids → id ≡ get_or ids index id → AreTypedBefore index ids → AreWellTyped kinds (entities (tree_at ts id)) → AreTypedBefore (index + 1) ids
    one_more_typed ids index id h is before here =
        let more : take (index + 1) ids ≡ take index ids ++ id ∷ [] = take_more ids index id h ∙ ap (λ x. take index ids ++ x ∷ []) (sym is) in
        let front = entities_at ts (take index ids) in
        let both = map-append (tree_at ts) (take index ids) (id ∷ []) in
        let split = entities_both (trees_at ts (take index ids)) (tree_at ts id ∷ []) in
        subst (λ (es : List Entity). AreWellTyped kinds es)
        (sym (ap (entities_at ts) more ∙ ap (λ (us : List Tree). entities_of (kids_of us)) both ∙ split))
        (all_both front (entities (tree_at ts id) ++ []) before (all_both (entities (tree_at ts id)) [] here tt))

    pub first_here : (ids : List ℕ) (index id : ℕ) (e : Entity) → index < length ids → id ≡ get_or ids index id → AreTypedBefore index ids → IsFirstUndeclared kinds (entities (tree_at ts id)) e → IsFirstUndeclared kinds (entities_at ts ids) e
    first_here ids index id e h is before here =
        let front = entities_at ts (take index ids) in
        let rest = entities_at ts (drop (suc index) ids) in
        let parts : take index ids ++ id ∷ drop (suc index) ids ≡ ids = ap (λ (xs : List ℕ). take index ids ++ xs) (ap (λ (x : ℕ). x ∷ drop (suc index) ids) is ∙ sym (drop-cons ids index id h)) ∙ take-append-drop index ids in
        let both = map-append (tree_at ts) (take index ids) (id ∷ drop (suc index) ids) in
        let split = entities_both (trees_at ts (take index ids)) (trees_at ts (id ∷ drop (suc index) ids)) in
        subst (λ (es : List Entity). IsFirstUndeclared kinds es e)
        (sym split ∙ sym (ap (λ (us : List Tree). entities_of (kids_of us)) both) ∙ ap (entities_at ts) parts)
        (first_between front (entities (tree_at ts id)) rest e before here)

  -- none is found exactly where all are well typed
  not_typed : (es : List Entity) (e : Entity) → IsFirstUndeclared kinds es e → AreWellTyped kinds es → ⊥
  not_typed es e h k =
      let there : Contains es e = subst (λ (fs : List Entity). Contains fs e) (sym h.parts) (Contains-append_right h.before (e ∷ h.after) e (in_head e h.after)) in
      h.undeclared (all_in (λ (d : Entity). HasKind kinds d.kind d.iri) es e k there)

  pub some_found : (es : List Entity) (r : Option (Kind × Bor (List ℕ))) → FindsUndeclared kinds es r → IfSome r (λ e. IsFirstUndeclared kinds es (entity_seen e))
  some_found es None h = tt
  some_found es (Some e) h = h

  pub none_found : (es : List Entity) (r : Option (Kind × Bor (List ℕ))) → FindsUndeclared kinds es r → IsNone r ↔ AreWellTyped kinds es
  none_found es None h = (λ _. h, λ _. refl)
  none_found es (Some e) h = (λ n. absurd (true≢false n), λ k. absurd (not_typed es (entity_seen e) h k))
