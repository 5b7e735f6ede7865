-- What is found to be needed, part by part.
use Rattle.std.proofs.Common.{◌≡◌, ◌<◌, ◌+◌, ◌⊎◌, inl, inr, ℕ, Option, None, Some, List, [], ◌∷◌, ◌++◌, length, take, get_or, refl, sym, ap, ◌∙◌, subst}
use Rattle.std.specs.Prelude.{◌↔◌, Contains}
use Rattle.std.specs.List.{cons_option}
use Rattle.std.proofs.lemmas.List.{append-nil, append_assoc, map-append, take_more}
use Rattle.std.proofs.lemmas.List.Elements.{Contains-append_cases, Contains-append_left, Contains-append_right}
use Rattle.std.proofs.lemmas.Option.{none-some, same_Some}
use Rattle.owl_arena.specs.Held.{tree_at, trees_at}
use Rattle.owl_doc.specs.Entities.{entities, entities_at, entities_of}
use Rattle.owl_kind.specs.Kinds.{Entity, HasKind}
use Rattle.owl_kind.proofs.Found.{only}
use Rattle.owl_list.proofs.AscendingLaws.{in_head, in_none}
use Rattle.owl_tree.specs.Trees.{Tree, kids_of}
use Rattle.owl_declare.specs.Finding.{Finds, Lacks}

-- the entities of these trees, and of those behind them
pub entities_both : (ts us : List Tree) → entities_of (kids_of (ts ++ us)) ≡ entities_of (kids_of ts) ++ entities_of (kids_of us)
entities_both [] us = refl
entities_both (t ∷ ts) us = ap (λ (es : List Entity). entities t ++ es) (entities_both ts us) ∙ sym (append_assoc (entities t) (entities_of (kids_of ts)) (entities_of (kids_of us)))

module _ (kinds : List Entity) where
  lacks_none : (e : Entity) → Lacks kinds [] e → ⊥
  lacks_none e h = in_none e h.among

  pub finds_none : (old : List Entity) → Finds kinds [] old old
  finds_none old e = (inl, λ h. elim h [ inl m ↦ m | inr l ↦ absurd (lacks_none e l) ])

  lacks_both : (es fs : List Entity) (e : Entity) → Lacks kinds (es ++ fs) e → Lacks kinds es e ⊎ Lacks kinds fs e
  lacks_both es fs e h = elim (Contains-append_cases es fs e h.among) [
    | inl m ↦ inl (record { among = m; lacking = h.lacking })
    | inr m ↦ inr (record { among = m; lacking = h.lacking })
  ]

  lacks_left : (es fs : List Entity) (e : Entity) → Lacks kinds es e → Lacks kinds (es ++ fs) e
  lacks_left es fs e h = record { among = Contains-append_left es fs e h.among; lacking = h.lacking }

  lacks_right : (es fs : List Entity) (e : Entity) → Lacks kinds fs e → Lacks kinds (es ++ fs) e
  lacks_right es fs e h = record { among = Contains-append_right es fs e h.among; lacking = h.lacking }

  pub finds_both : (es fs old mid new : List Entity) → Finds kinds es old mid → Finds kinds fs mid new → Finds kinds (es ++ fs) old new
  finds_both es fs old mid new h k e = (
    λ n. elim ((k e).0 n) [
      | inl m ↦ elim ((h e).0 m) [ inl o ↦ inl o | inr l ↦ inr (lacks_left es fs e l) ]
      | inr l ↦ inr (lacks_right es fs e l)
    ],
    λ n. (k e).1 (elim n [
      | inl o ↦ inl ((h e).1 (inl o))
      | inr l ↦ elim (lacks_both es fs e l) [ inl a ↦ inl ((h e).1 (inr a)) | inr b ↦ inr b ]
    ]),
  )

  -- the trees before this one, and this one
  pub one_more_found : (ts : List Tree) (ids : List ℕ) (index id : ℕ) (old mid new : List Entity) → index < length ids → id ≡ get_or ids index id →
      Finds kinds (entities_at ts (take index ids)) old mid → Finds kinds (entities (tree_at ts id)) mid new → Finds kinds (entities_at ts (take (index + 1) ids)) old new
  one_more_found ts ids index id old mid new h is before here =
      let more : take (index + 1) ids ≡ take index ids ++ id ∷ [] = take_more ids index id h ∙ ap (λ x. take index ids ++ x ∷ []) (sym is) in
      let both = map-append (tree_at ts) (take index ids) (id ∷ []) in
      let split = entities_both (trees_at ts (take index ids)) (tree_at ts id ∷ []) in
      let one = append-nil (entities (tree_at ts id)) in
      subst (λ (es : List Entity). Finds kinds es old new)
      (sym (ap (entities_at ts) more ∙ ap (λ (us : List Tree). entities_of (kids_of us)) both ∙ split ∙ ap (λ (es : List Entity). entities_at ts (take index ids) ++ es) one))
      (finds_both (entities_at ts (take index ids)) (entities (tree_at ts id)) old mid new before here)

  -- a leaf names one entity at most
  pub finds_no_entity : (o : Option Entity) (old : List Entity) → None ≡ o → Finds kinds (cons_option o []) old old
  finds_no_entity None old s = finds_none old
  finds_no_entity (Some e) old s = absurd (none-some e s)

  pub finds_known : (o : Option Entity) (e : Entity) (old : List Entity) → Some e ≡ o → HasKind kinds e.kind e.iri → Finds kinds (cons_option o []) old old
  finds_known None e old s h = absurd (none-some e (sym s))
  finds_known (Some d) e old s h = λ x. (
    inl,
    λ n. elim n [ inl m ↦ m | inr l ↦ absurd (l.lacking (subst (λ (y : Entity). HasKind kinds y.kind y.iri) (same_Some e d s ∙ only d x l.among) h)) ],
  )

  pub finds_one : (o : Option Entity) (e : Entity) (old new : List Entity) → Some e ≡ o → (HasKind kinds e.kind e.iri → ⊥) →
      ((x : Entity) → Contains new x ↔ (Contains old x ⊎ (x ≡ e))) → Finds kinds (cons_option o []) old new
  finds_one None e old new s h k = absurd (none-some e (sym s))
  finds_one (Some d) e old new s h k = λ x.
      let same : e ≡ d = same_Some e d s in (
        (λ n. elim ((k x).0 n) [
          | inl m ↦ inl m
          | inr p ↦ inr (record {
            among = subst (λ (y : Entity). Contains (d ∷ []) y) (sym (p ∙ same)) (in_head d []);
            lacking = subst (λ (y : Entity). HasKind kinds y.kind y.iri → ⊥) (sym p) h;
          })
        ]),
        (λ n. (k x).1 (elim n [ inl m ↦ inl m | inr l ↦ inr (sym (same ∙ only d x l.among)) ])),
      )
