-- What declarations declare.
use Rattle.std.proofs.Common.{◌≡◌, ◌<◌, ◌≤◌, ◌+◌, Result, Ok, Err, OnErr, arith, get_or, inl, inr, ◌⊎◌, ℕ, List, [], ◌∷◌, ◌++◌, Option, None, Some, drop, length, map, refl, sym, ap, ◌∙◌, subst, take}
use Rattle.std.specs.Prelude.{◌↔◌, Contains}
use Rattle.std.specs.List.{cons_option}
use Rattle.std.proofs.lemmas.List.Elements.{Contains-append_cases, Contains-append_left, Contains-append_right, filter_map-append}
use Rattle.std.proofs.lemmas.List.{map-append, take-append-drop, take_more}
use Rattle.std.proofs.lemmas.Option.{none-some, same_Some}
use Rattle.owl_kind.specs.declared.kind.Kind.{Kind}
use Rattle.owl_kind.specs.Kinds.{Entity, IsDeclared}
use Rattle.owl_doc.specs.Entities.{AddsAll, AddsSome, declaration, declarations, declared_kind, declared_over, entity_of, kind_of}
use Rattle.owl_arena.specs.Held.{tree_at, trees_at}
use Rattle.owl_list.proofs.AscendingLaws.{in_cases, in_head, in_none}
use Rattle.owl_tree.specs.declared.atom.Atom.{Atom}
use Rattle.owl_tree.specs.declared.tag.Tag.{Tag}
use Rattle.owl_tree.specs.declared.tag.Tag.TheVariants as tag
use Rattle.owl_tree.specs.Trees.{Tree, leaf, node, atom_in, kids_in, tag_of}

pub no_kind : (t : Tag) → (t ≡ tag.Class → ⊥) → (t ≡ tag.Datatype → ⊥) → (t ≡ tag.ObjectProperty → ⊥) → (t ≡ tag.DataProperty → ⊥) → (t ≡ tag.AnnotationProperty → ⊥) → kind_of t ≡ None
unfolding kind_of
no_kind tag.Class a b c d e = absurd (a refl)
no_kind tag.Datatype a b c d e = absurd (b refl)
no_kind tag.ObjectProperty a b c d e = absurd (c refl)
no_kind tag.DataProperty a b c d e = absurd (d refl)
no_kind tag.AnnotationProperty a b c d e = absurd (e refl)
no_kind _ a b c d e = refl

pub no_individual : (t : Tag) → (t ≡ tag.NamedIndividual → ⊥) → declared_kind t ≡ kind_of t
unfolding kind_of declared_kind
no_individual tag.NamedIndividual h = absurd (h refl)
no_individual _ h = refl

not_over : (t : Tag) (ts : List Tree) → (t ≡ tag.Declaration → ⊥) → None ≡ declared_over t ts
not_over tag.Declaration ts h = absurd (h refl)
not_over _ ts h = refl

pub other_tag : (t : Tree) → (tag_of t ≡ tag.Declaration → ⊥) → None ≡ declaration t
other_tag t h = not_over (tag_of t) (kids_in t) h

over_two : (t notes named : Tree) → tag_of t ≡ tag.Declaration → notes ∷ named ∷ [] ≡ kids_in t → declared_over tag.Declaration (notes ∷ named ∷ []) ≡ declaration t
over_two t notes named e f = ap (λ (u : Tag). declared_over u (notes ∷ named ∷ [])) (sym e) ∙ ap (declared_over (tag_of t)) f

over_leaf : (notes named : Tree) (a : Atom) → Some a ≡ atom_in named → entity_of (declared_kind (tag_of named)) a ≡ declared_over tag.Declaration (notes ∷ named ∷ [])
over_leaf notes (leaf t b) a e = ap (entity_of (declared_kind t)) (same_Some a b e)
over_leaf notes (node t ks) a e = absurd (none-some a (sym e))

over_node : (notes named : Tree) → None ≡ atom_in named → None ≡ declared_over tag.Declaration (notes ∷ named ∷ [])
over_node notes (leaf t b) e = absurd (none-some b e)
over_node notes (node t ks) e = refl

pub names_leaf : (t notes named : Tree) (a : Atom) → tag_of t ≡ tag.Declaration → notes ∷ named ∷ [] ≡ kids_in t → Some a ≡ atom_in named → entity_of (declared_kind (tag_of named)) a ≡ declaration t
names_leaf t notes named a e f g = over_leaf notes named a g ∙ over_two t notes named e f

pub names_node : (t notes named : Tree) → tag_of t ≡ tag.Declaration → notes ∷ named ∷ [] ≡ kids_in t → None ≡ atom_in named → None ≡ declaration t
names_node t notes named e f g = over_node notes named g ∙ over_two t notes named e f

not_two : (ts : List Tree) → (length ts ≡ 2 → ⊥) → None ≡ declared_over tag.Declaration ts
not_two [] h = refl
not_two (t ∷ []) h = refl
not_two (t ∷ u ∷ []) h = absurd (h refl)
not_two (t ∷ leaf u a ∷ v ∷ ts) h = refl
not_two (t ∷ node u ks ∷ v ∷ ts) h = refl

pub other_kids : (t : Tree) → tag_of t ≡ tag.Declaration → (length (kids_in t) ≡ 2 → ⊥) → None ≡ declaration t
other_kids t e h = not_two (kids_in t) h ∙ ap (λ (u : Tag). declared_over u (kids_in t)) (sym e)

-- a declared entity is what there is or what comes
pub adds_none : (old : List Entity) → AddsAll old [] old
adds_none old kind iri = (inl, λ d. elim d [ inl h ↦ h | inr h ↦ absurd (in_none _ h) ])

pub adds_one : (old new : List Entity) (o : Option Entity) (e : Entity) (copy : List ℕ) → Some e ≡ o → copy ≡ e.iri → ((kind : Kind) (iri : List ℕ) → IsDeclared new kind iri ↔ (IsDeclared old kind iri ⊎ ((kind ≡ e.kind) × (iri ≡ copy)))) → AddsAll old (cons_option o []) new
adds_one old new None e copy s f h kind iri = absurd (none-some e (sym s))
adds_one old new (Some d) e copy s f h kind iri =
    let same : e ≡ d = same_Some e d s in
    let known = h kind iri in (
      (λ n.
          elim (known.0 n) [
            | inl m ↦ inl m
            | inr p ↦
                let q : d ≡ record { kind = kind; iri = iri } = sym same ∙ (λ i. record { kind = sym p.0 i; iri = sym (p.1 ∙ f) i }) in
                inr (subst (λ (x : Entity). Contains (d ∷ []) x) q (in_head d []))
          ]),
      (λ n.
          elim n [
            | inl m ↦ known.1 (inl m)
            | inr m ↦ elim (in_cases d [] _ m) [
              | inl p ↦
                  let q : e ≡ record { kind = kind; iri = iri } = same ∙ p in
                  known.1 (inr (ap (λ (x : Entity). x.kind) (sym q), ap (λ (x : Entity). x.iri) (sym q) ∙ sym f))
              | inr o ↦ absurd (in_none _ o)
            ]
          ]),
    )

pub adds_both : (a es b fs c : List Entity) → AddsAll a es b → AddsAll b fs c → AddsAll a (es ++ fs) c
adds_both a es b fs c h k kind iri =
    let first = h kind iri in
    let second = k kind iri in
    let e : Entity = record { kind = kind; iri = iri } in (
      (λ n.
          elim (second.0 n) [
            | inl m ↦ elim (first.0 m) [ inl o ↦ inl o | inr o ↦ inr (Contains-append_left es fs e o) ]
            | inr m ↦ inr (Contains-append_right es fs e m)
          ]),
      (λ n.
          elim n [
            | inl m ↦ second.1 (inl (first.1 (inl m)))
            | inr m ↦ elim (Contains-append_cases es fs e m) [ inl o ↦ second.1 (inl (first.1 (inr o))) | inr o ↦ second.1 (inr o) ]
          ]),
    )

pub adds_some : (a es b fs : List Entity) → AddsAll a es b → AddsSome a (es ++ fs) b
adds_some a es b fs h = record {
  kept = λ kind iri m. (h kind iri).1 (inl m);
  only = λ kind iri n. elim ((h kind iri).0 n) [ inl m ↦ inl m | inr m ↦ inr (Contains-append_left es fs (record { kind = kind; iri = iri }) m) ];
}

-- a list of two, by its second
second : (xs : List ℕ) (y : ℕ) (f : ℕ → Tree) → 2 ≤ length xs → length xs < 3 → y ≡ get_or xs 1 y → (t : Tree) × (t ∷ f y ∷ [] ≡ map f xs)
second [] y f h k e = absurd (omega arith)
second (x ∷ []) y f h k e = absurd (omega arith)
second (x ∷ z ∷ []) y f h k e = (f x, ap (λ (n : ℕ). f x ∷ f n ∷ []) e)
second (x ∷ z ∷ w ∷ xs) y f h k e = absurd (omega arith)

pub declares_second : (ts : List Tree) (id y : ℕ) (xs : List ℕ) (a : Atom) → tag_of (tree_at ts id) ≡ tag.Declaration → 2 ≤ length xs → length xs < 3 → y ≡ get_or xs 1 y → trees_at ts xs ≡ kids_in (tree_at ts id) → Some a ≡ atom_in (tree_at ts y) → entity_of (declared_kind (tag_of (tree_at ts y))) a ≡ declaration (tree_at ts id)
declares_second ts id y xs a e h k second_is kids atom =
    let two = second xs y (tree_at ts) h k second_is in
    names_leaf (tree_at ts id) two.0 (tree_at ts y) a e (two.1 ∙ kids) atom

declarations_both : (ts : List Tree) (ids others : List ℕ) → declarations (trees_at ts (ids ++ others)) ≡ declarations (trees_at ts ids) ++ declarations (trees_at ts others)
declarations_both ts ids others = ap declarations (map-append (tree_at ts) ids others) ∙ filter_map-append declaration (trees_at ts ids) (trees_at ts others)

-- what one more tree declares
pub one_more_declared : (ts us : List Tree) (ids : List ℕ) (index id : ℕ) (a b c : List Entity) → us ≡ ts → index < length ids → id ≡ get_or ids index id → AddsAll a (declarations (trees_at ts (take index ids))) b → AddsAll b (declarations (tree_at us id ∷ [])) c → AddsAll a (declarations (trees_at ts (take (index + 1) ids))) c
one_more_declared ts us ids index id a b c same h is first next =
    let more : take (index + 1) ids ≡ take index ids ++ id ∷ [] = take_more ids index id h ∙ ap (λ x. take index ids ++ x ∷ []) (sym is) in
    let here : AddsAll b (declarations (trees_at ts (id ∷ []))) c = subst (λ (vs : List Tree). AddsAll b (declarations (tree_at vs id ∷ [])) c) same next in
    let both = declarations_both ts (take index ids) (id ∷ []) in
    subst (λ (es : List Entity). AddsAll a es c) (sym (ap (λ (xs : List ℕ). declarations (trees_at ts xs)) more ∙ both))
    (adds_both a (declarations (trees_at ts (take index ids))) b (declarations (trees_at ts (id ∷ []))) c first here)

-- what is left declares more
pub more_declared : (ts : List Tree) (ids : List ℕ) (index : ℕ) (a b : List Entity) → AddsAll a (declarations (trees_at ts (take index ids))) b → AddsSome a (declarations (trees_at ts ids)) b
more_declared ts ids index a b h =
    let all = sym (declarations_both ts (take index ids) (drop index ids)) ∙ ap (λ (xs : List ℕ). declarations (trees_at ts xs)) (take-append-drop index ids) in
    subst (λ (es : List Entity). AddsSome a es b) all (adds_some a (declarations (trees_at ts (take index ids))) b (declarations (trees_at ts (drop index ids))) h)

pub on_err : {X E : Type 0} (P : Type 0) (r : Result X E) → P → OnErr r P
on_err P (Ok x) p = tt
on_err P (Err e) p = p
