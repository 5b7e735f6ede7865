-- What is needed is enough, and no less is.
use Rattle.std.proofs.Common.{◌≡◌, ◌⊎◌, inl, inr, ℕ, List, [], ◌∷◌, ◌++◌, map, refl, sym, ap, ◌∙◌, subst}
use Rattle.std.specs.Prelude.{Contains}
use Rattle.std.specs.Cmp.{IsTotalOrder}
use Rattle.std.specs.FinMap.{IsAntisymmetric}
use Rattle.std.specs.Ordering.{nat_cmp, ordering_then}
use Rattle.std.specs.declared.cmp.Ordering.{Ordering}
use Rattle.std.specs.declared.cmp.Ordering.TheVariants.{Less, Equal, Greater}
use Rattle.std.proofs.lemmas.Bool.{cases_Bool, false≢true}
use Rattle.std.proofs.lemmas.Cmp.{nat_cmp_total, on_total, then_total, tied_itself}
use Rattle.std.proofs.lemmas.List.Elements.{Contains-append_cases, Contains-append_left, Contains-append_right}
use Rattle.owl_characters.specs.Order.{text_cmp}
use Rattle.owl_characters.specs.OrderLaws.{texts_total}
use Rattle.owl_declarations.specs.Declarations.{declaration, name_tag}
use Rattle.owl_doc.specs.Entities.{AreWellTyped, entities, entities_of, kind_of}
use Rattle.owl_kind.proofs.Found.{only}
use Rattle.owl_kind.proofs.OrderLaws.{entities_total, only_equal_entities_tie}
use Rattle.owl_kind.specs.declared.kind.Kind.{Kind}
use Rattle.owl_kind.specs.declared.kind.Kind.TheVariants.{Class, Datatype, ObjectProperty, DataProperty, AnnotationProperty, Individual}
use Rattle.owl_kind.specs.Kinds.{Entity, HasKind, is_built_in}
use Rattle.owl_kind.specs.Order.{entity_cmp, kind_number}
use Rattle.owl_list.specs.Ascending.{HoldSame, ascending}
use Rattle.owl_list.proofs.AscendingLaws.{all_from, all_in, ascending_ascends, ascending_holds, ascending_unique, from_map, map_ascending, in_cases, in_head, in_none, in_tail, nothing_ascends}
use Rattle.owl_tree.proofs.CanonicalLaws.{canonical_again}
use Rattle.owl_tree.specs.Canonical.{canonical}
use Rattle.owl_tree.specs.Ontologies.{Ontology, canonical_list, canonical_ontology}
use Rattle.owl_tree.specs.Order.{tree_cmp}
use Rattle.owl_tree.specs.OrderLaws.{only_equal_trees_tie, trees_total}
use Rattle.owl_tree.specs.Rows.{row_of}
use Rattle.owl_tree.specs.Trees.{Tree, kids_of}
use Rattle.owl_declare.proofs.FindingLaws.{entities_both, finds_both}
use Rattle.owl_declare.specs.Finding.{Finds}
use Rattle.owl_declare.specs.Needed.{AreNeeded, by_kind, declarations, entity_of, named_in, with_needs}
use Rattle.owl_declare.specs.NeedOrder.{need_cmp}
use Rattle.owl_declare.specs.declared.need.Need.{Need}

-- ---- the order of needs

pub by_kind_total : IsTotalOrder by_kind
by_kind_total = then_total (on_total (λ (e : Entity). kind_number e.kind) nat_cmp_total) (on_total (λ (e : Entity). e.iri) texts_total)

-- two comparisons that tie one after the other tie in the other order
turned_tie : (o p : Ordering) → ordering_then o p ≡ Equal → ordering_then p o ≡ Equal
turned_tie Less p e = cc
turned_tie Equal p e = ap (λ (q : Ordering). ordering_then q Equal) e
turned_tie Greater p e = cc

pub only_equals_tie : IsAntisymmetric by_kind
only_equals_tie a b e = only_equal_entities_tie a b (turned_tie (nat_cmp (kind_number a.kind) (kind_number b.kind)) (text_cmp a.iri b.iri) e)

pub only_equal_needs_tie : IsAntisymmetric need_cmp
only_equal_needs_tie a b e =
    let same : entity_of a ≡ entity_of b = only_equals_tie (entity_of a) (entity_of b) e in
    λ j. record { kind = (same j).kind; iri = (same j).iri }

pub needed_once : (kinds needs others : List Entity) (o : Ontology) → AreNeeded kinds o needs → AreNeeded kinds o others → needs ≡ others
needed_once kinds needs others o h k =
    ascending_unique by_kind by_kind_total needs others h.ordered k.ordered (λ e. (λ m. (k.each e).1 ((h.each e).0 m), λ m. (h.each e).1 ((k.each e).0 m)))

-- ---- what is declared is known, or not

level : (o : Ordering) → (o ≡ Equal) ⊎ (o ≡ Equal → ⊥)
level Less = inr (λ e. cc)
level Equal = inl refl
level Greater = inr (λ e. cc)

same_or_not : (a b : Entity) → (a ≡ b) ⊎ (a ≡ b → ⊥)
same_or_not a b = elim (level (entity_cmp a b)) as (λ _. (a ≡ b) ⊎ (a ≡ b → ⊥)) [
  | inl e ↦ inl (only_equal_entities_tie a b e)
  | inr no_ ↦ inr (λ e. no_ (subst (λ (x : Entity). entity_cmp a x ≡ Equal) e (tied_itself entities_total a)))
]

among_or_not : (es : List Entity) (e : Entity) → Contains es e ⊎ (Contains es e → ⊥)
among_or_not [] e = inr (in_none e)
among_or_not (x ∷ es) e = elim (same_or_not x e) as (λ _. Contains (x ∷ es) e ⊎ (Contains (x ∷ es) e → ⊥)) [
  | inl p ↦ inl (subst (λ (y : Entity). Contains (x ∷ es) y) p (in_head x es))
  | inr other ↦ elim (among_or_not es e) as (λ _. Contains (x ∷ es) e ⊎ (Contains (x ∷ es) e → ⊥)) [
    | inl m ↦ inl (in_tail x es e m)
    | inr never ↦ inr (λ m. elim (in_cases x es e m) [ inl p ↦ other p | inr n ↦ never n ])
  ]
]

has_or_not : (kinds : List Entity) (e : Entity) → HasKind kinds e.kind e.iri ⊎ (HasKind kinds e.kind e.iri → ⊥)
has_or_not kinds e = elim (cases_Bool (is_built_in e.kind e.iri)) as (λ _. HasKind kinds e.kind e.iri ⊎ (HasKind kinds e.kind e.iri → ⊥)) [
  | inl built ↦ inl (inr built)
  | inr other ↦ elim (among_or_not kinds e) as (λ _. HasKind kinds e.kind e.iri ⊎ (HasKind kinds e.kind e.iri → ⊥)) [
    | inl m ↦ inl (inl m)
    | inr never ↦ inr (λ h. elim h [ inl m ↦ never m | inr built ↦ false≢true (sym other ∙ built) ])
  ]
]

-- ---- what the declarations name

declared_entity : (kind : Kind) (iri : List ℕ) (e : Entity) → Contains (entities (declaration kind iri)) e → record { kind = kind; iri = iri } ≡ e
unfolding name_tag kind_of
declared_entity Class iri e m = only (record { kind = Class; iri = iri }) e m
declared_entity Datatype iri e m = only (record { kind = Datatype; iri = iri }) e m
declared_entity ObjectProperty iri e m = only (record { kind = ObjectProperty; iri = iri }) e m
declared_entity DataProperty iri e m = only (record { kind = DataProperty; iri = iri }) e m
declared_entity AnnotationProperty iri e m = only (record { kind = AnnotationProperty; iri = iri }) e m
declared_entity Individual iri e m = absurd (in_none e m)

declarations_name : (needs : List Entity) (e : Entity) → Contains (entities_of (kids_of (declarations needs))) e → Contains needs e
declarations_name [] e m = absurd (in_none e m)
declarations_name (need ∷ needs) e m =
    elim (Contains-append_cases (entities (declaration need.kind need.iri)) (entities_of (kids_of (declarations needs))) e m) [
      | inl here ↦ subst (λ (x : Entity). Contains (need ∷ needs) x) (declared_entity need.kind need.iri e here) (in_head need needs)
      | inr later ↦ in_tail need needs e (declarations_name needs e later)
    ]

named_with : (needs : List Entity) (o : Ontology) (e : Entity) → Contains (named_in (with_needs needs o)) e → Contains (named_in o) e ⊎ Contains needs e
named_with needs o e m =
    let outer : named_in (with_needs needs o) ≡ entities_of (kids_of o.annotations) ++ entities_of (kids_of (o.axioms ++ declarations needs)) = entities_both o.annotations (o.axioms ++ declarations needs) in
    let inner : entities_of (kids_of (o.axioms ++ declarations needs)) ≡ entities_of (kids_of o.axioms) ++ entities_of (kids_of (declarations needs)) = entities_both o.axioms (declarations needs) in
    let whole : named_in o ≡ entities_of (kids_of o.annotations) ++ entities_of (kids_of o.axioms) = entities_both o.annotations o.axioms in
    elim (Contains-append_cases (entities_of (kids_of o.annotations)) (entities_of (kids_of (o.axioms ++ declarations needs))) e (subst (λ (es : List Entity). Contains es e) outer m)) [
      | inl note ↦ inl (subst (λ (es : List Entity). Contains es e) (sym whole) (Contains-append_left (entities_of (kids_of o.annotations)) (entities_of (kids_of o.axioms)) e note))
      | inr more ↦ elim (Contains-append_cases (entities_of (kids_of o.axioms)) (entities_of (kids_of (declarations needs))) e (subst (λ (es : List Entity). Contains es e) inner more)) [
        | inl axiom_ ↦ inl (subst (λ (es : List Entity). Contains es e) (sym whole) (Contains-append_right (entities_of (kids_of o.annotations)) (entities_of (kids_of o.axioms)) e axiom_))
        | inr new ↦ inr (declarations_name needs e new)
      ]
    ]

-- ---- what is needed is enough

pub all_typed : (kinds needs : List Entity) (o : Ontology) → AreNeeded kinds o needs → AreWellTyped (kinds ++ needs) (named_in (with_needs needs o))
all_typed kinds needs o h =
    all_from (λ (e : Entity). HasKind (kinds ++ needs) e.kind e.iri) (named_in (with_needs needs o))
    (λ e m.
    elim (named_with needs o e m) [
      | inl named ↦ elim (has_or_not kinds e) [
        | inl has ↦ elim has [ inl d ↦ inl (Contains-append_left kinds needs e d) | inr built ↦ inr built ]
        | inr lacking ↦ inl (Contains-append_right kinds needs e ((h.each e).1 (record { named = named; lacking = lacking })))
      ]
      | inr new ↦ inl (Contains-append_right kinds needs e new)
    ])

pub none_more : (kinds needs : List Entity) (o : Ontology) → AreNeeded kinds o needs → AreNeeded (kinds ++ needs) (with_needs needs o) []
none_more kinds needs o h = record {
  each = λ e. (
    λ m. absurd (in_none e m),
    λ needed. absurd (needed.lacking (all_in (λ (x : Entity). HasKind (kinds ++ needs) x.kind x.iri) (named_in (with_needs needs o)) e (all_typed kinds needs o h) needed.named)),
  );
  ordered = nothing_ascends by_kind;
}

pub least_needed : (kinds needs others : List Entity) (o : Ontology) → AreNeeded kinds o needs → AreWellTyped (kinds ++ others) (named_in o) → (e : Entity) → Contains needs e → Contains others e
least_needed kinds needs others o h typed e m =
    let needed = (h.each e).0 m in
    elim (all_in (λ (x : Entity). HasKind (kinds ++ others) x.kind x.iri) (named_in o) e typed needed.named) [
      | inl d ↦ elim (Contains-append_cases kinds others e d) [ inl known ↦ absurd (needed.lacking (inl known)) | inr other ↦ other ]
      | inr built ↦ absurd (needed.lacking (inr built))
    ]

-- ---- what is found in the annotations and in the axioms, in order

found_in_order : (needs : List Need) → map entity_of (ascending need_cmp needs) ≡ ascending by_kind (map entity_of needs)
found_in_order needs = map_ascending entity_of need_cmp by_kind (λ n. Unit {0}) (λ x y p q. refl) needs (all_from (λ n. Unit {0}) needs (λ n m. tt))

pub are_needed : (kinds first mid new notes axioms : List Entity) (o : Ontology) (needs arranged : List Need) → ((e : Entity) → Contains first e → ⊥) →
    Finds kinds notes first mid → Finds kinds axioms mid new → notes ≡ entities_of (kids_of o.annotations) → axioms ≡ entities_of (kids_of o.axioms) →
    HoldSame (map entity_of needs) new → arranged ≡ ascending need_cmp needs → AreNeeded kinds o (map entity_of arranged)
are_needed kinds first mid new notes axioms o needs arranged none h k n a same is =
    let order : map entity_of arranged ≡ ascending by_kind (map entity_of needs) = ap (map entity_of) is ∙ found_in_order needs in
    let whole : notes ++ axioms ≡ named_in o = (λ i. n i ++ a i) ∙ sym (entities_both o.annotations o.axioms) in
    let found : Finds kinds (named_in o) first new = subst (λ (es : List Entity). Finds kinds es first new) whole (finds_both kinds notes axioms first mid new h k) in
    let holds = ascending_holds by_kind by_kind_total only_equals_tie (map entity_of needs) in
    subst (AreNeeded kinds o) (sym order)
    (record {
      each = λ e. (
        λ m. elim ((found e).0 ((same e).0 ((holds e).0 m))) [ inl old ↦ absurd (none e old) | inr l ↦ record { named = l.among; lacking = l.lacking } ],
        λ needed. (holds e).1 ((same e).1 ((found e).1 (inr (record { among = needed.named; lacking = needed.lacking })))),
      );
      ordered = ascending_ascends by_kind by_kind_total (map entity_of needs);
    })

-- ---- in canonical form

pub from_trees : (ts : List Tree) (e : Entity) → Contains (entities_of (kids_of ts)) e → (t : Tree) × Contains ts t × Contains (entities t) e
from_trees [] e m = absurd (in_none e m)
from_trees (t ∷ ts) e m =
    elim (Contains-append_cases (entities t) (entities_of (kids_of ts)) e m) [
      | inl here ↦ (t, in_head t ts, here)
      | inr later ↦ let found = from_trees ts e later in (found.0, in_tail t ts found.0 found.1, found.2)
    ]

pub in_trees : (ts : List Tree) (e : Entity) (t : Tree) → Contains ts t → Contains (entities t) e → Contains (entities_of (kids_of ts)) e
in_trees [] e t m n = absurd (in_none t m)
in_trees (u ∷ ts) e t m n =
    elim (in_cases u ts t m) [
      | inl p ↦ Contains-append_left (entities u) (entities_of (kids_of ts)) e (subst (λ (v : Tree). Contains (entities v) e) (sym p) n)
      | inr later ↦ Contains-append_right (entities u) (entities_of (kids_of ts)) e (in_trees ts e t later n)
    ]

declaration_form : (kind : Kind) (iri : List ℕ) → canonical (declaration kind iri) ≡ declaration kind iri
unfolding row_of
declaration_form kind iri = refl

declarations_form : (needs : List Entity) (t : Tree) → Contains (declarations needs) t → canonical t ≡ t
declarations_form [] t m = absurd (in_none t m)
declarations_form (need ∷ needs) t m =
    elim (in_cases (declaration need.kind need.iri) (declarations needs) t m) [
      | inl p ↦ subst (λ (u : Tree). canonical u ≡ u) p (declaration_form need.kind need.iri)
      | inr later ↦ declarations_form needs t later
    ]

forms_hold : (ts : List Tree) → HoldSame (canonical_list ts) (map canonical ts)
forms_hold ts = ascending_holds tree_cmp trees_total only_equal_trees_tie (map canonical ts)

-- what stands in a list in canonical form is canonical
own_form : (ts : List Tree) → canonical_list ts ≡ ts → (t : Tree) → Contains ts t → canonical t ≡ t
own_form ts e t m =
    let form = from_map canonical ts t ((forms_hold ts t).0 (subst (λ (us : List Tree). Contains us t) (sym e) m)) in
    ap canonical (sym form.value) ∙ canonical_again form.element ∙ form.value

module _ (kinds needs : List Entity) (o : Ontology) (canon : canonical_ontology o ≡ o) where
  abbrev whole : Ontology
  whole = canonical_ontology (with_needs needs o)

  own_axiom : (t : Tree) → Contains whole.axioms t → Contains (o.axioms ++ declarations needs) t
  own_axiom t m =
      let axioms : canonical_list o.axioms ≡ o.axioms = ap (λ (p : Ontology). p.axioms) canon in
      let all = o.axioms ++ declarations needs in
      let form = from_map canonical all t ((forms_hold all t).0 m) in
      let same : canonical form.element ≡ form.element = elim (Contains-append_cases o.axioms (declarations needs) form.element form.inside) [
        | inl old ↦ own_form o.axioms axioms form.element old
        | inr new ↦ declarations_form needs form.element new
      ] in
      subst (λ (u : Tree). Contains all u) (sym same ∙ form.value) form.inside

  own_tree : (t : Tree) → Contains (whole.annotations ++ whole.axioms) t → Contains (o.annotations ++ (o.axioms ++ declarations needs)) t
  own_tree t m =
      let notes : canonical_list o.annotations ≡ o.annotations = ap (λ (p : Ontology). p.annotations) canon in
      elim (Contains-append_cases whole.annotations whole.axioms t m) [
        | inl note ↦ Contains-append_left o.annotations (o.axioms ++ declarations needs) t (subst (λ (us : List Tree). Contains us t) notes note)
        | inr more ↦ Contains-append_right o.annotations (o.axioms ++ declarations needs) t (own_axiom t more)
      ]

  pub whole_typed : AreNeeded kinds o needs → AreWellTyped (kinds ++ needs) (named_in whole)
  whole_typed h =
      all_from (λ (e : Entity). HasKind (kinds ++ needs) e.kind e.iri) (named_in whole)
      (λ e m.
      let found = from_trees (whole.annotations ++ whole.axioms) e m in
      all_in (λ (x : Entity). HasKind (kinds ++ needs) x.kind x.iri) (named_in (with_needs needs o)) e (all_typed kinds needs o h)
      (in_trees (o.annotations ++ (o.axioms ++ declarations needs)) e found.0 (own_tree found.0 found.1) found.2))
