-- What a table of marks declares.
use Rattle.std.proofs.Common.{◌≡◌, ◌↔◌, ℕ, ◌⊎◌, inl, inr, true, cond, List, [], ◌∷◌, Option, Some, None, refl, sym, ap, ◌∙◌, subst, unwrap_or, arith}
use Rattle.std.specs.Prelude.{Contains}
use Rattle.std.specs.List.{AllByRecursion, IsDistinct, flat_map}
use Rattle.std.specs.Map.{keys_of, lookup, values_of}
use Rattle.std.proofs.lemmas.Bool.{both_ways, cases_Bool, cond-false, cond-true, or_cases, or_left, or_right, false≢true}
use Rattle.std.proofs.lemmas.Map.Views.{Contains-from_lookup, lookup-from_Contains}
use Rattle.std.proofs.lemmas.Cmp.{nat_list_eq_equiv}
use Rattle.std.proofs.lemmas.Slice.Eq.{bytes_eq-Decides}
use Rattle.indexmap.specs.IndexMap.{insert_entry}
use Rattle.owl_characters.specs.Order.{text_eq}
use Rattle.owl_kind.specs.declared.kind.Kind.{Kind}
use Rattle.owl_kind.specs.declared.kind.Kind.TheVariants.{Class, Datatype, ObjectProperty, DataProperty, AnnotationProperty, Individual}
use Rattle.owl_kind.specs.declared.marks.Marks.{Marks}
use Rattle.owl_kind.specs.Kinds.{Entity, HasKind, IsDeclared, is_built_in}
use Rattle.owl_kind.specs.Marks.{Entry, HasMark, IsTable, all_kinds, declared_as, declared_by, entities_of, is_marked, is_of, marked, marks_at, no_marks}
use Rattle.owl_kind.specs.Order.{entity_cmp}
use Rattle.owl_kind.proofs.OrderLaws.{entities_total, only_equal_entities_tie}
use Rattle.owl_list.proofs.AscendingLaws.{ascending_holds, in_head, in_none}
use Rattle.owl_kind.proofs.Found.{from_joined, joined_from, only}

-- equal texts are one
one_text : (a b : List ℕ) → text_eq a b ≡ true → a ≡ b
one_text a b h = (bytes_eq-Decides a b).0 h

itself : (a : List ℕ) → text_eq a a ≡ true
itself a = (bytes_eq-Decides a a).1 refl

one_of_all : (kind : Kind) → Contains all_kinds kind
one_of_all Class = (0, omega arith, refl)
one_of_all Datatype = (1, omega arith, refl)
one_of_all ObjectProperty = (2, omega arith, refl)
one_of_all DataProperty = (3, omega arith, refl)
one_of_all AnnotationProperty = (4, omega arith, refl)
one_of_all Individual = (5, omega arith, refl)

-- one kind of an entry
pub declared_is : (e : Entry) (k kind : Kind) (iri : List ℕ) → Contains (declared_as e k) (record { kind = kind; iri = iri }) → (is_marked e.1 k ≡ true) × (k ≡ kind) × (e.0 ≡ iri)
declared_is e k kind iri h =
    let d : Entity = record { kind = kind; iri = iri } in
    elim (cases_Bool (is_marked e.1 k)) [
      | inl t ↦
          let same : record { kind = k; iri = e.0 } ≡ d = only _ d (subst (λ ds. Contains ds d) (cond-true (is_marked e.1 k) _ _ t) h) in
          (t, ap (λ (x : Entity). x.kind) same, ap (λ (x : Entity). x.iri) same)
      | inr f ↦ absurd (in_none d (subst (λ ds. Contains ds d) (cond-false (is_marked e.1 k) _ _ f) h))
    ]

is_declared_as : (e : Entry) (kind : Kind) → is_marked e.1 kind ≡ true → Contains (declared_as e kind) (record { kind = kind; iri = e.0 })
is_declared_as e kind t =
    let d : Entity = record { kind = kind; iri = e.0 } in
    subst (λ ds. Contains ds d) (sym (cond-true (is_marked e.1 kind) (d ∷ []) [] t)) (in_head d [])

-- in order or not, the same is declared
in_order : (es : List Entry) (d : Entity) → Contains (declared_by es) d ↔ Contains (entities_of es) d
in_order es d = ascending_holds entity_cmp entities_total only_equal_entities_tie (entities_of es) d

pub marks_of_declared : (es : List Entry) (kind : Kind) (iri : List ℕ) → IsDeclared (declared_by es) kind iri → (marks : Marks) × Contains es (iri, marks) × (is_marked marks kind ≡ true)
unfolding entities_of
marks_of_declared es kind iri h =
    let outer = from_joined (λ e. flat_map (declared_as e) all_kinds) es (record { kind = kind; iri = iri }) ((in_order es (record { kind = kind; iri = iri })).0 h) in
    let inner = from_joined (declared_as outer.0) all_kinds (record { kind = kind; iri = iri }) outer.2 in
    let r = declared_is outer.0 inner.0 kind iri inner.2 in
    let e : Entry = outer.0 in
    (e.1, subst (λ i. Contains es (i, e.1)) r.2 outer.1, subst (λ k. is_marked e.1 k ≡ true) r.1 r.0)

pub declared_of_marks : (es : List Entry) (kind : Kind) (e : Entry) → Contains es e → is_marked e.1 kind ≡ true → IsDeclared (declared_by es) kind e.0
unfolding entities_of
declared_of_marks es kind e h t =
    let d : Entity = record { kind = kind; iri = e.0 } in
    (in_order es d).1
    (joined_from (λ e. flat_map (declared_as e) all_kinds) es d e h
    (joined_from (declared_as e) all_kinds d kind (one_of_all kind) (is_declared_as e kind t)))

pub none_declared : (es : List Entry) → es ≡ [] → (kind : Kind) (iri : List ℕ) → IsDeclared (declared_by es) kind iri → ⊥
none_declared es e kind iri h =
    let r = marks_of_declared es kind iri h in
    in_none (iri, r.0) (subst (λ xs. Contains xs (iri, r.0)) e r.1)

not_marked : (kind : Kind) → is_marked no_marks kind ≡ true → ⊥
not_marked Class h = false≢true h
not_marked Datatype h = false≢true h
not_marked ObjectProperty h = false≢true h
not_marked DataProperty h = false≢true h
not_marked AnnotationProperty h = false≢true h
not_marked Individual h = false≢true h

-- an entry of the table has its marks
pub marks_of_entry : (es : List Entry) → IsTable es → (e : Entry) → Contains es e → marks_at es e.0 ≡ e.1
marks_of_entry es t e h = ap (λ o. unwrap_or o no_marks) (lookup-from_Contains nat_list_eq_equiv e.0 e.1 es t.distinct h)

-- what is marked has an entry
entry_by : (es : List Entry) (iri : List ℕ) (kind : Kind) (o : Option Marks) → lookup (text_eq iri) es ≡ o → is_marked (unwrap_or o no_marks) kind ≡ true → Contains es (iri, unwrap_or o no_marks)
entry_by es iri kind None e h = absurd (not_marked kind h)
entry_by es iri kind (Some marks) e h = Contains-from_lookup one_text iri marks es e

pub marked_entry : (es : List Entry) (iri : List ℕ) (kind : Kind) → is_marked (marks_at es iri) kind ≡ true → Contains es (iri, marks_at es iri)
marked_entry es iri kind h = entry_by es iri kind (lookup (text_eq iri) es) refl h

pub declared_at : (es : List Entry) → IsTable es → (kind : Kind) (iri : List ℕ) → IsDeclared (declared_by es) kind iri ↔ (is_marked (marks_at es iri) kind ≡ true)
declared_at es t kind iri = (
  (λ d.
      let r = marks_of_declared es kind iri d in
      subst (λ marks. is_marked marks kind ≡ true) (sym (marks_of_entry es t (iri, r.0) r.1)) r.2),
  (λ h. declared_of_marks es kind (iri, marks_at es iri) (marked_entry es iri kind h) h),
)

pub marked_here : (marks : Marks) (kind : Kind) → is_marked (marked marks kind) kind ≡ true
marked_here marks Class = refl
marked_here marks Datatype = refl
marked_here marks ObjectProperty = refl
marked_here marks DataProperty = refl
marked_here marks AnnotationProperty = refl
marked_here marks Individual = refl

marked_kept : (marks : Marks) (kind k : Kind) → is_marked marks k ≡ true → is_marked (marked marks kind) k ≡ true
marked_kept marks Class Class h = refl
marked_kept marks Datatype Datatype h = refl
marked_kept marks ObjectProperty ObjectProperty h = refl
marked_kept marks DataProperty DataProperty h = refl
marked_kept marks AnnotationProperty AnnotationProperty h = refl
marked_kept marks Individual Individual h = refl
marked_kept marks kind k h = h

marked_only : (marks : Marks) (kind k : Kind) → is_marked (marked marks kind) k ≡ true → (is_marked marks k ≡ true) ⊎ (k ≡ kind)
marked_only marks Class Class h = inr refl
marked_only marks Datatype Datatype h = inr refl
marked_only marks ObjectProperty ObjectProperty h = inr refl
marked_only marks DataProperty DataProperty h = inr refl
marked_only marks AnnotationProperty AnnotationProperty h = inr refl
marked_only marks Individual Individual h = inr refl
marked_only marks kind k h = inl h

-- one more mark declares one thing more
pub declared_after : (old new : List Entry) → IsTable old → IsTable new → (kind : Kind) (iri : List ℕ) → ((q : List ℕ) → lookup (text_eq q) new ≡ cond (text_eq iri q) (Some (marked (marks_at old iri) kind)) (lookup (text_eq q) old)) → (k : Kind) (i : List ℕ) → IsDeclared (declared_by new) k i ↔ (IsDeclared (declared_by old) k i ⊎ ((k ≡ kind) × (i ≡ iri)))
declared_after old new t u kind iri update k i =
    let before = declared_at old t k i in
    let after = declared_at new u k i in
    elim (cases_Bool (text_eq iri i)) [
      | inl b ↦
          let e : iri ≡ i = one_text iri i b in
          let w : marks_at new i ≡ marked (marks_at old i) kind =
          ap (λ o. unwrap_or o no_marks) (update i ∙ cond-true (text_eq iri i) (Some (marked (marks_at old iri) kind)) (lookup (text_eq i) old) b)
          ∙ ap (λ q. marked (marks_at old q) kind) e in (
            (λ d.
                elim (marked_only (marks_at old i) kind k (subst (λ marks. is_marked marks k ≡ true) w (after.0 d))) [
                  | inl h ↦ inl (before.1 h)
                  | inr s ↦ inr (s, sym e)
                ]),
            (λ d.
                after.1
                (subst (λ marks. is_marked marks k ≡ true) (sym w)
                (elim d as (λ _. is_marked (marked (marks_at old i) kind) k ≡ true) [
                  | inl h ↦ marked_kept (marks_at old i) kind k (before.0 h)
                  | inr s ↦ subst (λ x. is_marked (marked (marks_at old i) kind) x ≡ true) (sym s.0) (marked_here (marks_at old i) kind)
                ]))),
          )
      | inr f ↦
          let w : marks_at new i ≡ marks_at old i =
          ap (λ o. unwrap_or o no_marks) (update i ∙ cond-false (text_eq iri i) (Some (marked (marks_at old iri) kind)) (lookup (text_eq i) old) f) in (
            (λ d. inl (before.1 (subst (λ marks. is_marked marks k ≡ true) w (after.0 d)))),
            (λ d.
                elim d [
                  | inl h ↦ after.1 (subst (λ marks. is_marked marks k ≡ true) (sym w) (before.0 h))
                  | inr s ↦ absurd (both_ways (text_eq iri i) f (subst (λ q. text_eq iri q ≡ true) (sym s.1) (itself iri)))
                ]),
          )
    ]

all_inserted : (iri : List ℕ) (marks : Marks) → HasMark marks → (es : List Entry) → AllByRecursion HasMark (values_of es) → AllByRecursion HasMark (values_of (insert_entry text_eq es iri marks))
all_inserted iri marks m [] a = (m, tt)
all_inserted iri marks m (e ∷ es) a =
    let HaveMarks : List Entry → Type 0 = λ xs. AllByRecursion HasMark (values_of xs) in
    elim (cases_Bool (text_eq iri e.0)) [
      | inl t ↦ subst HaveMarks (sym (cond-true (text_eq iri e.0) ((e.0, marks) ∷ es) (e ∷ insert_entry text_eq es iri marks) t)) (m, a.1)
      | inr f ↦ subst HaveMarks (sym (cond-false (text_eq iri e.0) ((e.0, marks) ∷ es) (e ∷ insert_entry text_eq es iri marks) f)) (a.0, all_inserted iri marks m es a.1)
    ]

pub table_after : (old new : List Entry) → IsTable old → IsDistinct text_eq (keys_of new) → (kind : Kind) (iri : List ℕ) → new ≡ insert_entry text_eq old iri (marked (marks_at old iri) kind) → IsTable new
table_after old new t d kind iri e = record {
  distinct = d;
  marked =
      subst (λ es. AllByRecursion HasMark (values_of es)) (sym e)
      (all_inserted iri (marked (marks_at old iri) kind) (kind, marked_here (marks_at old iri) kind) old t.marked);
}

pub same_table : (old new : List Entry) → IsTable old → new ≡ old → IsTable new
same_table old new t e = subst IsTable (sym e) t

-- declared or built in, as the marks tell
pub has_kind : (table : List Entry) → IsTable table → (iri : List ℕ) (kind : Kind) → (is_of (iri, marks_at table iri) kind ≡ true) ↔ HasKind (declared_by table) kind iri
has_kind table t iri kind =
    let declared = declared_at table t kind iri in (
      (λ h.
          elim (or_cases (is_marked (marks_at table iri) kind) (is_built_in kind iri) h) [
            | inl m ↦ inl (declared.1 m)
            | inr b ↦ inr b
          ]),
      (λ h.
          elim h [
            | inl d ↦ or_left (is_marked (marks_at table iri) kind) (is_built_in kind iri) (declared.0 d)
            | inr b ↦ or_right (is_marked (marks_at table iri) kind) (is_built_in kind iri) b
          ]),
    )
