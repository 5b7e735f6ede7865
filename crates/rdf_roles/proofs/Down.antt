-- The ways down from a node, by its triples.
use Rattle.std.specs.Prelude.{◌≡◌, ◌↔◌, ◌⊎◌, ◌<◌, ◌≤◌, ◌+◌, ℕ, suc, zero, true, false, List, [], ◌∷◌, ◌++◌, Contains, None, Some, length, slice_get}
use Rattle.std.proofs.Common.{inl, inr, refl, sym, ap, ◌∙◌, subst, arith, below_more}
use Rattle.std.proofs.lemmas.Bool.{both_ways, cases_lt}
use Rattle.std.proofs.lemmas.List.{get_or_append_left, get_or_push, length_push}
use Rattle.std.proofs.lemmas.List.Elements.{Contains-append_left, Contains-push, Contains-push_cases}
use Rattle.std.proofs.lemmas.Option.{same_Some, slice_get_within}
use Rattle.std.proofs.Math.ListN.{get_or-eq_default}
use Rattle.directed_graphs.specs.Cycles.{successors}
use Rattle.owl_list.specs.Ascending.{AreApart}
use Rattle.owl_list.proofs.AscendingLaws.{in_cases, in_head, in_none, in_tail}
use Rattle.rdf_graph.specs.declared.term.Term.{Term}
use Rattle.rdf_graph.specs.declared.term.Term.TheVariants.{Blank}
use Rattle.rdf_graph.specs.declared.triple.Triple.{Triple}
use Rattle.rdf_meaning.specs.declared.role.Role.{Role}
use Rattle.rdf_meaning.specs.declared.role.Role.TheVariants as role
use Rattle.rdf_meaning.specs.Nodes.{is_own, is_structural, of_subject, role_of}
use Rattle.rdf_meaning.proofs.NodeLaws.{from_subject, in_subject}
use Rattle.rdf_meaning.specs.Statements.{IsDirectlyBelow}
use Rattle.rdf_roles.specs.Tables.{IsNode, IsNumber, blank_nodes}
use Rattle.rdf_roles.specs.Ways.{AddsObjects, AreWays, AreWaysDown, HaveWaysDown, IsObjectIn}
use Rattle.rdf_roles.proofs.Walk.{blank_nodes_apart}

-- a node has one number

pub at_place : {X : Type 0} (xs : List X) (k : ℕ) (x : X) → slice_get xs k ≡ Some x → Contains xs x
at_place [] k x e = cc
at_place (y ∷ xs) zero x e = subst (λ z. Contains (y ∷ xs) z) (same_Some y x e) (in_head y xs)
at_place (y ∷ xs) (suc k) x e = in_tail y xs x (at_place xs k x e)

one_place : {X : Type 0} (xs : List X) (x : X) (j k : ℕ) → AreApart xs → slice_get xs j ≡ Some x → slice_get xs k ≡ Some x → j ≡ k
one_place [] x j k a e f = cc
one_place (y ∷ xs) x zero zero a e f = refl
one_place (y ∷ xs) x zero (suc k) a e f = absurd (a.0 (subst (λ z. Contains xs z) (sym (same_Some y x e)) (at_place xs k x f)))
one_place (y ∷ xs) x (suc j) zero a e f = absurd (a.0 (subst (λ z. Contains xs z) (sym (same_Some y x f)) (at_place xs j x e)))
one_place (y ∷ xs) x (suc j) (suc k) a e f = ap suc (one_place xs x j k a.1 e f)

same_label : (a b : List ℕ) → Blank a ≡ Blank b → a ≡ b
same_label a b e = cc

pub one_number : (g : List Triple) (x : Term) (j k : ℕ) → IsNode g x j → IsNode g x k → j ≡ k
one_number g x j k m n =
    one_place (blank_nodes g) m.label j k (blank_nodes_apart g) m.at
    (n.at ∙ ap Some (same_label n.label m.label (sym n.is ∙ m.is)))

-- while triples are passed, those that are left and what was found are the whole
pub record AreLeft (g : List Triple) (r : Role) (new : List ℕ) (left : List Triple) (old : List ℕ) (all : List Triple) : Type 0 where
  pub same : (j : ℕ) → (Contains new j ⊎ IsObjectIn g r left j) ↔ (Contains old j ⊎ IsObjectIn g r all j)

pub left_first : (g : List Triple) (r : Role) (old : List ℕ) (all : List Triple) → AreLeft g r old all old all
left_first g r old all = record { same = λ j. (λ h. h, λ h. h) }

head_or_tail : (g : List Triple) (r : Role) (t : Triple) (behind : List Triple) (j : ℕ) → IsObjectIn g r (t ∷ behind) j → ((is_own r t ≡ true) × IsNode g t.object j) ⊎ IsObjectIn g r behind j
head_or_tail g r t behind j o =
    elim (in_cases t behind o.triple o.inside) [
      | inl e ↦ inl (ap (is_own r) e ∙ o.own, subst (λ (u : Triple). IsNode g u.object j) (sym e) o.node)
      | inr m ↦ inr (record { triple = o.triple; inside = m; own = o.own; node = o.node })
    ]

object_behind : (g : List Triple) (r : Role) (t : Triple) (behind : List Triple) (j : ℕ) → IsObjectIn g r behind j → IsObjectIn g r (t ∷ behind) j
object_behind g r t behind j o = record { triple = o.triple; inside = in_tail t behind o.triple o.inside; own = o.own; node = o.node }

module _ {g : List Triple} {r : Role} {new old : List ℕ} {behind all : List Triple} {t : Triple} (left : AreLeft g r new (t ∷ behind) old all) where
  passes_other : ((j : ℕ) → is_own r t ≡ true → IsNode g t.object j → ⊥) → AreLeft g r new behind old all
  passes_other none = record {
    same = λ j. (
      λ h. (left.same j).0 (elim h [ inl m ↦ inl m | inr o ↦ inr (object_behind g r t behind j o) ]),
      λ h. elim ((left.same j).1 h) [
        | inl m ↦ inl m
        | inr o ↦ elim (head_or_tail g r t behind j o) [ inl k ↦ absurd (none j k.0 k.1) | inr p ↦ inr p ]
      ],
    );
  }

  pub left_not_own : is_own r t ≡ false → AreLeft g r new behind old all
  left_not_own h = passes_other (λ j own node. both_ways (is_own r t) h own)

  pub left_no_node : IsNumber g t.object None → AreLeft g r new behind old all
  left_no_node h = passes_other (λ j own node. h j node)

  pub left_found : is_own r t ≡ true → (k : ℕ) → IsNode g t.object k → AreLeft g r (new ++ k ∷ []) behind old all
  left_found own k node = record {
    same = λ j. (
      λ h. elim h [
        | inl m ↦ elim (Contains-push_cases new k j m) [
          | inl n ↦ (left.same j).0 (inl n)
          | inr e ↦ (left.same j).0 (inr (record { triple = t; inside = in_head t behind; own = own; node = subst (IsNode g t.object) e node }))
        ]
        | inr o ↦ (left.same j).0 (inr (object_behind g r t behind j o))
      ],
      λ h. elim ((left.same j).1 h) [
        | inl m ↦ inl (Contains-append_left new (k ∷ []) j m)
        | inr o ↦ elim (head_or_tail g r t behind j o) [
          | inl p ↦ inl (subst (λ n. Contains (new ++ k ∷ []) n) (one_number g t.object k j node p.1) (Contains-push new k))
          | inr p ↦ inr p
        ]
      ],
    );
  }

pub left_last : (g : List Triple) (r : Role) (new old : List ℕ) (left all : List Triple) → length left ≡ 0 → AreLeft g r new left old all → AddsObjects g r all old new
left_last g r new old [] all e h j = (
  λ m. (h.same j).0 (inl m),
  λ k. elim ((h.same j).1 k) [ inl m ↦ m | inr o ↦ absurd (in_none o.triple o.inside) ],
)
left_last g r new old (t ∷ left) all e h j = absurd (omega arith)

pub left_ahead : {g : List Triple} {r : Role} {new old : List ℕ} {left all : List Triple} → AreLeft g r new left old all → {t : Triple} {behind : List Triple} → left ≡ t ∷ behind
    → AreLeft g r new (t ∷ behind) old all
left_ahead {g} {r} {new} {old} {left} {all} h e = subst (λ (ts : List Triple). AreLeft g r new ts old all) e h

-- the objects of a node's own triples are the nodes below it

structural : (g : List Triple) (t : Triple) (x : Term) (r : Role) → t.subject ≡ x → r ≡ role_of g x → is_own r t ≡ is_structural g t
unfolding is_structural
structural g t x r e f = ap (λ q. is_own q t) (f ∙ ap (role_of g) (sym e))

module _ (g : List Triple) (number : ℕ) (label : List ℕ) (at : slice_get (blank_nodes g) number ≡ Some label) where
  pub objects_are_below : (r : Role) (triples : List Triple) (nexts : List ℕ) → r ≡ role_of g (Blank label) → (r ≡ role.Note → ⊥) → triples ≡ of_subject g (Blank label)
      → AddsObjects g r triples [] nexts → AreWaysDown g number nexts
  objects_are_below r triples nexts is no_note about adds j = (
    λ m. elim ((adds j).0 m) [
      | inl n ↦ absurd (in_none j n)
      | inr o ↦
          let of = from_subject g (Blank label) o.triple (subst (λ (ts : List Triple). Contains ts o.triple) about o.inside) in
          record {
            from = label;
            to = o.node.label;
            from_at = at;
            to_at = o.node.at;
            below = record {
              triple = o.triple;
              inside = of.0;
              subject = of.1;
              object = o.node.is;
              structural = sym (structural g o.triple (Blank label) r of.1 is) ∙ o.own;
              no_note = λ e. no_note (is ∙ e);
            };
          }
    ],
    λ w.
        let b = subst (λ l. IsDirectlyBelow g (Blank w.to) (Blank l)) (same_Some w.from label (sym w.from_at ∙ at)) w.below in
        (adds j).1 (inr (record {
          triple = b.triple;
          inside = subst (λ (ts : List Triple). Contains ts b.triple) (sym about) (in_subject g (Blank label) b.triple b.inside b.subject);
          own = structural g b.triple (Blank label) r b.subject is ∙ b.structural;
          node = record { label = w.to; is = b.object; at = w.to_at };
        })),
  )

  pub note_leads_nowhere : role_of g (Blank label) ≡ role.Note → AreWaysDown g number []
  note_leads_nowhere e j = (
    λ m. absurd (in_none j m),
    λ w. absurd (w.below.no_note (ap (λ l. role_of g (Blank l)) (same_Some w.from label (sym w.from_at ∙ at)) ∙ e)),
  )

pub none_leads_nowhere : (g : List Triple) (number : ℕ) → slice_get (blank_nodes g) number ≡ None → AreWaysDown g number []
none_leads_nowhere g number none j = (λ m. absurd (in_none j m), λ w. let e : Some w.from ≡ None = sym w.from_at ∙ none in cc)

-- from node to node

pub ways_begin : (g : List Triple) (ways : List (List ℕ)) → length ways ≡ 0 → HaveWaysDown g 0 ways
ways_begin g ways e = record { each = e; down = λ i h. absurd (omega arith) }

pub ways_go_on : (g : List Triple) (count : ℕ) (ways : List (List ℕ)) (nexts : List ℕ) → HaveWaysDown g count ways → AreWaysDown g count nexts → HaveWaysDown g (count + 1) (ways ++ nexts ∷ [])
ways_go_on g count ways nexts have next = record {
  each = length_push ways nexts ∙ ap (λ n. n + 1) have.each;
  down = λ i h. below_more (λ i. AreWaysDown g i (successors (ways ++ nexts ∷ []) i)) count
      (λ i h. subst (AreWaysDown g i) (sym (get_or_append_left ways (nexts ∷ []) [] i (subst (λ n. i < n) (sym have.each) h))) (have.down i h))
      (subst (AreWaysDown g count) (sym (get_or_push ways nexts [] count have.each)) next) i h;
}

beyond : (ways : List (List ℕ)) (i j : ℕ) → length ways ≤ i → Contains (successors ways i) j → ⊥
beyond ways i j h m = in_none j (subst (λ (ns : List ℕ). Contains ns j) (get_or-eq_default ways [] h) m)

pub ways_end : (g : List Triple) (count : ℕ) (ways : List (List ℕ)) → count ≡ length (blank_nodes g) → HaveWaysDown g count ways → AreWays g 0 ways
ways_end g count ways e have = record {
  each = have.each ∙ e;
  leads = λ i j. (
    λ m. elim (cases_lt i count) [
      | inl h ↦ inl ((have.down i h j).0 m)
      | inr h ↦ absurd (beyond ways i j (subst (λ n. n ≤ i) (sym have.each) h) m)
    ],
    λ w. elim w [
      | inl d ↦ (have.down i (subst (λ n. i < n) (sym e) (slice_get_within (blank_nodes g) i d.from d.from_at)) j).1 d
      | inr n ↦ absurd (none_below_0 j n.0)
    ],
  );
}
  where
    none_below_0 : (j : ℕ) → j < 0 → ⊥
    none_below_0 j h = omega arith
