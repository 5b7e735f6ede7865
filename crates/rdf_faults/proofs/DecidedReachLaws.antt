-- Whether a node is reached from the axioms of a graph without a cycle is decided, and whether a reification reifies something.
use Rattle.std.specs.Prelude.{◌≡◌, ◌⊎◌, ℕ, true, IsTrue, List, Contains}
use Rattle.std.proofs.Common.{inl, inr, refl, sym, subst}
use Rattle.owl_kind.specs.Kinds.{Entity}
use Rattle.rdf_graph.specs.declared.term.Term.{Term}
use Rattle.rdf_graph.specs.declared.triple.Triple.{Triple}
use Rattle.rdf_meaning.specs.declared.role.Role.TheVariants as role
use Rattle.rdf_meaning.specs.Nodes.{is_structural, nodes_of, role_of}
use Rattle.rdf_meaning.proofs.NodeLaws.{nodes_are}
use Rattle.rdf_meaning.specs.Statements.{InSteps, one_step, one_more, IsDirectlyBelow, IsReached, at_root, below_root, below_axiom, IsRoot, is_subject, is_object, ReifiesSome, an_axiom, an_annotation, is_annotation_triple, main_triples, reifies}
use Rattle.rdf_faults.specs.DecidedLaws.{Decided, HasSome, decided_both, decided_by, decided_either, decided_not, decided_role, decided_some, decided_some_of, decided_term, decided_test, decided_three}
use Rattle.rdf_faults.specs.Faults.{IsCyclic}
use Rattle.rdf_faults.proofs.NoteLaws.{one_further}
use Rattle.rdf_faults.proofs.WayDownLaws.{by_terms_below}

-- the last step up of a way
record IsUp (step : Term → Term → Type 0) (y x : Term) : Type 0 where
  pub z : Term
  pub last : step z x
  pub before : (z ≡ y) ⊎ InSteps step y z

up : (step : Term → Term → Type 0) (y x : Term) → InSteps step y x → IsUp step y x
up step _ _ (one_step y x s) = record { z = y; last = s; before = inl refl }
up step _ _ (one_more y z x s h) =
    let u = up step z x h in
    record {
      z = u.z;
      last = u.last;
      before = elim u.before [ inl e ↦ inr (one_step y u.z (subst (step y) (sym e) s)) | inr k ↦ inr (one_more y z u.z s k) ];
    }

module _ (g : List Triple) (k : List Entity) (header s : Term) where
  abbrev IsAnnotationHere : Triple → Type 0
  IsAnnotationHere t = IsTrue (is_annotation_triple g k header t) × IsTrue (reifies g s t)

  abbrev IsAxiomHere : Triple → Type 0
  IsAxiomHere t = IsTrue (reifies g s t)

  reified_by : HasSome IsAxiomHere (main_triples g k header) ⊎ HasSome IsAnnotationHere g → ReifiesSome g k header s
  reified_by (inl h) = an_axiom h.element h.inside h.holds
  reified_by (inr h) = an_annotation h.element h.inside h.holds.0 h.holds.1

  reified_is : ReifiesSome g k header s → HasSome IsAxiomHere (main_triples g k header) ⊎ HasSome IsAnnotationHere g
  reified_is (an_axiom t m r) = inl (record { element = t; inside = m; holds = r })
  reified_is (an_annotation t m a r) = inr (record { element = t; inside = m; holds = (a, r) })

  pub decided_reifies : Decided (ReifiesSome g k header s)
  decided_reifies =
      decided_by reified_by reified_is
      (decided_either (decided_some IsAxiomHere (main_triples g k header) (λ t. decided_test (reifies g s t)))
      (decided_some IsAnnotationHere g (λ t. decided_both (decided_test (is_annotation_triple g k header t)) (decided_test (reifies g s t)))))

module _ (g : List Triple) (acyclic : (label : List ℕ) → IsCyclic g label → ⊥) (y : Term) where
  abbrev IsUnder : Term → Type 0
  IsUnder x = InSteps (IsDirectlyBelow g) y x

  -- the triple leads down from the term
  abbrev Leads : Term → Triple → Type 0
  Leads x t = (t.subject ≡ x) × (is_structural g t ≡ true) × (role_of g x ≡ role.Note → ⊥)

  -- and on to the node
  abbrev LeadsOn : Term → Triple → Type 0
  LeadsOn x t = Leads x t × ((t.object ≡ y) ⊎ IsUnder t.object)

  down_by : (x : Term) (t : Triple) → Contains g t → Leads x t → IsDirectlyBelow g t.object x
  down_by x t m l = record { triple = t; inside = m; subject = l.0; object = refl; structural = l.1; no_note = l.2 }

  under_by : (x : Term) → HasSome (LeadsOn x) g → IsUnder x
  under_by x h =
      let down = down_by x h.element h.inside h.holds.0 in
      elim h.holds.1 [
        | inl e ↦ one_step y x (subst (λ z. IsDirectlyBelow g z x) e down)
        | inr u ↦ one_further (IsDirectlyBelow g) y h.element.object x u down
      ]

  under_is : (x : Term) → IsUnder x → HasSome (LeadsOn x) g
  under_is x h =
      let u = up (IsDirectlyBelow g) y x h in
      let b = u.last in
      record {
        element = b.triple;
        inside = b.inside;
        holds = (
          (b.subject, b.structural, b.no_note),
          subst (λ z. (z ≡ y) ⊎ IsUnder z) (sym b.object) u.before,
        );
      }

  decided_leads : (x : Term) → ((z : Term) → IsDirectlyBelow g z x → Decided (IsUnder z)) → (t : Triple) → Contains g t → Decided (LeadsOn x t)
  decided_leads x below t m =
      elim (decided_three (decided_term t.subject x) (decided_test (is_structural g t)) (decided_not (decided_role (role_of g x) role.Note))) [
        | inr n ↦ inr (λ l. n l.0)
        | inl l ↦
            decided_by (λ e. (l, e)) (λ p. p.1) (decided_either (decided_term t.object y) (below t.object (down_by x t m l)))
      ]

  decided_under : (x : Term) → Decided (IsUnder x)
  decided_under =
      by_terms_below g acyclic (λ x. Decided (IsUnder x)) (λ x below.
      decided_by (under_by x) (under_is x) (decided_some_of (LeadsOn x) g (decided_leads x below)))

  module _ (k : List Entity) (header : Term) where
    abbrev IsFrom : Term → Type 0
    IsFrom x = (x ≡ y) ⊎ IsUnder x

    abbrev IsFromEnd : Triple → Type 0
    IsFromEnd t = IsFrom t.subject ⊎ IsFrom t.object

    abbrev IsFromSome : Type 0
    IsFromSome = HasSome IsFromEnd (main_triples g k header) ⊎ HasSome IsUnder (nodes_of g role.Main)

    reached_root : (x : Term) → IsRoot g k header x → IsFrom x → IsReached g k header y
    reached_root x r (inl e) = at_root y (subst (IsRoot g k header) e r)
    reached_root x r (inr u) = below_root y x r u

    reached_by : IsFromSome → IsReached g k header y
    reached_by (inl h) =
        elim h.holds [
          | inl s ↦ reached_root h.element.subject (is_subject h.element h.inside) s
          | inr o ↦ reached_root h.element.object (is_object h.element h.inside) o
        ]
    reached_by (inr h) = below_axiom y h.element ((nodes_are g role.Main h.element (λ e. cc)).0 h.inside) h.holds

    from_root : (x : Term) → IsRoot g k header x → IsFrom x → IsFromSome
    from_root _ (is_subject t m) f = inl (record { element = t; inside = m; holds = inl f })
    from_root _ (is_object t m) f = inl (record { element = t; inside = m; holds = inr f })

    pub decided_from : Decided IsFromSome
    decided_from =
        decided_either (decided_some IsFromEnd (main_triples g k header) (λ t. decided_either (from t.subject) (from t.object)))
        (decided_some IsUnder (nodes_of g role.Main) decided_under)
      where
        from : (x : Term) → Decided (IsFrom x)
        from x = decided_either (decided_term x y) (decided_under x)

reached_is : (g : List Triple) (acyclic : (label : List ℕ) → IsCyclic g label → ⊥) (k : List Entity) (header y : Term) → IsReached g k header y → IsFromSome g acyclic y k header
reached_is g acyclic k header _ (at_root x r) = from_root g acyclic x k header x r (inl refl)
reached_is g acyclic k header _ (below_root y x r u) = from_root g acyclic y k header x r (inr u)
reached_is g acyclic k header _ (below_axiom y x e u) =
    inr (record { element = x; inside = (nodes_are g role.Main x (λ f. cc)).1 e; holds = u })

pub decided_reached : (g : List Triple) (acyclic : (label : List ℕ) → IsCyclic g label → ⊥) (k : List Entity) (header y : Term) → Decided (IsReached g k header y)
decided_reached g acyclic k header y =
    decided_by (reached_by g acyclic y k header) (reached_is g acyclic k header y) (decided_from g acyclic y k header)
