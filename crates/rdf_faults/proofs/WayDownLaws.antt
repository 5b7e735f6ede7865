-- In a graph without a cycle no way down goes on without end, since a list of the nodes that are not yet met gets shorter.
use Rattle.std.specs.Prelude.{◌≡◌, ◌≤◌, ◌⊎◌, ℕ, zero, suc, List, Contains, length, map}
use Rattle.std.proofs.Common.{inl, inr, refl, subst, arith}
use Rattle.owl_list.proofs.AscendingLaws.{in_map}
use Rattle.rdf_graph.specs.declared.term.Term.{Term}
use Rattle.rdf_graph.specs.declared.term.Term.TheVariants.{Iri, Blank, Literal}
use Rattle.rdf_graph.specs.declared.triple.Triple.{Triple}
use Rattle.rdf_meaning.proofs.ListLaws.{no_less, one_at_least}
use Rattle.rdf_meaning.specs.declared.role.Role.TheVariants as role
use Rattle.rdf_meaning.specs.Nodes.{nodes_of, role_of}
use Rattle.rdf_meaning.proofs.NodeLaws.{nodes_are}
use Rattle.rdf_meaning.proofs.SoundLaws.{nothing_below}
use Rattle.rdf_meaning.specs.Statements.{InSteps, one_step, one_more, IsDirectlyBelow, IsDirectlyNotedUnder, IsGrounded, grounded}
use Rattle.rdf_faults.specs.Faults.{IsCyclic}
use Rattle.rdf_faults.proofs.NoteLaws.{IsWithout, without}

module _ (step : Term → Term → Type 0) (nodes : List Term) (none : (x : Term) → InSteps step x x → ⊥) (from : (y x : Term) → step y x → Contains nodes x) where
  -- each node is in the list, or on the way down to this one
  abbrev IsLeft : List Term → Term → Type 0
  IsLeft left x = (v : Term) → Contains nodes v → Contains left v ⊎ InSteps step x v

  in_left : (left : List Term) (x : Term) → Contains nodes x → IsLeft left x → Contains left x
  in_left left x m seen = elim (seen x m) [ inl n ↦ n | inr c ↦ absurd (none x c) ]

  fewer : (left : List Term) (x y : Term) (w : IsWithout left x) → IsLeft left x → step y x → IsLeft w.rest y
  fewer left x y w seen down v m =
      elim (seen v m) [
        | inl n ↦ elim (w.others v n) [ inl e ↦ inr (subst (InSteps step y) e (one_step y x down)) | inr i ↦ inl i ]
        | inr c ↦ inr (one_more y x v down c)
      ]

  met_from : (P : Term → Type 0) → ((x : Term) → ((y : Term) → step y x → P y) → P x) → (n : ℕ) (left : List Term) → length left ≡ n → (x : Term) → IsLeft left x → P x
  met_from P closed zero left c x seen =
      closed x (λ y s. absurd (no_less (subst (λ n. 1 ≤ n) c (one_at_least left x (in_left left x (from y x s) seen)))))
  met_from P closed (suc n) left c x seen =
      closed x (λ y s.
      let w = without left x (in_left left x (from y x s) seen) in
      let count : length w.rest ≡ n = omega (arith, c, w.longer) in
      met_from P closed n w.rest count y (fewer left x y w seen s))

  -- what is true of a term where it is true of all below it is true of each term
  pub by_way_down : (P : Term → Type 0) → ((x : Term) → ((y : Term) → step y x → P y) → P x) → (x : Term) → P x
  by_way_down P closed x = met_from P closed (length nodes) nodes refl x (λ v m. inl m)

last_step : (step : Term → Term → Type 0) (y x : Term) → InSteps step y x → (z : Term) × step z x
last_step step _ _ (one_step y x s) = (y, s)
last_step step _ _ (one_more y z x s h) = last_step step z x h

no_reification : role.Individual ≡ role.Note → ⊥
no_reification e = cc

-- a graph without a cycle

module _ (g : List Triple) (acyclic : (label : List ℕ) → IsCyclic g label → ⊥) where
  no_end : (x z : Term) → role_of g x ≡ role.Individual → IsDirectlyBelow g z x → ⊥
  no_end x z e b = nothing_below g x e b.triple b.inside b.subject b.structural

  pub none_below : (x : Term) → InSteps (IsDirectlyBelow g) x x → ⊥
  none_below (Iri iri) h = let last = last_step (IsDirectlyBelow g) (Iri iri) (Iri iri) h in no_end (Iri iri) last.0 refl last.1
  none_below (Blank label) h = acyclic label (inl h)
  none_below (Literal literal) h =
      let last = last_step (IsDirectlyBelow g) (Literal literal) (Literal literal) h in no_end (Literal literal) last.0 refl last.1

  pub none_under : (x : Term) → InSteps (IsDirectlyNotedUnder g) x x → ⊥
  none_under (Iri iri) h =
      no_reification (last_step (IsDirectlyNotedUnder g) (Iri iri) (Iri iri) h).1.under
  none_under (Blank label) h = acyclic label (inr h)
  none_under (Literal literal) h =
      no_reification (last_step (IsDirectlyNotedUnder g) (Literal literal) (Literal literal) h).1.under

  from_subject : (y x : Term) → IsDirectlyBelow g y x → Contains (map (λ t. t.subject) g) x
  from_subject y x b = subst (λ z. Contains (map (λ t. t.subject) g) z) b.subject (in_map (λ t. t.subject) g b.triple b.inside)

  pub by_terms_below : (P : Term → Type 0) → ((x : Term) → ((y : Term) → IsDirectlyBelow g y x → P y) → P x) → (x : Term) → P x
  by_terms_below = by_way_down (IsDirectlyBelow g) (map (λ t. t.subject) g) none_below from_subject

  pub by_notes_under : (P : Term → Type 0) → ((x : Term) → ((y : Term) → IsDirectlyNotedUnder g y x → P y) → P x) → (x : Term) → P x
  by_notes_under =
      by_way_down (IsDirectlyNotedUnder g) (nodes_of g role.Note) none_under (λ y x b. (nodes_are g role.Note x (λ e. cc)).1 b.under)

  pub all_grounded : (x : Term) → IsGrounded g x
  all_grounded = by_terms_below (IsGrounded g) (λ x below. grounded x below)
