-- All nodes of a form are reached from where it begins, over triples that make nodes what they are.
use Rattle.std.proofs.Common.{◌≡◌, ◌+◌, ◌⊎◌, ℕ, suc, true, List, [], ◌∷◌, ◌++◌, inl, inr, refl, sym, ◌∙◌, subst}
use Rattle.std.specs.Prelude.{Contains}
use Rattle.std.proofs.lemmas.List.Elements.{Contains-append_cases, Contains-append_left, Contains-append_right}
use Rattle.owl_list.proofs.AscendingLaws.{in_cases, in_head, in_none, in_tail}
use Rattle.rdf_graph.specs.declared.term.Term.{Term}
use Rattle.rdf_graph.specs.declared.term.Term.TheVariants.{Iri}
use Rattle.rdf_graph.specs.declared.triple.Triple.{Triple}
use Rattle.rdf_meaning.specs.declared.role.Role.{Role}
use Rattle.rdf_meaning.specs.declared.role.Role.TheVariants as role
use Rattle.rdf_meaning.specs.Nodes.{is_structural, nil_iri, role_of}
use Rattle.rdf_meaning.specs.Sound.{IsSoundBelow, sound_below, IsSoundPart}
use Rattle.rdf_meaning.specs.Statements.{InSteps, one_step, one_more, IsDirectlyBelow, IsPartOfAxiom}
use Rattle.rdf_mapping.specs.Forms.{Form, plain, made, twice, Arcs, no_arcs, arc, arc_triples, blank, first_iri, link, nodes, rest_iri, term_of, triples}
use Rattle.rdf_mapping.specs.FormLaws.{subject_of}
use Rattle.rdf_mapping.specs.Frames.{second_cell, twice_behind}

-- structural triples lead down from the one term to the other, in none or more steps
pub data IsUnder (g : List Triple) (x : Term) : Term → Type 0 where
  itself : IsUnder g x x
  further : (t : Triple) → IsUnder g x t.subject → Contains g t → is_structural g t ≡ true → IsUnder g x t.object

-- each triple is one of the graph, and makes its subject what it is
abbrev pub AreStructural : List Triple → List Triple → Type 0
AreStructural g ts = (t : Triple) → Contains ts t → Contains g t × (is_structural g t ≡ true)

module _ (name : ℕ → List ℕ) (g : List Triple) (r : Term) where
  down : (x : Term) (t u : Triple) → t ≡ u → t.subject ≡ x → IsUnder g r x → IsUnder g r u.subject
  down x t u e s h = subst (IsUnder g r) (sym s ∙ sym (subject_of t u e)) h

  step : (x : Term) (p : List ℕ) (y : Term) (ts : List Triple) → AreStructural g (link x p y ∷ ts) → IsUnder g r x → IsUnder g r y
  step x p y ts all h = let at = all (link x p y) (in_head (link x p y) ts) in further (link x p y) h at.0 at.1

  mutual
    pub form_under : (f : Form) (n : ℕ) → IsUnder g r (term_of name f n) → AreStructural g (triples name f n) → (t : Triple) → Contains (triples name f n) t → IsUnder g r t.subject
    form_under (plain x) n h all t m = absurd (in_none t m)
    form_under (made arcs) n h all t m = arcs_under arcs (blank name n) (suc n) h all t m
    form_under (twice f) n h all t m =
        let x = blank name n in
        let y = blank name (second_cell f n) in
        let o = term_of name f (suc n) in
        let first = link x first_iri o in
        let rest = link x rest_iri y in
        let behind = twice_behind name f n in
        let own = triples name f (suc n) in
        let over : IsUnder g r y =
        let at = all rest (in_tail first (own ++ behind) rest (Contains-append_right own behind rest (in_head rest (link y first_iri o ∷ link y rest_iri (Iri nil_iri) ∷ [])))) in
        further rest h at.0 at.1 in
        elim (in_cases first (own ++ behind) t m) [
          | inl e ↦ down x first t e refl h
          | inr i ↦
              elim (Contains-append_cases own behind t i) [
                | inl j ↦
                    form_under f (suc n) (step x first_iri o (own ++ behind) all h) (λ u k. all u (in_tail first (own ++ behind) u (Contains-append_left own behind u k))) t j
                | inr j ↦
                    elim (in_cases rest (link y first_iri o ∷ link y rest_iri (Iri nil_iri) ∷ []) t j) [
                      | inl e ↦ down x rest t e refl h
                      | inr k ↦
                          elim (in_cases (link y first_iri o) (link y rest_iri (Iri nil_iri) ∷ []) t k) [
                            | inl e ↦ down y (link y first_iri o) t e refl over
                            | inr l ↦
                                elim (in_cases (link y rest_iri (Iri nil_iri)) [] t l) [
                                  | inl e ↦ down y (link y rest_iri (Iri nil_iri)) t e refl over
                                  | inr z ↦ absurd (in_none t z)
                                ]
                          ]
                    ]
              ]
        ]

    pub arcs_under : (arcs : Arcs) (x : Term) (n : ℕ) → IsUnder g r x → AreStructural g (arc_triples name x arcs n) → (t : Triple) → Contains (arc_triples name x arcs n) t → IsUnder g r t.subject
    arcs_under no_arcs x n h all t m = absurd (in_none t m)
    arcs_under (arc p f more) x n h all t m =
        let o = term_of name f n in
        let own = triples name f n in
        let rest = arc_triples name x more (n + nodes f) in
        elim (in_cases (link x p o) (own ++ rest) t m) [
          | inl e ↦ down x (link x p o) t e refl h
          | inr i ↦
              elim (Contains-append_cases own rest t i) [
                | inl j ↦ form_under f n (step x p o (own ++ rest) all h) (λ u k. all u (in_tail (link x p o) (own ++ rest) u (Contains-append_left own rest u k))) t j
                | inr j ↦ arcs_under more x (n + nodes f) h (λ u k. all u (in_tail (link x p o) (own ++ rest) u (Contains-append_right own rest u k))) t j
              ]
        ]

-- what is under a sound term is sound
pub sound_under : (g : List Triple) (x y : Term) → IsUnder g x y → IsSoundBelow g x → IsSoundBelow g y
sound_under g x _ (itself) s = s
sound_under g x _ (further t h m i) s = lead g t.subject (sound_under g x t.subject h s) t m refl i
  where
    lead : (g : List Triple) (z : Term) → IsSoundBelow g z → (t : Triple) → Contains g t → t.subject ≡ z → is_structural g t ≡ true → IsSoundBelow g t.object
    lead g _ (sound_below z is below) t m e i = below t m e i

pub sound_is : (g : List Triple) (x : Term) → IsSoundBelow g x → (role_of g x ≡ role.Individual) ⊎ IsSoundPart g x
sound_is g _ (sound_below x is below) = is

-- and has no role but those of parts of axioms
part_role : (r s : Role) → IsPartOfAxiom r → (IsPartOfAxiom s → ⊥) → r ≡ s → ⊥
part_role r s p n e = n (subst IsPartOfAxiom e p)

pub sound_role : (g : List Triple) (x : Term) (r : Role) → (IsPartOfAxiom r → ⊥) → (role.Individual ≡ r → ⊥) → IsSoundBelow g x → role_of g x ≡ r → ⊥
sound_role g x r n i s e =
    elim (sound_is g x s) [ inl single ↦ i (sym single ∙ e) | inr is ↦ part_role (role_of g x) r is.part n e ]

-- in steps down that pass no reification
pub under_steps : (g : List Triple) (x y : Term) → IsUnder g x y → ((z : Term) → IsUnder g x z → role_of g z ≡ role.Note → ⊥) → (y ≡ x) ⊎ InSteps (IsDirectlyBelow g) y x
under_steps g x _ (itself) n = inl refl
under_steps g x _ (further t h m i) n =
    let down : IsDirectlyBelow g t.object t.subject = record { triple = t; inside = m; subject = refl; object = refl; structural = i; no_note = n t.subject h } in
    elim (under_steps g x t.subject h n) [
      | inl e ↦ inr (one_step t.object x (subst (λ (z : Term). IsDirectlyBelow g t.object z) e down))
      | inr s ↦ inr (one_more t.object t.subject x down s)
    ]
