-- The triples that are drawn of a form are different ones.
use Rattle.std.proofs.Common.{◌≡◌, ◌≤◌, ◌<◌, ◌+◌, ℕ, suc, List, [], ◌∷◌, ◌++◌, length, inl, inr, refl, sym, ap, subst, arith}
use Rattle.std.specs.Prelude.{Contains}
use Rattle.std.proofs.lemmas.List.{length-append}
use Rattle.std.proofs.lemmas.List.Elements.{Contains-append_cases}
use Rattle.owl_list.specs.Ascending.{AreApart}
use Rattle.owl_list.proofs.AscendingLaws.{in_cases, in_head, in_none, in_tail}
use Rattle.rdf_graph.specs.declared.term.Term.{Term}
use Rattle.rdf_graph.specs.declared.term.Term.TheVariants.{Iri}
use Rattle.rdf_graph.specs.declared.triple.Triple.{Triple}
use Rattle.rdf_meaning.specs.Nodes.{nil_iri}
use Rattle.rdf_mapping.specs.Forms.{Form, plain, made, twice, Arcs, no_arcs, arc, arc_nodes, arc_triples, blank, first_iri, link, nodes, rest_iri, term_of, triples}
use Rattle.rdf_mapping.specs.FormLaws.{apart, arc_subjects, lie, not_node, own_or_below, subject_of, subjects}
use Rattle.rdf_mapping.specs.Frames.{AreNamedApart, Lies, own_triples, twice_behind}
use Rattle.rdf_counts.specs.Counts.{arcs_drawn, drawn}
use Rattle.rdf_counts.proofs.Keyed.{AreKeyed, IsKeyed, first_not_rest, predicates}

-- lists one behind the other
pub both_apart : {X : Type 0} (xs ys : List X) → AreApart xs → AreApart ys → ((x : X) → Contains xs x → Contains ys x → ⊥) → AreApart (xs ++ ys)
both_apart [] ys a b h = b
both_apart (x ∷ xs) ys a b h = (
  λ m. elim (Contains-append_cases xs ys x m) [ inl n ↦ a.0 n | inr n ↦ h x (in_head x xs) n ],
  both_apart xs ys a.1 b (λ z m n. h z (in_tail x xs z m) n),
)

-- How many they are.

mutual
  pub many : (name : ℕ → List ℕ) (f : Form) (n : ℕ) → length (triples name f n) ≡ drawn f
  many name (plain t) n = refl
  many name (made arcs) n = arcs_many name (blank name n) arcs (suc n)
  many name (twice f) n =
      let both = length-append (triples name f (suc n)) (twice_behind name f n) in
      let inner = many name f (suc n) in
      omega (arith, both, inner)

  pub arcs_many : (name : ℕ → List ℕ) (x : Term) (arcs : Arcs) (n : ℕ) → length (arc_triples name x arcs n) ≡ arcs_drawn arcs
  arcs_many name x no_arcs n = refl
  arcs_many name x (arc p f more) n =
      let both = length-append (triples name f n) (arc_triples name x more (n + nodes f)) in
      let inner = many name f n in
      let rest = arcs_many name x more (n + nodes f) in
      omega (arith, both, inner, rest)

own_predicates : (name : ℕ → List ℕ) (x : Term) (arcs : Arcs) (n : ℕ) (t : Triple) → Contains (own_triples name x arcs n) t → Contains (predicates arcs) t.predicate
own_predicates name x no_arcs n t m = absurd (in_none t m)
own_predicates name x (arc p f more) n t m =
    elim (in_cases (link x p (term_of name f n)) (own_triples name x more (n + nodes f)) t m) [
      | inl e ↦ subst (Contains (p ∷ predicates more)) (ap (λ (u : Triple). u.predicate) e) (in_head p (predicates more))
      | inr k ↦ in_tail p (predicates more) t.predicate (own_predicates name x more (n + nodes f) t k)
    ]

pub one_predicate : (t u : Triple) → t ≡ u → t.predicate ≡ u.predicate
one_predicate t u e = ap (λ (v : Triple). v.predicate) e

module _ (name : ℕ → List ℕ) (most : ℕ) (differ : AreNamedApart name most) where
  -- the cells of a list in which the one element stands twice, behind the element
  behind_apart : (f : Form) (n : ℕ) → n + nodes (twice f) ≤ most → AreApart (twice_behind name f n)
  behind_apart f n few =
      let cell = suc n + nodes f in
      let rest = link (blank name n) rest_iri (blank name cell) in
      let again = link (blank name cell) first_iri (term_of name f (suc n)) in
      let end = link (blank name cell) rest_iri (Iri nil_iri) in
      let other : blank name n ≡ blank name cell → ⊥ = λ e. not_node name most differ n cell (suc cell) (blank name n) refl (lie name cell cell (suc cell) (blank name n) (omega arith) (omega arith) e) (omega arith) (omega (arith, few)) in (
        λ m. elim (in_cases again (end ∷ []) rest m) [
          | inl e ↦ other (subject_of again rest e)
          | inr k ↦ elim (in_cases end [] rest k) [ inl e ↦ other (subject_of end rest e) | inr o ↦ in_none rest o ]
        ],
        (λ m. elim (in_cases end [] again m) [ inl e ↦ first_not_rest (sym (one_predicate end again e)) | inr o ↦ in_none again o ], (in_none end, tt)),
      )

  mutual
    pub triples_apart : (f : Form) (n : ℕ) → IsKeyed f → n + nodes f ≤ most → AreApart (triples name f n)
    triples_apart (plain t) n k few = tt
    triples_apart (made arcs) n k few = arcs_apart n arcs (suc n) (omega arith) k (omega (arith, few))
    triples_apart (twice f) n k few =
        let cell = suc n + nodes f in
        let first = link (blank name n) first_iri (term_of name f (suc n)) in
        let rest = link (blank name n) rest_iri (blank name cell) in
        let again = link (blank name cell) first_iri (term_of name f (suc n)) in
        let end = link (blank name cell) rest_iri (Iri nil_iri) in
        let other : (t : Triple) → t.subject ≡ blank name n → t.subject ≡ blank name cell → ⊥ = λ t e h. not_node name most differ n cell (suc cell) t.subject e (lie name cell cell (suc cell) t.subject (omega arith) (omega arith) h) (omega arith) (omega (arith, few)) in
        let inside : (t : Triple) → Contains (triples name f (suc n)) t → Lies name (suc n) cell t.subject = λ t m. subjects name f (suc n) t m in
        let out : (t : Triple) → t.subject ≡ blank name n → Contains (triples name f (suc n)) t → ⊥ = λ t e m. not_node name most differ n (suc n) cell t.subject e (inside t m) (omega arith) (omega (arith, few)) in
        let past : (t : Triple) → t.subject ≡ blank name cell → Contains (triples name f (suc n)) t → ⊥ = λ t e m. apart name most differ (suc n) cell cell (suc cell) t.subject (inside t m) (lie name cell cell (suc cell) t.subject (omega arith) (omega arith) e) (omega arith) (omega (arith, few)) in (
          λ m. elim (Contains-append_cases (triples name f (suc n)) (twice_behind name f n) first m) [
            | inl a ↦ out first refl a
            | inr b ↦
                elim (in_cases rest (again ∷ end ∷ []) first b) [
                  | inl e ↦ first_not_rest (sym (one_predicate rest first e))
                  | inr c ↦
                      elim (in_cases again (end ∷ []) first c) [
                        | inl e ↦ other first refl (subject_of again first e)
                        | inr d ↦ elim (in_cases end [] first d) [ inl e ↦ other first refl (subject_of end first e) | inr o ↦ in_none first o ]
                      ]
                ]
          ],
          both_apart (triples name f (suc n)) (twice_behind name f n) (triples_apart f (suc n) k (omega (arith, few))) (behind_apart f n few)
              (λ t m b. elim (in_cases rest (again ∷ end ∷ []) t b) [
                | inl e ↦ out t (subject_of rest t e) m
                | inr c ↦
                    elim (in_cases again (end ∷ []) t c) [
                      | inl e ↦ past t (subject_of again t e) m
                      | inr d ↦ elim (in_cases end [] t d) [ inl e ↦ past t (subject_of end t e) m | inr o ↦ in_none t o ]
                    ]
              ]),
        )

    pub arcs_apart : (m : ℕ) (arcs : Arcs) (n : ℕ) → m < n → AreKeyed arcs → n + arc_nodes arcs ≤ most → AreApart (arc_triples name (blank name m) arcs n)
    arcs_apart m no_arcs n l k few = tt
    arcs_apart m (arc p f more) n l k few =
        let x = blank name m in
        let here = link x p (term_of name f n) in
        let below = triples name f n in
        let others = arc_triples name x more (n + nodes f) in (
          λ c. elim (Contains-append_cases below others here c) [
            | inl a ↦ not_node name most differ m n (n + nodes f) x refl (subjects name f n here a) l (omega (arith, few))
            | inr b ↦
                elim (own_or_below name x more (n + nodes f) here b) [
                  | inl o ↦ k.0 (own_predicates name x more (n + nodes f) here o)
                  | inr i ↦ not_node name most differ m (n + nodes f) (n + nodes f + arc_nodes more) x refl i (omega (arith, l)) (omega (arith, few))
                ]
          ],
          both_apart below others (triples_apart f n k.1.0 (omega (arith, few))) (arcs_apart m more (n + nodes f) (omega (arith, l)) k.1.1 (omega (arith, few)))
              (λ t a b. elim (arc_subjects name x more (n + nodes f) t b) [
                | inl e ↦ not_node name most differ m n (n + nodes f) t.subject e (subjects name f n t a) l (omega (arith, few))
                | inr i ↦ apart name most differ n (n + nodes f) (n + nodes f) (n + nodes f + arc_nodes more) t.subject (subjects name f n t a) i (omega arith) (omega (arith, few))
              ]),
        )
