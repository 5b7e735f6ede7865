-- The nodes of a form have the numbers of an interval, and what a graph keeps of a form it keeps of each part of it.
use Rattle.std.proofs.Common.{◌≡◌, ◌≤◌, ◌<◌, ◌+◌, ◌⊎◌, ℕ, suc, List, [], ◌∷◌, ◌++◌, inl, inr, refl, sym, ap, ◌∙◌, subst, arith}
use Rattle.std.specs.Prelude.{Contains}
use Rattle.std.proofs.lemmas.List.Elements.{Contains-append_cases, Contains-append_left, Contains-append_right}
use Rattle.owl_list.proofs.AscendingLaws.{in_cases, in_head, in_none, in_tail}
use Rattle.rdf_graph.specs.declared.term.Term.{Term}
use Rattle.rdf_graph.specs.declared.term.Term.TheVariants.{Iri, Blank}
use Rattle.rdf_graph.specs.declared.triple.Triple.{Triple}
use Rattle.rdf_meaning.specs.Nodes.{nil_iri}
use Rattle.rdf_mapping.specs.Forms.{Form, plain, made, twice, Arcs, no_arcs, arc, arc_nodes, arc_triples, blank, first_iri, link, nodes, rest_iri, term_of, triples}
use Rattle.rdf_mapping.specs.Frames.{AreNamedApart, EachKept, Keeps, KeepsArcs, KeepsTwice, Lies, own_triples, twice_behind}

-- the subjects of a form's triples

pub lie : (name : ℕ → List ℕ) (n low high : ℕ) (x : Term) → low ≤ n → n < high → x ≡ blank name n → Lies name low high x
lie name n low high x l h e = record { number = n; from = l; below = h; is = e }

pub wider : (name : ℕ → List ℕ) (a b low high : ℕ) (x : Term) → low ≤ a → b ≤ high → Lies name a b x → Lies name low high x
wider name a b low high x l h k = record { number = k.number; from = omega (arith, l, k.from); below = omega (arith, h, k.below); is = k.is }

pub subject_of : (t u : Triple) → t ≡ u → u.subject ≡ t.subject
subject_of t u e = ap (λ (v : Triple). v.subject) (sym e)

behind_subjects : (name : ℕ → List ℕ) (f : Form) (n : ℕ) (t : Triple) → Contains (twice_behind name f n) t → Lies name n (n + nodes (twice f)) t.subject
behind_subjects name f n t m =
    let high = n + nodes (twice f) in
    let rest = link (blank name n) rest_iri (blank name (suc n + nodes f)) in
    let again = link (blank name (suc n + nodes f)) first_iri (term_of name f (suc n)) in
    let end = link (blank name (suc n + nodes f)) rest_iri (Iri nil_iri) in
    elim (in_cases rest (again ∷ end ∷ []) t m) [
      | inl e ↦ lie name n n high t.subject (omega arith) (omega arith) (subject_of rest t e)
      | inr k ↦
          elim (in_cases again (end ∷ []) t k) [
            | inl e ↦ lie name (suc n + nodes f) n high t.subject (omega arith) (omega arith) (subject_of again t e)
            | inr l ↦
                elim (in_cases end [] t l) [
                  | inl e ↦ lie name (suc n + nodes f) n high t.subject (omega arith) (omega arith) (subject_of end t e)
                  | inr o ↦ absurd (in_none t o)
                ]
          ]
    ]

mutual
  pub subjects : (name : ℕ → List ℕ) (f : Form) (n : ℕ) (t : Triple) → Contains (triples name f n) t → Lies name n (n + nodes f) t.subject
  subjects name (plain u) n t m = absurd (in_none t m)
  subjects name (made arcs) n t m =
      elim (arc_subjects name (blank name n) arcs (suc n) t m) [
        | inl e ↦ lie name n n (n + nodes (made arcs)) t.subject (omega arith) (omega arith) e
        | inr l ↦ wider name (suc n) (suc n + arc_nodes arcs) n (n + nodes (made arcs)) t.subject (omega arith) (omega arith) l
      ]
  subjects name (twice f) n t m =
      let high = n + nodes (twice f) in
      let first = link (blank name n) first_iri (term_of name f (suc n)) in
      elim (in_cases first (triples name f (suc n) ++ twice_behind name f n) t m) [
        | inl e ↦ lie name n n high t.subject (omega arith) (omega arith) (subject_of first t e)
        | inr k ↦
            elim (Contains-append_cases (triples name f (suc n)) (twice_behind name f n) t k) [
              | inl a ↦ wider name (suc n) (suc n + nodes f) n high t.subject (omega arith) (omega arith) (subjects name f (suc n) t a)
              | inr b ↦ behind_subjects name f n t b
            ]
      ]

  pub arc_subjects : (name : ℕ → List ℕ) (x : Term) (arcs : Arcs) (n : ℕ) (t : Triple) → Contains (arc_triples name x arcs n) t → (t.subject ≡ x) ⊎ Lies name n (n + arc_nodes arcs) t.subject
  arc_subjects name x no_arcs n t m = absurd (in_none t m)
  arc_subjects name x (arc p f more) n t m =
      elim (in_cases (link x p (term_of name f n)) (triples name f n ++ arc_triples name x more (n + nodes f)) t m) [
        | inl e ↦ inl (subject_of (link x p (term_of name f n)) t e)
        | inr k ↦
            elim (Contains-append_cases (triples name f n) (arc_triples name x more (n + nodes f)) t k) [
              | inl a ↦ inr (wider name n (n + nodes f) n (n + arc_nodes (arc p f more)) t.subject (omega arith) (omega arith) (subjects name f n t a))
              | inr b ↦
                  elim (arc_subjects name x more (n + nodes f) t b) [
                    | inl e ↦ inl e
                    | inr l ↦ inr (wider name (n + nodes f) (n + nodes f + arc_nodes more) n (n + arc_nodes (arc p f more)) t.subject (omega arith) (omega arith) l)
                  ]
            ]
      ]

pub same_label : (a b : List ℕ) → Blank a ≡ Blank b → a ≡ b
same_label a b e = cc

-- Intervals of neighbours are apart.
pub apart : (name : ℕ → List ℕ) (most : ℕ) → AreNamedApart name most → (a b c d : ℕ) (x : Term) → Lies name a b x → Lies name c d x → b ≤ c → d ≤ most → ⊥
apart name most differ a b c d x l h between few =
    let same = differ l.number h.number (omega (arith, between, few, l.below, h.from, h.below)) (omega (arith, few, h.below)) (same_label (name l.number) (name h.number) (sym l.is ∙ h.is)) in
    omega (arith, same, between, l.below, h.from)

pub not_node : (name : ℕ → List ℕ) (most : ℕ) → AreNamedApart name most → (n a b : ℕ) (x : Term) → x ≡ blank name n → Lies name a b x → n < a → b ≤ most → ⊥
not_node name most differ n a b x e l h few =
    apart name most differ n (suc n) a b x (lie name n n (suc n) x (omega arith) (omega arith) e) l (omega (arith, h)) few

-- what a graph keeps of triples, it keeps of a part of them that has all of a smaller interval
pub keeps_part : (name : ℕ → List ℕ) (Cares : Triple → Type 0) (g ts part : List Triple) (low high a b : ℕ) → Keeps name Cares g ts low high → low ≤ a → b ≤ high → ((t : Triple) → Contains part t → Contains ts t) → ((t : Triple) → Contains ts t → Lies name a b t.subject → Contains part t) → Keeps name Cares g part a b
keeps_part name Cares g ts part low high a b k l h within all =
    record {
      there = λ t m. k.there t (within t m);
      back = λ t i c m. all t (k.back t (wider name a b low high t.subject l h i) c m) i;
    }

-- The triples of a node, among those that are drawn of it and below it.

pub own_there : (name : ℕ → List ℕ) (x : Term) (arcs : Arcs) (n : ℕ) (t : Triple) → Contains (own_triples name x arcs n) t → Contains (arc_triples name x arcs n) t
own_there name x no_arcs n t m = m
own_there name x (arc p f more) n t m =
    elim (in_cases (link x p (term_of name f n)) (own_triples name x more (n + nodes f)) t m) [
      | inl e ↦ subst (λ u. Contains (arc_triples name x (arc p f more) n) u) e (in_head (link x p (term_of name f n)) (triples name f n ++ arc_triples name x more (n + nodes f)))
      | inr k ↦ in_tail (link x p (term_of name f n)) (triples name f n ++ arc_triples name x more (n + nodes f)) t (Contains-append_right (triples name f n) (arc_triples name x more (n + nodes f)) t (own_there name x more (n + nodes f) t k))
    ]

pub own_subject : (name : ℕ → List ℕ) (x : Term) (arcs : Arcs) (n : ℕ) (t : Triple) → Contains (own_triples name x arcs n) t → t.subject ≡ x
own_subject name x no_arcs n t m = absurd (in_none t m)
own_subject name x (arc p f more) n t m =
    elim (in_cases (link x p (term_of name f n)) (own_triples name x more (n + nodes f)) t m) [
      | inl e ↦ subject_of (link x p (term_of name f n)) t e
      | inr k ↦ own_subject name x more (n + nodes f) t k
    ]

pub own_or_below : (name : ℕ → List ℕ) (x : Term) (arcs : Arcs) (n : ℕ) (t : Triple) → Contains (arc_triples name x arcs n) t → Contains (own_triples name x arcs n) t ⊎ Lies name n (n + arc_nodes arcs) t.subject
own_or_below name x no_arcs n t m = absurd (in_none t m)
own_or_below name x (arc p f more) n t m =
    elim (in_cases (link x p (term_of name f n)) (triples name f n ++ arc_triples name x more (n + nodes f)) t m) [
      | inl e ↦ inl (subst (λ u. Contains (own_triples name x (arc p f more) n) u) e (in_head (link x p (term_of name f n)) (own_triples name x more (n + nodes f))))
      | inr k ↦
          elim (Contains-append_cases (triples name f n) (arc_triples name x more (n + nodes f)) t k) [
            | inl a ↦ inr (wider name n (n + nodes f) n (n + arc_nodes (arc p f more)) t.subject (omega arith) (omega arith) (subjects name f n t a))
            | inr b ↦
                elim (own_or_below name x more (n + nodes f) t b) [
                  | inl o ↦ inl (in_tail (link x p (term_of name f n)) (own_triples name x more (n + nodes f)) t o)
                  | inr l ↦ inr (wider name (n + nodes f) (n + nodes f + arc_nodes more) n (n + arc_nodes (arc p f more)) t.subject (omega arith) (omega arith) l)
                ]
          ]
    ]

two_subjects : (x : Term) (t u : Triple) → t.subject ≡ x → u.subject ≡ x → (v : Triple) → Contains (t ∷ u ∷ []) v → v.subject ≡ x
two_subjects x t u a b v m =
    elim (in_cases t (u ∷ []) v m) [
      | inl e ↦ subject_of t v e ∙ a
      | inr k ↦ elim (in_cases u [] v k) [ inl e ↦ subject_of u v e ∙ b | inr o ↦ absurd (in_none v o) ]
    ]

only_behind : (first rest again end t : Triple) → Contains (rest ∷ []) t → Contains (rest ∷ again ∷ end ∷ []) t
only_behind first rest again end t m =
    elim (in_cases rest [] t m) [
      | inl e ↦ subst (λ u. Contains (rest ∷ again ∷ end ∷ []) u) e (in_head rest (again ∷ end ∷ []))
      | inr o ↦ absurd (in_none t o)
    ]

-- What a graph keeps of a form it keeps of each part of it.
module _ (name : ℕ → List ℕ) (most : ℕ) (differ : AreNamedApart name most) (Cares : Triple → Type 0) (g : List Triple) where
  arcs_kept : (i : ℕ) (arcs : Arcs) (n : ℕ) → i < n → n + arc_nodes arcs ≤ most → Keeps name Cares g (arc_triples name (blank name i) arcs n) n (n + arc_nodes arcs) → EachKept name Cares g arcs n
  arcs_kept i no_arcs n below few k = tt
  arcs_kept i (arc p f more) n below few k =
      let x = blank name i in
      let ts = triples name f n in
      let us = arc_triples name x more (n + nodes f) in
      let whole = link x p (term_of name f n) ∷ (ts ++ us) in
      let mid = n + nodes f in
      let high = n + arc_nodes (arc p f more) in (
        keeps_part name Cares g whole ts n high n mid k (omega arith) (omega arith)
            (λ t m. in_tail (link x p (term_of name f n)) (ts ++ us) t (Contains-append_left ts us t m))
            (λ t m l. elim (in_cases (link x p (term_of name f n)) (ts ++ us) t m) [
              | inl e ↦ absurd (not_node name most differ i n mid t.subject (subject_of (link x p (term_of name f n)) t e) l below (omega (arith, few)))
              | inr j ↦
                  elim (Contains-append_cases ts us t j) [
                    | inl a ↦ a
                    | inr b ↦
                        elim (arc_subjects name x more mid t b) [
                          | inl e ↦ absurd (not_node name most differ i n mid t.subject e l below (omega (arith, few)))
                          | inr h ↦ absurd (apart name most differ n mid mid (mid + arc_nodes more) t.subject l h (omega arith) (omega (arith, few)))
                        ]
                  ]
            ]),
        arcs_kept i more mid (omega (arith, below)) (omega (arith, few))
            (keeps_part name Cares g whole us n high mid (mid + arc_nodes more) k (omega arith) (omega arith)
            (λ t m. in_tail (link x p (term_of name f n)) (ts ++ us) t (Contains-append_right ts us t m))
            (λ t m l. elim (in_cases (link x p (term_of name f n)) (ts ++ us) t m) [
              | inl e ↦ absurd (not_node name most differ i mid (mid + arc_nodes more) t.subject (subject_of (link x p (term_of name f n)) t e) l (omega (arith, below)) (omega (arith, few)))
              | inr j ↦
                  elim (Contains-append_cases ts us t j) [
                    | inl a ↦ absurd (apart name most differ n mid mid (mid + arc_nodes more) t.subject (subjects name f n t a) l (omega arith) (omega (arith, few)))
                    | inr b ↦ b
                  ]
            ])),
      )

  pub made_kept : (arcs : Arcs) (n : ℕ) → n + nodes (made arcs) ≤ most → Keeps name Cares g (triples name (made arcs) n) n (n + nodes (made arcs)) → KeepsArcs name Cares g arcs n
  made_kept arcs n few k =
      let x = blank name n in
      let high = n + nodes (made arcs) in
      record {
        own = record {
          there = λ t m. k.there t (own_there name x arcs (suc n) t m);
          subject = λ t m. own_subject name x arcs (suc n) t m;
          back = λ t e c m.
              elim (own_or_below name x arcs (suc n) t (k.back t (lie name n n high t.subject (omega arith) (omega arith) e) c m)) [
                | inl o ↦ o
                | inr l ↦ absurd (not_node name most differ n (suc n) (suc n + arc_nodes arcs) t.subject e l (omega arith) (omega (arith, few)))
              ];
        };
        each = arcs_kept n arcs (suc n) (omega arith) (omega (arith, few))
            (keeps_part name Cares g (triples name (made arcs) n) (triples name (made arcs) n) n high (suc n) (suc n + arc_nodes arcs) k (omega arith) (omega arith) (λ t m. m) (λ t m l. m));
      }

  pub twice_kept : (f : Form) (n : ℕ) → n + nodes (twice f) ≤ most → Keeps name Cares g (triples name (twice f) n) n (n + nodes (twice f)) → KeepsTwice name Cares g f n
  twice_kept f n few k =
      let cell = suc n + nodes f in
      let high = n + nodes (twice f) in
      let first = link (blank name n) first_iri (term_of name f (suc n)) in
      let rest = link (blank name n) rest_iri (blank name cell) in
      let again = link (blank name cell) first_iri (term_of name f (suc n)) in
      let end = link (blank name cell) rest_iri (Iri nil_iri) in
      let ts = triples name f (suc n) in
      let behind = rest ∷ again ∷ end ∷ [] in
      let at : (t : Triple) → Contains behind t → Contains (triples name (twice f) n) t = λ t m. in_tail first (ts ++ behind) t (Contains-append_right ts behind t m) in
      record {
        first_own = record {
          there = λ t m.
              elim (in_cases first (rest ∷ []) t m) [
                | inl e ↦ k.there t (subst (λ u. Contains (first ∷ (ts ++ behind)) u) e (in_head first (ts ++ behind)))
                | inr j ↦ k.there t (at t (only_behind first rest again end t j))
              ];
          subject = λ t m. two_subjects (blank name n) first rest refl refl t m;
          back = λ t e c m.
              elim (in_cases first (ts ++ behind) t (k.back t (lie name n n high t.subject (omega arith) (omega arith) e) c m)) [
                | inl s ↦ subst (λ u. Contains (first ∷ rest ∷ []) u) s (in_head first (rest ∷ []))
                | inr j ↦
                    elim (Contains-append_cases ts behind t j) [
                      | inl a ↦ absurd (not_node name most differ n (suc n) cell t.subject e (subjects name f (suc n) t a) (omega arith) (omega (arith, few)))
                      | inr b ↦
                          elim (in_cases rest (again ∷ end ∷ []) t b) [
                            | inl s ↦ in_tail first (rest ∷ []) t (subst (λ u. Contains (rest ∷ []) u) s (in_head rest []))
                            | inr l ↦ absurd (not_node name most differ n cell (suc cell) t.subject e (lie name cell cell (suc cell) t.subject (omega arith) (omega arith) (two_subjects (blank name cell) again end refl refl t l)) (omega arith) (omega (arith, few)))
                          ]
                    ]
              ];
        };
        element =
            keeps_part name Cares g (triples name (twice f) n) ts n high (suc n) cell k (omega arith) (omega arith)
            (λ t m. in_tail first (ts ++ behind) t (Contains-append_left ts behind t m))
            (λ t m l. elim (in_cases first (ts ++ behind) t m) [
              | inl s ↦ absurd (not_node name most differ n (suc n) cell t.subject (subject_of first t s) l (omega arith) (omega (arith, few)))
              | inr j ↦
                  elim (Contains-append_cases ts behind t j) [
                    | inl a ↦ a
                    | inr b ↦
                        elim (in_cases rest (again ∷ end ∷ []) t b) [
                          | inl s ↦ absurd (not_node name most differ n (suc n) cell t.subject (subject_of rest t s) l (omega arith) (omega (arith, few)))
                          | inr o ↦ absurd (apart name most differ (suc n) cell cell (suc cell) t.subject l (lie name cell cell (suc cell) t.subject (omega arith) (omega arith) (two_subjects (blank name cell) again end refl refl t o)) (omega arith) (omega (arith, few)))
                        ]
                  ]
            ]);
        second_own = record {
          there = λ t m. k.there t (at t (in_tail rest (again ∷ end ∷ []) t m));
          subject = λ t m. two_subjects (blank name cell) again end refl refl t m;
          back = λ t e c m.
              elim (in_cases first (ts ++ behind) t (k.back t (lie name cell n high t.subject (omega arith) (omega arith) e) c m)) [
                | inl s ↦ absurd (not_node name most differ n cell (suc cell) t.subject (subject_of first t s) (lie name cell cell (suc cell) t.subject (omega arith) (omega arith) e) (omega arith) (omega (arith, few)))
                | inr j ↦
                    elim (Contains-append_cases ts behind t j) [
                      | inl a ↦ absurd (apart name most differ (suc n) cell cell (suc cell) t.subject (subjects name f (suc n) t a) (lie name cell cell (suc cell) t.subject (omega arith) (omega arith) e) (omega arith) (omega (arith, few)))
                      | inr b ↦
                          elim (in_cases rest (again ∷ end ∷ []) t b) [
                            | inl s ↦ absurd (not_node name most differ n cell (suc cell) t.subject (subject_of rest t s) (lie name cell cell (suc cell) t.subject (omega arith) (omega arith) e) (omega arith) (omega (arith, few)))
                            | inr l ↦ l
                          ]
                    ]
              ];
        };
      }
