-- What a graph keeps of an axiom that is a triple: the triple, what its ends are, and what reifies it.
use Rattle.std.proofs.Common.{◌≡◌, ◌≤◌, ◌+◌, ◌⊎◌, ℕ, List, ◌++◌, inl, inr, refl, sym, subst, arith}
use Rattle.std.specs.Prelude.{Contains}
use Rattle.std.proofs.lemmas.List.Elements.{Contains-append_cases, Contains-append_left, Contains-append_right}
use Rattle.owl_list.proofs.AscendingLaws.{in_cases, in_head, in_tail}
use Rattle.rdf_graph.specs.declared.term.Term.{Term}
use Rattle.rdf_graph.specs.declared.term.Term.TheVariants.{Iri, Blank, Literal}
use Rattle.rdf_graph.specs.declared.triple.Triple.{Triple}
use Rattle.rdf_mapping.specs.Forms.{Form, link, nodes, term_of, triples}
use Rattle.rdf_mapping.specs.Drawing.{linked, linked_back, looped}
use Rattle.rdf_mapping.specs.FormLaws.{apart, subject_of, subjects, wider}
use Rattle.rdf_mapping.specs.Frames.{AreNamedApart, IsAny, IsForeign, IsOfNode, Keeps, Lies}
use Rattle.rdf_mapping.specs.Graphs.{linked_triples, main_triple, set_nodes, set_triples, statement_nodes, statement_triples}
use Rattle.rdf_mapping.specs.GroupFrames.{IsSubject, KeepsLinked, KeepsLooped, StatesApart}
use Rattle.rdf_mapping.proofs.GroupFrameLaws.{keeps_first, keeps_second, set_subjects, starts, two_forms}
use Rattle.rdf_mapping.specs.Notes.{Notes}

module _ (name : ℕ → List ℕ) (s : Term) (p : List ℕ) (o : Term) (ends sets : List Triple) where
  -- what stands in a main triple's list
  main_first : IsSubject s → Contains (ends ++ main_triple name s p o sets) (link s p o)
  main_first h = Contains-append_right ends (main_triple name s p o sets) (link s p o) (by s h)
    where
      by : (x : Term) → IsSubject x → Contains (main_triple name x p o sets) (link x p o)
      by (Iri x) h = in_head (link (Iri x) p o) sets
      by (Blank x) h = in_head (link (Blank x) p o) sets
      by (Literal x) h = absurd (h x refl)

  main_behind : (t : Triple) → Contains (ends ++ sets) t → Contains (ends ++ main_triple name s p o sets) t
  main_behind t m =
      elim (Contains-append_cases ends sets t m) [
        | inl a ↦ Contains-append_left ends (main_triple name s p o sets) t a
        | inr b ↦ Contains-append_right ends (main_triple name s p o sets) t (by s b)
      ]
    where
      by : (x : Term) → Contains sets t → Contains (main_triple name x p o sets) t
      by (Iri x) b = in_tail (link (Iri x) p o) sets t b
      by (Blank x) b = in_tail (link (Blank x) p o) sets t b
      by (Literal x) b = b

  main_only : (t : Triple) → Contains (ends ++ main_triple name s p o sets) t → (link s p o ≡ t) ⊎ Contains (ends ++ sets) t
  main_only t m =
      elim (Contains-append_cases ends (main_triple name s p o sets) t m) [
        | inl a ↦ inr (Contains-append_left ends sets t a)
        | inr b ↦ elim (by s b) [ inl e ↦ inl e | inr k ↦ inr (Contains-append_right ends sets t k) ]
      ]
    where
      by : (x : Term) → Contains (main_triple name x p o sets) t → (link x p o ≡ t) ⊎ Contains sets t
      by (Iri x) b = in_cases (link (Iri x) p o) sets t b
      by (Blank x) b = in_cases (link (Blank x) p o) sets t b
      by (Literal x) b = inr b

module _ (name : ℕ → List ℕ) (most : ℕ) (differ : AreNamedApart name most) (g : List Triple) where
  -- with ends up to a number, and from there what reifies the triple
  ends_kept : (s : Term) (p : List ℕ) (o : Term) (ends : List Triple) (sets : List Notes) (n m high : ℕ) → n ≤ m → m + set_nodes sets ≤ high → high ≤ most → (IsOfNode (link s p o) → IsForeign name most s) → Keeps name IsAny g (linked_triples name s p o ends sets m) n high → Keeps name IsOfNode g ends n m
  ends_kept s p o ends sets n m high l h few plain k =
      let us = set_triples name (link s p o) sets m in
      record {
        there = λ t c. k.there t (main_behind name s p o ends us t (Contains-append_left ends us t c));
        back = λ t i c q.
            elim (main_only name s p o ends us t (k.back t (wider name n m n high t.subject (omega arith) (omega (arith, h)) i) tt q)) [
              | inl e ↦
                  let j : Lies name n m s = subst (λ (x : Term). Lies name n m x) (subject_of (link s p o) t e) i in
                  absurd (plain (subst IsOfNode (sym e) c) j.number (omega (arith, j.below, h, few)) j.is)
              | inr j ↦
                  elim (Contains-append_cases ends us t j) [
                    | inl a ↦ a
                    | inr b ↦ absurd (apart name most differ n m m (m + set_nodes sets) t.subject i (set_subjects name (link s p o) sets m t b) (omega arith) (omega (arith, h, few)))
                  ]
            ];
      }

  notes_kept : (s : Term) (p : List ℕ) (o : Term) (ends : List Triple) (sets : List Notes) (n m high : ℕ) → n ≤ m → m + set_nodes sets ≤ high → high ≤ most → Lies name n m s ⊎ IsForeign name most s → ((t : Triple) → Contains ends t → Lies name n m t.subject) → Keeps name IsAny g (linked_triples name s p o ends sets m) n high → Keeps name IsAny g (set_triples name (link s p o) sets m) m (m + set_nodes sets)
  notes_kept s p o ends sets n m high l h few start each k =
      let us = set_triples name (link s p o) sets m in
      let top = m + set_nodes sets in
      record {
        there = λ t c. k.there t (main_behind name s p o ends us t (Contains-append_right ends us t c));
        back = λ t i c q.
            elim (main_only name s p o ends us t (k.back t (wider name m top n high t.subject l h i) tt q)) [
              | inl e ↦
                  let j : Lies name m top s = subst (λ (x : Term). Lies name m top x) (subject_of (link s p o) t e) i in
                  elim start [
                    | inl a ↦ absurd (apart name most differ n m m top s a j (omega arith) (omega (arith, h, few)))
                    | inr f ↦ absurd (f j.number (omega (arith, j.below, h, few)) j.is)
                  ]
              | inr j ↦
                  elim (Contains-append_cases ends us t j) [
                    | inl a ↦ absurd (apart name most differ n m m top t.subject (each t a) i (omega arith) (omega (arith, h, few)))
                    | inr b ↦ b
                  ]
            ];
      }

  two_kept : (s : Term) (p : List ℕ) (o : Term) (f q : Form) (sets : List Notes) (n : ℕ) → n + (nodes f + nodes q + set_nodes sets) ≤ most → IsSubject s → (IsOfNode (link s p o) → IsForeign name most s) → Lies name n (n + (nodes f + nodes q)) s ⊎ IsForeign name most s → Keeps name IsAny g (linked_triples name s p o (triples name f n ++ triples name q (n + nodes f)) sets (n + (nodes f + nodes q))) n (n + (nodes f + nodes q + set_nodes sets)) → KeepsLinked name g (link s p o) f q sets n
  two_kept s p o f q sets n few subject plain start k =
      let m = n + (nodes f + nodes q) in
      let high = n + (nodes f + nodes q + set_nodes sets) in
      let mid = n + nodes f in
      let xs = triples name f n in
      let ys = triples name q mid in
      let both = ends_kept s p o (xs ++ ys) sets n m high (omega arith) (omega arith) few plain k in
      let end : m ≡ mid + nodes q = omega arith in
      let whole : Keeps name IsOfNode g (xs ++ ys) n (mid + nodes q) = subst (λ i. Keeps name IsOfNode g (xs ++ ys) n i) end both in
      record {
        there = k.there (link s p o) (main_first name s p o (xs ++ ys) (set_triples name (link s p o) sets m) subject);
        first = keeps_first name most differ g IsOfNode xs ys n mid (mid + nodes q) (omega arith) (omega arith) (omega (arith, few)) (λ t c. inl (subjects name q mid t c)) whole;
        second = keeps_second name most differ g IsOfNode xs ys n mid (mid + nodes q) (omega arith) (omega arith) (omega (arith, few)) (λ t c. inl (subjects name f n t c)) whole;
        notes = notes_kept s p o (xs ++ ys) sets n m high (omega arith) (omega arith) few start (λ t c. two_forms name most f q n m t refl c) k;
      }

  -- an axiom that is a triple between two forms
  pub linked_kept : (f : Form) (p : List ℕ) (q : Form) (sets : List Notes) (n : ℕ) → n + statement_nodes (linked f p q) sets ≤ most → StatesApart name most (linked f p q) → IsSubject (term_of name f n) → (IsOfNode (link (term_of name f n) p (term_of name q (n + nodes f))) → IsForeign name most (term_of name f n)) → Keeps name IsAny g (statement_triples name (linked f p q) sets n) n (n + statement_nodes (linked f p q) sets) → KeepsLinked name g (link (term_of name f n) p (term_of name q (n + nodes f))) f q sets n
  linked_kept f p q sets n few states subject plain k =
      two_kept (term_of name f n) p (term_of name q (n + nodes f)) f q sets n few subject plain (starts name most f n n (n + (nodes f + nodes q)) states (omega arith) (omega arith)) k

  pub linked_back_kept : (f : Form) (p : List ℕ) (q : Form) (sets : List Notes) (n : ℕ) → n + statement_nodes (linked_back f p q) sets ≤ most → StatesApart name most (linked_back f p q) → IsSubject (term_of name q (n + nodes f)) → (IsOfNode (link (term_of name q (n + nodes f)) p (term_of name f n)) → IsForeign name most (term_of name q (n + nodes f))) → Keeps name IsAny g (statement_triples name (linked_back f p q) sets n) n (n + statement_nodes (linked_back f p q) sets) → KeepsLinked name g (link (term_of name q (n + nodes f)) p (term_of name f n)) f q sets n
  linked_back_kept f p q sets n few states subject plain k =
      two_kept (term_of name q (n + nodes f)) p (term_of name f n) f q sets n few subject plain (starts name most q (n + nodes f) n (n + (nodes f + nodes q)) states (omega arith) (omega arith)) k

  pub looped_kept : (p : List ℕ) (f : Form) (sets : List Notes) (n : ℕ) → n + statement_nodes (looped p f) sets ≤ most → StatesApart name most (looped p f) → IsSubject (term_of name f n) → (IsOfNode (link (term_of name f n) p (term_of name f n)) → IsForeign name most (term_of name f n)) → Keeps name IsAny g (statement_triples name (looped p f) sets n) n (n + statement_nodes (looped p f) sets) → KeepsLooped name g (link (term_of name f n) p (term_of name f n)) f sets n
  looped_kept p f sets n few states subject plain k =
      let x = term_of name f n in
      let m = n + nodes f in
      let high = n + (nodes f + set_nodes sets) in
      record {
        there = k.there (link x p x) (main_first name x p x (triples name f n) (set_triples name (link x p x) sets m) subject);
        form = ends_kept x p x (triples name f n) sets n m high (omega arith) (omega arith) few plain k;
        notes = notes_kept x p x (triples name f n) sets n m high (omega arith) (omega arith) few (starts name most f n n m states (omega arith) (omega arith)) (λ t c. subjects name f n t c) k;
      }
