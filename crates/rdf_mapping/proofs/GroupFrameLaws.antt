-- Where the triples of annotations, axioms and groups begin, and what a graph keeps of each group.
use Rattle.std.proofs.Common.{◌≡◌, ◌≤◌, ◌+◌, ◌⊎◌, ℕ, suc, List, [], ◌∷◌, ◌++◌, inl, inr, refl, sym, subst, arith}
use Rattle.std.specs.Prelude.{Contains}
use Rattle.std.proofs.lemmas.List.Elements.{Contains-append_cases, Contains-append_left, Contains-append_right}
use Rattle.owl_list.proofs.AscendingLaws.{in_cases, in_head, in_none, in_tail}
use Rattle.rdf_graph.specs.declared.term.Term.{Term}
use Rattle.rdf_graph.specs.declared.term.Term.TheVariants.{Iri, Blank, Literal}
use Rattle.rdf_graph.specs.declared.triple.Triple.{Triple}
use Rattle.rdf_meaning.specs.declared.word.Word.{Word}
use Rattle.rdf_meaning.specs.declared.word.Word.TheVariants as word
use Rattle.rdf_mapping.specs.Forms.{Form, plain, made, twice, Arcs, arc_nodes, blank, link, nodes, term_of, triples}
use Rattle.rdf_mapping.specs.Drawing.{Statement, linked, linked_back, looped, standing, unsaid}
use Rattle.rdf_mapping.specs.FormLaws.{apart, keeps_part, lie, subject_of, subjects, wider}
use Rattle.rdf_mapping.specs.Frames.{AreNamedApart, AreOwned, IsAny, IsForeign, Keeps, Lies, StartsApart}
use Rattle.rdf_mapping.specs.Graphs.{Group, group_triples, linked_triples, main_triple, set_nodes, set_triples, standing_nodes, standing_triples, statement_nodes, statement_triples}
use Rattle.rdf_mapping.specs.GroupFrames.{AreStatedApart, EachGroupKept, StatesApart, group_nodes}
use Rattle.rdf_mapping.specs.Notes.{Notes, no_notes, note, note_nodes, note_triples, reified, reified_nodes, reifying}
use Rattle.rdf_mapping.specs.Entries.{note_links}
use Rattle.rdf_mapping.specs.EntryLaws.{link_subjects, reifying_subjects, some_count, some_in}

-- Annotations.

-- what reifies a triple begins at its node, or at a node of what is below it
reified_under : (name : ℕ → List ℕ) (w : Word) (u : Triple) (ns : Notes) (n : ℕ) → ((t : Triple) → Contains (note_triples name (blank name n) ns (suc n)) t → (t.subject ≡ blank name n) ⊎ Lies name (suc n) (suc n + note_nodes ns) t.subject) → (t : Triple) → Contains (reified name w u ns n) t → Lies name n (n + reified_nodes ns) t.subject
reified_under name w u ns n under t m =
    let below = reifying w (blank name n) u ++ note_triples name (blank name n) ns (suc n) in
    let high = n + reified_nodes ns in
    let same = some_count ns below t (suc (note_nodes ns)) m in
    elim (Contains-append_cases (reifying w (blank name n) u) (note_triples name (blank name n) ns (suc n)) t (some_in ns below t m)) [
      | inl b ↦ lie name n n high t.subject (omega arith) (omega (arith, same)) (reifying_subjects w (blank name n) u t b)
      | inr b ↦
          elim (under t b) [
            | inl e ↦ lie name n n high t.subject (omega arith) (omega (arith, same)) e
            | inr l ↦ wider name (suc n) (suc n + note_nodes ns) n high t.subject (omega arith) (omega (arith, same)) l
          ]
    ]

-- among all that is drawn of annotations, those of the term itself stand apart
pub links_or_below : (name : ℕ → List ℕ) (x : Term) (ns : Notes) (n : ℕ) (t : Triple) → Contains (note_triples name x ns n) t → Contains (note_links x ns) t ⊎ Lies name n (n + note_nodes ns) t.subject
links_or_below name x no_notes n t m = absurd (in_none t m)
links_or_below name x (note p v inside more) n t m =
    let high = n + note_nodes (note p v inside more) in
    let mid = n + reified_nodes inside in
    let first = reified name word.Annotation (link x p v) inside n in
    let others = note_triples name x more mid in
    elim (in_cases (link x p v) (first ++ others) t m) [
      | inl e ↦ inl (subst (λ u. Contains (link x p v ∷ note_links x more) u) e (in_head (link x p v) (note_links x more)))
      | inr k ↦
          elim (Contains-append_cases first others t k) [
            | inl a ↦
                let begins = reified_under name word.Annotation (link x p v) inside n
                (λ u i. elim (links_or_below name (blank name n) inside (suc n) u i) [ inl o ↦ inl (link_subjects (blank name n) inside u o) | inr l ↦ inr l ]) t a in
                inr (wider name n mid n high t.subject (omega arith) (omega arith) begins)
            | inr b ↦
                elim (links_or_below name x more mid t b) [
                  | inl o ↦ inl (in_tail (link x p v) (note_links x more) t o)
                  | inr l ↦ inr (wider name mid (mid + note_nodes more) n high t.subject (omega arith) (omega arith) l)
                ]
          ]
    ]

pub note_subjects : (name : ℕ → List ℕ) (x : Term) (ns : Notes) (n : ℕ) (t : Triple) → Contains (note_triples name x ns n) t → (t.subject ≡ x) ⊎ Lies name n (n + note_nodes ns) t.subject
note_subjects name x ns n t m = elim (links_or_below name x ns n t m) [ inl o ↦ inl (link_subjects x ns t o) | inr l ↦ inr l ]

pub reified_subjects : (name : ℕ → List ℕ) (w : Word) (u : Triple) (ns : Notes) (n : ℕ) (t : Triple) → Contains (reified name w u ns n) t → Lies name n (n + reified_nodes ns) t.subject
reified_subjects name w u ns n t m = reified_under name w u ns n (note_subjects name (blank name n) ns (suc n)) t m

pub set_subjects : (name : ℕ → List ℕ) (u : Triple) (sets : List Notes) (n : ℕ) (t : Triple) → Contains (set_triples name u sets n) t → Lies name n (n + set_nodes sets) t.subject
set_subjects name u [] n t m = absurd (in_none t m)
set_subjects name u (ns ∷ sets) n t m =
    elim (Contains-append_cases (reified name word.Axiom u ns n) (set_triples name u sets (n + reified_nodes ns)) t m) [
      | inl a ↦ wider name n (n + reified_nodes ns) n (n + set_nodes (ns ∷ sets)) t.subject (omega arith) (omega arith) (reified_subjects name word.Axiom u ns n t a)
      | inr b ↦ wider name (n + reified_nodes ns) (n + reified_nodes ns + set_nodes sets) n (n + set_nodes (ns ∷ sets)) t.subject (omega arith) (omega arith) (set_subjects name u sets (n + reified_nodes ns) t b)
    ]

pub standing_subjects : (name : ℕ → List ℕ) (arcs : Arcs) (sets : List Notes) (n : ℕ) (t : Triple) → Contains (standing_triples name arcs sets n) t → Lies name n (n + standing_nodes arcs sets) t.subject
standing_subjects name arcs [] n t m = absurd (in_none t m)
standing_subjects name arcs (ns ∷ sets) n t m =
    let high = n + standing_nodes arcs (ns ∷ sets) in
    let mid = n + suc (arc_nodes arcs) in
    let next = n + (suc (arc_nodes arcs) + note_nodes ns) in
    elim (Contains-append_cases (triples name (made arcs) n) (note_triples name (blank name n) ns mid ++ standing_triples name arcs sets next) t m) [
      | inl a ↦ wider name n (n + nodes (made arcs)) n high t.subject (omega arith) (omega arith) (subjects name (made arcs) n t a)
      | inr b ↦
          elim (Contains-append_cases (note_triples name (blank name n) ns mid) (standing_triples name arcs sets next) t b) [
            | inl c ↦
                elim (note_subjects name (blank name n) ns mid t c) [
                  | inl e ↦ lie name n n high t.subject (omega arith) (omega arith) e
                  | inr l ↦ wider name mid (mid + note_nodes ns) n high t.subject (omega arith) (omega arith) l
                ]
            | inr d ↦ wider name next (next + standing_nodes arcs sets) n high t.subject (omega arith) (omega arith) (standing_subjects name arcs sets next t d)
          ]
    ]

-- Statements.

module _ (name : ℕ → List ℕ) (most : ℕ) where
  pub starts : (f : Form) (n low high : ℕ) → StartsApart name most f → low ≤ n → n + nodes f ≤ high → Lies name low high (term_of name f n) ⊎ IsForeign name most (term_of name f n)
  starts (plain x) n low high h l k = inr h
  starts (made arcs) n low high h l k = inl (lie name n low high (blank name n) l (omega (arith, k)) refl)
  starts (twice f) n low high h l k = inl (lie name n low high (blank name n) l (omega (arith, k)) refl)

  pub main_cases : (s : Term) (p : List ℕ) (o : Term) (sets : List Triple) (t : Triple) → Contains (main_triple name s p o sets) t → (t.subject ≡ s) ⊎ Contains sets t
  main_cases (Iri s) p o sets t m = elim (in_cases (link (Iri s) p o) sets t m) [ inl e ↦ inl (subject_of (link (Iri s) p o) t e) | inr k ↦ inr k ]
  main_cases (Blank s) p o sets t m = elim (in_cases (link (Blank s) p o) sets t m) [ inl e ↦ inl (subject_of (link (Blank s) p o) t e) | inr k ↦ inr k ]
  main_cases (Literal s) p o sets t m = inr m

  main_owned : (s : Term) (p : List ℕ) (o : Term) (ends : List Triple) (sets : List Notes) (m low high : ℕ) → Lies name low high s ⊎ IsForeign name most s → ((t : Triple) → Contains ends t → Lies name low m t.subject) → low ≤ m → m + set_nodes sets ≤ high → AreOwned name most (linked_triples name s p o ends sets m) low high
  main_owned s p o ends sets m low high start each l h t c =
      let us = set_triples name (link s p o) sets m in
      elim (Contains-append_cases ends (main_triple name s p o us) t c) [
        | inl a ↦ inl (wider name low m low high t.subject (omega arith) (omega (arith, h)) (each t a))
        | inr k ↦
            elim (main_cases s p o us t k) [
              | inl e ↦ subst (λ (x : Term). Lies name low high x ⊎ IsForeign name most x) (sym e) start
              | inr b ↦ inl (wider name m (m + set_nodes sets) low high t.subject l h (set_subjects name (link s p o) sets m t b))
            ]
      ]

  pub two_forms : (f q : Form) (n m : ℕ) (t : Triple) → m ≡ n + (nodes f + nodes q) → Contains (triples name f n ++ triples name q (n + nodes f)) t → Lies name n m t.subject
  two_forms f q n m t e c =
      elim (Contains-append_cases (triples name f n) (triples name q (n + nodes f)) t c) [
        | inl a ↦ wider name n (n + nodes f) n m t.subject (omega arith) (omega (arith, e)) (subjects name f n t a)
        | inr b ↦ wider name (n + nodes f) (n + nodes f + nodes q) n m t.subject (omega arith) (omega (arith, e)) (subjects name q (n + nodes f) t b)
      ]

  pub statement_owned : (s : Statement) (sets : List Notes) (n : ℕ) → StatesApart name most s → AreOwned name most (statement_triples name s sets n) n (n + statement_nodes s sets)
  statement_owned (linked f p q) sets n h =
      let m = n + (nodes f + nodes q) in
      let high = n + statement_nodes (linked f p q) sets in
      main_owned (term_of name f n) p (term_of name q (n + nodes f)) (triples name f n ++ triples name q (n + nodes f)) sets m n high
      (starts f n n high h (omega arith) (omega arith)) (λ t c. two_forms f q n m t refl c) (omega arith) (omega arith)
  statement_owned (linked_back f p q) sets n h =
      let m = n + (nodes f + nodes q) in
      let high = n + statement_nodes (linked_back f p q) sets in
      main_owned (term_of name q (n + nodes f)) p (term_of name f n) (triples name f n ++ triples name q (n + nodes f)) sets m n high
      (starts q (n + nodes f) n high h (omega arith) (omega arith)) (λ t c. two_forms f q n m t refl c) (omega arith) (omega arith)
  statement_owned (looped p f) sets n h =
      let high = n + statement_nodes (looped p f) sets in
      main_owned (term_of name f n) p (term_of name f n) (triples name f n) sets (n + nodes f) n high
      (starts f n n high h (omega arith) (omega arith)) (λ t c. subjects name f n t c) (omega arith) (omega arith)
  statement_owned (standing arcs) sets n h = λ t m. inl (standing_subjects name arcs sets n t m)
  statement_owned unsaid sets n h = λ t m. absurd (in_none t m)

-- Groups.

module _ (name : ℕ → List ℕ) (most : ℕ) (differ : AreNamedApart name most) (g : List Triple) where
  pub keeps_first : (Cares : Triple → Type 0) (xs ys : List Triple) (low mid high : ℕ) → low ≤ mid → mid ≤ high → high ≤ most → AreOwned name most ys mid high → Keeps name Cares g (xs ++ ys) low high → Keeps name Cares g xs low mid
  keeps_first Cares xs ys low mid high l h few owned k =
      keeps_part name Cares g (xs ++ ys) xs low high low mid k (omega arith) h (λ t m. Contains-append_left xs ys t m)
      (λ t m i. elim (Contains-append_cases xs ys t m) [
        | inl a ↦ a
        | inr b ↦
            elim (owned t b) [
              | inl j ↦ absurd (apart name most differ low mid mid high t.subject i j (omega arith) few)
              | inr f ↦ absurd (f i.number (omega (arith, i.below, h, few)) i.is)
            ]
      ])

  pub keeps_second : (Cares : Triple → Type 0) (xs ys : List Triple) (low mid high : ℕ) → low ≤ mid → mid ≤ high → high ≤ most → AreOwned name most xs low mid → Keeps name Cares g (xs ++ ys) low high → Keeps name Cares g ys mid high
  keeps_second Cares xs ys low mid high l h few owned k =
      keeps_part name Cares g (xs ++ ys) ys low high mid high k l (omega arith) (λ t m. Contains-append_right xs ys t m)
      (λ t m i. elim (Contains-append_cases xs ys t m) [
        | inl a ↦
            elim (owned t a) [
              | inl j ↦ absurd (apart name most differ low mid mid high t.subject j i (omega arith) few)
              | inr f ↦ absurd (f i.number (omega (arith, i.below, few)) i.is)
            ]
        | inr b ↦ b
      ])

  pub group_owned : (gs : List Group) (n : ℕ) → AreStatedApart name most gs → AreOwned name most (group_triples name gs n) n (n + group_nodes gs)
  group_owned [] n all = λ t m. absurd (in_none t m)
  group_owned (q ∷ gs) n all =
      let mid = n + statement_nodes q.statement q.sets in
      let high = n + group_nodes (q ∷ gs) in
      λ t m. elim (Contains-append_cases (statement_triples name q.statement q.sets n) (group_triples name gs mid) t m) [
        | inl a ↦
            elim (statement_owned name most q.statement q.sets n all.0 t a) [
              | inl l ↦ inl (wider name n mid n high t.subject (omega arith) (omega arith) l)
              | inr f ↦ inr f
            ]
        | inr b ↦
            elim (group_owned gs mid all.1 t b) [
              | inl l ↦ inl (wider name mid (mid + group_nodes gs) n high t.subject (omega arith) (omega arith) l)
              | inr f ↦ inr f
            ]
      ]

  -- of all groups a graph keeps each
  pub groups_kept : (gs : List Group) (n : ℕ) → n + group_nodes gs ≤ most → AreStatedApart name most gs → Keeps name IsAny g (group_triples name gs n) n (n + group_nodes gs) → EachGroupKept name g gs n
  groups_kept [] n few all k = tt
  groups_kept (q ∷ gs) n few all k =
      let mid = n + statement_nodes q.statement q.sets in
      let high = n + group_nodes (q ∷ gs) in
      let xs = statement_triples name q.statement q.sets n in
      let ys = group_triples name gs mid in (
        keeps_first IsAny xs ys n mid high (omega arith) (omega arith) few
            (λ t m. elim (group_owned gs mid all.1 t m) [ inl l ↦ inl (wider name mid (mid + group_nodes gs) mid high t.subject (omega arith) (omega arith) l) | inr f ↦ inr f ]) k,
        groups_kept gs mid (omega (arith, few)) all.1
            (keeps_part name IsAny g ys ys mid high mid (mid + group_nodes gs)
            (keeps_second IsAny xs ys n mid high (omega arith) (omega arith) few (statement_owned name most q.statement q.sets n all.0) k) (omega arith) (omega arith) (λ t m. m) (λ t m i. m)),
      )
