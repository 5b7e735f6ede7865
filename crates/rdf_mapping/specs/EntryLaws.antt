-- What is drawn of annotations are the triples of entries.
use Rattle.std.proofs.Common.{◌≡◌, ◌≤◌, ◌<◌, ◌+◌, ℕ, suc, List, [], ◌∷◌, ◌++◌, inl, inr, refl, sym, ap, ◌∙◌, subst, arith}
use Rattle.std.specs.Prelude.{Contains}
use Rattle.std.proofs.lemmas.List.Elements.{Contains-append_cases, Contains-append_left, Contains-append_right}
use Rattle.owl_list.proofs.AscendingLaws.{in_cases, in_head, in_none, in_tail}
use Rattle.rdf_graph.specs.declared.term.Term.{Term}
use Rattle.rdf_graph.specs.declared.term.Term.TheVariants.{Iri}
use Rattle.rdf_graph.specs.declared.triple.Triple.{Triple}
use Rattle.rdf_meaning.specs.declared.word.Word.{Word}
use Rattle.rdf_meaning.specs.declared.word.Word.TheVariants as word
use Rattle.rdf_meaning.specs.Nodes.{type_iri}
use Rattle.rdf_meaning.specs.Words.{word_iri}
use Rattle.rdf_mapping.specs.Forms.{blank, link}
use Rattle.rdf_mapping.specs.Notes.{Notes, no_notes, note, note_nodes, note_triples, reified, reified_nodes, reifying, where_some}
use Rattle.rdf_mapping.specs.Graphs.{set_nodes, set_triples}
use Rattle.rdf_mapping.specs.Frames.{AreNamedApart, IsOwn, Keeps, Lies}
use Rattle.rdf_mapping.specs.Entries.{AreDrawn, Entry, IsBelowEntry, IsOfEntry, entry, entry_node, entry_roots, entry_triples, note_entries, note_links, note_roots, reified_entries, reified_roots, set_entries, set_roots}
use Rattle.rdf_mapping.specs.FormLaws.{same_label}

-- where there are some

pub some_in : {X : Type 0} (ns : Notes) (xs : List X) (x : X) → Contains (where_some ns [] xs) x → Contains xs x
some_in no_notes xs x m = absurd (in_none x m)
some_in (note p v inside more) xs x m = m

some_is : {X Y : Type 0} (ns : Notes) (xs : List X) (x : X) (ys : List Y) (y : Y) → Contains (where_some ns [] xs) x → Contains ys y → Contains (where_some ns [] ys) y
some_is no_notes xs x ys y m k = absurd (in_none x m)
some_is (note p v inside more) xs x ys y m k = k

pub some_count : {X : Type 0} (ns : Notes) (xs : List X) (x : X) (k : ℕ) → Contains (where_some ns [] xs) x → where_some ns 0 k ≡ k
some_count no_notes xs x k m = absurd (in_none x m)
some_count (note p v inside more) xs x k m = refl

-- the subject of an entry's triples

all_of : (x : Term) (t u : Triple) → u.subject ≡ x → u ≡ t → t.subject ≡ x
all_of x t u e i = ap (λ (v : Triple). v.subject) (sym i) ∙ e

pub link_subjects : (x : Term) (ns : Notes) (t : Triple) → Contains (note_links x ns) t → t.subject ≡ x
link_subjects x no_notes t m = absurd (in_none t m)
link_subjects x (note p v inside more) t m =
    elim (in_cases (link x p v) (note_links x more) t m) [ inl e ↦ all_of x t (link x p v) refl e | inr k ↦ link_subjects x more t k ]

pub reifying_subjects : (w : Word) (x : Term) (u t : Triple) → Contains (reifying w x u) t → t.subject ≡ x
reifying_subjects w x u t m =
    let type = link x type_iri (Iri (word_iri w)) in
    let source = link x (word_iri word.AnnotatedSource) u.subject in
    let property = link x (word_iri word.AnnotatedProperty) (Iri u.predicate) in
    let target = link x (word_iri word.AnnotatedTarget) u.object in
    elim (in_cases type (source ∷ property ∷ target ∷ []) t m) [
      | inl e ↦ all_of x t type refl e
      | inr k ↦
          elim (in_cases source (property ∷ target ∷ []) t k) [
            | inl e ↦ all_of x t source refl e
            | inr l ↦
                elim (in_cases property (target ∷ []) t l) [
                  | inl e ↦ all_of x t property refl e
                  | inr o ↦ elim (in_cases target [] t o) [ inl e ↦ all_of x t target refl e | inr z ↦ absurd (in_none t z) ]
                ]
          ]
    ]

pub entry_subjects : (name : ℕ → List ℕ) (e : Entry) (t : Triple) → Contains (entry_triples name e) t → t.subject ≡ entry_node name e
entry_subjects name e t m =
    let x = entry_node name e in
    elim (Contains-append_cases (reifying e.word x e.triple) (note_links x e.notes) t m) [
      | inl a ↦ reifying_subjects e.word x e.triple t a
      | inr b ↦ link_subjects x e.notes t b
    ]

module _ (name : ℕ → List ℕ) where
  wider_entry : (es fs : List Entry) (t : Triple) → ((e : Entry) → Contains es e → Contains fs e) → IsOfEntry name es t → IsOfEntry name fs t
  wider_entry es fs t h k = record { entry = k.entry; among = h k.entry k.among; inside = k.inside }

  wider_below : (es fs : List Entry) (e : Entry) → ((e : Entry) → Contains es e → Contains fs e) → IsBelowEntry name es e → IsBelowEntry name fs e
  wider_below es fs e h k = record { entry = k.entry; among = h k.entry k.among; inside = k.inside }

  -- triples without entries
  pub drawn_plain : (n : ℕ) (ts : List Triple) → AreDrawn name n n ts [] [] ts
  drawn_plain n ts = record {
    from = λ e m. absurd (in_none e m);
    below = λ e m. absurd (in_none e m);
    one = λ e f m k i. absurd (in_none e m);
    cases = λ t m. inl m;
    other = λ t m. m;
    there = λ e t m k. absurd (in_none e m);
    root = λ e m. absurd (in_none e m);
    parent = λ e m. absurd (in_none e m);
    inner = λ e f m k. absurd (in_none e m);
  }

  -- an entry with those below it
  drawn_entry : (e : Entry) (high : ℕ) (es : List Entry) (ts : List Triple) → e.number < high → AreDrawn name (suc e.number) high (note_links (entry_node name e) e.notes) (entry_roots name e) es ts → AreDrawn name e.number high [] (e ∷ []) (e ∷ es) (reifying e.word (entry_node name e) e.triple ++ ts)
  drawn_entry e high es ts some d =
      let rs = reifying e.word (entry_node name e) e.triple in
      let own = note_links (entry_node name e) e.notes in
      record {
        from = λ f m. elim (in_cases e es f m) [ inl i ↦ omega (arith, ap (λ (x : Entry). x.number) i) | inr k ↦ let h = d.from f k in omega (arith, h) ];
        below = λ f m. elim (in_cases e es f m) [ inl i ↦ subst (λ (x : Entry). x.number < high) i some | inr k ↦ d.below f k ];
        one = λ f h m k i.
            elim (in_cases e es f m) [
              | inl a ↦
                  elim (in_cases e es h k) [
                    | inl b ↦ sym a ∙ b
                    | inr b ↦ let up = d.from h b in absurd (omega (arith, up, i, ap (λ (x : Entry). x.number) a))
                  ]
              | inr a ↦
                  elim (in_cases e es h k) [
                    | inl b ↦ let up = d.from f a in absurd (omega (arith, up, i, ap (λ (x : Entry). x.number) b))
                    | inr b ↦ d.one f h a b i
                  ]
            ];
        cases = λ t m.
            inr (elim (Contains-append_cases rs ts t m) [
              | inl a ↦ record { entry = e; among = in_head e es; inside = Contains-append_left rs own t a }
              | inr b ↦
                  elim (d.cases t b) [
                    | inl o ↦ record { entry = e; among = in_head e es; inside = Contains-append_right rs own t o }
                    | inr k ↦ wider_entry es (e ∷ es) t (λ f. in_tail e es f) k
                  ]
            ]);
        other = λ t m. absurd (in_none t m);
        there = λ f t m k.
            elim (in_cases e es f m) [
              | inl i ↦
                  elim (Contains-append_cases rs own t (subst (λ (x : Entry). Contains (entry_triples name x) t) (sym i) k)) [
                    | inl a ↦ Contains-append_left rs ts t a
                    | inr b ↦ Contains-append_right rs ts t (d.other t b)
                  ]
              | inr j ↦ Contains-append_right rs ts t (d.there f t j k)
            ];
        root = λ f m. elim (in_cases e [] f m) [ inl i ↦ subst (λ (x : Entry). Contains (e ∷ es) x) i (in_head e es) | inr o ↦ absurd (in_none f o) ];
        parent = λ f m.
            elim (in_cases e es f m) [
              | inl i ↦ inl (subst (λ (x : Entry). Contains (e ∷ []) x) i (in_head e []))
              | inr k ↦
                  inr (elim (d.parent f k) [
                    | inl r ↦ record { entry = e; among = in_head e es; inside = r }
                    | inr b ↦ wider_below es (e ∷ es) f (λ x. in_tail e es x) b
                  ])
            ];
        inner = λ f h m k.
            elim (in_cases e es f m) [
              | inl i ↦ in_tail e es h (d.root h (subst (λ (x : Entry). Contains (entry_roots name x) h) (sym i) k))
              | inr j ↦ in_tail e es h (d.inner f h j k)
            ];
      }

  -- the one behind the other
  pub drawn_both : (low mid high : ℕ) (own more : List Triple) (roots others es fs : List Entry) (ts us : List Triple) → low ≤ mid → mid ≤ high → AreDrawn name low mid own roots es ts → AreDrawn name mid high more others fs us → AreDrawn name low high (own ++ more) (roots ++ others) (es ++ fs) (ts ++ us)
  drawn_both low mid high own more roots others es fs ts us l h d c =
      let left : (e : Entry) → Contains es e → Contains (es ++ fs) e = λ e m. Contains-append_left es fs e m in
      let right : (e : Entry) → Contains fs e → Contains (es ++ fs) e = λ e m. Contains-append_right es fs e m in
      record {
        from = λ e m. elim (Contains-append_cases es fs e m) [ inl a ↦ d.from e a | inr b ↦ let up = c.from e b in omega (arith, up, l) ];
        below = λ e m. elim (Contains-append_cases es fs e m) [ inl a ↦ let up = d.below e a in omega (arith, up, h) | inr b ↦ c.below e b ];
        one = λ e f m k i.
            elim (Contains-append_cases es fs e m) [
              | inl a ↦
                  elim (Contains-append_cases es fs f k) [
                    | inl b ↦ d.one e f a b i
                    | inr b ↦ let up = d.below e a in let down = c.from f b in absurd (omega (arith, up, down, i))
                  ]
              | inr a ↦
                  elim (Contains-append_cases es fs f k) [
                    | inl b ↦ let up = d.below f b in let down = c.from e a in absurd (omega (arith, up, down, i))
                    | inr b ↦ c.one e f a b i
                  ]
            ];
        cases = λ t m.
            elim (Contains-append_cases ts us t m) [
              | inl a ↦ elim (d.cases t a) [ inl o ↦ inl (Contains-append_left own more t o) | inr k ↦ inr (wider_entry es (es ++ fs) t left k) ]
              | inr b ↦ elim (c.cases t b) [ inl o ↦ inl (Contains-append_right own more t o) | inr k ↦ inr (wider_entry fs (es ++ fs) t right k) ]
            ];
        other = λ t m.
            elim (Contains-append_cases own more t m) [
              | inl a ↦ Contains-append_left ts us t (d.other t a)
              | inr b ↦ Contains-append_right ts us t (c.other t b)
            ];
        there = λ e t m k.
            elim (Contains-append_cases es fs e m) [
              | inl a ↦ Contains-append_left ts us t (d.there e t a k)
              | inr b ↦ Contains-append_right ts us t (c.there e t b k)
            ];
        root = λ e m. elim (Contains-append_cases roots others e m) [ inl a ↦ left e (d.root e a) | inr b ↦ right e (c.root e b) ];
        parent = λ e m.
            elim (Contains-append_cases es fs e m) [
              | inl a ↦ elim (d.parent e a) [ inl r ↦ inl (Contains-append_left roots others e r) | inr k ↦ inr (wider_below es (es ++ fs) e left k) ]
              | inr b ↦ elim (c.parent e b) [ inl r ↦ inl (Contains-append_right roots others e r) | inr k ↦ inr (wider_below fs (es ++ fs) e right k) ]
            ];
        inner = λ e f m k.
            elim (Contains-append_cases es fs e m) [
              | inl a ↦ left f (d.inner e f a k)
              | inr b ↦ right f (c.inner e f b k)
            ];
      }

  moved : (low a b : ℕ) (own : List Triple) (roots es : List Entry) (ts : List Triple) → a ≡ b → AreDrawn name low a own roots es ts → AreDrawn name low b own roots es ts
  moved low a b own roots es ts e d = subst (λ k. AreDrawn name low k own roots es ts) e d

  -- those of annotations, if there are some
  drawn_some : (ns : Notes) (n k : ℕ) (roots es : List Entry) (ts : List Triple) → AreDrawn name n (n + k) [] roots es ts → AreDrawn name n (n + where_some ns 0 k) [] (where_some ns [] roots) (where_some ns [] es) (where_some ns [] ts)
  drawn_some (note p v inside more) n k roots es ts d = d
  drawn_some no_notes n k roots es ts d = moved n n (n + 0) [] [] [] [] (omega arith) (drawn_plain n [])

  pub reified_drawn : (w : Word) (t : Triple) (ns : Notes) (n : ℕ) → AreDrawn name (suc n) (suc n + note_nodes ns) (note_links (blank name n) ns) (note_roots (blank name n) ns (suc n)) (note_entries name (blank name n) ns (suc n)) (note_triples name (blank name n) ns (suc n)) → AreDrawn name n (n + reified_nodes ns) [] (reified_roots w t ns n) (reified_entries name w t ns n) (reified name w t ns n)
  reified_drawn w t ns n d =
      let es = note_entries name (blank name n) ns (suc n) in
      let ts = note_triples name (blank name n) ns (suc n) in
      let e = entry n w t ns in
      drawn_some ns n (suc (note_nodes ns)) (e ∷ []) (e ∷ es) (reifying w (blank name n) t ++ ts)
      (moved n (suc n + note_nodes ns) (n + suc (note_nodes ns)) [] (e ∷ []) (e ∷ es) (reifying w (blank name n) t ++ ts) (omega arith)
      (drawn_entry e (suc n + note_nodes ns) es ts (omega arith) d))

  -- what is drawn of the annotations of a node
  pub notes_drawn : (x : Term) (ns : Notes) (n : ℕ) → AreDrawn name n (n + note_nodes ns) (note_links x ns) (note_roots x ns n) (note_entries name x ns n) (note_triples name x ns n)
  notes_drawn x no_notes n = moved n n (n + 0) [] [] [] [] (omega arith) (drawn_plain n [])
  notes_drawn x (note p v inside more) n =
      let mid = n + reified_nodes inside in
      let high = mid + note_nodes more in
      let t = link x p v in
      let roots = reified_roots word.Annotation t inside n in
      let es = reified_entries name word.Annotation t inside n in
      let ts = reified name word.Annotation t inside n in
      let others = note_roots x more mid in
      let fs = note_entries name x more mid in
      let us = note_triples name x more mid in
      let own = note_links x more in
      moved n high (n + note_nodes (note p v inside more)) (t ∷ own) (roots ++ others) (es ++ fs) (t ∷ (ts ++ us)) (omega arith)
      (drawn_both n n high (t ∷ []) own [] (roots ++ others) [] (es ++ fs) (t ∷ []) (ts ++ us) (omega arith) (omega arith)
      (drawn_plain n (t ∷ []))
      (drawn_both n mid high [] own roots others es fs ts us (omega arith) (omega arith)
      (reified_drawn word.Annotation t inside n (notes_drawn (blank name n) inside (suc n))) (notes_drawn x more mid)))

  -- and of a triple with each set of its annotations
  pub sets_drawn : (t : Triple) (sets : List Notes) (n : ℕ) → AreDrawn name n (n + set_nodes sets) [] (set_roots t sets n) (set_entries name t sets n) (set_triples name t sets n)
  sets_drawn t [] n = moved n n (n + 0) [] [] [] [] (omega arith) (drawn_plain n [])
  sets_drawn t (ns ∷ sets) n =
      let mid = n + reified_nodes ns in
      let high = mid + set_nodes sets in
      let roots = reified_roots word.Axiom t ns n in
      let es = reified_entries name word.Axiom t ns n in
      let ts = reified name word.Axiom t ns n in
      let others = set_roots t sets mid in
      let fs = set_entries name t sets mid in
      let us = set_triples name t sets mid in
      moved n high (n + set_nodes (ns ∷ sets)) [] (roots ++ others) (es ++ fs) (ts ++ us) (omega arith)
      (drawn_both n mid high [] [] roots others es fs ts us (omega arith) (omega arith)
      (reified_drawn word.Axiom t ns n (notes_drawn (blank name n) ns (suc n))) (sets_drawn t sets mid))

-- The node of an entry has exactly the entry's own triples, in a graph that keeps what was drawn, where the others are not of such nodes.
module _ (name : ℕ → List ℕ) (most : ℕ) (differ : AreNamedApart name most) (Cares : Triple → Type 0) (g : List Triple) where
  pub entries_own : (low high : ℕ) (others : List Triple) (roots es : List Entry) (ts : List Triple) → high ≤ most → AreDrawn name low high others roots es ts → Keeps name Cares g ts low high → ((e : Entry) (t : Triple) → Contains es e → Contains others t → t.subject ≡ entry_node name e → ⊥) → (e : Entry) → Contains es e → IsOwn Cares g (entry_node name e) (entry_triples name e)
  entries_own low high others roots es ts few d k aside e m =
      record {
        there = λ t i. k.there t (d.there e t m i);
        subject = λ t i. entry_subjects name e t i;
        back = λ t i c j.
            let lies : Lies name low high t.subject = record { number = e.number; from = d.from e m; below = d.below e m; is = i } in
            elim (d.cases t (k.back t lies c j)) [
              | inl o ↦ absurd (aside e t m o i)
              | inr of ↦
                  let up = d.below e m in
                  let below = d.below of.entry of.among in
                  let same = same_label (name of.entry.number) (name e.number) (sym (entry_subjects name of.entry t of.inside) ∙ i) in
                  let number = differ of.entry.number e.number (omega (arith, below, few)) (omega (arith, up, few)) same in
                  subst (λ (f : Entry). Contains (entry_triples name f) t) (d.one of.entry e of.among m number) of.inside
            ];
      }
