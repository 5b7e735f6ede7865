-- What is drawn beside the entries of a graph is of no node of an entry.
use Rattle.std.proofs.Common.{◌≡◌, ◌≤◌, ◌<◌, ◌+◌, ◌⊎◌, ℕ, suc, List, [], ◌∷◌, ◌++◌, inl, inr, refl, sym, ap, subst, arith}
use Rattle.std.specs.Prelude.{Contains}
use Rattle.std.proofs.lemmas.List.Elements.{Contains-append_cases}
use Rattle.owl_list.proofs.AscendingLaws.{in_none}
use Rattle.rdf_graph.specs.declared.term.Term.{Term}
use Rattle.rdf_graph.specs.declared.triple.Triple.{Triple}
use Rattle.rdf_meaning.specs.declared.word.Word.TheVariants as word
use Rattle.rdf_mapping.specs.Forms.{made, Arcs, arc_nodes, blank, link, nodes, term_of, triples}
use Rattle.rdf_mapping.specs.Drawing.{Statement, linked, linked_back, looped, standing, unsaid}
use Rattle.rdf_mapping.specs.FormLaws.{lie, subjects, wider}
use Rattle.rdf_mapping.specs.Frames.{IsForeign, Lies}
use Rattle.rdf_mapping.specs.Notes.{Notes, note_nodes, reified_nodes}
use Rattle.rdf_mapping.specs.Graphs.{Group, main_triple, set_nodes, standing_nodes, statement_nodes}
use Rattle.rdf_mapping.specs.Entries.{Entry, entry, note_entries, note_links, note_roots, reified_roots, set_entries, set_roots}
use Rattle.rdf_mapping.specs.EntryLaws.{link_subjects, notes_drawn, sets_drawn}
use Rattle.rdf_mapping.specs.NoterLaws.{root_subjects, some_root}
use Rattle.rdf_mapping.specs.GraphEntries.{group_entries, group_others, group_roots, standing_entries, standing_others, standing_roots, statement_entries, statement_others, statement_roots}
use Rattle.rdf_mapping.specs.GroupFrames.{AreStatedApart, StatesApart, group_nodes}
use Rattle.rdf_mapping.proofs.GroupFrameLaws.{main_cases, starts, two_forms}
use Rattle.rdf_mapping.proofs.GraphEntryLaws.{groups_drawn, standing_drawn, statement_drawn}
use Rattle.rdf_mapping.specs.Asides.{AreAside, IsBesideEntries, IsNoEntryNode}

module _ (name : ℕ → List ℕ) (most : ℕ) where
  -- nodes in front of all entries are of none
  none_before : (low mid high : ℕ) (es : List Entry) (x : Term) → mid ≤ high → ((e : Entry) → Contains es e → mid ≤ e.number) → Lies name low mid x → IsNoEntryNode name most low high es x
  none_before low mid high es x h from l = record {
    number = l.number;
    from = l.from;
    below = let up = l.below in omega (arith, h, up);
    is = l.is;
    none = λ e m i. let up = l.below in let down = from e m in omega (arith, up, down, i);
  }

  none_left : (low mid high : ℕ) (es fs : List Entry) (x : Term) → mid ≤ high → ((e : Entry) → Contains fs e → mid ≤ e.number) → IsNoEntryNode name most low mid es x → IsNoEntryNode name most low high (es ++ fs) x
  none_left low mid high es fs x h from l = record {
    number = l.number;
    from = l.from;
    below = let up = l.below in omega (arith, h, up);
    is = l.is;
    none = λ e m i. elim (Contains-append_cases es fs e m) [ inl a ↦ l.none e a i | inr b ↦ let up = l.below in let down = from e b in omega (arith, up, down, i) ];
  }

  none_right : (low mid high : ℕ) (es fs : List Entry) (x : Term) → low ≤ mid → ((e : Entry) → Contains es e → e.number < mid) → IsNoEntryNode name most mid high fs x → IsNoEntryNode name most low high (es ++ fs) x
  none_right low mid high es fs x h below l = record {
    number = l.number;
    from = let up = l.from in omega (arith, h, up);
    below = l.below;
    is = l.is;
    none = λ e m i. elim (Contains-append_cases es fs e m) [ inl a ↦ let up = l.from in let down = below e a in omega (arith, up, down, i) | inr b ↦ l.none e b i ];
  }

  aside_both : (low mid high : ℕ) (own more : List Triple) (roots others es fs : List Entry) → low ≤ mid → mid ≤ high → ((e : Entry) → Contains es e → e.number < mid) → ((e : Entry) → Contains fs e → mid ≤ e.number) → AreAside name most low mid own roots es → AreAside name most mid high more others fs → AreAside name most low high (own ++ more) (roots ++ others) (es ++ fs)
  aside_both low mid high own more roots others es fs l h below from a b =
      let left : (x : Term) → IsBesideEntries name most low mid es x → IsBesideEntries name most low high (es ++ fs) x = λ x o. elim o [ inl i ↦ inl i | inr i ↦ inr (none_left low mid high es fs x h from i) ] in
      let right : (x : Term) → IsBesideEntries name most mid high fs x → IsBesideEntries name most low high (es ++ fs) x = λ x o. elim o [ inl i ↦ inl i | inr i ↦ inr (none_right low mid high es fs x l below i) ] in
      record {
        other = λ t m. elim (Contains-append_cases own more t m) [ inl i ↦ left t.subject (a.other t i) | inr i ↦ right t.subject (b.other t i) ];
        root = λ f m. elim (Contains-append_cases roots others f m) [ inl i ↦ left f.triple.subject (a.root f i) | inr i ↦ right f.triple.subject (b.root f i) ];
      }

  -- the triples of a link

  pub set_root_triples : (t : Triple) (sets : List Notes) (n : ℕ) (f : Entry) → Contains (set_roots t sets n) f → t ≡ f.triple
  set_root_triples t [] n f m = absurd (in_none f m)
  set_root_triples t (ns ∷ sets) n f m =
      elim (Contains-append_cases (reified_roots word.Axiom t ns n) (set_roots t sets (n + reified_nodes ns)) f m) [
        | inl a ↦ ap (λ (e : Entry). e.triple) (some_root ns (entry n word.Axiom t ns) f a)
        | inr b ↦ set_root_triples t sets (n + reified_nodes ns) f b
      ]

  main_subjects : (s : Term) (p : List ℕ) (o : Term) (ends : List Triple) (t : Triple) → Contains (ends ++ main_triple name s p o []) t → (t.subject ≡ s) ⊎ Contains ends t
  main_subjects s p o ends t m =
      elim (Contains-append_cases ends (main_triple name s p o []) t m) [
        | inl a ↦ inr a
        | inr b ↦ elim (main_cases name most s p o [] t b) [ inl e ↦ inl e | inr z ↦ absurd (in_none t z) ]
      ]

  link_aside : (n k : ℕ) (s : Term) (p : List ℕ) (o : Term) (ends : List Triple) (sets : List Notes) → Lies name n (n + k) s ⊎ IsForeign name most s → ((t : Triple) → Contains ends t → Lies name n (n + k) t.subject) → AreAside name most n (n + (k + set_nodes sets)) (ends ++ main_triple name s p o []) (set_roots (link s p o) sets (n + k)) (set_entries name (link s p o) sets (n + k))
  link_aside n k s p o ends sets end within =
      let es = set_entries name (link s p o) sets (n + k) in
      let high = n + (k + set_nodes sets) in
      let d = sets_drawn name (link s p o) sets (n + k) in
      let none : (x : Term) → Lies name n (n + k) x → IsNoEntryNode name most n high es x = λ x l. none_before n (n + k) high es x (omega arith) d.from l in
      let at : (x : Term) → s ≡ x → IsBesideEntries name most n high es x = λ x e. subst (λ (y : Term). IsBesideEntries name most n high es y) e (elim end [ inl l ↦ inr (none s l) | inr i ↦ inl i ]) in
      record {
        other = λ t m. elim (main_subjects s p o ends t m) [ inl e ↦ at t.subject (sym e) | inr i ↦ inr (none t.subject (within t i)) ];
        root = λ f m. at f.triple.subject (ap (λ (u : Triple). u.subject) (set_root_triples (link s p o) sets (n + k) f m));
      }

  -- and of nodes that stand for axioms
  standing_aside : (arcs : Arcs) (sets : List Notes) (n : ℕ) → AreAside name most n (n + standing_nodes arcs sets) (standing_others name arcs sets n) (standing_roots name arcs sets n) (standing_entries name arcs sets n)
  standing_aside arcs [] n = record { other = λ t m. absurd (in_none t m); root = λ f m. absurd (in_none f m) }
  standing_aside arcs (ns ∷ sets) n =
      let x = blank name n in
      let a = n + suc (arc_nodes arcs) in
      let b = n + (suc (arc_nodes arcs) + note_nodes ns) in
      let high = n + standing_nodes arcs (ns ∷ sets) in
      let es = note_entries name x ns a in
      let fs = standing_entries name arcs sets b in
      let rest = standing_aside arcs sets b in
      let first = notes_drawn name x ns a in
      let more = standing_drawn name arcs sets b in
      let from : (e : Entry) → Contains (es ++ fs) e → a ≤ e.number = λ e m. elim (Contains-append_cases es fs e m) [ inl i ↦ first.from e i | inr i ↦ let up = more.from e i in omega (arith, up) ] in
      let node : (y : Term) → Lies name n a y → IsNoEntryNode name most n high (es ++ fs) y = λ y l. none_before n a high (es ++ fs) y (omega arith) from l in
      let at : (y : Term) → y ≡ x → IsNoEntryNode name most n high (es ++ fs) y = λ y e. node y (lie name n n a y (omega arith) (omega arith) e) in
      let wide : (y : Term) → IsNoEntryNode name most b (b + standing_nodes arcs sets) fs y → IsNoEntryNode name most b high fs y = λ y l. record { number = l.number; from = l.from; below = let up = l.below in omega (arith, up); is = l.is; none = l.none } in
      let later : (y : Term) → IsBesideEntries name most b (b + standing_nodes arcs sets) fs y → IsBesideEntries name most n high (es ++ fs) y = λ y o. elim o [ inl i ↦ inl i | inr i ↦ inr (none_right n b high es fs y (omega arith) (λ e m. let up = first.below e m in omega (arith, up)) (wide y i)) ] in
      record {
        other = λ t m.
            elim (Contains-append_cases (triples name (made arcs) n) (note_links x ns ++ standing_others name arcs sets b) t m) [
              | inl i ↦ inr (node t.subject (wider name n (n + nodes (made arcs)) n a t.subject (omega arith) (omega arith) (subjects name (made arcs) n t i)))
              | inr i ↦
                  elim (Contains-append_cases (note_links x ns) (standing_others name arcs sets b) t i) [
                    | inl j ↦ inr (at t.subject (link_subjects x ns t j))
                    | inr j ↦ later t.subject (rest.other t j)
                  ]
            ];
        root = λ f m.
            elim (Contains-append_cases (note_roots x ns a) (standing_roots name arcs sets b) f m) [
              | inl i ↦ inr (at f.triple.subject (root_subjects x ns a f i))
              | inr i ↦ later f.triple.subject (rest.root f i)
            ];
      }

  pub statement_aside : (s : Statement) (sets : List Notes) (n : ℕ) → StatesApart name most s → AreAside name most n (n + statement_nodes s sets) (statement_others name s sets n) (statement_roots name s sets n) (statement_entries name s sets n)
  statement_aside (linked f p g) sets n h =
      link_aside n (nodes f + nodes g) (term_of name f n) p (term_of name g (n + nodes f)) (triples name f n ++ triples name g (n + nodes f)) sets
      (starts name most f n n (n + (nodes f + nodes g)) h (omega arith) (omega arith)) (λ t m. two_forms name most f g n (n + (nodes f + nodes g)) t refl m)
  statement_aside (linked_back f p g) sets n h =
      link_aside n (nodes f + nodes g) (term_of name g (n + nodes f)) p (term_of name f n) (triples name f n ++ triples name g (n + nodes f)) sets
      (starts name most g (n + nodes f) n (n + (nodes f + nodes g)) h (omega arith) (omega arith)) (λ t m. two_forms name most f g n (n + (nodes f + nodes g)) t refl m)
  statement_aside (looped p f) sets n h = link_aside n (nodes f) (term_of name f n) p (term_of name f n) (triples name f n) sets (starts name most f n n (n + nodes f) h (omega arith) (omega arith)) (subjects name f n)
  statement_aside (standing arcs) sets n h = standing_aside arcs sets n
  statement_aside unsaid sets n h = record { other = λ t m. absurd (in_none t m); root = λ f m. absurd (in_none f m) }

  pub groups_aside : (gs : List Group) (n : ℕ) → AreStatedApart name most gs → AreAside name most n (n + group_nodes gs) (group_others name gs n) (group_roots name gs n) (group_entries name gs n)
  groups_aside [] n h = record { other = λ t m. absurd (in_none t m); root = λ f m. absurd (in_none f m) }
  groups_aside (g ∷ gs) n h =
      let s = g.statement in
      let mid = n + statement_nodes s g.sets in
      let own = statement_others name s g.sets n ++ group_others name gs mid in
      let roots = statement_roots name s g.sets n ++ group_roots name gs mid in
      let es = statement_entries name s g.sets n ++ group_entries name gs mid in
      let same : mid + group_nodes gs ≡ n + group_nodes (g ∷ gs) = omega arith in
      let first = statement_drawn name s g.sets n in
      let rest = groups_drawn name gs mid in
      subst (λ k. AreAside name most n k own roots es) same
      (aside_both n mid (mid + group_nodes gs) (statement_others name s g.sets n) (group_others name gs mid) (statement_roots name s g.sets n) (group_roots name gs mid) (statement_entries name s g.sets n) (group_entries name gs mid) (omega arith) (omega arith) first.below rest.from (statement_aside s g.sets n h.0) (groups_aside gs mid h.1))
