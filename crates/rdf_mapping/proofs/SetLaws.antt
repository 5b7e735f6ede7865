-- The sets of annotations of an axiom that is a triple are read back, and what is drawn is said.
use Rattle.std.proofs.Common.{◌≡◌, ◌+◌, ◌⊎◌, ℕ, suc, true, false, List, [], ◌∷◌, inl, inr, refl, sym, ap, ◌∙◌, subst}
use Rattle.std.specs.Prelude.{Contains}
use Rattle.std.proofs.lemmas.Bool.{both_ways}
use Rattle.std.proofs.lemmas.List.Elements.{Contains-append_cases, Contains-append_left, Contains-append_right}
use Rattle.owl_list.specs.Ascending.{AreApart}
use Rattle.owl_list.proofs.AscendingLaws.{from_map, in_cases, in_head, in_map, in_none, in_tail}
use Rattle.owl_kind.specs.Kinds.{Entity}
use Rattle.owl_tree.specs.Equivalence.{IsEquivalent}
use Rattle.owl_tree.proofs.EquivalenceLaws.{equivalent_is_equal_form}
use Rattle.owl_tree.specs.Ontologies.{HoldEquivalent}
use Rattle.owl_tree.specs.Trees.{Tree}
use Rattle.rdf_graph.specs.declared.term.Term.{Term}
use Rattle.rdf_graph.specs.declared.triple.Triple.{Triple}
use Rattle.rdf_meaning.specs.declared.word.Word.{Word}
use Rattle.rdf_meaning.specs.declared.word.Word.TheVariants as word
use Rattle.rdf_meaning.specs.Statements.{notes}
use Rattle.rdf_mapping.specs.Forms.{blank, link}
use Rattle.rdf_mapping.specs.Notes.{Notes, no_notes, note, reified_nodes, where_some}
use Rattle.rdf_mapping.specs.Entries.{AreAllBeside, AreBeside, AreEntries, Entry, IsSaid, entry, note_entries, reified_entries, reified_roots, set_entries, set_roots}
use Rattle.rdf_mapping.specs.NoteTrees.{AreNotes, none, one, AreAllNotes, no_sets, a_set, AreSettled, AreVariants, EachSettled}
use Rattle.rdf_mapping.proofs.NoteTreeLaws.{empty_notes, entry_read}
use Rattle.rdf_mapping.specs.VariantLaws.{AreOwnSets, HasEntry, IsSetOfEntry, own_variants, same_notes, variants_back, variants_there}

-- what is drawn is said, where no predicate of an annotation makes a node what it is

pub all_beside : (ns : Notes) → AreAllBeside ns → AreBeside ns
all_beside no_notes b = tt
all_beside (note p v inside more) b = (b.0, all_beside more b.1.1)

some_said : (w : Word) (t : Triple) (ns : Notes) (n : ℕ) (es : List Entry) (e : Entry) → (w ≡ word.Axiom) ⊎ (w ≡ word.Annotation) → AreAllBeside ns → ((f : Entry) → Contains es f → IsSaid f) → Contains (where_some ns [] (entry n w t ns ∷ es)) e → IsSaid e
some_said w t no_notes n es e is b rest m = absurd (in_none e m)
some_said w t (note p v inside more) n es e is b rest m =
    let first = entry n w t (note p v inside more) in
    elim (in_cases first es e m) [
      | inl s ↦ subst IsSaid s (record { word = is; beside = all_beside (note p v inside more) b; some = refl })
      | inr k ↦ rest e k
    ]

pub notes_said : (name : ℕ → List ℕ) (x : Term) (ns : Notes) (n : ℕ) → AreAllBeside ns → (e : Entry) → Contains (note_entries name x ns n) e → IsSaid e
notes_said name x no_notes n b e m = absurd (in_none e m)
notes_said name x (note p v inside more) n b e m =
    let below = note_entries name (blank name n) inside (suc n) in
    let first = where_some inside [] (entry n word.Annotation (link x p v) inside ∷ below) in
    elim (Contains-append_cases first (note_entries name x more (n + reified_nodes inside)) e m) [
      | inl k ↦ some_said word.Annotation (link x p v) inside n below e (inr refl) b.1.0 (notes_said name (blank name n) inside (suc n) b.1.0) k
      | inr k ↦ notes_said name x more (n + reified_nodes inside) b.1.1 e k
    ]

pub sets_said : (name : ℕ → List ℕ) (t : Triple) (nss : List Notes) (n : ℕ) → ((ns : Notes) → Contains nss ns → AreAllBeside ns) → (e : Entry) → Contains (set_entries name t nss n) e → IsSaid e
sets_said name t [] n b e m = absurd (in_none e m)
sets_said name t (ns ∷ nss) n b e m =
    let below = note_entries name (blank name n) ns (suc n) in
    let beside = b ns (in_head ns nss) in
    elim (Contains-append_cases (reified_entries name word.Axiom t ns n) (set_entries name t nss (n + reified_nodes ns)) e m) [
      | inl k ↦ some_said word.Axiom t ns n below e (inl refl) beside (notes_said name (blank name n) ns (suc n) beside) k
      | inr k ↦ sets_said name t nss (n + reified_nodes ns) (λ ms i. b ms (in_tail ns nss ms i)) e k
    ]

-- The sets of a triple.
module _ (name : ℕ → List ℕ) (g : List Triple) (apart : AreApart g) (es : List Entry) (are : AreEntries name g es) (k : List Entity) (t : Triple) where
  record SetHead (ts : List Tree) (ns : Notes) (n : ℕ) : Type 0 where
    pub each : (ts ≡ []) ⊎ HasEntry name g k es t ts
    pub roots : (f : Entry) → Contains (reified_roots word.Axiom t ns n) f → IsSetOfEntry name g k es t ts f × (f.notes ≡ ns)

  set_head : (ts : List Tree) (ns : Notes) → AreNotes g k ts ns → AreSettled ns → EachSettled ns → (n : ℕ) → ((f : Entry) → Contains (reified_roots word.Axiom t ns n) f → Contains es f) → SetHead ts ns n
  set_head _ _ (none) s each n h = record { each = inl refl; roots = λ f m. absurd (in_none f m) }
  set_head ts ns (one p v property value us vs inside more a b d c) s each n h =
      let e = entry n word.Axiom t ns in
      let i = h e (in_head e []) in
      let has : IsSetOfEntry name g k es t ts e = record { among = i; triple = refl; read = entry_read name g apart es are k e i ts (one p v property value us vs inside more a b d c) s each } in
      record {
        each = inr (record { entry = e; of_entry = has });
        roots = λ f m. elim (in_cases e [] f m) [ inl j ↦ subst (λ (x : Entry). IsSetOfEntry name g k es t ts x × (x.notes ≡ ns)) j (has, refl) | inr o ↦ absurd (in_none f o) ];
      }

  record SetOfRoot (tss : List (List Tree)) (nss : List Notes) (f : Entry) : Type 0 where
    pub trees : List Tree
    pub among : Contains tss trees
    pub of_entry : IsSetOfEntry name g k es t trees f
    pub notes : Contains nss f.notes

  record SetMembers (tss : List (List Tree)) (nss : List Notes) (n : ℕ) : Type 0 where
    pub each : (ts : List Tree) → Contains tss ts → (ts ≡ []) ⊎ HasEntry name g k es t ts
    pub roots : (f : Entry) → Contains (set_roots t nss n) f → SetOfRoot tss nss f
    pub bare : Contains tss [] → Contains nss no_notes

  set_members : (tss : List (List Tree)) (nss : List Notes) → AreAllNotes g k tss nss → (n : ℕ) → ((f : Entry) → Contains (set_roots t nss n) f → Contains es f) → SetMembers tss nss n
  set_members _ _ (no_sets) n h = record { each = λ ts m. absurd (in_none ts m); roots = λ f m. absurd (in_none f m); bare = λ m. absurd (in_none [] m) }
  set_members _ _ (a_set ts ns tss nss d s each more) n h =
      let first = reified_roots word.Axiom t ns n in
      let others = set_roots t nss (n + reified_nodes ns) in
      let head = set_head ts ns d s each n (λ f m. h f (Contains-append_left first others f m)) in
      let rest = set_members tss nss more (n + reified_nodes ns) (λ f m. h f (Contains-append_right first others f m)) in
      record {
        each = λ us m. elim (in_cases ts tss us m) [ inl e ↦ subst (λ (vs : List Tree). (vs ≡ []) ⊎ HasEntry name g k es t vs) e head.each | inr i ↦ rest.each us i ];
        roots = λ f m.
            elim (Contains-append_cases first others f m) [
              | inl i ↦
                  let r = head.roots f i in
                  record { trees = ts; among = in_head ts tss; of_entry = r.0; notes = subst (λ (ms : Notes). Contains (ns ∷ nss) ms) (sym r.1) (in_head ns nss) }
              | inr i ↦
                  let r = rest.roots f i in
                  record { trees = r.trees; among = in_tail ts tss r.trees r.among; of_entry = r.of_entry; notes = in_tail ns nss f.notes r.notes }
            ];
        bare = λ m.
            elim (in_cases ts tss [] m) [
              | inl e ↦ subst (λ (ms : Notes). Contains (ns ∷ nss) ms) (empty_notes g k ts ns d e) (in_head ns nss)
              | inr i ↦ in_tail ns nss no_notes (rest.bare i)
            ];
      }

  own_of_sets : (tss : List (List Tree)) (nss : List Notes) (n : ℕ) → SetMembers tss nss n → (Contains nss no_notes → (ns : Notes) → Contains nss ns → ns ≡ no_notes) → ((f : Entry) → Contains es f → f.triple ≡ t → Contains (set_roots t nss n) f) → (ts : List Tree) → Contains tss ts → AreOwnSets name g k es t (λ us. Contains tss us)
  own_of_sets tss nss n ms settled all ts m =
      record {
        each = ms.each;
        entries = λ e i j. let r = ms.roots e (all e i j) in (r.trees, r.among, r.of_entry);
        settled = λ b e i j.
            let r = ms.roots e (all e i j) in
            let none = settled (ms.bare b) e.notes r.notes in
            both_ways false refl (sym (ap (λ (ns : Notes). where_some ns false true) none) ∙ (are.said e i).some);
        some = (ts, m);
      }

  same_set : (ts us : List Tree) → HoldEquivalent ts us → IsEquivalent (notes ts) (notes us)
  same_set ts us h = (equivalent_is_equal_form (notes ts) (notes us)).1 (same_notes ts us h)

  -- The triple has variants, and these are the sets.
  pub sets_read : (tss : List (List Tree)) (nss : List Notes) (n : ℕ) → AreAllNotes g k tss nss → (Contains nss no_notes → (ns : Notes) → Contains nss ns → ns ≡ no_notes) → ((f : Entry) → Contains (set_roots t nss n) f → Contains es f) → ((f : Entry) → Contains es f → f.triple ≡ t → Contains (set_roots t nss n) f) → (ts : List Tree) → Contains tss ts → AreVariants g k t tss
  sets_read tss nss n d settled inside all ts m =
      let own = own_of_sets tss nss n (set_members tss nss d n inside) settled all ts m in
      let v = own_variants name g apart es are k t (λ us. Contains tss us) own in
      record {
        sets = v.0;
        variants = v.1;
        same = record {
          there = λ s i.
              let c = from_map notes tss s i in
              let r = variants_there name g apart es are k t (λ us. Contains tss us) own v.0 v.1 c.element c.inside in
              (notes r.0, r.1, subst (λ (b : Tree). IsEquivalent b (notes r.0)) c.value (same_set c.element r.0 r.2));
          back = λ s i.
              let o = variants_back name g apart es are k t (λ us. Contains tss us) own v.0 v.1 s i in
              let turned : HoldEquivalent o.others o.trees = record { there = o.same.back; back = o.same.there } in
              (notes o.trees, in_map notes tss o.trees o.own, subst (λ (b : Tree). IsEquivalent b (notes o.trees)) (sym o.is) (same_set o.others o.trees turned));
        };
      }
