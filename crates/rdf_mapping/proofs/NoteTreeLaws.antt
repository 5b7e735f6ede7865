-- Annotations that are drawn are read back.
use Rattle.std.proofs.Common.{◌≡◌, ◌+◌, ◌⊎◌, ℕ, suc, true, false, List, [], ◌∷◌, inl, inr, refl, sym, ap, ◌∙◌, subst}
use Rattle.std.specs.Prelude.{Contains, Some, map}
use Rattle.std.proofs.lemmas.Bool.{both_ways}
use Rattle.std.proofs.lemmas.List.Elements.{Contains-append_cases, Contains-append_left, Contains-append_right}
use Rattle.std.proofs.lemmas.Option.{same_Some}
use Rattle.owl_list.specs.Ascending.{AreApart, HoldSame}
use Rattle.owl_list.proofs.AscendingLaws.{from_map, in_cases, in_head, in_map, in_none, in_tail}
use Rattle.owl_kind.specs.Kinds.{Entity}
use Rattle.owl_tree.specs.declared.row.Sort.TheVariants as sort
use Rattle.owl_tree.specs.Equivalence.{IsEquivalent}
use Rattle.owl_tree.specs.Ontologies.{HoldEquivalent}
use Rattle.owl_tree.specs.declared.atom.Atom.TheVariants as atom
use Rattle.owl_tree.specs.declared.tag.Tag.TheVariants as tag
use Rattle.owl_tree.proofs.TreeLaws.{kids_of_list_of}
use Rattle.owl_tree.specs.Trees.{Tree, Kids, leaf, node, no_kids, kid, list_of}
use Rattle.rdf_mapping.specs.Drawing.{atom_term}
use Rattle.rdf_graph.specs.declared.term.Term.{Term}
use Rattle.rdf_graph.specs.declared.term.Term.TheVariants.{Iri}
use Rattle.rdf_graph.specs.declared.triple.Triple.{Triple}
use Rattle.rdf_meaning.specs.declared.word.Word.TheVariants as word
use Rattle.rdf_meaning.proofs.AxiomLaws.{notes_of_triples, triples_have_notes}
use Rattle.rdf_meaning.specs.Denotation.{simple}
use Rattle.rdf_meaning.specs.Statements.{Annotates, HasNote, notes, notes_of}
use Rattle.rdf_mapping.specs.Forms.{blank, link}
use Rattle.rdf_mapping.specs.Notes.{Notes, no_notes, note, notes_in, reified_nodes, where_some}
use Rattle.rdf_mapping.specs.Entries.{AreEntries, Entry, entry, entry_node, note_links, note_roots}
use Rattle.rdf_mapping.specs.EntryLaws.{link_subjects}
use Rattle.rdf_mapping.specs.NoteLaws.{notes_entry}
use Rattle.rdf_mapping.specs.NoteTrees.{AreNotes, none, one, AreReadable, no_annotation, an_annotation, AreReadAs, AreSettled, EachSettled, IsAmong, here, later, annotation}
use Rattle.rdf_mapping.specs.VariantLaws.{AreOwnSets, IsSetOfEntry, own_variants, same_annotation, variants_back, variants_there}

pub empty_notes : (g : List Triple) (k : List Entity) (ts : List Tree) (ns : Notes) → AreNotes g k ts ns → ts ≡ [] → ns ≡ no_notes
empty_notes g k _ _ (none) e = refl
empty_notes g k _ _ (one p v property value ts us inside more a b d c) e = absurd (in_none (annotation property value (notes ts)) (subst (λ (vs : List Tree). Contains vs (annotation property value (notes ts))) e (in_head (annotation property value (notes ts)) us)))

module _ (name : ℕ → List ℕ) (g : List Triple) (k : List Entity) (es : List Entry) where
  -- the annotations of its own are read back from the node of an entry
  record HasNotes (t : Triple) (ts : List Tree) (inside : Notes) (e : Entry) : Type 0 where
    pub of_entry : IsSetOfEntry name g k es t ts e
    pub notes : e.notes ≡ inside

  record HasSome (t : Triple) (ts : List Tree) (inside : Notes) : Type 0 where
    pub entry : Entry
    pub has : HasNotes t ts inside entry

  record OwnAt (t : Triple) (ts : List Tree) (inside : Notes) (n : ℕ) : Type 0 where
    pub own : (ts ≡ []) ⊎ HasSome t ts inside
    pub roots : (f : Entry) → Contains (where_some inside [] (entry n word.Annotation t inside ∷ [])) f → HasNotes t ts inside f

  -- an annotation of a node, as a tree and as it is drawn
  record Member (x : Term) : Type 0 where
    pub property : List ℕ
    pub value : Term
    pub p : Tree
    pub v : Tree
    pub trees : List Tree
    pub inside : Notes
    pub is_property : simple g k sort.AnnotationProperty (Iri property) ≡ Some p
    pub is_value : simple g k sort.AnnotationValue value ≡ Some v
    pub empty : trees ≡ [] → inside ≡ no_notes
    pub own : (trees ≡ []) ⊎ HasSome (link x property value) trees inside

  abbrev member_tree : (x : Term) → Member x → Tree
  member_tree x m = annotation m.p m.v (notes m.trees)

  abbrev member_link : (x : Term) → Member x → Triple
  member_link x m = link x m.property m.value

  record IsRootOf (x : Term) (ms : List (Member x)) (f : Entry) : Type 0 where
    pub member : Member x
    pub inside : Contains ms member
    pub has : HasNotes (member_link x member) member.trees member.inside f

  record Members (x : Term) (ts : List Tree) (ns : Notes) (n : ℕ) : Type 0 where
    pub list : List (Member x)
    pub trees : map (member_tree x) list ≡ ts
    pub links : map (member_link x) list ≡ note_links x ns
    pub roots : (f : Entry) → Contains (note_roots x ns n) f → IsRootOf x list f
    pub among : (m : Member x) → Contains list m → IsAmong m.property m.value m.inside ns

  record IsOwnOf (x : Term) (ms : List (Member x)) (t : Triple) (ts : List Tree) : Type 0 where
    pub member : Member x
    pub inside : Contains ms member
    pub link : member_link x member ≡ t
    pub trees : member.trees ≡ ts

  property_at : (x : Term) (m : Member x) (t : Triple) → member_link x m ≡ t → simple g k sort.AnnotationProperty (Iri t.predicate) ≡ Some m.p
  property_at x m t e = subst (λ (u : Triple). simple g k sort.AnnotationProperty (Iri u.predicate) ≡ Some m.p) e m.is_property

  value_at : (x : Term) (m : Member x) (t : Triple) → member_link x m ≡ t → simple g k sort.AnnotationValue t.object ≡ Some m.v
  value_at x m t e = subst (λ (u : Triple). simple g k sort.AnnotationValue u.object ≡ Some m.v) e m.is_value

  set_at : (t u : Triple) (ts us : List Tree) (e : Entry) → t ≡ u → ts ≡ us → IsSetOfEntry name g k es t ts e → IsSetOfEntry name g k es u us e
  set_at t u ts us e a b h = subst (λ (vs : List Tree). IsSetOfEntry name g k es u vs e) b (subst (λ (w : Triple). IsSetOfEntry name g k es w ts e) a h)

module _ (name : ℕ → List ℕ) (g : List Triple) (apart : AreApart g) (es : List Entry) (are : AreEntries name g es) (k : List Entity) where
  -- the annotations of a node, of which all entries are known
  module _ (x : Term) (ts : List Tree) (ns : Notes) (n : ℕ) (ms : Members name g k es x ts ns n) (settled : AreSettled ns) (all : (f : Entry) → Contains es f → Contains (note_links x ns) f.triple → Contains (note_roots x ns n) f) where
    root_of : (t : Triple) (m : Member name g k es x) → Contains ms.list m → member_link name g k es x m ≡ t → (e : Entry) → Contains es e → e.triple ≡ t → IsRootOf name g k es x ms.list e
    root_of t m a l e i j =
        let among = subst (λ (us : List Triple). Contains us (member_link name g k es x m)) ms.links (in_map (member_link name g k es x) ms.list m a) in
        ms.roots e (all e i (subst (λ (u : Triple). Contains (note_links x ns) u) (l ∙ sym j) among))

    no_bare : (a b : Member name g k es x) → Contains ms.list a → Contains ms.list b → member_link name g k es x a ≡ member_link name g k es x b → a.trees ≡ [] → b.inside ≡ no_notes
    no_bare a b i j l e =
        let first = subst (λ (z : Notes). IsAmong a.property a.value z ns) (a.empty e) (ms.among a i) in
        let property = ap (λ (u : Triple). u.predicate) l in
        let value = ap (λ (u : Triple). u.object) l in
        settled b.property b.value b.inside
        (subst (λ (v : Term). IsAmong b.property v no_notes ns) value (subst (λ (p : List ℕ). IsAmong p a.value no_notes ns) property first))
        (ms.among b j)

    no_entry : (e : Entry) → Contains es e → e.notes ≡ no_notes → ⊥
    no_entry e m i = both_ways false refl (sym (ap (λ (ns : Notes). where_some ns false true) i) ∙ (are.said e m).some)

    own_sets : (t : Triple) (m : Member name g k es x) → Contains ms.list m → member_link name g k es x m ≡ t → AreOwnSets name g k es t (IsOwnOf name g k es x ms.list t)
    own_sets t m i l =
        record {
          each = λ us o.
              elim o.member.own [
                | inl e ↦ inl (sym o.trees ∙ e)
                | inr h ↦ inr (record { entry = h.entry; of_entry = set_at name g k es (member_link name g k es x o.member) t o.member.trees us h.entry o.link o.trees h.has.of_entry })
              ];
          entries = λ e a b.
              let r = root_of t m i l e a b in
              let at : member_link name g k es x r.member ≡ t = sym r.has.of_entry.triple ∙ b in (
                r.member.trees,
                record { member = r.member; inside = r.inside; link = at; trees = refl },
                set_at name g k es (member_link name g k es x r.member) t r.member.trees r.member.trees e at refl r.has.of_entry,
              );
          settled = λ o e a b.
              let r = root_of t m i l e a b in
              no_entry e a (r.has.notes ∙ no_bare o.member r.member o.inside r.inside (o.link ∙ sym b ∙ r.has.of_entry.triple) o.trees);
          some = (m.trees, record { member = m; inside = i; link = l; trees = refl });
        }

    member_of : (t : Triple) → Contains (note_links x ns) t → (m : Member name g k es x) × Contains ms.list m × (member_link name g k es x m ≡ t)
    member_of t i =
        let v = from_map (member_link name g k es x) ms.list t (subst (λ (us : List Triple). Contains us t) (sym ms.links) i) in
        (v.element, v.inside, v.value)

    note_at : (t : Triple) (m : Member name g k es x) → Contains ms.list m → member_link name g k es x m ≡ t → HasNote g k t
    note_at t m i l =
        let v = own_variants name g apart es are k t (IsOwnOf name g k es x ms.list t) (own_sets t m i l) in
        record { property = m.p; value = m.v; is_property = property_at name g k es x m t l; is_value = value_at name g k es x m t l; sets = v.0; variants = v.1 }

    module _ (xs : List Triple) (same : HoldSame xs (note_links x ns)) where
      has_note : (t : Triple) → Contains xs t → HasNote g k t
      has_note t i = let m = member_of t ((same t).0 i) in note_at t m.0 m.1 m.2

      read_there : (us : List Tree) → Annotates g k xs us → (a : Tree) → Contains ts a → (u : Tree) × Contains us u × IsEquivalent a u
      unfolding note_at
      read_there us h a i =
          let c = from_map (member_tree name g k es x) ms.list a (subst (λ (vs : List Tree). Contains vs a) (sym ms.trees) i) in
          let m = c.element in
          let t = member_link name g k es x m in
          let inside = (same t).1 (subst (λ (vs : List Triple). Contains vs t) ms.links (in_map (member_link name g k es x) ms.list m c.inside)) in
          let has = note_at t m c.inside refl in
          let v = variants_there name g apart es are k t (IsOwnOf name g k es x ms.list t) (own_sets t m c.inside refl) has.sets has.variants m.trees (record { member = m; inside = c.inside; link = refl; trees = refl }) in
          let u = annotation m.p m.v (notes v.0) in (
            u,
            (notes_of_triples g k xs us h u).1 (record { triple = t; inside = inside; note_of = record { has = has; annotations = notes v.0; inside = v.1; whole = refl } }),
            subst (λ (b : Tree). IsEquivalent b u) c.value (same_annotation m.p m.v m.trees v.0 v.2),
          )

      read_back : (us : List Tree) → Annotates g k xs us → (u : Tree) → Contains us u → (a : Tree) × Contains ts a × IsEquivalent u a
      read_back us h u i =
          let s = (notes_of_triples g k xs us h u).0 i in
          let t = s.triple in
          let m = member_of t ((same t).0 s.inside) in
          let has = s.note_of.has in
          let o = variants_back name g apart es are k t (IsOwnOf name g k es x ms.list t) (own_sets t m.0 m.1 m.2) has.sets has.variants s.note_of.annotations s.note_of.inside in
          let b = o.own.member in
          let property = same_Some b.p has.property (sym (property_at name g k es x b t o.own.link) ∙ has.is_property) in
          let value = same_Some b.v has.value (sym (value_at name g k es x b t o.own.link) ∙ has.is_value) in
          let left : annotation b.p b.v (notes o.others) ≡ u = (λ i. annotation (property i) (value i) (sym o.is i)) ∙ sym s.note_of.whole in
          let right : annotation b.p b.v (notes o.trees) ≡ member_tree name g k es x b = ap (λ (vs : List Tree). annotation b.p b.v (notes vs)) (sym o.own.trees) in
          let turned : HoldEquivalent o.others o.trees = record { there = o.same.back; back = o.same.there } in (
            member_tree name g k es x b,
            subst (λ (vs : List Tree). Contains vs (member_tree name g k es x b)) ms.trees (in_map (member_tree name g k es x) ms.list b o.own.inside),
            subst (λ (c : Tree). IsEquivalent u c) right (subst (λ (c : Tree). IsEquivalent c (annotation b.p b.v (notes o.trees))) left (same_annotation b.p b.v o.others o.trees turned)),
          )

      finish : AreReadAs g k xs ts
      finish =
          let a = (triples_have_notes g k xs).1 has_note in
          record { trees = a.0; annotates = a.1; same = record { there = read_there a.0 a.1; back = read_back a.0 a.1 } }

  -- the annotations that an annotation has of its own
  own_of : (ts : List Tree) (inside : Notes) → AreNotes g k ts inside → AreSettled inside → (t : Triple) (n : ℕ) → (((f : Entry) → Contains (note_roots (blank name n) inside (suc n)) f → Contains es f) → Members name g k es (blank name n) ts inside (suc n)) → ((f : Entry) → Contains (where_some inside [] (entry n word.Annotation t inside ∷ [])) f → Contains es f) → OwnAt name g k es t ts inside n
  own_of _ _ (none) settled t n make h = record { own = inl refl; roots = λ f m. absurd (in_none f m) }
  own_of _ _ (one p v property value ts us inside more a b d c) settled t n make h =
      let whole = note p v inside more in
      let trees = annotation property value (notes ts) ∷ us in
      let e = entry n word.Annotation t whole in
      let i = h e (in_head e []) in
      let ms = make (λ f j. are.inner e f i j) in
      let has : HasNotes name g k es t trees whole e = record {
        of_entry = record {
          among = i;
          triple = refl;
          read = finish (blank name n) trees whole (suc n) ms settled (λ f j s. are.below e f i j (link_subjects (blank name n) whole f.triple s)) (notes_of g (entry_node name e)) (notes_entry name g apart e (are.said e i) (are.own e i));
        };
        notes = refl;
      } in
      record {
        own = inr (record { entry = e; has = has });
        roots = λ f m. elim (in_cases e [] f m) [ inl s ↦ subst (λ (x : Entry). HasNotes name g k es t trees whole x) s has | inr o ↦ absurd (in_none f o) ];
      }

  joined : (x : Term) (n : ℕ) (p : List ℕ) (v : Term) (ts us : List Tree) (inside more : Notes) (property value : Tree) → simple g k sort.AnnotationProperty (Iri p) ≡ Some property → simple g k sort.AnnotationValue v ≡ Some value → AreNotes g k ts inside → OwnAt name g k es (link x p v) ts inside n → Members name g k es x us more (n + reified_nodes inside) → Members name g k es x (annotation property value (notes ts) ∷ us) (note p v inside more) n
  joined x n p v ts us inside more property value a b d own rest =
      let m : Member name g k es x = record { property = p; value = v; p = property; v = value; trees = ts; inside = inside; is_property = a; is_value = b; empty = empty_notes g k ts inside d; own = own.own } in
      record {
        list = m ∷ rest.list;
        trees = ap (λ (vs : List Tree). annotation property value (notes ts) ∷ vs) rest.trees;
        links = ap (λ (vs : List Triple). link x p v ∷ vs) rest.links;
        roots = λ f i.
            elim (Contains-append_cases (where_some inside [] (entry n word.Annotation (link x p v) inside ∷ [])) (note_roots x more (n + reified_nodes inside)) f i) [
              | inl j ↦ record { member = m; inside = in_head m rest.list; has = own.roots f j }
              | inr j ↦ let r = rest.roots f j in record { member = r.member; inside = in_tail m rest.list r.member r.inside; has = r.has }
            ];
        among = λ c i.
            elim (in_cases m rest.list c i) [
              | inl e ↦ subst (λ (z : Member name g k es x). IsAmong z.property z.value z.inside (note p v inside more)) e (here more)
              | inr j ↦ later p v inside more (rest.among c j)
            ];
      }

  members : (ts : List Tree) (ns : Notes) → AreNotes g k ts ns → EachSettled ns → (x : Term) (n : ℕ) → ((f : Entry) → Contains (note_roots x ns n) f → Contains es f) → Members name g k es x ts ns n
  members _ _ (none) settled x n h = record { list = []; trees = refl; links = refl; roots = λ f m. absurd (in_none f m); among = λ m i. absurd (in_none m i) }
  members _ _ (one p v property value ts us inside more a b d c) settled x n h =
      let first = where_some inside [] (entry n word.Annotation (link x p v) inside ∷ []) in
      let others = note_roots x more (n + reified_nodes inside) in
      joined x n p v ts us inside more property value a b d
      (own_of ts inside d settled.0.0 (link x p v) n (members ts inside d settled.0.1 (blank name n) (suc n)) (λ f m. h f (Contains-append_left first others f m)))
      (members us more c settled.1 x (n + reified_nodes inside) (λ f m. h f (Contains-append_right first others f m)))

  -- Triples that say the annotations of a node are read back as these, whatever their order.
  pub notes_read : (x : Term) (ts : List Tree) (ns : Notes) (n : ℕ) (xs : List Triple) → AreNotes g k ts ns → AreSettled ns → EachSettled ns → HoldSame xs (note_links x ns) → ((f : Entry) → Contains (note_roots x ns n) f → Contains es f) → ((f : Entry) → Contains es f → Contains (note_links x ns) f.triple → Contains (note_roots x ns n) f) → AreReadAs g k xs ts
  notes_read x ts ns n xs d settled each same inside all = finish x ts ns n (members ts ns d each x n inside) settled all xs same

  -- and so those of an entry
  pub entry_read : (e : Entry) → Contains es e → (ts : List Tree) → AreNotes g k ts e.notes → AreSettled e.notes → EachSettled e.notes → AreReadAs g k (notes_of g (entry_node name e)) ts
  entry_read e m ts d settled each =
      notes_read (entry_node name e) ts e.notes (suc e.number) (notes_of g (entry_node name e)) d settled each
      (notes_entry name g apart e (are.said e m) (are.own e m)) (λ f i. are.inner e f m i) (λ f i s. are.below e f m i (link_subjects (entry_node name e) e.notes f.triple s))

-- annotations whose names are read back are drawn so
pub readable_notes : (g : List Triple) (k : List Entity) (ks : Kids) → AreReadable g k ks → AreNotes g k (list_of ks) (notes_in ks)
readable_notes g k _ (no_annotation) = none
readable_notes g k _ (an_annotation p v property value ns ks a b d c) =
    subst (λ (ls : Kids). AreNotes g k (node tag.Annotation (kid (node tag.Notes ls) (kid (leaf property (atom.Iri p)) (kid (leaf value v) no_kids))) ∷ list_of ks) (note p (atom_term v) (notes_in ns) (notes_in ks))) (kids_of_list_of ns)
    (one p (atom_term v) (leaf property (atom.Iri p)) (leaf value v) (list_of ns) (list_of ks) (notes_in ns) (notes_in ks) a b (readable_notes g k ns d) (readable_notes g k ks c))
