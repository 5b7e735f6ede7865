-- The sets of annotations of a triple are those of its entries.
use Rattle.std.proofs.Common.{◌≡◌, ◌⊎◌, ℕ, List, [], ◌∷◌, inl, inr, refl, sym, ap, ◌∙◌, subst}
use Rattle.std.specs.Prelude.{Contains, map}
use Rattle.owl_list.specs.Ascending.{AreApart, ascending}
use Rattle.owl_list.proofs.AscendingLaws.{in_cases, in_head, in_none, in_tail}
use Rattle.owl_kind.specs.Kinds.{Entity}
use Rattle.owl_tree.specs.Canonical.{canonical}
use Rattle.owl_tree.specs.Equivalence.{IsEquivalent}
use Rattle.owl_tree.proofs.EquivalenceLaws.{canonicals_map, equivalent_is_equal_form}
use Rattle.owl_tree.specs.Ontologies.{HoldEquivalent, canonical_list}
use Rattle.owl_tree.proofs.OntologyLaws.{equivalent_lists}
use Rattle.owl_tree.specs.Order.{tree_cmp}
use Rattle.owl_tree.specs.Rows.{row_of}
use Rattle.owl_tree.proofs.TreeLaws.{list_of_kids_of}
use Rattle.owl_tree.specs.Trees.{Tree, kids_of}
use Rattle.rdf_graph.specs.declared.term.Term.{Term}
use Rattle.rdf_graph.specs.declared.triple.Triple.{Triple}
use Rattle.rdf_meaning.proofs.ListLaws.{nothing_else}
use Rattle.rdf_meaning.specs.Statements.{Annotates, AreSets, no_set, set, Variants, bare, noted, noters, notes, notes_of}
use Rattle.rdf_meaning.proofs.StatementLaws.{one_notes, variants_are}
use Rattle.rdf_mapping.specs.Entries.{AreEntries, Entry, entry_node}
use Rattle.rdf_mapping.specs.NoterLaws.{noters_are}
use Rattle.rdf_mapping.specs.NoteTrees.{AreReadAs, annotation}

-- sets of equivalent annotations are equivalent

canonical_notes : (ts : List Tree) → canonical (notes ts) ≡ notes (canonical_list ts)
unfolding row_of
canonical_notes ts =
    ap (λ (us : List Tree). notes (ascending tree_cmp us)) (canonicals_map (kids_of ts) ∙ ap (map canonical) (list_of_kids_of ts))

pub same_notes : (ts us : List Tree) → HoldEquivalent ts us → canonical (notes ts) ≡ canonical (notes us)
same_notes ts us h = canonical_notes ts ∙ ap notes ((equivalent_lists ts us).0 h) ∙ sym (canonical_notes us)

canonical_annotation : (p v s : Tree) → canonical (annotation p v s) ≡ annotation (canonical p) (canonical v) (canonical s)
unfolding row_of
canonical_annotation p v s = refl

pub same_annotation : (p v : Tree) (ts us : List Tree) → HoldEquivalent ts us → IsEquivalent (annotation p v (notes ts)) (annotation p v (notes us))
same_annotation p v ts us h =
    (equivalent_is_equal_form (annotation p v (notes ts)) (annotation p v (notes us))).1
    (canonical_annotation p v (notes ts) ∙ ap (annotation (canonical p) (canonical v)) (same_notes ts us h) ∙ sym (canonical_annotation p v (notes us)))

-- the sets that terms have

record IsSetOf (g : List Triple) (k : List Entity) (rs : List Term) (s : Tree) : Type 0 where
  pub term : Term
  pub among : Contains rs term
  pub trees : List Tree
  pub annotates : Annotates g k (notes_of g term) trees
  pub is : s ≡ notes trees

module _ (g : List Triple) (k : List Entity) where
  from_sets : (rs : List Term) (sets : List Tree) → AreSets g k rs sets → (s : Tree) → Contains sets s → IsSetOf g k rs s
  from_sets _ _ (no_set) s m = absurd (in_none s m)
  from_sets _ _ (set r rs ts sets a h) s m =
      elim (in_cases (notes ts) sets s m) [
        | inl e ↦ record { term = r; among = in_head r rs; trees = ts; annotates = a; is = sym e }
        | inr n ↦
            let f = from_sets rs sets h s n in
            record { term = f.term; among = in_tail r rs f.term f.among; trees = f.trees; annotates = f.annotates; is = f.is }
      ]

  in_sets : (rs : List Term) (sets : List Tree) → AreSets g k rs sets → (x : Term) (ts : List Tree) → Contains rs x → Annotates g k (notes_of g x) ts → Contains sets (notes ts)
  in_sets _ _ (no_set) x ts m a = absurd (in_none x m)
  in_sets _ _ (set r rs us sets b h) x ts m a =
      elim (in_cases r rs x m) [
        | inl e ↦
            let same = one_notes g k (notes_of g r) us b ts (subst (λ (y : Term). Annotates g k (notes_of g y) ts) (sym e) a) in
            subst (λ (vs : List Tree). Contains (notes us ∷ sets) (notes vs)) same (in_head (notes us) sets)
        | inr n ↦ in_tail (notes us) sets (notes ts) (in_sets rs sets h x ts n a)
      ]

  sets_of_terms : (rs : List Term) → ((x : Term) → Contains rs x → (ts : List Tree) × Annotates g k (notes_of g x) ts) → (sets : List Tree) × AreSets g k rs sets
  sets_of_terms [] h = ([], no_set)
  sets_of_terms (r ∷ rs) h =
      let first = h r (in_head r rs) in
      let rest = sets_of_terms rs (λ x m. h x (in_tail r rs x m)) in
      (notes first.0 ∷ rest.0, set r rs first.0 rest.0 first.1 rest.1)

  has_variants : (t : Triple) (rs : List Term) → noters g t ≡ rs → ((x : Term) → Contains (noters g t) x → (ts : List Tree) × Annotates g k (notes_of g x) ts) → (sets : List Tree) × Variants g k t sets
  has_variants t [] e h = (notes [] ∷ [], bare t e)
  has_variants t (r ∷ rs) e h =
      let s = sets_of_terms (r ∷ rs) (λ x m. h x (subst (λ (ys : List Term). Contains ys x) (sym e) m)) in
      (s.0, noted t r rs s.0 e s.1)

-- A triple has these sets: each is empty, or that of an entry, and each entry of the triple has one of them.

pub record IsSetOfEntry (name : ℕ → List ℕ) (g : List Triple) (k : List Entity) (es : List Entry) (t : Triple) (ts : List Tree) (e : Entry) : Type 0 where
  pub among : Contains es e
  pub triple : e.triple ≡ t
  pub read : AreReadAs g k (notes_of g (entry_node name e)) ts

pub record HasEntry (name : ℕ → List ℕ) (g : List Triple) (k : List Entity) (es : List Entry) (t : Triple) (ts : List Tree) : Type 0 where
  pub entry : Entry
  pub of_entry : IsSetOfEntry name g k es t ts entry

pub record AreOwnSets (name : ℕ → List ℕ) (g : List Triple) (k : List Entity) (es : List Entry) (t : Triple) (Own : List Tree → Type 0) : Type 0 where
  pub each : (ts : List Tree) → Own ts → (ts ≡ []) ⊎ HasEntry name g k es t ts
  pub entries : (e : Entry) → Contains es e → e.triple ≡ t → (ts : List Tree) × Own ts × IsSetOfEntry name g k es t ts e
  pub settled : Own [] → (e : Entry) → Contains es e → e.triple ≡ t → ⊥
  pub some : (ts : List Tree) × Own ts

-- a set of a triple is one of these
pub record IsOwnSet (Own : List Tree → Type 0) (s : Tree) : Type 0 where
  pub trees : List Tree
  pub others : List Tree
  pub own : Own trees
  pub is : s ≡ notes others
  pub same : HoldEquivalent trees others

same_empty : HoldEquivalent [] []
same_empty = record { there = λ t m. absurd (in_none t m); back = λ t m. absurd (in_none t m) }

module _ (name : ℕ → List ℕ) (g : List Triple) (apart : AreApart g) (es : List Entry) (are : AreEntries name g es) (k : List Entity) where
  noter : (t : Triple) (e : Entry) → Contains es e → e.triple ≡ t → Contains (noters g t) (entry_node name e)
  noter t e m i = (noters_are name g apart es are t (entry_node name e)).1 (record { entry = e; among = m; triple = i; is = refl })

  no_noters : (t : Triple) → ((e : Entry) → Contains es e → e.triple ≡ t → ⊥) → (rs : List Term) → noters g t ≡ rs → noters g t ≡ []
  no_noters t h [] e = e
  no_noters t h (r ∷ rs) e =
      let n = (noters_are name g apart es are t r).0 (subst (λ (xs : List Term). Contains xs r) (sym e) (in_head r rs)) in
      absurd (h n.entry n.among n.triple)

  module _ (t : Triple) (Own : List Tree → Type 0) (own : AreOwnSets name g k es t Own) where
    noter_read : (x : Term) → Contains (noters g t) x → (ts : List Tree) × Own ts × AreReadAs g k (notes_of g x) ts
    noter_read x m =
        let n = (noters_are name g apart es are t x).0 m in
        let o = own.entries n.entry n.among n.triple in
        (o.0, o.1, subst (λ (y : Term). AreReadAs g k (notes_of g y) o.0) (sym n.is) o.2.read)

    pub own_variants : (sets : List Tree) × Variants g k t sets
    own_variants = has_variants g k t (noters g t) refl (λ x m. let r = noter_read x m in (r.2.trees, r.2.annotates))

    pub variants_there : (sets : List Tree) → Variants g k t sets → (ts : List Tree) → Own ts → (us : List Tree) × Contains sets (notes us) × HoldEquivalent ts us
    variants_there sets v ts o =
        elim (variants_are g k t sets v) [
          | inl b ↦
              elim (own.each ts o) [
                | inl e ↦ ([], subst (λ (ss : List Tree). Contains ss (notes [])) (sym b.1) (in_head (notes []) []), subst (λ (us : List Tree). HoldEquivalent us []) (sym e) same_empty)
                | inr h ↦
                    let m = noter t h.entry h.of_entry.among h.of_entry.triple in
                    absurd (in_none (entry_node name h.entry) (subst (λ (xs : List Term). Contains xs (entry_node name h.entry)) b.0 m))
              ]
          | inr n ↦
              elim (own.each ts o) [
                | inl e ↦
                    let no = no_noters t (own.settled (subst Own e o)) (noters g t) refl in
                    absurd (nothing_else n.by n.more (sym no ∙ n.noters))
                | inr h ↦
                    let m = noter t h.entry h.of_entry.among h.of_entry.triple in
                    let r = h.of_entry.read in
                    (r.trees, in_sets g k (n.by ∷ n.more) sets n.are_sets (entry_node name h.entry) r.trees (subst (λ (xs : List Term). Contains xs (entry_node name h.entry)) n.noters m) r.annotates, r.same)
              ]
        ]

    pub variants_back : (sets : List Tree) → Variants g k t sets → (s : Tree) → Contains sets s → IsOwnSet Own s
    variants_back sets v s m =
        elim (variants_are g k t sets v) [
          | inl b ↦
              let only : notes [] ≡ s = elim (in_cases (notes []) [] s (subst (λ (ss : List Tree). Contains ss s) b.1 m)) [ inl e ↦ e | inr o ↦ absurd (in_none s o) ] in
              elim (own.each own.some.0 own.some.1) [
                | inl e ↦ record { trees = []; others = []; own = subst Own e own.some.1; is = sym only; same = same_empty }
                | inr h ↦
                    let n = noter t h.entry h.of_entry.among h.of_entry.triple in
                    absurd (in_none (entry_node name h.entry) (subst (λ (xs : List Term). Contains xs (entry_node name h.entry)) b.0 n))
              ]
          | inr n ↦
              let f = from_sets g k (n.by ∷ n.more) sets n.are_sets s m in
              let r = noter_read f.term (subst (λ (xs : List Term). Contains xs f.term) (sym n.noters) f.among) in
              let same = one_notes g k (notes_of g f.term) r.2.trees r.2.annotates f.trees f.annotates in
              record { trees = r.0; others = f.trees; own = r.1; is = f.is; same = subst (λ (us : List Tree). HoldEquivalent r.0 us) same r.2.same }
        ]
