-- The nodes that reify a triple are those of its entries.
use Rattle.std.proofs.Common.{◌≡◌, ◌≤◌, ◌+◌, ℕ, suc, Bool, true, false, List, [], ◌∷◌, inl, inr, refl, sym, ap, ◌∙◌, subst, arith}
use Rattle.std.specs.Prelude.{◌↔◌, Contains}
use Rattle.std.proofs.lemmas.Bool.{and_from, and_parts, both_ways}
use Rattle.std.proofs.lemmas.List.Elements.{Contains-append_cases}
use Rattle.owl_list.specs.Ascending.{AreApart}
use Rattle.owl_list.proofs.AscendingLaws.{in_cases, in_head, in_none}
use Rattle.rdf_graph.specs.declared.term.Term.{Term}
use Rattle.rdf_graph.specs.declared.triple.Triple.{Triple}
use Rattle.rdf_meaning.specs.declared.role.Role.TheVariants as role
use Rattle.rdf_meaning.specs.declared.word.Word.TheVariants as word
use Rattle.owl_list.proofs.FilterLaws.{from_filter, in_filter}
use Rattle.rdf_meaning.proofs.NodeLaws.{nodes_are}
use Rattle.rdf_meaning.specs.Nodes.{nodes_of, role_of}
use Rattle.rdf_meaning.specs.Statements.{noters, notes_of, reifies}
use Rattle.rdf_mapping.specs.Forms.{link}
use Rattle.rdf_mapping.specs.Frames.{AreNamedApart, IsAny, Keeps}
use Rattle.rdf_mapping.specs.Notes.{Notes, no_notes, note, reified_nodes, where_some}
use Rattle.rdf_mapping.specs.Entries.{AreDrawn, AreEntries, Entry, IsEntryNode, IsNoterOf, IsSaid, entry, entry_node, entry_roots, note_links, note_roots}
use Rattle.rdf_mapping.specs.EntryLaws.{entries_own}
use Rattle.rdf_mapping.specs.NoteLaws.{note_role, notes_entry, reifies_entry}
use Rattle.rdf_mapping.specs.FormLaws.{same_label}

no_individual : role.Note ≡ role.Individual → ⊥
no_individual e = cc

-- annotations that are some have a first
some_link : (x : Term) (ns : Notes) → where_some ns false true ≡ true → (t : Triple) × Contains (note_links x ns) t
some_link x no_notes h = absurd (both_ways false refl h)
some_link x (note p v inside more) h = (link x p v, in_head (link x p v) (note_links x more))

abbrev has_some : {A : Type 0} → List A → Bool
has_some [] = false
has_some (a ∷ more) = true

some_there : (ts : List Triple) (t : Triple) → Contains ts t → has_some ts ≡ true
some_there [] t m = absurd (in_none t m)
some_there (u ∷ ts) t m = refl

module _ (name : ℕ → List ℕ) (g : List Triple) (apart : AreApart g) (es : List Entry) (are : AreEntries name g es) where
  to_noter : (t : Triple) (x : Term) → Contains (noters g t) x → IsNoterOf name es t x
  unfolding noters
  to_noter t x m =
      let k = from_filter _ (nodes_of g role.Note) x m in
      let of = are.all x ((nodes_are g role.Note x no_individual).0 k.inside) in
      let parts = and_parts (reifies g x t) _ k.passes in
      let same = subst (λ (y : Term). reifies g y t ≡ true) of.is parts.0 in
      record {
        entry = of.entry;
        among = of.among;
        triple = (reifies_entry name g apart of.entry (are.said of.entry of.among) (are.own of.entry of.among) t).0 same;
        is = of.is;
      }

  pub in_noters : (e : Entry) → Contains es e → Contains (noters g e.triple) (entry_node name e)
  unfolding noters
  in_noters e m =
      let said = are.said e m in
      let own = are.own e m in
      let x = entry_node name e in
      let first = some_link x e.notes said.some in
      let is = some_there (notes_of g x) first.0 ((notes_entry name g apart e said own first.0).1 first.1) in
      in_filter _ (nodes_of g role.Note) x ((nodes_are g role.Note x no_individual).1 (note_role name g apart e said own))
      (and_from (reifies g x e.triple) _ ((reifies_entry name g apart e said own e.triple).1 refl) is)

  pub noters_are : (t : Triple) (x : Term) → Contains (noters g t) x ↔ IsNoterOf name es t x
  noters_are t x = (
    to_noter t x,
    λ n. subst (λ (y : Term). Contains (noters g t) y) (sym n.is) (subst (λ (u : Triple). Contains (noters g u) (entry_node name n.entry)) n.triple (in_noters n.entry n.among)),
  )

-- What is drawn gives the entries of a graph that keeps it.

pub some_root : (ns : Notes) (e f : Entry) → Contains (where_some ns [] (e ∷ [])) f → e ≡ f
some_root no_notes e f m = absurd (in_none f m)
some_root (note p v inside more) e f m = elim (in_cases e [] f m) [ inl i ↦ i | inr o ↦ absurd (in_none f o) ]

pub root_subjects : (x : Term) (ns : Notes) (n : ℕ) (f : Entry) → Contains (note_roots x ns n) f → f.triple.subject ≡ x
root_subjects x no_notes n f m = absurd (in_none f m)
root_subjects x (note p v inside more) n f m =
    let rest = note_roots x more (n + reified_nodes inside) in
    elim (Contains-append_cases (where_some inside [] (entry n word.Annotation (link x p v) inside ∷ [])) rest f m) [
      | inl a ↦ ap (λ (e : Entry). e.triple.subject) (sym (some_root inside (entry n word.Annotation (link x p v) inside) f a))
      | inr b ↦ root_subjects x more (n + reified_nodes inside) f b
    ]

pub entries_are : (name : ℕ → List ℕ) (most : ℕ) → AreNamedApart name most → (g : List Triple) (low high : ℕ) (others : List Triple) (roots es : List Entry) (ts : List Triple) → high ≤ most → AreDrawn name low high others roots es ts → Keeps name IsAny g ts low high → ((e : Entry) (t : Triple) → Contains es e → Contains others t → t.subject ≡ entry_node name e → ⊥) → ((e f : Entry) → Contains es e → Contains roots f → f.triple.subject ≡ entry_node name e → ⊥) → ((e : Entry) → Contains es e → IsSaid e) → ((x : Term) → role_of g x ≡ role.Note → IsEntryNode name es x) → AreEntries name g es
entries_are name most differ g low high others roots es ts few d k aside apart_roots said all =
    record {
      own = entries_own name most differ IsAny g low high others roots es ts few d k aside;
      said = said;
      all = all;
      inner = d.inner;
      below = λ e f m n i.
          elim (d.parent f n) [
            | inl r ↦ absurd (apart_roots e f m r i)
            | inr b ↦
                let up = d.below e m in
                let over = d.below b.entry b.among in
                let same = same_label (name b.entry.number) (name e.number) (sym (root_subjects (entry_node name b.entry) b.entry.notes (suc b.entry.number) f b.inside) ∙ i) in
                let number = differ b.entry.number e.number (omega (arith, over, few)) (omega (arith, up, few)) same in
                subst (λ (x : Entry). Contains (entry_roots name x) f) (d.one b.entry e b.among m number) b.inside
          ];
    }
