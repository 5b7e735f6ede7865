-- What a graph states is annotations and axioms, by its tags.
use Rattle.std.specs.Prelude.{◌≡◌, true, ℕ, List, [], ◌∷◌, ◌++◌, Contains}
use Rattle.std.specs.List.{AllByRecursion, list_all}
use Rattle.std.proofs.Common.{inl, inr, refl, sym, ap, ◌∙◌, subst}
use Rattle.std.proofs.lemmas.List.Elements.{Contains-append_cases}
use Rattle.std.proofs.lemmas.Option.{get_or_from_slice_get}
use Rattle.owl_arena.specs.Held.{trees_at}
use Rattle.owl_assembly.specs.Filling.{AreAnnotations, AreAxioms}
use Rattle.owl_kind.specs.Kinds.{Entity}
use Rattle.owl_list.proofs.AscendingLaws.{in_head, in_tail}
use Rattle.owl_tree.specs.Canonical.{canonical}
use Rattle.owl_tree.proofs.CanonicalLaws.{canonical_tag}
use Rattle.owl_tree.specs.declared.tag.Tag.{Tag}
use Rattle.owl_tree.specs.declared.tag.Tag.TheVariants as tag
use Rattle.owl_tree.specs.Tags.{is_axiom, number_of}
use Rattle.owl_tree.specs.Trees.{Tree, tag_of}
use Rattle.rdf_graph.specs.declared.triple.Triple.{Triple}
use Rattle.rdf_meaning.proofs.AxiomLaws.{axioms_of_nodes, axioms_of_triples, notes_of_triples}
use Rattle.rdf_meaning.specs.Denotation.{Bearer}
use Rattle.rdf_meaning.specs.Kinds.{HaveNoClash}
use Rattle.rdf_meaning.proofs.ListLaws.{passes}
use Rattle.rdf_meaning.specs.Nodes.{nodes_of}
use Rattle.rdf_meaning.specs.Rows.{axiom_rows}
use Rattle.rdf_meaning.specs.Statements.{IsAxiomWith, header_notes, main_triples}
use Rattle.rdf_meaning.specs.declared.role.Role.TheVariants as role
use Rattle.rdf_scans.specs.declared.reading.Reading.{Reading}
use Rattle.tree_stores.specs.Stores.{HasNumber, StandFor}
use Rattle.rdf_reverse.specs.Limits.{AreStated}

-- what holds of the canonical forms of trees holds of what stands at their numbers
holds_there : (P : Tree → Type 0) (trees ts : List Tree) (ids : List ℕ) → StandFor (HasNumber trees) ts ids → ((t : Tree) → Contains ts t → P (canonical t)) → AllByRecursion P (trees_at trees ids)
holds_there P trees [] [] h each = tt
holds_there P trees [] (id ∷ ids) h each = absurd h
holds_there P trees (t ∷ ts) [] h each = absurd h
holds_there P trees (t ∷ ts) (id ∷ ids) h each = (
  subst P (sym (get_or_from_slice_get trees id (canonical t) _ h.0)) (each t (in_head t ts)),
  holds_there P trees ts ids h.1 (λ u m. each u (in_tail t ts u m)),
)

rows_are_of_axioms : list_all (λ row. is_axiom row.tag) axiom_rows ≡ true
unfolding axiom_rows number_of
rows_are_of_axioms = refl

module _ (g : List Triple) (k : List Entity) where
  axiom_tag : (b : Bearer) (t : Tag) (kids : List Tree) → IsAxiomWith g k b t kids → is_axiom t ≡ true
  axiom_tag b t kids is = subst (λ u. is_axiom u ≡ true) is.tag (passes (λ row. is_axiom row.tag) axiom_rows is.row rows_are_of_axioms is.among)

module _ (reading : Reading) (trees : List Tree) (annotations axioms : List ℕ) (stated : AreStated reading trees annotations axioms) where
  pub stated_annotations : AreAnnotations (trees_at trees annotations)
  stated_annotations =
      holds_there (λ t. tag_of t ≡ tag.Annotation) trees stated.notes_in annotations stated.notes_stand
      (λ t m.
      let is = (notes_of_triples reading.graph.now reading.kinds.now (header_notes reading.graph.now reading.kinds.now reading.header.now) stated.notes_in stated.are_notes t).0 m in
      canonical_tag t ∙ ap tag_of is.note_of.whole)

  is_stated : HaveNoClash reading.kinds.now → (t : Tree) → Contains (stated.by_triples ++ stated.by_nodes) t → is_axiom (tag_of (canonical t)) ≡ true
  is_stated clean t m =
      let g = reading.graph.now in
      let k = reading.kinds.now in
      elim (Contains-append_cases stated.by_triples stated.by_nodes t m) [
        | inl n ↦
            let is = ((axioms_of_triples g k clean (main_triples g k reading.header.now) stated.by_triples stated.are_axioms t).0 n).axiom_of in
            ap is_axiom (canonical_tag t ∙ ap tag_of is.whole) ∙ axiom_tag g k _ is.tag is.kids is.said
        | inr n ↦
            let is = ((axioms_of_nodes g k clean (nodes_of g role.Main) stated.by_nodes stated.are_node_axioms t).0 n).axiom_of in
            ap is_axiom (canonical_tag t ∙ ap tag_of is.whole) ∙ axiom_tag g k _ is.tag is.kids is.said
      ]

  pub stated_axioms : HaveNoClash reading.kinds.now → AreAxioms (trees_at trees axioms)
  stated_axioms clean = holds_there (λ t. is_axiom (tag_of t) ≡ true) trees (stated.by_triples ++ stated.by_nodes) axioms stated.axioms_stand (is_stated clean)
