-- A node that is drawn by its row denotes the tree.
use Rattle.std.proofs.Common.{◌≡◌, ◌≤◌, ◌+◌, ℕ, suc, true, false, List, [], ◌∷◌, refl, sym, ap, ◌∙◌, subst, arith}
use Rattle.std.specs.Prelude.{Contains, map, Some}
use Rattle.std.specs.List.{AllByRecursion, list_all}
use Rattle.std.proofs.lemmas.Bool.{eqb-true}
use Rattle.owl_kind.specs.Kinds.{Entity}
use Rattle.owl_list.specs.Ascending.{AreApart}
use Rattle.owl_tree.specs.declared.row.Sort.{Sort}
use Rattle.owl_tree.specs.declared.tag.Tag.{Tag}
use Rattle.owl_tree.specs.declared.tag.Tag.TheVariants as tag
use Rattle.owl_tree.specs.OrderLaws.{same_number}
use Rattle.owl_tree.specs.Rows.{admits, is_tag}
use Rattle.owl_tree.specs.Tags.{number_of}
use Rattle.owl_tree.specs.Trees.{Tree, Kids, node, no_kids, kid, kids_of, list_of}
use Rattle.rdf_graph.specs.declared.triple.Triple.{Triple}
use Rattle.rdf_meaning.specs.declared.row.Want.TheVariants.{One}
use Rattle.rdf_meaning.specs.Denotation.{Denotes, by_row}
use Rattle.rdf_meaning.proofs.ListLaws.{passes}
use Rattle.rdf_meaning.specs.Rows.{Row, node_rows}
use Rattle.rdf_meaning.specs.Words.{is_type, word_number}
use Rattle.rdf_mapping.specs.Forms.{Form, made, blank, nodes, term_of, triples}
use Rattle.rdf_mapping.specs.Drawing.{Kid, arcs_of, fit, form_of, kid_of, kids_seen, node_form, placed, row_for, tags_of}
use Rattle.rdf_mapping.specs.Frames.{AreNamedApart, IsOfNode, Keeps}
use Rattle.rdf_mapping.specs.FormLaws.{made_kept}
use Rattle.rdf_mapping.proofs.RowDrawingLaws.{parts_drawn}
use Rattle.rdf_mapping.specs.RowForLaws.{HasRowFor}
use Rattle.rdf_mapping.proofs.SpellingLaws.{node_row_written_well, spelled_fits, spelled_holds}
use Rattle.rdf_mapping.specs.Written.{IsDrawn, IsDrawnWell, all_written, draws_at, given, written}

all_rows_draw : list_all (λ r. list_all (λ p. draws_at p.place p.want) r.parts) node_rows ≡ true
unfolding node_rows is_type word_number
all_rows_draw = refl

pub row_draws : (r : Row) → Contains node_rows r → list_all (λ p. draws_at p.place p.want) r.parts ≡ true
row_draws r = passes (λ r. list_all (λ p. draws_at p.place p.want) r.parts) node_rows r all_rows_draw

pub seen_each : (ks : Kids) → kids_seen ks ≡ map kid_of (list_of ks)
seen_each no_kids = refl
seen_each (kid t ks) = ap (λ (l : List Kid). kid_of t ∷ l) (seen_each ks)

pub written_each : (ks : Kids) → all_written ks ≡ map written (list_of ks)
written_each no_kids = refl
written_each (kid t ks) = ap (λ (l : List Tree). written t ∷ l) (written_each ks)

pub row_form : (t : Tag) (ks : List Kid) (r : Row) → is_tag tag.FacetPair t ≡ false → row_for node_rows t (tags_of ks) ≡ Some r → node_form t ks ≡ made (arcs_of (placed r.parts ks))
row_form t ks r e h = rw (e, h) refl

row_written : (t : Tag) (ks : Kids) (r : Row) → row_for node_rows t (tags_of (kids_seen ks)) ≡ Some r → written (node t ks) ≡ node t (kids_of (given r.parts (all_written ks)))
row_written t ks r h = rw h refl

pub same_tag : (t u : Tag) → is_tag t u ≡ true → t ≡ u
same_tag t u h = same_number t u (eqb-true (number_of t) (number_of u) h)

module _ (name : ℕ → List ℕ) (most : ℕ) (differ : AreNamedApart name most) (g : List Triple) (k : List Entity) (apart : AreApart g) where
  -- what is kept of a form, wherever its numbers begin, denotes the tree
  abbrev Shows : Sort → Form → Tree → Type 0
  Shows s f u =
      (n : ℕ) → n + nodes f ≤ most → Keeps name IsOfNode g (triples name f n) n (n + nodes f) → Denotes g k (term_of name f n) (One s) (u ∷ [])

  by_the_row : (s : Sort) (r : Row) (ts : List Tree) → Contains node_rows r → admits s r.tag ≡ true → fit r.parts (tags_of (map kid_of ts)) ≡ true → AllByRecursion (IsDrawnWell name most g k) ts → Shows s (made (arcs_of (placed r.parts (map kid_of ts)))) (node r.tag (kids_of (given r.parts (map written ts))))
  by_the_row s r ts among suits fitting all n few keeps =
      let arcs = arcs_of (placed r.parts (map kid_of ts)) in
      let kept = made_kept name most differ IsOfNode g arcs n few keeps in
      let drawn = parts_drawn name most differ g k apart (blank name n) r.parts (row_draws r among) ts (suc n) fitting all (omega (arith, few)) kept.each in
      let well = node_row_written_well r among in
      by_row s (blank name n) r (given r.parts (map written ts)) among suits
      (spelled_fits g (name n) _ r apart kept.own drawn.0 well)
      (spelled_holds g k (name n) _ r (given r.parts (map written ts)) apart kept.own drawn.0 drawn.1 well)

  -- an expression is drawn by its row
  pub node_drawn : (s : Sort) (t : Tag) (ks : Kids) → is_tag tag.FacetPair t ≡ false → HasRowFor t (tags_of (kids_seen ks)) → admits s t ≡ true → AllByRecursion (IsDrawnWell name most g k) (list_of ks) → IsDrawn name most g k s (node t ks)
  node_drawn s t ks facet row suits all =
      let r = row.row in
      let same : r.tag ≡ t = same_tag r.tag t row.tag in
      let fitting : fit r.parts (tags_of (map kid_of (list_of ks))) ≡ true = ap (λ (qs : List Kid). fit r.parts (tags_of qs)) (sym (seen_each ks)) ∙ row.fits in
      let shows = by_the_row s r (list_of ks) row.among (ap (admits s) same ∙ suits) fitting all in
      let form : form_of (node t ks) ≡ made (arcs_of (placed r.parts (map kid_of (list_of ks)))) =
      row_form t (kids_seen ks) r facet row.is ∙ ap (λ (qs : List Kid). made (arcs_of (placed r.parts qs))) (seen_each ks) in
      let tree : written (node t ks) ≡ node r.tag (kids_of (given r.parts (map written (list_of ks)))) =
      row_written t ks r row.is ∙ ap (λ (us : List Tree). node t (kids_of (given r.parts us))) (written_each ks)
      ∙ ap (λ (u : Tag). node u (kids_of (given r.parts (map written (list_of ks))))) (sym same) in
      subst (λ f. Shows s f (written (node t ks))) (sym form)
      (subst (λ u. Shows s (made (arcs_of (placed r.parts (map kid_of (list_of ks))))) u) (sym tree) shows)
