-- What holds of the forms that an axiom is drawn of: they make their nodes what they are.
use Rattle.std.proofs.Common.{◌-◌, ◌+◌, ℕ, suc, Bool, true, false, cond, List, [], ◌∷◌, ◌++◌, drop, take, length, inl, inr, subst}
use Rattle.std.specs.Prelude.{Contains, nat_le, Option, None, Some}
use Rattle.std.specs.List.{AllByRecursion}
use Rattle.std.proofs.lemmas.List.Elements.{Contains-append_right}
use Rattle.owl_doc.specs.Entities.{AreWellTyped, entities, entities_of}
use Rattle.owl_kind.specs.Kinds.{Entity, HasKind}
use Rattle.owl_list.specs.Ascending.{AreApart}
use Rattle.owl_list.proofs.AscendingLaws.{all_later, all_map, in_cases, in_none}
use Rattle.owl_tree.specs.declared.tag.Tag.{Tag}
use Rattle.owl_tree.specs.Shape.{AreShaped, IsShaped}
use Rattle.owl_tree.specs.Trees.{Tree, Kids, leaf, node, no_kids, kid}
use Rattle.rdf_graph.specs.declared.term.Term.TheVariants.{Iri, Blank, Literal}
use Rattle.rdf_graph.specs.declared.triple.Triple.{Triple}
use Rattle.rdf_terms.specs.Literals.{LiteralParts}
use Rattle.rdf_meaning.specs.declared.row.Part.{Part}
use Rattle.rdf_meaning.specs.declared.row.Place.{Place}
use Rattle.rdf_meaning.specs.declared.row.Place.TheVariants.{At, Subject, Predicate, Object}
use Rattle.rdf_meaning.specs.declared.row.Site.{Site}
use Rattle.rdf_meaning.specs.declared.row.Site.TheVariants.{Node, TypedBy, OtherType, LinkedBy, OtherLink}
use Rattle.rdf_meaning.specs.declared.row.Want.{Want}
use Rattle.rdf_meaning.specs.declared.row.Want.TheVariants.{One, Many, Whole, Keys, Declared, Mark, True}
use Rattle.rdf_meaning.specs.Denotation.{true_literal}
use Rattle.rdf_meaning.specs.Rows.{Row, axiom_rows}
use Rattle.rdf_meaning.specs.Words.{word_iri}
use Rattle.rdf_mapping.specs.Drawing.{Kid, Placed, Statement, linked, linked_back, looped, standing, unsaid, arcs_of, between, by_kids, by_predicate, forms_of, is_pair, kid_of, kids_seen, listed, loop_at, loop_by, placed, placed_by, row_for, singles, stated, stated_by, statement_of, tags_of}
use Rattle.rdf_mapping.specs.Forms.{Form, plain, made, twice, Arcs, arc_nodes, list_form, nodes}
use Rattle.rdf_mapping.specs.FormSorts.{AllForms, IsOfNodes}
use Rattle.rdf_mapping.proofs.FormSortLaws.{list_sort, plain_sort, twice_sort}
use Rattle.rdf_mapping.specs.Frames.{AreNamedApart}
use Rattle.rdf_mapping.specs.Graphs.{all_labels_in, labels_in}
use Rattle.rdf_mapping.specs.Notes.{Notes, note_nodes}
use Rattle.rdf_mapping.proofs.RowDrawingLaws.{all_drop, all_take}
use Rattle.rdf_mapping.proofs.RowSortLaws.{form_sorts}
use Rattle.rdf_mapping.proofs.TreeDrawingLaws.{all_back, first_and_others}
use Rattle.rdf_mapping.proofs.TreeSortLaws.{kids_sort, tree_sort}
use Rattle.rdf_mapping.specs.Written.{AreIndividuals, HasFacetNames, HaveFacetNames, HaveIndividuals}
use Rattle.rdf_states.specs.Places.{AllEnds, End, Stand, end_at, ends_of, stands_from, stands_of}

pub all_both : {X : Type 0} (P : X → Type 0) (xs ys : List X) → AllByRecursion P xs → AllByRecursion P ys → AllByRecursion P (xs ++ ys)
all_both P [] ys h k = k
all_both P (x ∷ xs) ys h k = (h.0, all_both P xs ys h.1 k)

-- A fact that holds of IRIs and of literals, and of lists where it holds of what stands in them.
pub record HoldsOfLists (P : Form → Type 0) : Type 0 where
  pub iri : (iri : List ℕ) → P (plain (Iri iri))
  pub literal : (literal : LiteralParts) → P (plain (Literal literal))
  pub list : (fs : List Form) → AllByRecursion P fs → P (list_form fs)
  pub twice_over : (f : Form) → P f → P (twice f)

module _ (P : Form → Type 0) (holds : HoldsOfLists P) where
  -- it holds of a kid's form, and of those of its own kids
  abbrev pub KidSorts : Kid → Type 0
  KidSorts q = P q.form × AllByRecursion P q.members

  abbrev Follows : (List Kid → List Placed) → Type 0
  Follows behind = (ks : List Kid) → AllByRecursion KidSorts ks → AllByRecursion (λ p. P p.form) (behind ks)

  pub kid_forms : (ks : List Kid) → AllByRecursion KidSorts ks → AllByRecursion P (forms_of ks)
  kid_forms ks all = all_map (λ q. q.form) P ks (all_later KidSorts (λ q. P q.form) (λ q h. h.0) ks all)

  one_or_two : (b : Bool) (f : Form) → P f → P (cond b (twice f) (list_form (f ∷ [])))
  one_or_two true f h = holds.twice_over f h
  one_or_two false f h = holds.list (f ∷ []) (h, tt)

  listed_sort : (least : ℕ) (fs : List Form) → AllByRecursion P fs → P (listed least fs)
  listed_sort least [] all = holds.list [] tt
  listed_sort least (f ∷ []) all = one_or_two (nat_le 2 least) f all.0
  listed_sort least (f ∷ h ∷ fs) all = holds.list (f ∷ h ∷ fs) all

  want_sorts : (want : Want) (place : Place) (left : ℕ) (behind : List Kid → List Placed) → Follows behind → Follows (placed_by want place left behind)
  want_sorts (One s) place left behind f [] all = tt
  want_sorts (One s) place left behind f (q ∷ ks) all = (all.0.0, f ks all.1)
  want_sorts (Many s least) place left behind f ks all =
      let n = length ks - left in
      (listed_sort least (forms_of (take n ks)) (kid_forms (take n ks) (all_take KidSorts n ks all)), f (drop n ks) (all_drop KidSorts n ks all))
  want_sorts (Whole t s least) place left behind f [] all = tt
  want_sorts (Whole t s least) place left behind f (q ∷ ks) all = (listed_sort least q.members all.0.1, f ks all.1)
  want_sorts Keys place left behind f [] all = tt
  want_sorts Keys place left behind f (q ∷ []) all = tt
  want_sorts Keys place left behind f (q ∷ r ∷ ks) all =
      (holds.list (q.members ++ r.members) (all_both P q.members r.members all.0.1 all.1.0.1), f ks all.1.1)
  want_sorts (Declared t) place left behind f [] all = tt
  want_sorts (Declared t) place left behind f (q ∷ ks) all = (all.0.0, f ks all.1)
  want_sorts Mark (At w) left behind f ks all = (holds.iri (word_iri w), f ks all)
  want_sorts Mark Subject left behind f ks all = tt
  want_sorts Mark Predicate left behind f ks all = tt
  want_sorts Mark Object left behind f ks all = tt
  want_sorts True place left behind f ks all = (holds.literal true_literal, f ks all)

  pub placed_sorts : (ps : List Part) → Follows (placed ps)
  unfolding placed
  placed_sorts [] ks all = tt
  placed_sorts (p ∷ ps) ks all = want_sorts p.want p.place (singles ps) (λ ls. placed ps ls) (placed_sorts ps) ks all

  abbrev AllPlaced : List Placed → Type 0
  AllPlaced ps = AllByRecursion (λ (p : Placed). P p.form) ps

  arc_at : (place : Place) (f : Form) (ps : List Placed) → P f → AllForms P (arcs_of ps) → AllForms P (arcs_of (record { place = place; form = f } ∷ ps))
  arc_at (At w) f ps h rest = (h, rest)
  arc_at Subject f ps h rest = rest
  arc_at Predicate f ps h rest = rest
  arc_at Object f ps h rest = rest

  pub arc_sorts : (ps : List Placed) → AllPlaced ps → AllForms P (arcs_of ps)
  arc_sorts [] all = tt
  arc_sorts (p ∷ ps) all = arc_at p.place p.form ps all.0 (arc_sorts ps all.1)

  between_sorts : (place : Place) (f : Form) (iri : List ℕ) (q : Form) → P f → P q → AllEnds P (between place f iri q)
  between_sorts Object f iri q h k = (h, k)
  between_sorts Subject f iri q h k = (h, k)
  between_sorts Predicate f iri q h k = tt
  between_sorts (At w) f iri q h k = tt

  predicate_sorts : (r s o : Form) → P s → P o → AllEnds P (by_predicate r s o)
  predicate_sorts (plain (Iri iri)) s o h k = (h, k)
  predicate_sorts (plain (Blank label)) s o h k = tt
  predicate_sorts (plain (Literal literal)) s o h k = tt
  predicate_sorts (made arcs) s o h k = tt
  predicate_sorts (twice f) s o h k = tt

  stated_sorts : (site : Site) (ps : List Placed) → AllPlaced ps → AllEnds P (stated site ps)
  stated_sorts (Node r) ps all = arc_sorts ps all
  stated_sorts (TypedBy w) [] all = tt
  stated_sorts (TypedBy w) (p ∷ []) all = (all.0, holds.iri (word_iri w))
  stated_sorts (TypedBy w) (p ∷ q ∷ ps) all = tt
  stated_sorts OtherType [] all = tt
  stated_sorts OtherType (p ∷ []) all = tt
  stated_sorts OtherType (p ∷ q ∷ []) all = between_sorts p.place p.form _ q.form all.0 all.1.0
  stated_sorts OtherType (p ∷ q ∷ r ∷ ps) all = tt
  stated_sorts (LinkedBy w) [] all = tt
  stated_sorts (LinkedBy w) (p ∷ []) all = tt
  stated_sorts (LinkedBy w) (p ∷ q ∷ []) all = between_sorts p.place p.form (word_iri w) q.form all.0 all.1.0
  stated_sorts (LinkedBy w) (p ∷ q ∷ r ∷ ps) all = tt
  stated_sorts OtherLink [] all = tt
  stated_sorts OtherLink (p ∷ []) all = tt
  stated_sorts OtherLink (p ∷ q ∷ []) all = tt
  stated_sorts OtherLink (p ∷ q ∷ r ∷ []) all = predicate_sorts p.form q.form r.form all.1.0 all.1.1.0
  stated_sorts OtherLink (p ∷ q ∷ r ∷ s ∷ ps) all = tt

  row_sorts : (o : Option Row) (ks : List Kid) → AllByRecursion KidSorts ks → AllEnds P (stated_by o ks)
  row_sorts None ks all = tt
  row_sorts (Some r) ks all = stated_sorts r.site (placed r.parts ks) (placed_sorts r.parts ks all)

  loop_sorts : (site : Site) (f : Form) → P f → AllEnds P (loop_at site f)
  loop_sorts (LinkedBy w) f h = h
  loop_sorts (Node r) f h = tt
  loop_sorts (TypedBy w) f h = tt
  loop_sorts OtherType f h = tt
  loop_sorts OtherLink f h = tt

  loop_by_sorts : (o : Option Row) (f : Form) → P f → AllEnds P (loop_by o f)
  loop_by_sorts None f h = tt
  loop_by_sorts (Some r) f h = loop_sorts r.site f h

  either : (b : Bool) (s t : Statement) → AllEnds P s → AllEnds P t → AllEnds P (cond b s t)
  either true s t h k = h
  either false s t h k = k

  pub by_kids_sorts : (t : Tag) (ks : List Kid) → AllByRecursion KidSorts ks → AllEnds P (by_kids t ks)
  by_kids_sorts t [] all = row_sorts (row_for axiom_rows t []) [] all
  by_kids_sorts t (q ∷ []) all =
      either (is_pair t) (loop_by (row_for axiom_rows t (q.tag ∷ q.tag ∷ [])) q.form) (stated_by (row_for axiom_rows t (q.tag ∷ [])) (q ∷ []))
      (loop_by_sorts (row_for axiom_rows t (q.tag ∷ q.tag ∷ [])) q.form all.0.0) (row_sorts (row_for axiom_rows t (q.tag ∷ [])) (q ∷ []) all)
  by_kids_sorts t (q ∷ r ∷ ks) all = row_sorts (row_for axiom_rows t (tags_of (q ∷ r ∷ ks))) (q ∷ r ∷ ks) all

module _ (name : ℕ → List ℕ) (most : ℕ) (differ : AreNamedApart name most) (g : List Triple) (k : List Entity) (apart : AreApart g) where
  of_nodes : HoldsOfLists (IsOfNodes name most g)
  of_nodes = record {
    iri = λ iri. plain_sort name most differ g (Iri iri);
    literal = λ literal. plain_sort name most differ g (Literal literal);
    list = list_sort name most differ g;
    twice_over = twice_sort name most differ g;
  }

  abbrev Sorts : Kid → Type 0
  Sorts q = KidSorts (IsOfNodes name most g) of_nodes q

  kid_sorts : (t : Tree) → IsShaped t → AreWellTyped k (entities t) → HasFacetNames t → AreIndividuals g t → Sorts (kid_of t)
  kid_sorts (leaf t a) shaped typed names single = (tree_sort name most differ g k apart (leaf t a) shaped typed names single, tt)
  kid_sorts (node t ks) shaped typed names single = (
    tree_sort name most differ g k apart (node t ks) shaped typed names single,
    form_sorts name most differ g (kids_seen ks) (kids_sort name most differ g k apart ks shaped.1 typed names single),
  )

  all_sorts : (ks : Kids) → AreShaped ks → AreWellTyped k (entities_of ks) → HaveFacetNames ks → HaveIndividuals g ks → AllByRecursion Sorts (kids_seen ks)
  all_sorts no_kids shaped typed names single = tt
  all_sorts (kid t ks) shaped typed names single = first_and_others g k t ks (kid_sorts t) (all_sorts ks) shaped typed names single

  -- the forms that an axiom is drawn of make their nodes what they are
  pub ends_sort : (a : Tree) → IsShaped a → AreWellTyped k (entities a) → HasFacetNames a → AreIndividuals g a → AllEnds (IsOfNodes name most g) (statement_of a)
  ends_sort (leaf t a) shaped typed names single = tt
  ends_sort (node t no_kids) shaped typed names single = tt
  ends_sort (node t (kid ns ks)) shaped typed names single =
      by_kids_sorts (IsOfNodes name most g) of_nodes t (kids_seen ks)
      (all_sorts ks shaped.1.1 (all_back (λ e. HasKind k e.kind e.iri) (entities ns) (entities_of ks) typed) names.1
      (λ label m. single label (Contains-append_right (labels_in ns) (all_labels_in ks) label m)))

-- and so each of them

of_two : (P : Form → Type 0) (f q : Form) (n l : ℕ) (e : End) → P f × P q → Contains (end_at f n ∷ end_at q l ∷ []) e → P e.form
of_two P f q n l e all m =
    elim (in_cases (end_at f n) (end_at q l ∷ []) e m) [
      | inl i ↦ subst (λ (x : End). P x.form) i all.0
      | inr i ↦ elim (in_cases (end_at q l) [] e i) [ inl j ↦ subst (λ (x : End). P x.form) j all.1 | inr o ↦ absurd (in_none e o) ]
    ]

pub end_form : (P : Form → Type 0) (s : Statement) (n : ℕ) (e : End) → AllEnds P s → Contains (ends_of s n) e → P e.form
end_form P (linked f p q) n e all m = of_two P f q n (n + nodes f) e all m
end_form P (linked_back f p q) n e all m = of_two P f q n (n + nodes f) e all m
end_form P (looped p f) n e all m = elim (in_cases (end_at f n) [] e m) [ inl i ↦ subst (λ (x : End). P x.form) i all | inr o ↦ absurd (in_none e o) ]
end_form P (standing arcs) n e all m = absurd (in_none e m)
end_form P unsaid n e all m = absurd (in_none e m)

from_forms : (P : Form → Type 0) (arcs : Arcs) (sets : List Notes) (n : ℕ) (e : Stand) → AllForms P arcs → Contains (stands_from arcs sets n) e → AllForms P e.arcs
from_forms P arcs [] n e all m = absurd (in_none e m)
from_forms P arcs (ns ∷ sets) n e all m =
    let later = n + (suc (arc_nodes arcs) + note_nodes ns) in
    elim (in_cases (record { number = n; arcs = arcs; notes = ns }) (stands_from arcs sets later) e m) [
      | inl i ↦ subst (λ (x : Stand). AllForms P x.arcs) i all
      | inr i ↦ from_forms P arcs sets later e all i
    ]

pub stand_forms : (P : Form → Type 0) (s : Statement) (sets : List Notes) (n : ℕ) (e : Stand) → AllEnds P s → Contains (stands_of s sets n) e → AllForms P e.arcs
stand_forms P (linked f p q) sets n e all m = absurd (in_none e m)
stand_forms P (linked_back f p q) sets n e all m = absurd (in_none e m)
stand_forms P (looped p f) sets n e all m = absurd (in_none e m)
stand_forms P (standing arcs) sets n e all m = from_forms P arcs sets n e all m
stand_forms P unsaid sets n e all m = absurd (in_none e m)
