-- An ontology that no step changes is its own normal form.
use Rattle.std.proofs.Common.{◌≡◌, ◌⊎◌, inl, inr, ◌<◌, ◌≤◌, ◌+◌, arith, ℕ, Bool, true, false, cond, not, IsTrue, List, [], ◌∷◌, ◌++◌, length, map, filter, Option, refl, sym, ap, ◌∙◌, subst}
use Rattle.std.specs.Prelude.{flat_map}
use Rattle.std.specs.List.{AllByRecursion, list_any}
use Rattle.std.proofs.lemmas.Bool.{cases_lt, false_from_ne_true}
use Rattle.std.proofs.lemmas.List.{append-nil}
use Rattle.owl_arena.specs.Held.{Held, tree_at, trees_at}
use Rattle.owl_arena.specs.Shared.{AreShared, heaviest}
use Rattle.owl_doc.specs.Documents.{Document, IsDocument, ontology_of}
use Rattle.owl_doc.specs.Heads.{iri_in}
use Rattle.owl_list.specs.Ascending.{ascending}
use Rattle.owl_list.proofs.AscendingLaws.{all_in, all_later, ascending_again, ascending_ascends}
use Rattle.owl_tree.specs.declared.tag.Tag.{Tag}
use Rattle.owl_tree.specs.declared.tag.Tag.TheVariants as tags
use Rattle.owl_tree.specs.Canonical.{arranged, canonical, canonicals}
use Rattle.owl_tree.proofs.EquivalenceLaws.{canonicals_map}
use Rattle.owl_tree.specs.Ontologies.{Ontology, canonical_list, canonical_ontology, ontology_weight}
use Rattle.owl_tree.specs.Order.{tree_cmp}
use Rattle.owl_tree.specs.OrderLaws.{only_equal_trees_tie, trees_total}
use Rattle.owl_tree.specs.Rows.{is_tag, row_of, set_start}
use Rattle.owl_tree.proofs.TreeLaws.{kids_of_list_of, list_of_kids_of}
use Rattle.owl_tree.specs.Trees.{Tree, Kids, leaf, node, kids_in, list_of, tag_of}
use Rattle.rdf_normal.proofs.Bare.{kids_held}
use Rattle.rdf_normal.proofs.Extending.{canonical_at, forms_at}
use Rattle.rdf_normal.specs.Tidied.{IsPlain}
use Rattle.rdf_normal.proofs.AgainLaws.{flat_same, none_pass}
use Rattle.rdf_normal.proofs.NeedlessLaws.{all_pass, any_told, not_false, says_more_told, second_of}
use Rattle.rdf_normal.specs.NormalForms.{absorbed_count, annotation_of, is_about, is_needless, needed, needed_in, normal_form, over, own_assertions, says_more, settled, spread, spread_axioms, tidied, unsettled_annotations, unsettled_axioms}
use Rattle.rdf_normal.specs.OneTriple.{is_one_triple}
use Rattle.rdf_normal.specs.Staying.{IsBare, IsKept, StayTidied}
use Rattle.rdf_normal.proofs.TidiedLaws.{tidieds_map}

-- Trees that stay when they are tidied.

pub these_stay : (ts : List Tree) (n : ℕ) (ids : List ℕ) → AllByRecursion (λ k. k < n) ids → StayTidied ts n → map tidied (trees_at ts ids) ≡ trees_at ts ids
these_stay ts n [] below h = refl
these_stay ts n (k ∷ ks) below h = let first = h k below.0 in let rest = these_stay ts n ks below.1 h in cc

pub one_more_stays : (ts : List Tree) (n : ℕ) → StayTidied ts n → tidied (tree_at ts n) ≡ tree_at ts n → StayTidied ts (n + 1)
one_more_stays ts n h e =
    λ id l.
    elim (cases_lt id n) [
      | inl less ↦ h id less
      | inr more ↦ let same : n ≡ id = omega arith in subst (λ m. tidied (tree_at ts m) ≡ tree_at ts m) same e
    ]

-- kids of a canonical tree stand in order
kids_in_order : (t : Tag) (ks : Kids) → canonical (node t ks) ≡ node t ks → map canonical (list_of ks) ≡ list_of ks → arranged (set_start (row_of t)) (list_of ks) ≡ list_of ks
kids_in_order t ks e f = ap (arranged (set_start (row_of t))) (sym (canonicals_map ks ∙ f)) ∙ sym (list_of_kids_of (arranged (set_start (row_of t)) (canonicals ks))) ∙ ap kids_in e

all_needed_by : (b : Bool) (ts : List Tree) → (b ≡ false) ⊎ (ts ≡ []) → cond b (needed ts) ts ≡ ts
all_needed_by false ts h = refl
all_needed_by true ts (inl e) = absurd (cc)
all_needed_by true ts (inr e) = subst (λ (us : List Tree). needed us ≡ us) (sym e) refl

-- a tree over kids that stay, which is no annotations or has none
pub tree_stays : (t : Tree) → canonical t ≡ t → map canonical (kids_in t) ≡ kids_in t → map tidied (kids_in t) ≡ kids_in t → (is_tag tags.Notes (tag_of t) ≡ false) ⊎ (kids_in t ≡ []) → tidied t ≡ t
tree_stays (leaf t a) e f g h = refl
tree_stays (node t ks) e f g h =
    ap (λ (ts : List Tree). over t (needed_in t (arranged (set_start (row_of t)) ts))) (tidieds_map ks ∙ g)
    ∙ ap (λ (ts : List Tree). over t (needed_in t ts)) (kids_in_order t ks e f)
    ∙ ap (over t) (all_needed_by (is_tag tags.Notes t) (list_of ks) h)
    ∙ ap (node t) (kids_of_list_of ks)

pub not_notes : (b : Bool) (t u : Tag) → b ≡ is_tag tags.Notes t → t ≡ u → IsTrue (not b) → is_tag tags.Notes u ≡ false
not_notes true t u e f h = absurd (cc)
not_notes false t u e f h = ap (is_tag tags.Notes) (sym f) ∙ sym e

-- one tree further
pub tree_further : (ts : List Tree) (id : ℕ) (ids : List ℕ) → AreShared ts → id < length ts → trees_at ts ids ≡ kids_in (tree_at ts id) → AllByRecursion (λ k. k < id) ids → StayTidied ts id → (is_tag tags.Notes (tag_of (tree_at ts id)) ≡ false) ⊎ (ids ≡ []) → StayTidied ts (id + 1)
tree_further ts id ids shared l kids below h which =
    let t : Tree = tree_at ts id in
    let forms = ap (map canonical) (sym kids) ∙ forms_at ts ids shared (kids_held ts id ids l below) ∙ kids in
    let tidy = ap (map tidied) (sym kids) ∙ these_stay ts id ids below h ∙ kids in
    let empty : (is_tag tags.Notes (tag_of t) ≡ false) ⊎ (kids_in t ≡ []) = elim which [ inl e ↦ inl e | inr e ↦ inr (sym kids ∙ ap (trees_at ts) e) ] in
    one_more_stays ts id h (tree_stays t (canonical_at ts id shared l) forms tidy empty)

-- Ontologies.

-- where nothing has annotations all is needed
bare_needed : (ts : List Tree) → AllByRecursion IsBare ts → needed ts ≡ ts
bare_needed ts h =
    all_pass (λ t. not (is_needless ts t)) ts
    (λ u m.
    not_false (is_needless ts u)
    (false_from_ne_true (is_needless ts u)
    (λ e.
    let more = any_told (says_more u) ts (second_of (is_one_triple u) (list_any (says_more u) ts) e) in
    let annotated = (says_more_told u more.0 more.2).0 in
    let bare = all_in IsBare ts more.0 h more.1 in
    cc)))

in_order : (ts : List Tree) → canonical_list ts ≡ ts → ascending tree_cmp ts ≡ ts
in_order ts e = ap (ascending tree_cmp) (sym e) ∙ ascending_again tree_cmp trees_total only_equal_trees_tie (canonical_list ts) (ascending_ascends tree_cmp trees_total (map canonical ts)) ∙ e

settled_same : (ts : List Tree) → canonical_list ts ≡ ts → map tidied ts ≡ ts → AllByRecursion IsBare ts → settled ts ≡ ts
settled_same ts e f h = ap (λ (us : List Tree). needed (ascending tree_cmp us)) f ∙ ap needed (in_order ts e) ∙ bare_needed ts h

-- no step has anything to do
pub record Stays (o : Ontology) : Type 0 where
  pub canonical : canonical_ontology o ≡ o
  pub notes : AllByRecursion IsBare o.annotations
  pub axioms : AllByRecursion (IsKept (iri_in o.head.name)) o.axioms
  pub tidy_notes : map tidied o.annotations ≡ o.annotations
  pub tidy_axioms : map tidied o.axioms ≡ o.axioms

pub stays_all : (d : Document) (arena : Held) (notes axioms : List ℕ) (name : Option (List ℕ)) → IsDocument d → arena ≡ d.arena → notes ≡ d.notes → axioms ≡ d.axioms → name ≡ iri_in d.head.name → AllByRecursion IsBare (trees_at arena.trees notes) → AllByRecursion (IsKept name) (trees_at arena.trees axioms) → StayTidied arena.trees (length arena.trees) → Stays (ontology_of d)
stays_all d arena notes axioms name document e f g h bare kept tidy =
    let tidied_all = subst (λ (a : Held). StayTidied a.trees (length a.trees)) e tidy in
    record {
      canonical = document.canonical;
      notes = subst (λ (a : Held). AllByRecursion IsBare (trees_at a.trees d.notes)) e (subst (λ (ns : List ℕ). AllByRecursion IsBare (trees_at arena.trees ns)) f bare);
      axioms =
          subst (λ (a : Held). AllByRecursion (IsKept (iri_in d.head.name)) (trees_at a.trees d.axioms)) e
          (subst (λ (ns : List ℕ). AllByRecursion (IsKept (iri_in d.head.name)) (trees_at arena.trees ns)) g
          (subst (λ (n : Option (List ℕ)). AllByRecursion (IsKept n) (trees_at arena.trees axioms)) h kept));
      tidy_notes = these_stay d.arena.trees (length d.arena.trees) d.notes document.notes tidied_all;
      tidy_axioms = these_stay d.arena.trees (length d.arena.trees) d.axioms document.axioms tidied_all;
    }

axioms_canonical : (o : Ontology) → Stays o → canonical_list o.axioms ≡ o.axioms
axioms_canonical o h = ap (λ (p : Ontology). p.axioms) h.canonical

spread_same : (o : Ontology) → Stays o → spread_axioms o ≡ o.axioms
spread_same o h =
    let e = axioms_canonical o h in
    ap (λ (ts : List Tree). canonical_list (flat_map spread ts)) e
    ∙ ap canonical_list (flat_same o.axioms (all_later (IsKept (iri_in o.head.name)) IsPlain (λ t k. k.plain) o.axioms h.axioms))
    ∙ e

axioms_same : (o : Ontology) → Stays o → unsettled_axioms o ≡ o.axioms
axioms_same o h =
    let name = iri_in o.head.name in
    ap (filter (λ t. not (is_about name t))) (spread_same o h)
    ∙ all_pass (λ t. not (is_about name t)) o.axioms (λ u m. not_false (is_about name u) (all_in (IsKept name) o.axioms u h.axioms m).other)

notes_same : (o : Ontology) → Stays o → unsettled_annotations o ≡ o.annotations
notes_same o h =
    let name = iri_in o.head.name in
    let none : own_assertions o ≡ [] =
    ap (filter (is_about name)) (spread_same o h) ∙ none_pass (is_about name) o.axioms (all_later (IsKept name) (λ t. is_about name t ≡ false) (λ t k. k.other) o.axioms h.axioms) in
    ap (λ (ts : List Tree). canonical_list (o.annotations ++ map annotation_of ts)) none
    ∙ ap canonical_list (append-nil o.annotations)
    ∙ ap (λ (p : Ontology). p.annotations) h.canonical

axioms_settled : (o : Ontology) → Stays o → settled (unsettled_axioms o) ≡ o.axioms
axioms_settled o h =
    ap settled (axioms_same o h)
    ∙ settled_same o.axioms (axioms_canonical o h) h.tidy_axioms (all_later (IsKept (iri_in o.head.name)) IsBare (λ t k. k.bare) o.axioms h.axioms)

pub form_stays : (o : Ontology) → Stays o → normal_form o ≡ o
form_stays o h =
    let notes : settled (unsettled_annotations o) ≡ o.annotations = ap settled (notes_same o h) ∙ settled_same o.annotations (ap (λ (p : Ontology). p.annotations) h.canonical) h.tidy_notes h.notes in
    let axioms = axioms_settled o h in
    λ i. record { head = o.head; annotations = notes i; axioms = axioms i }

pub none_absorbed : (o : Ontology) → Stays o → absorbed_count o ≡ 0
none_absorbed o h =
    let before = ap length (axioms_same o h) in
    let behind = ap length (axioms_settled o h) in
    omega arith

pub form_is_light : (d : Document) → IsDocument d → Stays (ontology_of d) → ontology_weight (normal_form (ontology_of d)) ≤ heaviest
form_is_light d document h = subst (λ (p : Ontology). ontology_weight p ≤ heaviest) (sym (form_stays (ontology_of d) h)) document.weight
