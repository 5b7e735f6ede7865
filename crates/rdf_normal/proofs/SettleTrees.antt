-- The steps over numbers.
use Rattle.std.proofs.Common.{◌≡◌, ◌<◌, ◌+◌, ◌-◌, arith, ℕ, not, List, [], ◌∷◌, ◌++◌, length, map, filter, get_or, Option, None, Some, refl, sym, ap, ◌∙◌, subst}
use Rattle.std.specs.Prelude.{flat_map}
use Rattle.std.specs.List.{AllByRecursion, sum_by}
use Rattle.std.proofs.lemmas.List.Kept.{IsStrictlySortedBy-filter}
use Rattle.std.proofs.lemmas.List.{get_or-map, get_or_default, length-map, map-append}
use Rattle.owl_arena.specs.Held.{AreHeld, Held, tree_at, trees_at}
use Rattle.owl_arena.proofs.HeldLaws.{below_later}
use Rattle.owl_arena.specs.Shared.{AreShared}
use Rattle.owl_doc.specs.Documents.{Document, IsDocument, ontology_of, weight_at}
use Rattle.owl_doc.specs.Heads.{iri_in, name_of}
use Rattle.owl_list.specs.Ascending.{AreApart, IsAscending, ascending}
use Rattle.owl_list.proofs.AscendingLaws.{all_in, apart_from_ascending, ascending_again, ascending_ascends, in_map}
use Rattle.owl_tree.specs.Canonical.{canonical}
use Rattle.owl_tree.specs.Ontologies.{Ontology, canonical_head, canonical_list, canonical_ontology, list_weight, ontology_weight}
use Rattle.owl_tree.specs.Order.{tree_cmp}
use Rattle.owl_tree.specs.OrderLaws.{only_equal_trees_tie, trees_total}
use Rattle.owl_tree.specs.Trees.{Tree, weight}
use Rattle.rdf_normal.specs.Building.{document_with}
use Rattle.rdf_normal.specs.declared.own.Parted.{Parted}
use Rattle.rdf_normal.specs.Makings.{AreMade, Extends, IsParted, image}
use Rattle.rdf_normal.specs.NormalForms.{annotation_of, is_about, is_needless, needed, normal_form, own_assertions, settled, spread, spread_axioms, tidied, unsettled_annotations, unsettled_axioms}
use Rattle.rdf_normal.proofs.Extending.{extends_on, forms_at, held_later, trees_later}

pub name_is : (iri version : Option (List ℕ)) → iri_in (name_of iri version) ≡ iri
name_is None version = refl
name_is (Some iri) version = refl

-- what is spread and put in order
pub in_order : (ts us : List Tree) (o : Ontology) (all made now : List ℕ) → canonical_list o.axioms ≡ trees_at ts all → AreMade ts us made (map canonical (flat_map spread (trees_at ts all))) → trees_at us now ≡ ascending tree_cmp (trees_at us made) → trees_at us now ≡ spread_axioms o
in_order ts us o all made now e h f = f ∙ ap (ascending tree_cmp) (h.trees ∙ ap (λ (xs : List Tree). map canonical (flat_map spread xs)) (sym e))

pub others_made : (ts us vs : List Tree) (o : Ontology) (name : Option (List ℕ)) (now : List ℕ) (p : Parted) → Extends ts us → Extends us vs → trees_at us now ≡ spread_axioms o → name ≡ iri_in o.head.name → IsParted us (is_about name) now p → AreMade ts vs p.others.items (unsettled_axioms o)
others_made ts us vs o name now p h k e f parted = record {
  extends = extends_on ts us vs h k;
  held = held_later us vs p.others.items k parted.others_held;
  trees =
      trees_later us vs p.others.items k parted.others_held
      ∙ parted.others
      ∙ ap (λ (n : Option (List ℕ)). filter (λ t. not (is_about n t)) (trees_at us now)) f
      ∙ ap (filter (λ t. not (is_about (iri_in o.head.name) t))) e;
}

map_map : (f g : Tree → Tree) (xs : List Tree) → map f (map g xs) ≡ map (λ t. f (g t)) xs
map_map f g [] = refl
map_map f g (x ∷ xs) = ap (λ (ys : List Tree). f (g x) ∷ ys) (map_map f g xs)

pub notes_made : (ts us vs : List Tree) (o : Ontology) (name : Option (List ℕ)) (all now made after : List ℕ) (p : Parted) → AreShared ts → AreHeld ts all → o.annotations ≡ trees_at ts all → Extends ts us → trees_at us now ≡ spread_axioms o → name ≡ iri_in o.head.name → IsParted us (is_about name) now p → AreMade us vs made (trees_at us all ++ map (λ t. canonical (annotation_of t)) (trees_at us p.own.items)) → trees_at vs after ≡ ascending tree_cmp (trees_at vs made) → AreHeld vs after → AreMade ts vs after (unsettled_annotations o)
notes_made ts us vs o name all now made after p shared held an h e f parted k g there =
    let own : trees_at us p.own.items ≡ own_assertions o =
    parted.own ∙ ap (λ (n : Option (List ℕ)). filter (is_about n) (trees_at us now)) f ∙ ap (filter (is_about (iri_in o.head.name))) e in
    let first : trees_at us all ≡ map canonical o.annotations = trees_later ts us all h held ∙ sym (forms_at ts all shared held) ∙ ap (map canonical) (sym an) in
    record {
      extends = extends_on ts us vs h k.extends;
      held = there;
      trees =
          g
          ∙ ap (ascending tree_cmp)
          (k.trees
          ∙ ap (λ (xs : List Tree). xs ++ map (λ t. canonical (annotation_of t)) (trees_at us p.own.items)) first
          ∙ ap (λ (xs : List Tree). map canonical o.annotations ++ map (λ t. canonical (annotation_of t)) xs) own
          ∙ ap (λ (xs : List Tree). map canonical o.annotations ++ xs) (sym (map_map canonical annotation_of (own_assertions o)))
          ∙ sym (map-append canonical o.annotations (map annotation_of (own_assertions o))));
    }

pub known_length : (us vs : List Tree) (known : List ℕ) → AreMade us vs known (map tidied us) → length known ≡ length us
known_length us vs known h = sym (length-map known (tree_at vs)) ∙ ap length h.trees ∙ length-map us tidied

-- the images of numbers of the first trees
image_at : (us vs : List Tree) (known : List ℕ) (k : ℕ) → AreMade us vs known (map tidied us) → k < length us → tree_at vs (image known k) ≡ tidied (tree_at us k)
image_at us vs known k h l =
    let long = known_length us vs known h in
    let d : Tree = tree_at vs 0 in
    sym (get_or-map (tree_at vs) known k 0 d (omega arith)) ∙ ap (λ (xs : List Tree). get_or xs k d) h.trees ∙ get_or-map tidied us k d d l ∙ ap tidied (get_or_default us k d _ l)

pub images_at : (us vs : List Tree) (known ids : List ℕ) → AreMade us vs known (map tidied us) → AreHeld us ids → trees_at vs (map (image known) ids) ≡ map tidied (trees_at us ids)
images_at us vs known [] h held = refl
images_at us vs known (k ∷ ks) h held = let first = image_at us vs known k h held.0 in let rest = images_at us vs known ks h held.1 in cc

pub images_in : (vs : List Tree) (known ids : List ℕ) → AreHeld vs known → AllByRecursion (λ k. k < length known) ids → AreHeld vs (map (image known) ids)
images_in vs known [] held below = tt
images_in vs known (k ∷ ks) held below = (all_in (λ n. n < length vs) known (image known k) held (k, below.0, get_or_default known k _ 0 below.0), images_in vs known ks held below.1)

-- those of the first trees that are settled
pub settled_at : (ts us vs ws xs : List Tree) (known ids made : List ℕ) (trees : List Tree) → AreMade ts us ids trees → AreMade us vs known (map tidied us) → Extends vs ws → AreMade ws xs made (needed (ascending tree_cmp (trees_at ws (map (image known) ids)))) → AreMade ts xs made (settled trees)
settled_at ts us vs ws xs known ids made trees h k on s =
    let below : AllByRecursion (λ n. n < length known) ids = let long = known_length us vs known k in below_later ids (length us) (length known) (omega arith) h.held in
    let there = images_in vs known ids k.held below in
    record {
      extends = extends_on ts us xs h.extends (extends_on us vs xs k.extends (extends_on vs ws xs on s.extends));
      held = s.held;
      trees =
          s.trees
          ∙ ap (λ (ys : List Tree). needed (ascending tree_cmp ys))
          (trees_later vs ws (map (image known) ids) on there ∙ images_at us vs known ids k h.held ∙ ap (map tidied) h.trees);
    }

pub made_on : (ts us vs : List Tree) (ids : List ℕ) (trees : List Tree) → AreMade ts us ids trees → Extends us vs → AreMade ts vs ids trees
made_on ts us vs ids trees h k = record { extends = extends_on ts us vs h.extends k; held = held_later us vs ids k h.held; trees = trees_later us vs ids k h.held ∙ h.trees }

pub below_known : (us vs : List Tree) (known ids : List ℕ) → AreMade us vs known (map tidied us) → AreHeld us ids → AllByRecursion (λ n. n < length known) ids
below_known us vs known ids k held = let long = known_length us vs known k in below_later ids (length us) (length known) (omega arith) held

pub as_many : (ts us : List Tree) (ids : List ℕ) (trees : List Tree) → AreMade ts us ids trees → length ids ≡ length trees
as_many ts us ids trees h = sym (length-map ids (tree_at us)) ∙ ap length h.trees

-- as the numbers are handed over
pub settle_made : (vs ws : List Tree) (known known' ids ids' made : List ℕ) → known ≡ known' → ids ≡ ids' → AreMade vs ws made (needed (ascending tree_cmp (trees_at vs (map (image known) ids)))) → AreMade vs ws made (needed (ascending tree_cmp (trees_at vs (map (image known') ids'))))
settle_made vs ws known known' ids ids' made e f h =
    subst (λ (ns : List ℕ). AreMade vs ws made (needed (ascending tree_cmp (trees_at vs (map (image known') ns))))) f
    (subst (λ (ns : List ℕ). AreMade vs ws made (needed (ascending tree_cmp (trees_at vs (map (image ns) ids))))) e h)

pub absorbed_is : (a b x y : List ℕ) (m n r : ℕ) → r ≡ length a - length b → a ≡ x → b ≡ y → length x ≡ m → length y ≡ n → r ≡ m - n
absorbed_is a b x y m n r e f g h k =
    e ∙ ap (λ (c : List ℕ). length c - length b) f ∙ ap (λ (c : List ℕ). length x - length c) g ∙ ap (λ l. l - length y) h ∙ ap (λ l. m - l) k

-- numbers whose trees stand once stand once
apart_ids : (ts : List Tree) (ids : List ℕ) → AreApart (trees_at ts ids) → AreApart ids
apart_ids ts [] h = tt
apart_ids ts (id ∷ ids) h = (λ m. h.0 (in_map (tree_at ts) ids id m), apart_ids ts ids h.1)

settled_ascends : (xs : List Tree) → IsAscending tree_cmp (settled xs)
settled_ascends xs =
    let all : List Tree = ascending tree_cmp (map tidied xs) in
    IsStrictlySortedBy-filter tree_cmp (λ t. not (is_needless all t)) all (ascending_ascends tree_cmp trees_total (map tidied xs))

pub settled_apart : (ts us : List Tree) (ids : List ℕ) (xs : List Tree) → AreMade ts us ids (settled xs) → AreHeld us ids × AreApart ids
settled_apart ts us ids xs h = (h.held, apart_ids us ids (subst AreApart (sym h.trees) (apart_from_ascending tree_cmp trees_total (settled xs) (settled_ascends xs))))

settled_canonical : (ts us : List Tree) (ids : List ℕ) (xs : List Tree) → AreShared us → AreMade ts us ids (settled xs) → canonical_list (settled xs) ≡ settled xs
settled_canonical ts us ids xs shared h =
    ap (ascending tree_cmp) (ap (map canonical) (sym h.trees) ∙ forms_at us ids shared h.held ∙ h.trees)
    ∙ ascending_again tree_cmp trees_total only_equal_trees_tie (settled xs) (settled_ascends xs)

pub form_is : (ts : List Tree) (arena : Held) (d : Document) (notes axioms : List ℕ) → IsDocument d → AreShared arena.trees → AreMade ts arena.trees notes (normal_form (ontology_of d)).annotations → AreMade ts arena.trees axioms (normal_form (ontology_of d)).axioms → canonical_ontology (ontology_of (document_with d arena notes axioms)) ≡ normal_form (ontology_of d)
form_is ts arena d notes axioms document shared h k =
    let o = ontology_of d in
    let head : canonical_head d.head ≡ d.head = ap (λ (p : Ontology). p.head) document.canonical in
    let first : canonical_list (trees_at arena.trees notes) ≡ (normal_form o).annotations = ap canonical_list h.trees ∙ settled_canonical ts arena.trees notes (unsettled_annotations o) shared h in
    let second : canonical_list (trees_at arena.trees axioms) ≡ (normal_form o).axioms = ap canonical_list k.trees ∙ settled_canonical ts arena.trees axioms (unsettled_axioms o) shared k in
    λ i. record { head = head i; annotations = first i; axioms = second i }

pub weight_is : (ts us : List Tree) (o : Ontology) (notes axioms : List ℕ) → AreShared us → AreMade ts us notes (normal_form o).annotations → AreMade ts us axioms (normal_form o).axioms → weight_at us notes + weight_at us axioms ≡ ontology_weight (normal_form o)
weight_is ts us o notes axioms shared h k =
    let first : weight_at us notes ≡ list_weight (normal_form o).annotations = ap (sum_by weight) (h.trees ∙ sym (settled_canonical ts us notes (unsettled_annotations o) shared h)) in
    let second : weight_at us axioms ≡ list_weight (normal_form o).axioms = ap (sum_by weight) (k.trees ∙ sym (settled_canonical ts us axioms (unsettled_axioms o) shared k)) in
    cc
