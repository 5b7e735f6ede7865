-- Laws of links by numbers.
use Rattle.std.proofs.Common.{◌≡◌, ◌<◌, ◌+◌, inl, inr, ℕ, Bool, true, false, List, [], ◌∷◌, ◌++◌, Option, None, Some, length, map, take, get_or, refl, sym, ap, ◌∙◌, subst, append-nil}
use Rattle.std.specs.Prelude.{slice_get}
use Rattle.std.specs.List.{AllByRecursion, IsDistinct, cons_option}
use Rattle.std.specs.Option.{option_map}
use Rattle.std.proofs.lemmas.Bool.{and_parts, or_cases, false≢true}
use Rattle.std.proofs.lemmas.List.{map-append}
use Rattle.std.proofs.lemmas.List.Elements.{filter_map-append}
use Rattle.std.proofs.lemmas.Option.{same_Some, slice_get-map}
use Rattle.std.proofs.lemmas.Simd.{map-map}
use Rattle.owl_list.specs.Ascending.{HoldSame}
use Rattle.owl_list.proofs.AscendingLaws.{all_in, all_pushed}
use Rattle.dl_rules.specs.Assertions.{Link, link_between, link_of, links as links_of}
use Rattle.dl_rules.specs.Logical.{label_in}
use Rattle.dl_rules.specs.Places.{place_of}
use Rattle.dl_rules.specs.Properties.{Property, inverse, named, named_over, property_in, property_over}
use Rattle.dl_rules.proofs.PlaceLaws.{place_is, places_apart}
use Rattle.owl_arena.specs.Held.{AreHeld, tree_at, trees_at}
use Rattle.owl_arena.specs.Shared.{HaveOneNumber}
use Rattle.owl_tree.specs.declared.atom.Atom.TheVariants as atom
use Rattle.owl_tree.specs.declared.row.AtomSort.TheVariants as atom_sort
use Rattle.owl_tree.specs.declared.row.Sort.TheVariants as sort
use Rattle.owl_tree.specs.declared.tag.Tag.TheVariants as tag
use Rattle.owl_tree.specs.OrderLaws.{same_tag}
use Rattle.owl_tree.specs.Rows.{Leaf, admits, is_tag, row_of}
use Rattle.owl_tree.specs.Shape.{AreShaped, FitsRow, IsShaped}
use Rattle.owl_tree.specs.Trees.{Tree, Kids, leaf, node, no_kids, kid, list_of, tag_of}
use Rattle.dl_graphs.specs.declared.links.LinkIds.{LinkIds}
use Rattle.dl_graphs.specs.declared.links.Links.{Links}
use Rattle.dl_graphs.specs.Links.{AddsLink, AreLinks, ArePlaced, IsAdded, IsHeldLink, IsLinkIf, IsListing, IsPlaced, label_leaf, ends_at, link_ids, property_tree}
use Rattle.dl_graphs.proofs.ListLaws.{hold_again, hold_more, option_back, stands_in, stands_once, stays_at}
use Rattle.dl_graphs.proofs.UseLaws.{front_and_next}
use Rattle.owl_tree.proofs.LeafLaws.{iri_leaf}

-- Properties as trees.

property_row : row_of tag.ObjectProperty ≡ Leaf atom_sort.Iri
unfolding row_of
property_row = refl

inverse_fits : (ks : Kids) → FitsRow tag.ObjectInverseOf (list_of ks) → AreShaped ks → (iri : List ℕ) × (ks ≡ kid (leaf tag.ObjectProperty (atom.Iri iri)) no_kids)
unfolding row_of admits
inverse_fits no_kids h shaped = absurd (let f = h.row in cc)
inverse_fits (kid t no_kids) h shaped =
    let is = and_parts (is_tag tag.ObjectProperty (tag_of t)) true h.row in
    let l = iri_leaf t tag.ObjectProperty property_row shaped.0 (sym ((same_tag tag.ObjectProperty (tag_of t)).0 is.0)) in
    (l.0, ap (λ (u : Tree). kid u no_kids) l.1)
inverse_fits (kid t (kid u ks)) h shaped = absurd (false≢true (and_parts (is_tag tag.ObjectProperty (tag_of t)) false h.row).1)

inverse_tree : (t : Tree) → IsShaped t → tag_of t ≡ tag.ObjectInverseOf → (p : Property) × (t ≡ property_tree p)
unfolding row_of
inverse_tree (node tag.ObjectInverseOf ks) h e = let k = inverse_fits ks h.0 h.1 in (inverse (named k.0), ap (node tag.ObjectInverseOf) k.1)
inverse_tree (leaf tag.ObjectInverseOf a) h e = absurd (let f = h.0 in cc)
inverse_tree _ h e = absurd (cc)

-- what stands where a property is asked for is one
pub property_shaped : (t : Tree) → IsShaped t → admits sort.ObjectPropertyExpression (tag_of t) ≡ true → (p : Property) × (t ≡ property_tree p)
unfolding admits
property_shaped t h e =
    elim (or_cases (is_tag tag.ObjectProperty (tag_of t)) (is_tag tag.ObjectInverseOf (tag_of t)) e) as (λ _. (p : Property) × (t ≡ property_tree p)) [
      | inl is ↦ let l = iri_leaf t tag.ObjectProperty property_row h (sym ((same_tag tag.ObjectProperty (tag_of t)).0 is)) in (named l.0, l.1)
      | inr is ↦ inverse_tree t h (sym ((same_tag tag.ObjectInverseOf (tag_of t)).0 is))
    ]

property_by : (iri : List ℕ) (inverted : Bool) → property_in (property_tree (record { iri = iri; inverted = inverted })) ≡ Some (record { iri = iri; inverted = inverted })
unfolding property_over named_over
property_by iri true = refl
property_by iri false = refl

pub property_back : (p : Property) → property_in (property_tree p) ≡ Some p
property_back p = property_by p.iri p.inverted

-- Links by their numbers.

one_property : (p q : Property) → property_tree p ≡ property_tree q → p ≡ q
one_property p q e = same_Some p q (sym (property_back p) ∙ (ap property_in e ∙ property_back q))

pub one_label : (l m : List ℕ) → label_leaf l ≡ label_leaf m → l ≡ m
one_label l m e = cc

pub same_link : (l m : Link) → l.property ≡ m.property → l.subject ≡ m.subject → l.object ≡ m.object → l ≡ m
same_link l m p s o = λ i. record { property = p i; subject = s i; object = o i }

same_ids : (a b : LinkIds) → a.property ≡ b.property → a.subject ≡ b.subject → a.object ≡ b.object → a ≡ b
same_ids a b p s o = λ i. record { property = p i; subject = s i; object = o i }

module _ (ts : List Tree) where
  pub one_link : (l m : Link) → IsHeldLink ts l → IsHeldLink ts m → link_ids ts l ≡ link_ids ts m → l ≡ m
  one_link l m h k e =
      let p : l.property ≡ m.property = one_property l.property m.property (places_apart ts (property_tree l.property) (property_tree m.property) k.property (ap (λ (ids : LinkIds). ids.property) e)) in
      let s : l.subject ≡ m.subject = one_label l.subject m.subject (places_apart ts (label_leaf l.subject) (label_leaf m.subject) k.subject (ap (λ (ids : LinkIds). ids.subject) e)) in
      let o : l.object ≡ m.object = one_label l.object m.object (places_apart ts (label_leaf l.object) (label_leaf m.object) k.object (ap (λ (ids : LinkIds). ids.object) e)) in
      same_link l m p s o

  module _ (one : HaveOneNumber ts) where
    tree_place : (id : ℕ) (t : Tree) → id < length ts → tree_at ts id ≡ t → place_of ts t ≡ id
    tree_place id t h is = subst (λ (u : Tree). place_of ts u ≡ id) is (place_is ts one id h)

    pub link_there : (p : Property) (s o : List ℕ) (ids : LinkIds) → AreHeld ts (ids.property ∷ ids.subject ∷ ids.object ∷ []) → tree_at ts ids.property ≡ property_tree p → tree_at ts ids.subject ≡ label_leaf s → tree_at ts ids.object ≡ label_leaf o →
        IsLinkIf ts (Some ids) (link_between (property_in (tree_at ts ids.property)) (label_in (tree_at ts ids.subject)) (label_in (tree_at ts ids.object)))
    link_there p s o ids held property subject object =
        let first = tree_place ids.property (property_tree p) held.0 property in
        let second = tree_place ids.subject (label_leaf s) held.1.0 subject in
        let third = tree_place ids.object (label_leaf o) held.1.1.0 object in
        let l : Link = record { property = p; subject = s; object = o } in
        let is : link_between (property_in (tree_at ts ids.property)) (label_in (tree_at ts ids.subject)) (label_in (tree_at ts ids.object)) ≡ Some l =
        ap (λ (t : Tree). link_between (property_in t) (label_in (tree_at ts ids.subject)) (label_in (tree_at ts ids.object))) property
        ∙ ap (λ (q : Option Property). link_between q (label_in (tree_at ts ids.subject)) (label_in (tree_at ts ids.object))) (property_back p)
        ∙ ap (λ (t : Tree). link_between (Some p) (label_in t) (label_in (tree_at ts ids.object))) subject
        ∙ ap (λ (t : Tree). link_between (Some p) (Some s) (label_in t)) object in
        subst (λ (o : Option Link). IsLinkIf ts (Some ids) o) (sym is) (
          same_ids ids (link_ids ts l) (sym first) (sym second) (sym third),
          record {
            property = subst (λ (n : ℕ). n < length ts) (sym first) held.0;
            subject = subst (λ (n : ℕ). n < length ts) (sym second) held.1.0;
            object = subst (λ (n : ℕ). n < length ts) (sym third) held.1.1.0;
          },
        )

-- Links that grow.

-- what an axiom that is placed says stays so where more links come
still_placed : (ls more : List Link) (o : Option Link) (p : Option ℕ) → IsPlaced ls o p → IsPlaced (ls ++ more) o p
still_placed ls more None None h = tt
still_placed ls more (Some l) (Some place) h = stays_at ls more place l h
still_placed ls more None (Some place) h = absurd h
still_placed ls more (Some l) None h = absurd h

all_still_placed : (ls more : List Link) (us : List Tree) (ps : List (Option ℕ)) → ArePlaced ls us ps → ArePlaced (ls ++ more) us ps
all_still_placed ls more [] [] h = tt
all_still_placed ls more (u ∷ us) (p ∷ ps) h = (still_placed ls more (link_of u) p h.0, all_still_placed ls more us ps h.1)
all_still_placed ls more [] (p ∷ ps) h = absurd h
all_still_placed ls more (u ∷ us) [] h = absurd h

one_more_placed : (ls : List Link) (us : List Tree) (ps : List (Option ℕ)) (u : Tree) (p : Option ℕ) → ArePlaced ls us ps → IsPlaced ls (link_of u) p → ArePlaced ls (us ++ u ∷ []) (ps ++ p ∷ [])
one_more_placed ls [] [] u p h own = (own, tt)
one_more_placed ls (v ∷ us) (q ∷ ps) u p h own = (h.0, one_more_placed ls us ps u p h.1 own)
one_more_placed ls [] (q ∷ ps) u p h own = absurd h
one_more_placed ls (v ∷ us) [] u p h own = absurd h

links_more : (us : List Tree) (u : Tree) (o : Option Link) → link_of u ≡ o → links_of (us ++ u ∷ []) ≡ links_of us ++ cons_option o []
links_more us u o e = filter_map-append link_of us (u ∷ []) ∙ ap (λ (p : Option Link). links_of us ++ cons_option p []) e

module _ (ts : List Tree) where
  found_at : (ls : List Link) (l : Link) (place : ℕ) → AllByRecursion (IsHeldLink ts) ls → IsHeldLink ts l → slice_get (map (link_ids ts) ls) place ≡ Some (link_ids ts l) → slice_get ls place ≡ Some l
  found_at ls l place all held is =
      let v = option_back (link_ids ts) (slice_get ls place) (link_ids ts l) (sym (slice_get-map (link_ids ts) ls place) ∙ is) in
      let own : IsHeldLink ts v.0 = all_in (IsHeldLink ts) ls v.0 all (stands_in ls place v.0 v.1) in
      v.1 ∙ ap (λ (m : Link). Some m) (one_link ts v.0 l own held v.2)

  known_listed : (us : List Tree) (u : Tree) (l : Link) (old new : List LinkIds) (ps : List (Option ℕ)) (place : ℕ) → link_of u ≡ Some l → IsListing ts us old ps → IsAdded ts l old new place → new ≡ old → IsListing ts (us ++ u ∷ []) new (ps ++ Some place ∷ [])
  known_listed us u l old new ps place e listing added same =
      let at : slice_get listing.links place ≡ Some l = found_at listing.links l place listing.held added.held (ap (λ (ids : List LinkIds). slice_get ids place) (sym (same ∙ listing.numbers)) ∙ added.there) in
      let own : IsPlaced listing.links (link_of u) (Some place) = subst (λ (o : Option Link). IsPlaced listing.links o (Some place)) (sym e) at in
      record {
        links = listing.links;
        numbers = same ∙ listing.numbers;
        held = listing.held;
        same = subst (λ (ms : List Link). HoldSame listing.links ms) (sym (links_more us u (Some l) e)) (hold_again listing.links (links_of us) l listing.same (stands_in listing.links place l at));
        placed = one_more_placed listing.links us ps u (Some place) listing.placed own;
      }

  new_listed : (us : List Tree) (u : Tree) (l : Link) (old new : List LinkIds) (ps : List (Option ℕ)) (place : ℕ) → link_of u ≡ Some l → IsListing ts us old ps → IsAdded ts l old new place → new ≡ old ++ link_ids ts l ∷ [] → IsListing ts (us ++ u ∷ []) new (ps ++ Some place ∷ [])
  new_listed us u l old new ps place e listing added grown =
      let more : List Link = listing.links ++ l ∷ [] in
      let numbers : new ≡ map (link_ids ts) more = grown ∙ (ap (λ (ids : List LinkIds). ids ++ link_ids ts l ∷ []) listing.numbers ∙ sym (map-append (link_ids ts) listing.links (l ∷ []))) in
      let held = all_pushed (IsHeldLink ts) listing.links l listing.held added.held in
      let at : slice_get more place ≡ Some l = found_at more l place held added.held (ap (λ (ids : List LinkIds). slice_get ids place) (sym numbers) ∙ added.there) in
      let own : IsPlaced more (link_of u) (Some place) = subst (λ (o : Option Link). IsPlaced more o (Some place)) (sym e) at in
      record {
        links = more;
        numbers = numbers;
        held = held;
        same = subst (λ (ms : List Link). HoldSame more ms) (sym (links_more us u (Some l) e)) (hold_more listing.links (links_of us) (l ∷ []) listing.same);
        placed = one_more_placed more us ps u (Some place) (all_still_placed listing.links (l ∷ []) us ps listing.placed) own;
      }

  none_listed : (us : List Tree) (u : Tree) (old new : List LinkIds) (ps : List (Option ℕ)) → link_of u ≡ None → IsListing ts us old ps → new ≡ old → IsListing ts (us ++ u ∷ []) new (ps ++ None ∷ [])
  none_listed us u old new ps e listing same =
      let own : IsPlaced listing.links (link_of u) None = subst (λ (o : Option Link). IsPlaced listing.links o None) (sym e) tt in
      record {
        links = listing.links;
        numbers = same ∙ listing.numbers;
        held = listing.held;
        same = subst (λ (ms : List Link). HoldSame listing.links ms) (sym (links_more us u None e ∙ append-nil (links_of us))) listing.same;
        placed = one_more_placed listing.links us ps u None listing.placed own;
      }

  listed_by : (us : List Tree) (u : Tree) (o : Option Link) (old new : List LinkIds) (ps : List (Option ℕ)) (p : Option ℕ) → link_of u ≡ o → IsListing ts us old ps → AddsLink ts o old new p → IsListing ts (us ++ u ∷ []) new (ps ++ p ∷ [])
  listed_by us u None old new ps None e listing h = none_listed us u old new ps e listing h
  listed_by us u (Some l) old new ps (Some place) e listing h = elim h.grown [
    | inl same ↦ known_listed us u l old new ps place e listing h same
    | inr grown ↦ new_listed us u l old new ps place e listing h grown
  ]
  listed_by us u None old new ps (Some place) e listing h = absurd h
  listed_by us u (Some l) old new ps None e listing h = absurd h

  -- one more axiom is listed
  pub listed_next : (ids : List ℕ) (index id : ℕ) (old new : List LinkIds) (ps more : List (Option ℕ)) (p : Option ℕ) → index < length ids → id ≡ get_or ids index id → IsListing ts (trees_at ts (take index ids)) old ps → AddsLink ts (link_of (tree_at ts id)) old new p → more ≡ ps ++ p ∷ [] → IsListing ts (trees_at ts (take (index + 1) ids)) new more
  listed_next ids index id old new ps more p h is listing added grown =
      let front = trees_at ts (take index ids) in
      let u = tree_at ts id in
      subst (λ (us : List Tree). IsListing ts us new more) (sym (front_and_next ts ids index id h is))
      (subst (λ (qs : List (Option ℕ)). IsListing ts (front ++ u ∷ []) new qs) (sym grown) (listed_by front u (link_of u) old new ps p refl listing added))

  -- links each once, and their ends
  pub listed_links : (axioms : List Tree) (eq : LinkIds → LinkIds → Bool) → ((x : LinkIds) → eq x x ≡ true) → (ids : List LinkIds) (found : Links) → IsListing ts axioms ids found.places.items → IsDistinct eq ids → found.ends.items ≡ map ends_at ids → AreLinks ts axioms found
  listed_links axioms eq itself ids found listing distinct ends =
      let ls : List Link = listing.links in
      let at = λ (place : ℕ) (l : Link) (is : slice_get ls place ≡ Some l). ap (λ (ns : List LinkIds). slice_get ns place) listing.numbers ∙ (slice_get-map (link_ids ts) ls place ∙ ap (option_map (link_ids ts)) is) in
      record {
        links = ls;
        once = λ j k l first second. stands_once eq itself ids distinct j k (link_ids ts l) (at j l first) (at k l second);
        held = listing.held;
        same = listing.same;
        placed = listing.placed;
        ends = ends ∙ (ap (map ends_at) listing.numbers ∙ map-map ends_at (link_ids ts) ls);
      }
