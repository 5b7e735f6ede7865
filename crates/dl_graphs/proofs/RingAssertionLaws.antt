-- Laws of assertions that close rings.
use Rattle.std.proofs.Common.{◌≡◌, ◌<◌, ◌↔◌, inl, inr, ℕ, Bool, true, false, List, [], ◌∷◌, Option, None, Some, length, map, refl, sym, ap, ◌∙◌, subst}
use Rattle.std.specs.Prelude.{Contains, not, slice_get, ◌&&◌}
use Rattle.std.specs.Bool.{beq}
use Rattle.std.specs.Cmp.{booleans_Decides}
use Rattle.std.specs.List.{AllByRecursion, filter}
use Rattle.std.specs.Option.{option_map}
use Rattle.std.proofs.lemmas.Bool.{and_parts, cases_Bool, not-true, false≢true}
use Rattle.std.proofs.lemmas.List.{length-map}
use Rattle.std.proofs.lemmas.Option.{same_Some, slice_get-get_or, slice_get-map, slice_get_within}
use Rattle.std.proofs.lemmas.Simd.{map-map}
use Rattle.std.proofs.lemmas.Slice.Eq.{bytes_eq-Decides}
use Rattle.graph_walks.specs.Marks.{MarkEach}
use Rattle.graph_walks.specs.Rings as ring
use Rattle.graph_walks.specs.Rings.{without}
use Rattle.graph_walks.specs.Walks.{AreWithin, both_ways}
use Rattle.graph_walks.proofs.WalkLaws.{both_among, both_forth, walk_among}
use Rattle.graph_walks.proofs.WithoutLaws.{from_without, in_without}
use Rattle.owl_breaches.specs.Those.{HoldsOfSome}
use Rattle.owl_characters.specs.Order.{text_eq}
use Rattle.owl_list.specs.Ascending.{HoldSame}
use Rattle.owl_list.proofs.AscendingLaws.{all_in, from_map, in_map}
use Rattle.owl_list.proofs.FilterLaws.{from_filter, in_filter}
use Rattle.owl_tree.specs.Trees.{Tree}
use Rattle.dl_rules.specs.Assertions.{ClosesRing, Link, ends, link_eq, link_of}
use Rattle.graph_walks.specs.Numbers.{numbered}
use Rattle.dl_rules.specs.Properties.{Property, property_eq}
use Rattle.graph_walks.proofs.NumberLaws.{AreListed, numbered_within, rings_of_things}
use Rattle.dl_rules.proofs.PlaceLaws.{places_apart}
use Rattle.dl_graphs.specs.Links.{ArePlaced, IsHeldLink, IsLabel, IsPlaced, StandOnce, label_leaf, label_place, mark_at}
use Rattle.dl_graphs.proofs.GroupLaws.{cons_marks, marks_none}
use Rattle.dl_graphs.proofs.LinkLaws.{one_label, same_link}
use Rattle.dl_graphs.proofs.ListLaws.{option_back, stands_at, stands_in}

-- The test of links.

property_same : (p q : Property) → property_eq p q ≡ true → p ≡ q
property_same p q h =
    let parts = and_parts (text_eq p.iri q.iri) (beq p.inverted q.inverted) h in
    let iri : p.iri ≡ q.iri = (bytes_eq-Decides p.iri q.iri).0 parts.0 in
    let inverted : p.inverted ≡ q.inverted = (booleans_Decides p.inverted q.inverted).0 parts.1 in
    λ i. record { iri = iri i; inverted = inverted i }

link_same : (l m : Link) → link_eq l m ≡ true → l ≡ m
link_same l m h =
    let front = and_parts (property_eq l.property m.property && text_eq l.subject m.subject) (text_eq l.object m.object) h in
    let first = and_parts (property_eq l.property m.property) (text_eq l.subject m.subject) front.0 in
    let property : l.property ≡ m.property = property_same l.property m.property first.0 in
    let subject : l.subject ≡ m.subject = (bytes_eq-Decides l.subject m.subject).0 first.1 in
    let object : l.object ≡ m.object = (bytes_eq-Decides l.object m.object).0 front.1 in
    same_link l m property subject object

itself : (text : List ℕ) → text_eq text text ≡ true
itself text = (bytes_eq-Decides text text).1 refl

link_itself : (l : Link) → link_eq l l ≡ true
link_itself l = rw (itself l.property.iri, (booleans_Decides l.property.inverted l.property.inverted).1 refl, itself l.subject, itself l.object) refl

is_other : (l m : Link) → (m ≡ l → ⊥) → not (link_eq m l) ≡ true
is_other l m differs = elim (cases_Bool (link_eq m l)) as (λ _. not (link_eq m l) ≡ true) [
  | inl same ↦ absurd (differs (link_same m l same))
  | inr other ↦ ap not other
]

other_is : (l m : Link) → not (link_eq m l) ≡ true → m ≡ l → ⊥
other_is l m h same = false≢true (sym (not-true (link_eq m l) h) ∙ (ap (λ (n : Link). link_eq n l) same ∙ link_itself l))

-- Among links that stand once, the others by place are the others by value.

module _ (all ls : List Link) (same : HoldSame ls all) (once : StandOnce ls) (place : ℕ) (l : Link) (is : slice_get ls place ≡ Some l) where
  abbrev by_place : List (List ℕ × List ℕ)
  by_place = without place (map ends ls)

  abbrev by_value : List (List ℕ × List ℕ)
  by_value = map ends (filter (λ other. not (link_eq other l)) all)

  to_value : (x y : List ℕ) → Contains by_place (x, y) → Contains by_value (x, y)
  to_value x y m =
      let e = from_without (map ends ls) place (x, y) m in
      let v = option_back ends (slice_get ls e.other) (x, y) (sym (slice_get-map ends ls e.other) ∙ e.is) in
      let other : not (link_eq v.0 l) ≡ true = is_other l v.0 (λ alike. e.differs (once e.other place l (v.1 ∙ ap (λ (n : Link). Some n) alike) is)) in
      let inside : Contains all v.0 = (same v.0).0 (stands_in ls e.other v.0 v.1) in
      subst (λ (pair : List ℕ × List ℕ). Contains by_value pair) v.2
      (in_map ends (filter (λ other. not (link_eq other l)) all) v.0 (in_filter (λ other. not (link_eq other l)) all v.0 inside other))

  to_place : (x y : List ℕ) → Contains by_value (x, y) → Contains by_place (x, y)
  to_place x y m =
      let v = from_map ends (filter (λ other. not (link_eq other l)) all) (x, y) m in
      let kept = from_filter (λ other. not (link_eq other l)) all v.element v.inside in
      let at = stands_at ls v.element ((same v.element).1 kept.inside) in
      in_without (map ends ls) place (x, y) at.0
      (λ here. other_is l v.element kept.passes (same_Some v.element l (sym at.1 ∙ (ap (slice_get ls) here ∙ is))))
      (slice_get-map ends ls at.0 ∙ (ap (option_map ends) at.1 ∙ ap (λ (pair : List ℕ × List ℕ). Some pair) v.value))

  pub ring_where : ring.ClosesRing (map ends ls) place (ends l) ↔ ClosesRing all l
  ring_where = (
    walk_among (both_ways by_place) (both_ways by_value) (both_among by_place by_value (λ x y m. both_forth by_value x y (to_value x y m))) l.subject l.object,
    walk_among (both_ways by_value) (both_ways by_place) (both_among by_value by_place (λ x y m. both_forth by_place x y (to_place x y m))) l.subject l.object,
  )

-- From numbers to links.

module _ (ts : List Tree) (ls : List Link) (held : AllByRecursion (IsHeldLink ts) ls) where
  apart : (x y : List ℕ) → IsLabel ts x → IsLabel ts y → label_place ts x ≡ label_place ts y → x ≡ y
  apart x y h k e = one_label x y (places_apart ts (label_leaf x) (label_leaf y) k e)

  listed : AreListed (IsLabel ts) (map ends ls)
  listed = λ x y m.
      let v = from_map ends ls (x, y) m in
      let own : IsHeldLink ts v.element = all_in (IsHeldLink ts) ls v.element held v.inside in (
        subst (IsLabel ts) (ap (λ (pair : List ℕ × List ℕ). pair.0) v.value) own.subject,
        subst (IsLabel ts) (ap (λ (pair : List ℕ × List ℕ). pair.1) v.value) own.object,
      )

  abbrev pub places : List (ℕ × ℕ)
  places = map (λ (l : Link). (label_place ts l.subject, label_place ts l.object)) ls

  places_are : numbered (label_place ts) (map ends ls) ≡ places
  places_are = map-map (λ (pair : List ℕ × List ℕ). (label_place ts pair.0, label_place ts pair.1)) ends ls

  pub places_within : AreWithin (length ts) places
  places_within =
      subst (λ (ps : List (ℕ × ℕ)). AreWithin (length ts) ps) places_are
      (numbered_within (label_place ts) (IsLabel ts) apart (length ts) (map ends ls) listed (λ x h. h))

  rings_by_value : (marks : List Bool) → MarkEach (ring.ClosesRing places) places marks → MarkEach (ring.ClosesRing (map ends ls)) (map ends ls) marks
  rings_by_value marks each =
      rings_of_things (label_place ts) (IsLabel ts) apart (map ends ls) listed marks
      (subst (λ (ps : List (ℕ × ℕ)). MarkEach (ring.ClosesRing ps) ps marks) (sym places_are) each)

  -- each link has the mark in its place
  pub told_of_links : (all : List Link) (marks : List Bool) → HoldSame ls all → StandOnce ls → MarkEach (ring.ClosesRing places) places marks → (place : ℕ) (l : Link) → slice_get ls place ≡ Some l → (mark_at marks (Some place) ≡ true) ↔ ClosesRing all l
  told_of_links all marks same once each place l is =
      let rings = rings_by_value marks each in
      let at : slice_get (map ends ls) place ≡ Some (ends l) = slice_get-map ends ls place ∙ ap (option_map ends) is in
      let told = rings.told place (ends l) at in
      let where_so = ring_where all ls same once place l is in
      let size : length marks ≡ length ls = rings.size ∙ length-map ls ends in
      let inside : place < length marks = subst (λ (n : ℕ). place < n) (sym size) (slice_get_within ls place l is) in
      let reads : slice_get marks place ≡ Some (mark_at marks (Some place)) = slice_get-get_or marks place false inside in (
        λ h. where_so.0 (told.0 (reads ∙ ap (λ (b : Bool). Some b) h)),
        λ h. same_Some (mark_at marks (Some place)) true (sym reads ∙ told.1 (where_so.1 h)),
      )

-- From links to axioms.

module _ (IsSo : Link → Type 0) (ls : List Link) (marks : List Bool) (told : (place : ℕ) (l : Link) → slice_get ls place ≡ Some l → (mark_at marks (Some place) ≡ true) ↔ IsSo l) where
  told_of_one : (o : Option Link) (p : Option ℕ) → IsPlaced ls o p → (mark_at marks p ≡ true) ↔ HoldsOfSome IsSo o
  told_of_one None None h = (λ e. absurd (false≢true e), λ so. absurd so)
  told_of_one (Some l) (Some place) h = told place l h
  told_of_one None (Some place) h = absurd h
  told_of_one (Some l) None h = absurd h

  pub marks_of_placed : (axioms : List Tree) (ps : List (Option ℕ)) → ArePlaced ls axioms ps → MarkEach (λ (place : ℕ) (t : Tree). HoldsOfSome IsSo (link_of t)) axioms (map (mark_at marks) ps)
  marks_of_placed [] [] h = marks_none (λ (t : Tree). HoldsOfSome IsSo (link_of t))
  marks_of_placed (t ∷ ts) (p ∷ ps) h = cons_marks (λ (u : Tree). HoldsOfSome IsSo (link_of u)) t ts (mark_at marks p) (map (mark_at marks) ps) (told_of_one (link_of t) p h.0) (marks_of_placed ts ps h.1)
  marks_of_placed [] (p ∷ ps) h = absurd h
  marks_of_placed (t ∷ ts) [] h = absurd h
