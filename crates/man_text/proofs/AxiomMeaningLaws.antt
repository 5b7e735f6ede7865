-- What is said in the block of an axiom means what heads the block, declared, and the axiom.
use Rattle.std.proofs.Common.{◌≡◌, ◌≤◌, ◌-◌, ℕ, suc, Bool, true, false, not, Option, None, Some, Ok, List, [], ◌∷◌, ◌++◌, length, map, filter, refl, sym, ap, ◌∙◌, arith}
use Rattle.std.proofs.lemmas.Bool.{and_from, le-leb}
use Rattle.std.specs.Prelude.{◌==◌, nat_le, ◌+◌}
use Rattle.std.specs.List.{flat_map}
use Rattle.std.proofs.lemmas.Bool.Decides.{nat_tests}
use Rattle.std.proofs.lemmas.List.{append-nil, map-append}
use Rattle.man_raw.specs.declared.document.RawPart.{RawPart}
use Rattle.man_raw.specs.declared.form.Form.TheVariants as form
use Rattle.man_raw.specs.declared.form.What.TheVariants as what
use Rattle.man_raw.specs.declared.heading.Heading.{Heading}
use Rattle.man_raw.specs.declared.heading.Heading.TheVariants as heading
use Rattle.man_raw.specs.declared.heading.Section.{Section}
use Rattle.man_raw.specs.declared.heading.Section.TheVariants as section
use Rattle.man_raw.specs.Documents.{ItemTree}
use Rattle.man_raw.specs.Raws.{RawTree, list_of, trees_of}
use Rattle.man_resolve.specs.declared.place.Place.{Place}
use Rattle.man_resolve.specs.declared.place.Place.TheVariants as place
use Rattle.man_resolve.specs.declared.sentence.Sentence.{Sentence}
use Rattle.man_resolve.specs.declared.sentence.Sentence.TheVariants.{Note}
use Rattle.man_resolve.specs.Expressions.{Knows, Meaning, Stem, Told, after, all_at, all_of, behind, by_property, decided, in_front, meanings, meant, node_of, stem, takes, where_takes}
use Rattle.man_resolve.specs.Items.{axiom_of, axioms_of, declaration_of, called, fact_said, groups, is_wanted, key, key_said, meanings_of, members, members_said, named, one, properties, said_of, stated, subject_of}
use Rattle.man_resolve.specs.declared.shape.ByKind.{ByKind}
use Rattle.man_resolve.specs.Places.{by_kind, fact_tags, name_place, negative_tags, sentence_of, shape_of}
use Rattle.owl_doc.specs.Entities.{entities, entities_of}
use Rattle.owl_kind.specs.declared.kind.Kind.TheVariants as kind
use Rattle.owl_tree.specs.declared.atom.Atom.TheVariants as atom
use Rattle.owl_tree.specs.declared.tag.Tag.{Tag}
use Rattle.owl_tree.specs.declared.tag.Tag.TheVariants as tag
use Rattle.owl_tree.specs.Rows.{row_of}
use Rattle.owl_tree.specs.Tags.{number_of}
use Rattle.owl_tree.specs.Trees.{Tree, kids_of, leaf, node}
use Rattle.man_text.specs.Blocks.{characteristic_of, fact_form, pair, listed}
use Rattle.man_text.specs.Undecided.{form_of, is_counted, leaf_what, operands, piece, undecided}
use Rattle.man_text.proofs.AxiomLaws.{AreBodies, AreProperties, IsBeside, IsBodyAt, IsFactTag, IsListed, IsNamedProperty, IsPropertyList, IsWordTag}
use Rattle.man_text.proofs.ExpressionLaws.{IsExpressionAt, IsIriAt, IsLeafAt, IsNameAt, IsNotesTree, IsPropertyOf, Side, data_property, datas, inverse_property, object_property, objects, value_place}
use Rattle.man_text.proofs.ExpressionMeaningLaws.{decided_so, expression_means, side_place, side_tag, property_means}
use Rattle.man_text.proofs.MeaningLaws.{MeanEach, all_mean, bare_property, both_mean, leaf_means, object_means, over_means, set_counts}
use Rattle.man_text.proofs.NoteLaws.{notes_mean}
use Rattle.man_text.proofs.TypedLaws.{AreTyped, typed_first, typed_rest}

-- a name means what it means as a piece
named_is : (ks : Knows) (p : Place) (t : Tree) → IsLeafAt p t → named ks (undecided t) p ≡ meant ks (undecided t) p
unfolding leaf_what
named_is ks _ _ (IsLeafAt.name_leaf _ _ _ iri IsNameAt.class is) = refl
named_is ks _ _ (IsLeafAt.name_leaf _ _ _ iri IsNameAt.class_name is) = refl
named_is ks _ _ (IsLeafAt.name_leaf _ _ _ iri IsNameAt.range is) = refl
named_is ks _ _ (IsLeafAt.name_leaf _ _ _ iri IsNameAt.datatype is) = refl
named_is ks _ _ (IsLeafAt.name_leaf _ _ _ iri IsNameAt.object is) = refl
named_is ks _ _ (IsLeafAt.name_leaf _ _ _ iri IsNameAt.object_name is) = refl
named_is ks _ _ (IsLeafAt.name_leaf _ _ _ iri IsNameAt.data_property is) = refl
named_is ks _ _ (IsLeafAt.name_leaf _ _ _ iri IsNameAt.annotation_property is) = refl
named_is ks _ _ (IsLeafAt.iri_leaf _ _ iri IsIriAt.named_individual is) = refl
named_is ks _ _ (IsLeafAt.iri_leaf _ _ iri IsIriAt.value_iri is) = refl
named_is ks _ _ (IsLeafAt.iri_leaf _ _ iri IsIriAt.plain_iri is) = refl
named_is ks _ _ (IsLeafAt.label_leaf _ label at is) = refl
named_is ks _ _ (IsLeafAt.literal_leaf _ value at is) = refl
named_is ks _ _ (IsLeafAt.number_leaf n few) = refl

pub list_back : (rs : List RawTree) → list_of (trees_of rs) ≡ rs
list_back [] = refl
list_back (r ∷ rs) = ap (λ (l : List RawTree). r ∷ l) (list_back rs)

meanings_are : (ks : Knows) (rs : List RawTree) → meanings_of ks rs ≡ meanings ks (trees_of rs)
meanings_are ks [] = refl
meanings_are ks (r ∷ rs) = ap (λ (l : List Meaning). meant ks r ∷ l) (meanings_are ks rs)

-- as many as have to be written

members_taken : (t : Tag) (h : Heading) (p : Place) → IsListed t h p → (n : ℕ) → 3 ≤ n → takes t n ≡ true
unfolding row_of
members_taken _ _ _ IsListed.equivalent_classes n many = set_counts 1 2 n (omega arith) (omega arith)
members_taken _ _ _ IsListed.disjoint_classes n many = set_counts 1 2 n (omega arith) (omega arith)
members_taken _ _ _ IsListed.same_individual n many = set_counts 1 2 n (omega arith) (omega arith)
members_taken _ _ _ IsListed.different_individuals n many = set_counts 1 2 n (omega arith) (omega arith)

union_taken : (n : ℕ) → 4 ≤ n → takes tag.DisjointUnion n ≡ true
unfolding row_of
union_taken n many = set_counts 2 2 n (omega arith) (omega arith)

not_none : (n : ℕ) → (suc n == 0) ≡ false
not_none n = grind (arith, nat_tests)

-- the properties of each side
object_keys : (os ds : List Tree) → AreProperties objects os → AreProperties datas ds → filter (is_wanted false) (os ++ ds) ≡ os
unfolding number_of
object_keys [] [] h k = refl
object_keys [] (_ ∷ ds) h (data_property iri is, k) = object_keys [] ds tt k
object_keys (_ ∷ os) ds (object_property iri is, h) k = ap (λ (l : List Tree). leaf tag.ObjectProperty (atom.Iri iri) ∷ l) (object_keys os ds h k)
object_keys (_ ∷ os) ds (inverse_property iri is, h) k = ap (λ (l : List Tree). node tag.ObjectInverseOf (kids_of (leaf tag.ObjectProperty (atom.Iri iri) ∷ [])) ∷ l) (object_keys os ds h k)

data_keys : (os ds : List Tree) → AreProperties objects os → AreProperties datas ds → filter (is_wanted true) (os ++ ds) ≡ ds
unfolding number_of
data_keys [] [] h k = refl
data_keys [] (_ ∷ ds) h (data_property iri is, k) = ap (λ (l : List Tree). leaf tag.DataProperty (atom.Iri iri) ∷ l) (data_keys [] ds tt k)
data_keys (_ ∷ os) ds (object_property iri is, h) k = data_keys os ds h k
data_keys (_ ∷ os) ds (inverse_property iri is, h) k = data_keys os ds h k

-- ---- items

abbrev a_frame : Heading → Tree → List RawPart → ItemTree
a_frame h subject parts = record { at = 0; heading = h; name = Some (undecided subject); parts = parts }

-- what is declared, and what is said in one part or in none
abbrev pub all_said : List Tree → List Tree → List (Told Tree)
all_said declared axioms = map Ok (declared ++ axioms)

module _ (ks : Knows) where
  subject_means : (h : Heading) (p : Place) (subject : Tree) → name_place h ≡ Some p → IsLeafAt p subject → AreTyped ks (entities subject) → subject_of ks 0 (name_place h) (Some (undecided subject)) ≡ Ok (subject ∷ [])
  subject_means h p subject e at typed =
      ap (λ (o : Option Place). subject_of ks 0 o (Some (undecided subject))) e
      ∙ ap one (named_is ks p subject at ∙ leaf_means ks p subject at typed)

  -- a frame of which nothing is said but its name
  pub frame_declares : (h : Heading) (p : Place) (subject : Tree) → name_place h ≡ Some p → IsLeafAt p subject → AreTyped ks (entities subject) → axioms_of ks (a_frame h subject []) ≡ all_said (flat_map declaration_of (subject ∷ [])) []
  unfolding axioms_of
  frame_declares h p subject e at typed =
      ap (said_of ks (a_frame h subject [])) (subject_means h p subject e at typed)
      ∙ append-nil (map Ok (flat_map declaration_of (subject ∷ [])))
      ∙ ap (map Ok) (sym (append-nil (flat_map declaration_of (subject ∷ []))))

  pub frame_says : (h : Heading) (p : Place) (subject : Tree) (part : RawPart) (t : Tree) → name_place h ≡ Some p → IsLeafAt p subject → AreTyped ks (entities subject) → axiom_of ks h (subject ∷ []) part ≡ Ok t
      → axioms_of ks (a_frame h subject (part ∷ [])) ≡ all_said (flat_map declaration_of (subject ∷ [])) (t ∷ [])
  unfolding axioms_of
  frame_says h p subject part t e at typed says =
      ap (said_of ks (a_frame h subject (part ∷ []))) (subject_means h p subject e at typed)
      ∙ ap (λ (x : Told Tree). map Ok (flat_map declaration_of (subject ∷ [])) ++ x ∷ []) says
      ∙ sym (map-append Ok (flat_map declaration_of (subject ∷ [])) (t ∷ []))

  -- an item that is no frame
  pub item_says : (h : Heading) (part : RawPart) (t : Tree) → name_place h ≡ None → axiom_of ks h [] part ≡ Ok t
      → axioms_of ks (record { at = 0; heading = h; name = None; parts = part ∷ [] }) ≡ all_said [] (t ∷ [])
  unfolding axioms_of
  item_says h part t e says =
      ap (λ (o : Option Place). said_of ks (record { at = 0; heading = h; name = None; parts = part ∷ [] }) (subject_of ks 0 o None)) e
      ∙ ap (λ (x : Told Tree). x ∷ []) says

  -- ---- axioms

  -- annotations, and then what the sentence says
  pub axiom_means : (h : Heading) (s : Section) (subject : List Tree) (notes : Tree) (body : RawTree) (t : Tag) (ts : List Tree) → IsNotesTree notes → AreTyped ks (entities notes)
      → stated ks h (sentence_of h s) subject body ≡ Ok (record { tag = t; kids = ts })
      → axiom_of ks h subject (record { at = 0; section = s; notes = undecided notes; body = body }) ≡ Ok (node t (kids_of (notes ∷ ts)))
  unfolding axiom_of
  axiom_means h s subject notes body t ts is typed e =
      ap (λ (x : Told Tree). node_of (behind x (stated ks h (sentence_of h s) subject body))) (notes_mean ks notes is typed)
      ∙ ap (λ (x : Told Stem). node_of (behind (Ok notes) x)) e

  module _ (apart : (iri : List ℕ) → ks kind.ObjectProperty iri ≡ true → ks kind.DataProperty iri ≡ true → ⊥) where
    pub body_means : (p : Place) (t : Tree) → IsBodyAt p t → AreTyped ks (entities t) → meant ks (undecided t) p ≡ Ok t
    body_means _ _ (IsBodyAt.class_body t e) typed = expression_means ks apart place.Class t e typed
    body_means _ _ (IsBodyAt.range_body t e) typed = expression_means ks apart place.Range t e typed
    body_means _ _ (IsBodyAt.property_body t is) typed = object_means ks t is typed
    body_means _ _ (IsBodyAt.data_body t at) typed = leaf_means ks place.Data t at typed
    body_means _ _ (IsBodyAt.annotation_body t at) typed = leaf_means ks place.AnnotationProperty t at typed
    body_means _ _ (IsBodyAt.iri_body t at) typed = leaf_means ks place.Iri t at typed
    body_means _ _ (IsBodyAt.individual_body t at) typed = leaf_means ks place.Individual t at typed

    -- the subject, and then the other kid
    pub beside_stated : (t : Tag) (h : Heading) (s : Section) (p q : Place) (subject body : Tree) → IsBeside t h s p q → meant ks (undecided body) q ≡ Ok body
        → stated ks h (sentence_of h s) (subject ∷ []) (undecided body) ≡ Ok (record { tag = t; kids = subject ∷ body ∷ [] })
    unfolding sentence_of
    beside_stated t _ _ _ _ subject body IsBeside.sub_class e = ap (λ (x : Told Tree). stem t (after (subject ∷ []) (one x))) e
    beside_stated t _ _ _ _ subject body IsBeside.sub_property e = ap (λ (x : Told Tree). stem t (after (subject ∷ []) (one x))) e
    beside_stated t _ _ _ _ subject body IsBeside.inverse_properties e = ap (λ (x : Told Tree). stem t (after (subject ∷ []) (one x))) e
    beside_stated t _ _ _ _ subject body IsBeside.object_domain e = ap (λ (x : Told Tree). stem t (after (subject ∷ []) (one x))) e
    beside_stated t _ _ _ _ subject body IsBeside.object_range e = ap (λ (x : Told Tree). stem t (after (subject ∷ []) (one x))) e
    beside_stated t _ _ _ _ subject body IsBeside.sub_data_property e = ap (λ (x : Told Tree). stem t (after (subject ∷ []) (one x))) e
    beside_stated t _ _ _ _ subject body IsBeside.data_domain e = ap (λ (x : Told Tree). stem t (after (subject ∷ []) (one x))) e
    beside_stated t _ _ _ _ subject body IsBeside.data_range e = ap (λ (x : Told Tree). stem t (after (subject ∷ []) (one x))) e
    beside_stated t _ _ _ _ subject body IsBeside.definition e = ap (λ (x : Told Tree). stem t (after (subject ∷ []) (one x))) e
    beside_stated t _ _ _ _ subject body IsBeside.sub_annotation_property e = ap (λ (x : Told Tree). stem t (after (subject ∷ []) (one x))) e
    beside_stated t _ _ _ _ subject body IsBeside.annotation_domain e = ap (λ (x : Told Tree). stem t (after (subject ∷ []) (one x))) e
    beside_stated t _ _ _ _ subject body IsBeside.annotation_range e = ap (λ (x : Told Tree). stem t (after (subject ∷ []) (one x))) e

    -- the members of a list
    listed_mean : (p : Place) (ts : List Tree) → AreBodies p ts → AreTyped ks (entities_of (kids_of ts)) → all_of (all_at p (meanings_of ks (map undecided ts))) ≡ Ok ts
    listed_mean p [] h typed = refl
    listed_mean p (t ∷ ts) h typed =
        both_mean ks (meant ks (undecided t) p) (all_of (all_at p (meanings_of ks (map undecided ts)))) t ts (body_means p t h.0 (typed_first ks t (kids_of ts) typed)) (listed_mean p ts h.1 (typed_rest ks t (kids_of ts) typed))

    members_mean : (t : Tag) (p : Place) (subject ts : List Tree) → takes t (suc (length subject + length (map undecided ts))) ≡ true → AreBodies p ts → AreTyped ks (entities_of (kids_of ts))
        → members ks t p subject (listed ts) ≡ Ok (record { tag = t; kids = subject ++ ts })
    members_mean t p subject ts many h typed =
        ap (members_said ks t p subject 0) (list_back (map undecided ts))
        ∙ ap (λ (b : Bool). where_takes b 0 (stem t (after subject (all_of (all_at p (meanings_of ks (map undecided ts))))))) many
        ∙ ap (λ (x : Told (List Tree)). stem t (after subject x)) (listed_mean p ts h typed)

    pub list_stated : (t : Tag) (h : Heading) (p : Place) (a b : Tree) (ts : List Tree) → IsListed t h p → AreBodies p (a ∷ b ∷ ts) → AreTyped ks (entities_of (kids_of (a ∷ b ∷ ts)))
        → stated ks h (sentence_of h section.Members) [] (listed (a ∷ b ∷ ts)) ≡ Ok (record { tag = t; kids = a ∷ b ∷ ts })
    unfolding sentence_of
    list_stated t _ p a b ts IsListed.equivalent_classes h typed = members_mean t p [] (a ∷ b ∷ ts) (members_taken t heading.EquivalentClasses p IsListed.equivalent_classes _ (omega arith)) h typed
    list_stated t _ p a b ts IsListed.disjoint_classes h typed = members_mean t p [] (a ∷ b ∷ ts) (members_taken t heading.DisjointClasses p IsListed.disjoint_classes _ (omega arith)) h typed
    list_stated t _ p a b ts IsListed.same_individual h typed = members_mean t p [] (a ∷ b ∷ ts) (members_taken t heading.SameIndividual p IsListed.same_individual _ (omega arith)) h typed
    list_stated t _ p a b ts IsListed.different_individuals h typed = members_mean t p [] (a ∷ b ∷ ts) (members_taken t heading.DifferentIndividuals p IsListed.different_individuals _ (omega arith)) h typed

    pub union_stated : (subject a b : Tree) (ts : List Tree) → AreBodies place.Class (a ∷ b ∷ ts) → AreTyped ks (entities_of (kids_of (a ∷ b ∷ ts)))
        → stated ks heading.Class (sentence_of heading.Class section.DisjointUnionOf) (subject ∷ []) (listed (a ∷ b ∷ ts)) ≡ Ok (record { tag = tag.DisjointUnion; kids = subject ∷ a ∷ b ∷ ts })
    unfolding sentence_of
    union_stated subject a b ts h typed = members_mean tag.DisjointUnion place.Class (subject ∷ []) (a ∷ b ∷ ts) (union_taken _ (omega arith)) h typed

    -- properties, of which the first decides
    side_bodies : (s : Side) (by : ByKind) (ts : List Tree) → by.objects ≡ place.Object → by.datas ≡ place.Data → AreProperties s ts → AreTyped ks (entities_of (kids_of ts)) → MeanEach ks (side_place s by) (map undecided ts) ts
    side_bodies s by [] e f h typed = tt
    side_bodies s by (t ∷ ts) e f h typed = (one_body s by t e f h.0 (typed_first ks t (kids_of ts) typed), side_bodies s by ts e f h.1 (typed_rest ks t (kids_of ts) typed))
      where
        one_body : (s : Side) (by : ByKind) (t : Tree) → by.objects ≡ place.Object → by.datas ≡ place.Data → IsPropertyOf s t → AreTyped ks (entities t) → meant ks (undecided t) (side_place s by) ≡ Ok t
        one_body _ by t e f (object_property iri is) typed = ap (meant ks (undecided t)) e ∙ object_means ks t (object_property iri is) typed
        one_body _ by t e f (inverse_property iri is) typed = ap (meant ks (undecided t)) e ∙ object_means ks t (inverse_property iri is) typed
        one_body _ by t e f (data_property iri is) typed = ap (meant ks (undecided t)) f ∙ leaf_means ks place.Data t (IsLeafAt.name_leaf place.Data tag.DataProperty kind.DataProperty iri IsNameAt.data_property is) typed

    properties_mean : (s : Side) (by : ByKind) (a : Tree) (ts : List Tree) → by.objects ≡ place.Object → by.datas ≡ place.Data → AreProperties s (a ∷ ts) → AreTyped ks (entities_of (kids_of (a ∷ ts)))
        → properties ks by (listed (a ∷ ts)) ≡ Ok (record { tag = side_tag s by; kids = a ∷ ts })
    properties_mean s by a ts e f h typed =
        ap (λ (rs : List RawTree). by_property by [] 1 0 (meanings_of ks rs)) (list_back (map undecided (a ∷ ts)))
        ∙ ap (λ (ms : List Meaning). decided by [] ms (meant ks (undecided a) place.Property)) (meanings_are ks (map undecided ts))
        ∙ decided_so ks apart s by [] (undecided a) a (map undecided ts) ts h.0 (typed_first ks a (kids_of ts) typed) refl (side_bodies s by ts e f h.1 (typed_rest ks a (kids_of ts) typed))

    pub property_list_stated : (s : Side) (t : Tag) (h : Heading) (a b : Tree) (ts : List Tree) → IsPropertyList s t h → AreProperties s (a ∷ b ∷ ts) → AreTyped ks (entities_of (kids_of (a ∷ b ∷ ts)))
        → stated ks h (sentence_of h section.Members) [] (listed (a ∷ b ∷ ts)) ≡ Ok (record { tag = t; kids = a ∷ b ∷ ts })
    unfolding sentence_of
    property_list_stated _ _ _ a b ts IsPropertyList.equivalent_objects h typed = properties_mean objects (by_kind tag.EquivalentObjectProperties place.Object tag.EquivalentDataProperties place.Data) a (b ∷ ts) refl refl h typed
    property_list_stated _ _ _ a b ts IsPropertyList.disjoint_objects h typed = properties_mean objects (by_kind tag.DisjointObjectProperties place.Object tag.DisjointDataProperties place.Data) a (b ∷ ts) refl refl h typed
    property_list_stated _ _ _ a b ts IsPropertyList.equivalent_datas h typed = properties_mean datas (by_kind tag.EquivalentObjectProperties place.Object tag.EquivalentDataProperties place.Data) a (b ∷ ts) refl refl h typed
    property_list_stated _ _ _ a b ts IsPropertyList.disjoint_datas h typed = properties_mean datas (by_kind tag.DisjointObjectProperties place.Object tag.DisjointDataProperties place.Data) a (b ∷ ts) refl refl h typed

    -- keys

    any_properties : (ts us : List Tree) → AreProperties objects ts → AreProperties datas us → AreTyped ks (entities_of (kids_of (ts ++ us))) → all_of (all_at place.Property (meanings_of ks (map undecided (ts ++ us)))) ≡ Ok (ts ++ us)
    any_properties [] [] h k typed = refl
    any_properties [] (u ∷ us) h k typed = both_mean ks (meant ks (undecided u) place.Property) (all_of (all_at place.Property (meanings_of ks (map undecided us)))) u us (property_means ks apart datas u k.0 (typed_first ks u (kids_of us) typed)) (any_properties [] us h k.1 (typed_rest ks u (kids_of us) typed))
    any_properties (t ∷ ts) us h k typed = both_mean ks (meant ks (undecided t) place.Property) (all_of (all_at place.Property (meanings_of ks (map undecided (ts ++ us))))) t (ts ++ us) (property_means ks apart objects t h.0 (typed_first ks t (kids_of (ts ++ us)) typed)) (any_properties ts us h.1 k (typed_rest ks t (kids_of (ts ++ us)) typed))

    pub key_means : (subject : Tree) (os ds : List Tree) (a : Tree) (ts : List Tree) → AreProperties objects os → AreProperties datas ds → os ++ ds ≡ a ∷ ts → AreTyped ks (entities_of (kids_of (os ++ ds)))
        → key ks (subject ∷ []) (listed (os ++ ds)) ≡ Ok (record { tag = tag.HasKey; kids = subject ∷ node tag.ObjectKeys (kids_of os) ∷ node tag.DataKeys (kids_of ds) ∷ [] })
    key_means subject os ds a ts h k e typed =
        ap (λ (rs : List RawTree). key_said ks (subject ∷ []) 0 rs) (list_back (map undecided (os ++ ds)))
        ∙ ap (λ (x : Told (List Tree)). where_takes (not (length (map undecided (os ++ ds)) == 0)) 0 (stem tag.HasKey (after (subject ∷ []) (groups x)))) (any_properties os ds h k typed)
        ∙ ap (λ (us : List Tree). where_takes (not (length (map undecided us) == 0)) 0 (stem tag.HasKey (after (subject ∷ []) (groups (Ok (os ++ ds)))))) e
        ∙ ap (λ (b : Bool). where_takes (not b) 0 (stem tag.HasKey (after (subject ∷ []) (groups (Ok (os ++ ds)))))) (not_none (length (map undecided ts)))
        ∙ ap (λ (us : List Tree). stem tag.HasKey (after (subject ∷ []) (in_front (Ok (node tag.ObjectKeys (kids_of us))) (one (Ok (node tag.DataKeys (kids_of (filter (is_wanted true) (os ++ ds))))))))) (object_keys os ds h k)
        ∙ ap (λ (us : List Tree). stem tag.HasKey (after (subject ∷ []) (in_front (Ok (node tag.ObjectKeys (kids_of os))) (one (Ok (node tag.DataKeys (kids_of us))))))) (data_keys os ds h k)

    -- assertions

    named_property : (s : Side) (p : Tree) → IsNamedProperty s p → IsPropertyOf s p
    named_property _ _ (IsNamedProperty.object_name iri is) = object_property iri is
    named_property _ _ (IsNamedProperty.data_name iri is) = data_property iri is

    fact_means : (s : Side) (by : ByKind) (p subject value : Tree) → IsNamedProperty s p → AreTyped ks (entities p) → meant ks (undecided value) (side_place s by) ≡ Ok value → takes by.object_tag (suc (1 + 2)) ≡ true
        → fact_said ks (subject ∷ []) 0 (undecided p ∷ undecided value ∷ []) by ≡ Ok (record { tag = side_tag s by; kids = p ∷ subject ∷ value ∷ [] })
    fact_means s by p subject value is typed e many =
        ap (λ (b : Bool). where_takes b 0 (by_property by (subject ∷ []) 1 0 (meanings_of ks (undecided p ∷ undecided value ∷ [])))) many
        ∙ decided_so ks apart s by (subject ∷ []) (undecided p) p (undecided value ∷ []) (value ∷ []) (named_property s p is) typed refl (e, tt)

    pub fact_stated : (s : Side) (t : Tag) (p subject value : Tree) → IsFactTag s t → IsNamedProperty s p → AreTyped ks (entities p) → IsLeafAt (value_place s) value → AreTyped ks (entities value)
        → stated ks heading.Individual (sentence_of heading.Individual section.Facts) (subject ∷ []) (pair (fact_form t) p value) ≡ Ok (record { tag = t; kids = p ∷ subject ∷ value ∷ [] })
    unfolding sentence_of fact_form row_of
    fact_stated _ _ p subject value IsFactTag.object_fact is typed at known = fact_means objects fact_tags p subject value is typed (leaf_means ks place.Individual value at known) refl
    fact_stated _ _ p subject value IsFactTag.negative_object_fact is typed at known = fact_means objects negative_tags p subject value is typed (leaf_means ks place.Individual value at known) refl
    fact_stated _ _ p subject value IsFactTag.data_fact is typed at known = fact_means datas fact_tags p subject value is typed (leaf_means ks place.Literal value at known) refl
    fact_stated _ _ p subject value IsFactTag.negative_data_fact is typed at known = fact_means datas negative_tags p subject value is typed (leaf_means ks place.Literal value at known) refl

    pub word_stated : (t : Tag) (h : Heading) (p : Place) (subject : Tree) → IsWordTag t h p
        → stated ks h (sentence_of h section.Characteristics) (subject ∷ []) (piece (what.Word (characteristic_of t)) []) ≡ Ok (record { tag = t; kids = subject ∷ [] })
    unfolding sentence_of characteristic_of
    word_stated _ _ _ subject IsWordTag.functional = refl
    word_stated _ _ _ subject IsWordTag.inverse_functional = refl
    word_stated _ _ _ subject IsWordTag.reflexive = refl
    word_stated _ _ _ subject IsWordTag.irreflexive = refl
    word_stated _ _ _ subject IsWordTag.symmetric = refl
    word_stated _ _ _ subject IsWordTag.asymmetric = refl
    word_stated _ _ _ subject IsWordTag.transitive = refl
    word_stated _ _ _ subject IsWordTag.functional_data = refl

    pub typing_stated : (body subject : Tree) → IsExpressionAt place.Class body → AreTyped ks (entities body)
        → stated ks heading.Individual (sentence_of heading.Individual section.Types) (subject ∷ []) (undecided body) ≡ Ok (record { tag = tag.ClassAssertion; kids = body ∷ subject ∷ [] })
    unfolding sentence_of
    typing_stated body subject is typed = ap (λ (x : Told Tree). stem tag.ClassAssertion (in_front x (Ok (subject ∷ [])))) (expression_means ks apart place.Class body is typed)

    -- chains
    links_mean : (ts : List Tree) → AreProperties objects ts → AreTyped ks (entities_of (kids_of ts)) → MeanEach ks place.Object (operands (kids_of ts)) ts
    links_mean [] h typed = tt
    links_mean (t ∷ ts) h typed =
        (ap (λ (r : RawTree). meant ks r place.Object) (bare_property objects t h.0) ∙ object_means ks t h.0 (typed_first ks t (kids_of ts) typed), links_mean ts h.1 (typed_rest ks t (kids_of ts) typed))

    chain_taken : (n : ℕ) → takes tag.ObjectPropertyChain (suc (suc n)) ≡ true
    unfolding row_of
    chain_taken n = and_from (nat_le 0 (suc (suc n))) (nat_le 2 (suc (suc n) - 0)) (le-leb 0 (suc (suc n)) (omega arith)) (le-leb 2 (suc (suc n) - 0) (omega arith))

    chain_means : (a b : Tree) (ts : List Tree) → AreProperties objects (a ∷ b ∷ ts) → AreTyped ks (entities_of (kids_of (a ∷ b ∷ ts)))
        → meant ks (undecided (node tag.ObjectPropertyChain (kids_of (a ∷ b ∷ ts)))) place.Chain ≡ Ok (node tag.ObjectPropertyChain (kids_of (a ∷ b ∷ ts)))
    unfolding form_of is_counted shape_of
    chain_means a b ts h typed = over_means ks tag.ObjectPropertyChain _ _ (a ∷ b ∷ ts) (chain_taken _) (all_mean ks place.Object (operands (kids_of (a ∷ b ∷ ts))) (a ∷ b ∷ ts) (links_mean (a ∷ b ∷ ts) h typed))

    pub chain_stated : (a b : Tree) (ts : List Tree) (subject : Tree) → AreProperties objects (a ∷ b ∷ ts) → AreTyped ks (entities_of (kids_of (a ∷ b ∷ ts)))
        → stated ks heading.ObjectProperty (sentence_of heading.ObjectProperty section.SubPropertyChain) (subject ∷ []) (undecided (node tag.ObjectPropertyChain (kids_of (a ∷ b ∷ ts)))) ≡ Ok (record { tag = tag.SubObjectPropertyOf; kids = node tag.ObjectPropertyChain (kids_of (a ∷ b ∷ ts)) ∷ subject ∷ [] })
    unfolding sentence_of
    chain_stated a b ts subject h typed = ap (λ (x : Told Tree). stem tag.SubObjectPropertyOf (in_front x (Ok (subject ∷ [])))) (chain_means a b ts h typed)

    -- annotations of what is named
    pub assertion_stated : (h : Heading) (p subject about v : Tree) → IsLeafAt place.AnnotationProperty p → AreTyped ks (entities p) → IsLeafAt place.Value v → AreTyped ks (entities v) → called subject ≡ about
        → sentence_of h section.Annotations ≡ Note
        → stated ks h (sentence_of h section.Annotations) (subject ∷ []) (pair form.Assertion p v) ≡ Ok (record { tag = tag.AnnotationAssertion; kids = p ∷ about ∷ v ∷ [] })
    assertion_stated h p subject about v property typed value known same e =
        ap (λ (s : Sentence). stated ks h s (subject ∷ []) (pair form.Assertion p v)) e
        ∙ ap (λ (x : Told Tree). stem tag.AnnotationAssertion (in_front x (after (called subject ∷ []) (one (meant ks (undecided v) place.Value))))) (leaf_means ks place.AnnotationProperty p property typed)
        ∙ ap (λ (x : Told Tree). stem tag.AnnotationAssertion (in_front (Ok p) (after (called subject ∷ []) (one x)))) (leaf_means ks place.Value v value known)
        ∙ ap (λ (u : Tree). Ok (record { tag = tag.AnnotationAssertion; kids = p ∷ u ∷ v ∷ [] })) same
