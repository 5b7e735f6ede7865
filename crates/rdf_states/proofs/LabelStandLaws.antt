-- Each label of an ontology stands in a graph that states it.
use Rattle.std.proofs.Common.{◌≡◌, ◌⊎◌, ℕ, zero, suc, Bool, true, false, cond, List, [], ◌∷◌, ◌++◌, inl, inr, refl, sym, ap, ◌∙◌, subst}
use Rattle.std.specs.Prelude.{Contains, not, Option, None, Some, option_map}
use Rattle.std.proofs.lemmas.List.Elements.{Contains-append_cases, Contains-append_left, Contains-append_right}
use Rattle.std.proofs.lemmas.Option.{none-some, same_Some}
use Rattle.owl_kind.proofs.Found.{from_joined, only}
use Rattle.owl_kind.specs.declared.kind.Kind.{Kind}
use Rattle.owl_kind.specs.declared.kind.Kind.TheVariants as kind
use Rattle.owl_kind.specs.Kinds.{Entity}
use Rattle.owl_list.proofs.AscendingLaws.{in_cases, in_head, in_none, in_tail}
use Rattle.owl_list.proofs.FilterLaws.{from_filter}
use Rattle.owl_tree.specs.declared.row.Sort.{Sort}
use Rattle.owl_tree.specs.declared.row.Sort.TheVariants as sort
use Rattle.owl_tree.specs.declared.tag.Tag.{Tag}
use Rattle.owl_tree.specs.declared.tag.Tag.TheVariants as tag
use Rattle.owl_tree.specs.Equivalence.{Agree, AgreeAsSetFrom, AgreeByPlace, EachHoldsOfSome, HoldsOfSome, IsEquivalent, equivalents}
use Rattle.owl_tree.specs.Ontologies.{Ontology}
use Rattle.owl_tree.specs.Rows.{row_of, set_start}
use Rattle.owl_tree.proofs.TreeLaws.{kids_of_list_of}
use Rattle.owl_tree.specs.Trees.{Tree, Kids, leaf, node, no_kids, kid, kids_of, list_of}
use Rattle.rdf_graph.specs.declared.term.Term.{Term}
use Rattle.rdf_graph.specs.declared.term.Term.TheVariants.{Iri, Blank, Literal}
use Rattle.rdf_graph.specs.declared.triple.Triple.{Triple}
use Rattle.rdf_meaning.specs.declared.role.Role.TheVariants as role
use Rattle.rdf_meaning.specs.declared.row.Part.{Part}
use Rattle.rdf_meaning.specs.declared.row.Place.{Place}
use Rattle.rdf_meaning.specs.declared.row.Place.TheVariants.{At, Subject, Predicate, Object}
use Rattle.rdf_meaning.specs.declared.row.Want.{Want}
use Rattle.rdf_meaning.specs.declared.row.Want.TheVariants.{One}
use Rattle.rdf_meaning.specs.declared.word.Word.{Word}
use Rattle.rdf_meaning.specs.declared.word.Word.TheVariants as word
use Rattle.rdf_meaning.proofs.AxiomLaws.{axioms_of_nodes, axioms_of_triples}
use Rattle.rdf_meaning.specs.Denotation.{AreKeys, no_key, object_key, data_key, Bearer, of_node, of_triple, Denotes, by_itself, by_row, by_list, by_whole, by_keys, by_declaration, mark, is_true, Holds, no_parts, part, Lists, no_cell, cell, anonymous, declared_entity, declared_kind, facet_pair, facets_of, iri_leaf, kind_of_entity, literal_leaf, named, named_individual, number_leaf, or_else, plain_iri, select, simple}
use Rattle.rdf_meaning.proofs.ListLaws.{nothing_else, same_only}
use Rattle.rdf_meaning.proofs.NodeLaws.{from_chosen, from_subject}
use Rattle.rdf_meaning.specs.Nodes.{chosen, is_structural, nodes_of, of_subject}
use Rattle.rdf_meaning.proofs.ShapeLaws.{so_some}
use Rattle.rdf_meaning.specs.Statements.{AreSets, no_set, set, Annotates, no_note, note, Variants, bare, noted, IsAxiomOf, IsAxiomOfNode, States, annotated, header_notes, main_triples, notes_of}
use Rattle.rdf_mapping.specs.Graphs.{all_labels_in, labels_in, labels_of}
use Rattle.rdf_states.specs.Renamed.{IsLabelIn}

-- a label of some tree of the list
abbrev HaveLabel : List Tree → List ℕ → Type 0
HaveLabel ts label = Contains (all_labels_in (kids_of ts)) label

some_has : (ts : List Tree) (t : Tree) (label : List ℕ) → Contains ts t → Contains (labels_in t) label → HaveLabel ts label
some_has [] t label m i = absurd (in_none t m)
some_has (u ∷ ts) t label m i =
    elim (in_cases u ts t m) [
      | inl e ↦ Contains-append_left (labels_in u) (all_labels_in (kids_of ts)) label (subst (λ (v : Tree). Contains (labels_in v) label) (sym e) i)
      | inr n ↦ Contains-append_right (labels_in u) (all_labels_in (kids_of ts)) label (some_has ts t label n i)
    ]

one_has : (t : Tree) (label : List ℕ) → HaveLabel (t ∷ []) label → Contains (labels_in t) label
one_has t label m = elim (Contains-append_cases (labels_in t) [] label m) [ inl i ↦ i | inr n ↦ absurd (in_none label n) ]

either_has : (ts us : List Tree) (label : List ℕ) → HaveLabel (ts ++ us) label → HaveLabel ts label ⊎ HaveLabel us label
either_has [] us label m = inr m
either_has (t ∷ ts) us label m =
    elim (Contains-append_cases (labels_in t) (all_labels_in (kids_of (ts ++ us))) label m) [
      | inl i ↦ inl (Contains-append_left (labels_in t) (all_labels_in (kids_of ts)) label i)
      | inr n ↦
          elim (either_has ts us label n) [
            | inl j ↦ inl (Contains-append_right (labels_in t) (all_labels_in (kids_of ts)) label j)
            | inr j ↦ inr j
          ]
    ]

-- Equivalent trees have the same labels.

module _ (label : List ℕ) where
  abbrev HasToo : Tree → Type 0
  HasToo t = (u : Tree) → IsEquivalent t u → Contains (labels_in t) label → Contains (labels_in u) label

  abbrev AllHaveToo : Kids → Type 0
  AllHaveToo no_kids = Unit {0}
  AllHaveToo (kid t ks) = HasToo t × AllHaveToo ks

  some_equal : (fact : Tree → Type 0) (us : List Tree) → ((u : Tree) → fact u → Contains (labels_in u) label) → HoldsOfSome fact us → HaveLabel us label
  some_equal fact [] has h = absurd h
  some_equal fact (u ∷ us) has (inl e) = Contains-append_left (labels_in u) (all_labels_in (kids_of us)) label (has u e)
  some_equal fact (u ∷ us) has (inr h) = Contains-append_right (labels_in u) (all_labels_in (kids_of us)) label (some_equal fact us has h)

  each_has : (ks : Kids) (us : List Tree) → AllHaveToo ks → EachHoldsOfSome (equivalents ks) us → Contains (all_labels_in ks) label → HaveLabel us label
  each_has no_kids us all h m = absurd (in_none label m)
  each_has (kid t ks) us all h m =
      elim (Contains-append_cases (labels_in t) (all_labels_in ks) label m) [
        | inl i ↦ some_equal (IsEquivalent t) us (λ u e. all.0 u e i) h.0
        | inr i ↦ each_has ks us all.1 h.1 i
      ]

  first_has : (t u : Tree) (ks : Kids) (us : List Tree) → HasToo t → IsEquivalent t u → (Contains (all_labels_in ks) label → HaveLabel us label) → Contains (all_labels_in (kid t ks)) label → HaveLabel (u ∷ us) label
  first_has t u ks us has e rest m =
      elim (Contains-append_cases (labels_in t) (all_labels_in ks) label m) [
        | inl i ↦ Contains-append_left (labels_in u) (all_labels_in (kids_of us)) label (has u e i)
        | inr i ↦ Contains-append_right (labels_in u) (all_labels_in (kids_of us)) label (rest i)
      ]

  places_have : (ks : Kids) (us : List Tree) → AllHaveToo ks → AgreeByPlace (equivalents ks) us → Contains (all_labels_in ks) label → HaveLabel us label
  places_have no_kids us all h m = absurd (in_none label m)
  places_have (kid t ks) [] all h m = absurd h
  places_have (kid t ks) (u ∷ us) all h m = first_has t u ks us all.0 h.0 (places_have ks us all.1 h.1) m

  set_has : (n : ℕ) (ks : Kids) (us : List Tree) → AllHaveToo ks → AgreeAsSetFrom n (equivalents ks) us → Contains (all_labels_in ks) label → HaveLabel us label
  set_has zero ks us all h m = each_has ks us all h.0 m
  set_has (suc n) no_kids us all h m = absurd (in_none label m)
  set_has (suc n) (kid t ks) [] all h m = absurd h
  set_has (suc n) (kid t ks) (u ∷ us) all h m = first_has t u ks us all.0 h.0 (set_has n ks us all.1 h.1) m

  agree_has : (o : Option ℕ) (ks : Kids) (us : List Tree) → AllHaveToo ks → Agree o (equivalents ks) us → Contains (all_labels_in ks) label → HaveLabel us label
  agree_has None ks us all h m = places_have ks us all h m
  agree_has (Some n) ks us all h m = set_has n ks us all h m

  mutual
    equal_has : (a : Tree) → HasToo a
    equal_has (leaf t a) (leaf u b) e m = subst (λ x. Contains (labels_in (leaf u x)) label) e.1 m
    equal_has (leaf t a) (node u ls) e m = absurd e
    equal_has (node t ks) (leaf u b) e m = absurd e
    equal_has (node t ks) (node u ls) e m =
        subst (λ ms. Contains (all_labels_in ms) label) (kids_of_list_of ls) (agree_has (set_start (row_of t)) ks (list_of ls) (all_equal ks) e.1 m)

    all_equal : (ks : Kids) → AllHaveToo ks
    all_equal no_kids = tt
    all_equal (kid t ks) = (equal_has t, all_equal ks)

-- What a term stands for by itself has no label but its own.

abbrev Names : Term → Option Tree → Type 0
Names x o = (u : Tree) (label : List ℕ) → o ≡ Some u → Contains (labels_in u) label → x ≡ Blank label

so_value : (b : Bool) (t u : Tree) → cond b (Some t) None ≡ Some u → t ≡ u
so_value true t u e = same_Some t u e
so_value false t u e = absurd (none-some u e)

unlabelled : (t u : Tree) (label : List ℕ) → labels_in t ≡ [] → t ≡ u → Contains (labels_in u) label → ⊥
unlabelled t u label none e m = in_none label (subst (λ (ls : List (List ℕ)). Contains ls label) (ap labels_in (sym e) ∙ none) m)

named_names : (k : List Entity) (a : Kind) (t : Tag) (x : Term) → Names x (named k a t x)
named_names k a t (Iri iri) u label e m = absurd (unlabelled (iri_leaf t iri) u label refl (so_value _ _ u e) m)
named_names k a t (Blank l) u label e m = absurd (none-some u e)
named_names k a t (Literal literal) u label e m = absurd (none-some u e)

plain_names : (x : Term) → Names x (plain_iri x)
plain_names (Iri iri) u label e m = absurd (unlabelled _ u label refl (same_Some _ u e) m)
plain_names (Blank l) u label e m = absurd (none-some u e)
plain_names (Literal literal) u label e m = absurd (none-some u e)

individual_names : (x : Term) → Names x (named_individual x)
individual_names (Iri iri) u label e m = absurd (unlabelled _ u label refl (same_Some _ u e) m)
individual_names (Blank l) u label e m = absurd (none-some u e)
individual_names (Literal literal) u label e m = absurd (none-some u e)

anonymous_names : (g : List Triple) (x : Term) → Names x (anonymous g x)
anonymous_names g (Iri iri) u label e m = absurd (none-some u e)
anonymous_names g (Blank l) u label e m =
    ap Blank (only l label (subst (λ (v : Tree). Contains (labels_in v) label) (sym (so_value _ _ u e)) m))
anonymous_names g (Literal literal) u label e m = absurd (none-some u e)

literal_names : (x : Term) → Names x (literal_leaf x)
literal_names (Iri iri) u label e m = absurd (none-some u e)
literal_names (Blank l) u label e m = absurd (none-some u e)
literal_names (Literal literal) u label e m = absurd (unlabelled _ u label refl (same_Some _ u e) m)

number_names : (x : Term) → Names x (number_leaf x)
number_names (Iri iri) u label e m = absurd (none-some u e)
number_names (Blank l) u label e m = absurd (none-some u e)
number_names (Literal literal) u label e m = absurd (unlabelled _ u label refl (so_value _ _ u e) m)

either_names : (x : Term) (o p : Option Tree) → Names x o → Names x p → Names x (or_else o p)
either_names x (Some t) p h k = h
either_names x None p h k = k

-- a facet and its value have none
pair_unlabelled : (facet : Tree → Tree) → ((v : Tree) → labels_in (facet v) ≡ labels_in v ++ []) → (x : Term) (u : Tree) (label : List ℕ) → option_map facet (literal_leaf x) ≡ Some u → Contains (labels_in u) label → ⊥
pair_unlabelled facet h (Iri iri) u label e m = none-some u e
pair_unlabelled facet h (Blank l) u label e m = none-some u e
pair_unlabelled facet h (Literal literal) u label e m = unlabelled _ u label (h _) (same_Some _ u e) m

facet_unlabelled : (ts : List Triple) (u : Tree) (label : List ℕ) → facet_pair ts ≡ Some u → Contains (labels_in u) label → ⊥
facet_unlabelled [] u label e m = none-some u e
facet_unlabelled (t ∷ []) u label e m = pair_unlabelled _ (λ v. refl) t.object u label e m
facet_unlabelled (t ∷ v ∷ more) u label e m = none-some u e

simple_names : (g : List Triple) (k : List Entity) (s : Sort) (x : Term) → Names x (simple g k s x)
unfolding simple
simple_names g k sort.ClassExpression x = named_names k _ _ x
simple_names g k sort.Class x = named_names k _ _ x
simple_names g k sort.DataRange x = named_names k _ _ x
simple_names g k sort.Datatype x = named_names k _ _ x
simple_names g k sort.ObjectPropertyExpression x = named_names k _ _ x
simple_names g k sort.ObjectProperty x = named_names k _ _ x
simple_names g k sort.DataPropertyExpression x = named_names k _ _ x
simple_names g k sort.AnnotationProperty x = named_names k _ _ x
simple_names g k sort.Individual x = either_names x _ _ (individual_names x) (anonymous_names g x)
simple_names g k sort.Iri x = plain_names x
simple_names g k sort.AnnotationSubject x = either_names x _ _ (plain_names x) (anonymous_names g x)
simple_names g k sort.AnnotationValue x = either_names x _ _ (plain_names x) (either_names x _ _ (anonymous_names g x) (literal_names x))
simple_names g k sort.Literal x = literal_names x
simple_names g k sort.Number x = number_names x
simple_names g k sort.FacetPair x = λ u label e m. absurd (facet_unlabelled (facets_of g x) u label (so_some _ _ u e) m)
simple_names g k _ x = λ u label e m. absurd (none-some u e)

declared_names : (k : List Entity) (t : Tag) (x : Term) → Names x (declared_entity k t x)
unfolding declared_entity
declared_names k t (Iri iri) u label e m = absurd (of_kind (kind_of_entity t) e)
  where
    of_kind : (o : Option Kind) → declared_kind k t iri o ≡ Some u → ⊥
    of_kind None e = none-some u e
    of_kind (Some kind.Individual) e = unlabelled (iri_leaf t iri) u label refl (so_value _ _ u e) m
    of_kind (Some _) e = unlabelled (iri_leaf t iri) u label refl (so_value _ _ u e) m
declared_names k t (Blank l) u label e m = absurd (none-some u e)
declared_names k t (Literal literal) u label e m = absurd (none-some u e)

no_blank : (iri label : List ℕ) → Iri iri ≡ Blank label → ⊥
no_blank iri label e = cc

-- The labels of what is denoted stand in the graph.
module _ (g : List Triple) (k : List Entity) (label : List ℕ) where
  abbrev Stands : Type 0
  Stands = IsLabelIn g label

  abbrev IsAt : Term → Type 0
  IsAt x = (x ≡ Blank label) ⊎ Stands

  abbrev IsBy : Bearer → Type 0
  IsBy (of_node x) = Stands
  IsBy (of_triple t) = ((t.subject ≡ Blank label) ⊎ (t.object ≡ Blank label)) ⊎ Stands

  by_word : (x y : Term) (w : Word) → chosen g x w ≡ y ∷ [] → IsAt y → Stands
  by_word x y w e (inl h) =
      let c = from_chosen g x w y (subst (λ (ys : List Term). Contains ys y) (sym e) (in_head y [])) in
      record { triple = c.triple; inside = c.inside; stands = inr (c.object ∙ h) }
  by_word x y w e (inr h) = h

  at_place : (b : Bearer) (place : Place) (x : Term) → select g b place ≡ x ∷ [] → IsAt x → IsBy b
  at_place (of_node y) (At w) x e h = by_word y x w e h
  at_place (of_node y) Subject x e h = absurd (nothing_else x [] e)
  at_place (of_node y) Predicate x e h = absurd (nothing_else x [] e)
  at_place (of_node y) Object x e h = absurd (nothing_else x [] e)
  at_place (of_triple t) (At w) x e h = absurd (nothing_else x [] e)
  at_place (of_triple t) Subject x e (inl h) = inl (inl (same_only t.subject x e ∙ h))
  at_place (of_triple t) Predicate x e (inl h) = absurd (no_blank t.predicate label (same_only (Iri t.predicate) x e ∙ h))
  at_place (of_triple t) Object x e (inl h) = inl (inr (same_only t.object x e ∙ h))
  at_place (of_triple t) Subject x e (inr h) = inr h
  at_place (of_triple t) Predicate x e (inr h) = inr h
  at_place (of_triple t) Object x e (inr h) = inr h

  mutual
    denoted_stands : (x : Term) (w : Want) (ts : List Tree) → Denotes g k x w ts → HaveLabel ts label → IsAt x
    denoted_stands _ _ _ (by_itself s x t e) m = inl (simple_names g k s x t label e (one_has t label m))
    denoted_stands _ _ _ (by_row s x row ts i a f h) m = inr (held_stands (of_node x) row.parts ts h (one_has (node row.tag (kids_of ts)) label m))
    denoted_stands _ _ _ (by_list s x least ts n h) m = inr (list_stands x s ts h m)
    denoted_stands _ _ _ (by_whole t s x least ts n h) m = inr (list_stands x s ts h (one_has (node t (kids_of ts)) label m))
    denoted_stands _ _ _ (by_keys x os ds n h) m =
        elim (Contains-append_cases (all_labels_in (kids_of os)) (all_labels_in (kids_of ds) ++ []) label m) [
          | inl i ↦ inr (keys_stand x os ds h (inl i))
          | inr i ↦ inr (keys_stand x os ds h (inr (one_has (node tag.DataKeys (kids_of ds)) label i)))
        ]
    denoted_stands _ _ _ (by_declaration t x u e) m = inl (declared_names k t x u label e (one_has u label m))
    denoted_stands _ _ _ (mark x) m = absurd (in_none label m)
    denoted_stands _ _ _ (is_true x e) m = absurd (in_none label m)

    list_stands : (x : Term) (s : Sort) (ts : List Tree) → Lists g k x s ts → HaveLabel ts label → Stands
    list_stands _ _ _ (no_cell s x e) m = absurd (in_none label m)
    list_stands _ _ _ (cell s x first rest ts us l f r d h) m =
        elim (either_has ts us label m) [
          | inl i ↦ by_word x first word.First f (denoted_stands first (One s) ts d i)
          | inr i ↦ list_stands rest s us h i
        ]

    keys_stand : (x : Term) (os ds : List Tree) → AreKeys g k x os ds → HaveLabel os label ⊎ HaveLabel ds label → Stands
    keys_stand _ _ _ (no_key x e) (inl m) = absurd (in_none label m)
    keys_stand _ _ _ (no_key x e) (inr m) = absurd (in_none label m)
    keys_stand _ _ _ (object_key x first rest ts os ds l f r d h) (inl m) =
        elim (either_has ts os label m) [
          | inl i ↦ by_word x first word.First f (denoted_stands first (One sort.ObjectPropertyExpression) ts d i)
          | inr i ↦ keys_stand rest os ds h (inl i)
        ]
    keys_stand _ _ _ (object_key x first rest ts os ds l f r d h) (inr m) = keys_stand rest os ds h (inr m)
    keys_stand _ _ _ (data_key x first rest ts os ds l f r d h) (inl m) = keys_stand rest os ds h (inl m)
    keys_stand _ _ _ (data_key x first rest ts os ds l f r d h) (inr m) =
        elim (either_has ts ds label m) [
          | inl i ↦ by_word x first word.First f (denoted_stands first (One sort.DataPropertyExpression) ts d i)
          | inr i ↦ keys_stand rest os ds h (inr i)
        ]

    held_stands : (b : Bearer) (ps : List Part) (ts : List Tree) → Holds g k b ps ts → HaveLabel ts label → IsBy b
    held_stands _ _ _ (no_parts b) m = absurd (in_none label m)
    held_stands _ _ _ (part b p ps x ts us e d h) m =
        elim (either_has ts us label m) [
          | inl i ↦ at_place b p.place x e (denoted_stands x p.want ts d i)
          | inr i ↦ held_stands b ps us h i
        ]

  -- Annotations.

  in_notes : (x : Term) (t : Triple) → Contains (notes_of g x) t → Contains g t
  unfolding notes_of
  in_notes x t m = (from_subject g x t (from_filter (λ u. not (is_structural g u)) (of_subject g x) t m).inside).0

  annotated_has : (p v : Tree) (sets : List Tree) → HaveLabel (annotated p v sets) label → HaveLabel sets label ⊎ (Contains (labels_in p) label ⊎ Contains (labels_in v) label)
  annotated_has p v [] m = absurd (in_none label m)
  annotated_has p v (ns ∷ sets) m =
      elim (Contains-append_cases (labels_in ns ++ (labels_in p ++ (labels_in v ++ []))) (all_labels_in (kids_of (annotated p v sets))) label m) [
        | inl i ↦
            elim (Contains-append_cases (labels_in ns) (labels_in p ++ (labels_in v ++ [])) label i) [
              | inl j ↦ inl (Contains-append_left (labels_in ns) (all_labels_in (kids_of sets)) label j)
              | inr j ↦
                  elim (Contains-append_cases (labels_in p) (labels_in v ++ []) label j) [
                    | inl h ↦ inr (inl h)
                    | inr h ↦ inr (inr (one_has v label h))
                  ]
            ]
        | inr i ↦
            elim (annotated_has p v sets i) [
              | inl j ↦ inl (Contains-append_right (labels_in ns) (all_labels_in (kids_of sets)) label j)
              | inr j ↦ inr j
            ]
      ]

  mutual
    variants_stand : (t : Triple) (sets : List Tree) → Variants g k t sets → HaveLabel sets label → Stands
    variants_stand _ _ (bare t e) m = absurd (in_none label m)
    variants_stand _ _ (noted t r rs sets e h) m = sets_stand (r ∷ rs) sets h m

    sets_stand : (rs : List Term) (sets : List Tree) → AreSets g k rs sets → HaveLabel sets label → Stands
    sets_stand _ _ (no_set) m = absurd (in_none label m)
    sets_stand _ _ (set r rs ts sets d h) m =
        elim (Contains-append_cases (all_labels_in (kids_of ts)) (all_labels_in (kids_of sets)) label m) [
          | inl i ↦ notes_stand (notes_of g r) ts d (in_notes r) i
          | inr i ↦ sets_stand rs sets h i
        ]

    notes_stand : (ts : List Triple) (us : List Tree) → Annotates g k ts us → ((t : Triple) → Contains ts t → Contains g t) → HaveLabel us label → Stands
    notes_stand _ _ (no_note) within m = absurd (in_none label m)
    notes_stand _ _ (note t ts p v sets us e f d h) within m =
        elim (either_has (annotated p v sets) us label m) [
          | inl i ↦
              elim (annotated_has p v sets i) [
                | inl j ↦ variants_stand t sets d j
                | inr j ↦
                    elim j [
                      | inl q ↦ absurd (no_blank t.predicate label (simple_names g k sort.AnnotationProperty (Iri t.predicate) p label e q))
                      | inr q ↦ record { triple = t; inside = within t (in_head t ts); stands = inr (simple_names g k sort.AnnotationValue t.object v label f q) }
                    ]
              ]
          | inr i ↦ notes_stand ts us h (λ u j. within u (in_tail t ts u j)) i
        ]

  -- Axioms.

  in_mains : (header : Term) (t : Triple) → Contains (main_triples g k header) t → Contains g t
  unfolding main_triples
  in_mains header t m = (from_filter _ g t m).inside

  in_header_notes : (header : Term) (t : Triple) → Contains (header_notes g k header) t → Contains g t
  unfolding header_notes
  in_header_notes header t m = (from_filter _ g t m).inside

  triple_stands : (t : Triple) (a : Tree) → Contains g t → IsAxiomOf g k t a → Contains (labels_in a) label → Stands
  triple_stands t a inside s m =
      elim (Contains-append_cases (labels_in s.annotations) (all_labels_in (kids_of s.kids)) label (subst (λ (x : Tree). Contains (labels_in x) label) s.whole m)) [
        | inl i ↦ variants_stand t s.sets s.variants (some_has s.sets s.annotations label s.inside i)
        | inr i ↦
            elim (held_stands (of_triple t) s.said.row.parts s.kids s.said.parts i) [
              | inl at ↦ record { triple = t; inside = inside; stands = at }
              | inr h ↦ h
            ]
      ]

  node_stands : (x : Term) (a : Tree) → IsAxiomOfNode g k x a → Contains (labels_in a) label → Stands
  node_stands x a s m =
      elim (Contains-append_cases (all_labels_in (kids_of s.annotations)) (all_labels_in (kids_of s.kids)) label (subst (λ (y : Tree). Contains (labels_in y) label) s.whole m)) [
        | inl i ↦ notes_stand (notes_of g x) s.annotations s.annotates (in_notes x) i
        | inr i ↦ held_stands (of_node x) s.said.row.parts s.kids s.said.parts i
      ]

  -- and so the labels of what is stated
  pub label_stands : (o : Ontology) → States g k o → Contains (labels_of o) label → Stands
  label_stands o s m =
      let a = from_joined labels_in (o.annotations ++ o.axioms) label m in
      elim (Contains-append_cases o.annotations o.axioms a.0 a.1) [
        | inl i ↦
            let u = s.annotations.there a.0 i in
            notes_stand (header_notes g k s.header) s.notes_in s.are_notes (in_header_notes s.header) (some_has s.notes_in u.0 label u.1 (equal_has label a.0 u.0 u.2 a.2))
        | inr i ↦
            let u = s.axioms.there a.0 i in
            let has = equal_has label a.0 u.0 u.2 a.2 in
            elim (Contains-append_cases s.by_triples s.by_nodes u.0 u.1) [
              | inl j ↦
                  let is = (axioms_of_triples g k s.no_clash (main_triples g k s.header) s.by_triples s.are_axioms u.0).0 j in
                  triple_stands is.triple u.0 (in_mains s.header is.triple is.inside) is.axiom_of has
              | inr j ↦ let is = (axioms_of_nodes g k s.no_clash (nodes_of g role.Main) s.by_nodes s.are_node_axioms u.0).0 j in node_stands is.x u.0 is.axiom_of has
            ]
      ]
