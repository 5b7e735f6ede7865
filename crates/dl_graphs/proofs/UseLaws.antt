-- Laws of uses of datatypes.
use Rattle.std.proofs.Common.{◌≡◌, ◌<◌, ◌+◌, ◌↔◌, ℕ, Bool, List, [], ◌∷◌, ◌++◌, Option, None, Some, length, map, take, get_or, refl, sym, ap, ◌∙◌, subst, append_assoc, append-nil}
use Rattle.std.specs.List.{cons_option, filter_map, flat_map}
use Rattle.std.proofs.lemmas.List.{map-append, take_more}
use Rattle.std.proofs.lemmas.List.Elements.{filter_map-append}
use Rattle.std.proofs.lemmas.Simd.{map-map}
use Rattle.graph_walks.specs.Marks.{MarkEach}
use Rattle.graph_walks.specs.Walks.{AreWithin, Walks}
use Rattle.dl_rules.specs.Definitions.{Definition, IsCyclic, datatype_in, definition_of, definitions, used_by, uses, uses_of}
use Rattle.graph_walks.specs.Numbers.{numbered}
use Rattle.dl_rules.specs.Places.{place_of}
use Rattle.graph_walks.proofs.NumberLaws.{AreListed, cycles_of_things, numbered_within}
use Rattle.dl_rules.proofs.PlaceLaws.{place_is, places_apart}
use Rattle.owl_arena.specs.Held.{tree_at, trees_at}
use Rattle.owl_arena.specs.Shared.{HaveOneNumber}
use Rattle.owl_breaches.specs.Those.{HoldsOfOne, HoldsOfSome}
use Rattle.owl_doc.specs.Counts.{subtrees, subtrees_of}
use Rattle.owl_list.proofs.AscendingLaws.{all_in, all_later, all_map, in_none}
use Rattle.owl_tree.specs.Trees.{Tree, Kids, leaf, node, kids_in, kids_of}
use Rattle.owl_tree.proofs.TreeLaws.{kids_of_list_of}
use Rattle.dl_graphs.specs.declared.definitions.DefinitionIds.{DefinitionIds}
use Rattle.dl_graphs.specs.Groups.{group_marks}
use Rattle.dl_graphs.specs.Uses.{AddsNumbered, AddsUsed, AddsUses, IsDefinitionIf, IsNamed, datatype_leaf, datatype_place, datatypes_among, datatypes_below, uses_at, uses_from}
use Rattle.dl_graphs.proofs.DefinitionLaws.{datatype_is, datatype_named}
use Rattle.dl_graphs.proofs.ListLaws.{all_both}
use Rattle.dl_graphs.proofs.GroupLaws.{marks_of_groups, marks_same, one_of_made}

-- Adding by steps.

module _ {X : Type 0} (number : X → ℕ × ℕ) (IsListed : X → Type 0) where
  pub adds_more : (xs ys : List X) (old middle new : List (ℕ × ℕ)) → AddsNumbered number IsListed xs old middle → AddsNumbered number IsListed ys middle new → AddsNumbered number IsListed (xs ++ ys) old new
  adds_more xs ys old middle new h k = record {
    grown = k.grown ∙ (ap (λ (ps : List (ℕ × ℕ)). ps ++ map number ys) h.grown ∙ (append_assoc old (map number xs) (map number ys) ∙ ap (λ (ps : List (ℕ × ℕ)). old ++ ps) (sym (map-append number xs ys))));
    listed = all_both IsListed xs ys h.listed k.listed;
  }

-- What stands below trees.

own_datatype : (iri : List ℕ) → datatypes_below (datatype_leaf iri) ≡ iri ∷ []
own_datatype iri = ap (λ (o : Option (List ℕ)). cons_option o []) (datatype_named iri)

pub below_kids : (t : Tree) → datatype_in t ≡ None → datatypes_among (kids_in t) ≡ datatypes_below t
below_kids (leaf t a) e = rw e refl
below_kids (node t ks) e = ap (λ (ls : Kids). filter_map datatype_in (subtrees_of ls)) (kids_of_list_of ks) ∙ rw e refl

subtrees_both : (us vs : List Tree) → subtrees_of (kids_of (us ++ vs)) ≡ subtrees_of (kids_of us) ++ subtrees_of (kids_of vs)
subtrees_both [] vs = refl
subtrees_both (u ∷ us) vs = ap (λ (ws : List Tree). subtrees u ++ ws) (subtrees_both us vs) ∙ sym (append_assoc (subtrees u) (subtrees_of (kids_of us)) (subtrees_of (kids_of vs)))

among_one_more : (us : List Tree) (u : Tree) → datatypes_among (us ++ u ∷ []) ≡ datatypes_among us ++ datatypes_below u
among_one_more us u =
    ap (filter_map datatype_in) (subtrees_both us (u ∷ []) ∙ ap (λ (ws : List Tree). subtrees_of (kids_of us) ++ ws) (append-nil (subtrees u)))
    ∙ filter_map-append datatype_in (subtrees_of (kids_of us)) (subtrees u)

module _ (ts : List Tree) where
  pub front_and_next : (ids : List ℕ) (index id : ℕ) → index < length ids → id ≡ get_or ids index id → trees_at ts (take (index + 1) ids) ≡ trees_at ts (take index ids) ++ tree_at ts id ∷ []
  front_and_next ids index id h is =
      ap (trees_at ts) (take_more ids index id h ∙ ap (λ (x : ℕ). take index ids ++ x ∷ []) (sym is))
      ∙ map-append (tree_at ts) (take index ids) (id ∷ [])

  module _ (one : HaveOneNumber ts) where
    pub used_here : (defined id place : ℕ) (iri : List ℕ) (old new : List (ℕ × ℕ)) → id < length ts → place ≡ id → datatype_in (tree_at ts id) ≡ Some iri → new ≡ old ++ (defined, place) ∷ [] → AddsUsed ts defined (datatypes_below (tree_at ts id)) old new
    used_here defined id place iri old new h at e grown =
        let is : tree_at ts id ≡ datatype_leaf iri = datatype_is (tree_at ts id) iri e in
        let same : datatype_place ts iri ≡ id = subst (λ (t : Tree). place_of ts t ≡ id) is (place_is ts one id h) in
        subst (λ (us : List (List ℕ)). AddsUsed ts defined us old new) (sym (ap datatypes_below is ∙ own_datatype iri))
        (record {
          grown = grown ∙ ap (λ (k : ℕ). old ++ (defined, k) ∷ []) (at ∙ sym same);
          listed = (subst (λ (k : ℕ). k < length ts) (sym same) h, tt);
        })

  pub used_among : (defined id : ℕ) (old new : List (ℕ × ℕ)) (us : List Tree) → us ≡ kids_in (tree_at ts id) → datatype_in (tree_at ts id) ≡ None → AddsUsed ts defined (datatypes_among us) old new → AddsUsed ts defined (datatypes_below (tree_at ts id)) old new
  used_among defined id old new us kids e h =
      subst (λ (ds : List (List ℕ)). AddsUsed ts defined ds old new) (ap datatypes_among kids ∙ below_kids (tree_at ts id) e) h

  pub used_next : (defined : ℕ) (ids : List ℕ) (index id : ℕ) (old middle new : List (ℕ × ℕ)) → index < length ids → id ≡ get_or ids index id →
      AddsUsed ts defined (datatypes_among (trees_at ts (take index ids))) old middle → AddsUsed ts defined (datatypes_below (tree_at ts id)) middle new → AddsUsed ts defined (datatypes_among (trees_at ts (take (index + 1) ids))) old new
  used_next defined ids index id old middle new h is front own =
      let front_trees = trees_at ts (take index ids) in
      subst (λ (ds : List (List ℕ)). AddsUsed ts defined ds old new) (sym (ap datatypes_among (front_and_next ids index id h is) ∙ among_one_more front_trees (tree_at ts id)))
      (adds_more (λ (iri : List ℕ). (defined, datatype_place ts iri)) (IsNamed ts) (datatypes_among front_trees) (datatypes_below (tree_at ts id)) old middle new front own)

-- what is used in the range of a definition
pub definition_uses : (ts : List Tree) → HaveOneNumber ts → (ids : DefinitionIds) (o : Option Definition) → IsDefinitionIf ts (Some ids) o → (place : ℕ) → place ≡ ids.datatype → (old new : List (ℕ × ℕ)) →
    AddsUsed ts place (datatypes_below (tree_at ts ids.range)) old new → AddsUses ts (uses_from o) old new
definition_uses ts one ids None h place e old new k = absurd h
definition_uses ts one ids (Some d) h place e old new k =
    let used : List (List ℕ) = used_by d in
    let uses_it : List ℕ → List ℕ × List ℕ = λ iri. (d.datatype, iri) in
    let both : List ℕ × List ℕ → ℕ × ℕ = λ pair. (datatype_place ts pair.0, datatype_place ts pair.1) in
    let at : datatype_place ts d.datatype ≡ ids.datatype = subst (λ (t : Tree). place_of ts t ≡ ids.datatype) h.datatype (place_is ts one ids.datatype h.datatype_held) in
    let own : AddsUsed ts place used old new = subst (λ (us : List (List ℕ)). AddsUsed ts place us old new) (ap datatypes_below h.range) k in
    let named : IsNamed ts d.datatype = subst (λ (n : ℕ). n < length ts) (sym at) h.datatype_held in
    record {
      grown = own.grown ∙ ap (λ (ps : List (ℕ × ℕ)). old ++ ps) (ap (λ (n : ℕ). map (λ (iri : List ℕ). (n, datatype_place ts iri)) used) (e ∙ sym at) ∙ sym (map-map both uses_it used));
      listed = all_map uses_it (λ (pair : List ℕ × List ℕ). IsNamed ts pair.0 × IsNamed ts pair.1) used (all_later (IsNamed ts) (λ (iri : List ℕ). IsNamed ts d.datatype × IsNamed ts iri) (λ iri n. (named, n)) used own.listed);
    }

-- The uses of axioms.

-- the uses of axioms, one by one
uses_each : (axioms : List Tree) → flat_map uses_at axioms ≡ uses axioms
uses_each [] = refl
uses_each (t ∷ axioms) = uses_first (definition_of t) axioms (uses_each axioms)
  where
    uses_first : (o : Option Definition) (more : List Tree) → flat_map uses_at more ≡ uses more → uses_from o ++ flat_map uses_at more ≡ flat_map uses_of (cons_option o (definitions more))
    uses_first None more e = e
    uses_first (Some d) more e = ap (λ (us : List (List ℕ × List ℕ)). uses_of d ++ us) e

one_leaf : (x y : List ℕ) → datatype_leaf x ≡ datatype_leaf y → x ≡ y
one_leaf x y e = cc

-- a pair of a definition is on a cycle exactly where the definition is cyclic
cyclic_where : (us : List (List ℕ × List ℕ)) (o : Option Definition) → HoldsOfOne (λ (pair : List ℕ × List ℕ). Walks us pair.1 pair.0) (uses_from o) ↔ HoldsOfSome (λ d. HoldsOfOne (λ used. Walks us used d.datatype) (used_by d)) o
cyclic_where us None = (λ h. absurd (in_none h.one h.among), λ h. absurd h)
cyclic_where us (Some d) = one_of_made (λ (used : List ℕ). (d.datatype, used)) (λ (pair : List ℕ × List ℕ). Walks us pair.1 pair.0) (used_by d)

module _ (ts axioms : List Tree) (pairs : List (ℕ × ℕ)) (added : AddsUses ts (flat_map uses_at axioms) [] pairs) where
  listed : AreListed (IsNamed ts) (flat_map uses_at axioms)
  listed = λ x y m. all_in (λ (pair : List ℕ × List ℕ). IsNamed ts pair.0 × IsNamed ts pair.1) (flat_map uses_at axioms) (x, y) added.listed m

  apart : (x y : List ℕ) → IsNamed ts x → IsNamed ts y → datatype_place ts x ≡ datatype_place ts y → x ≡ y
  apart x y h k e = one_leaf x y (places_apart ts (datatype_leaf x) (datatype_leaf y) k e)

  pub uses_within : AreWithin (length ts) pairs
  uses_within =
      subst (λ (ps : List (ℕ × ℕ)). AreWithin (length ts) ps) (sym added.grown)
      (numbered_within (datatype_place ts) (IsNamed ts) apart (length ts) (flat_map uses_at axioms) listed (λ x h. h))

  -- marks of pairs on cycles, gathered by axioms
  pub marks_of_definitions : (marks : List Bool) → MarkEach (λ (place : ℕ) (pair : ℕ × ℕ). Walks pairs pair.1 pair.0) pairs marks → MarkEach (λ (place : ℕ) (t : Tree). HoldsOfSome (IsCyclic axioms) (definition_of t)) axioms (group_marks (map (λ t. length (uses_at t)) axioms) marks)
  marks_of_definitions marks each =
      let us : List (List ℕ × List ℕ) = flat_map uses_at axioms in
      let numbers : MarkEach (λ (place : ℕ) (pair : ℕ × ℕ). Walks (numbered (datatype_place ts) us) pair.1 pair.0) (numbered (datatype_place ts) us) marks =
      subst (λ (ps : List (ℕ × ℕ)). MarkEach (λ (place : ℕ) (pair : ℕ × ℕ). Walks ps pair.1 pair.0) ps marks) added.grown each in
      let things = cycles_of_things (datatype_place ts) (IsNamed ts) apart us listed marks numbers in
      marks_same (λ (place : ℕ) (t : Tree). HoldsOfOne (λ (pair : List ℕ × List ℕ). Walks us pair.1 pair.0) (uses_at t)) (λ (place : ℕ) (t : Tree). HoldsOfSome (IsCyclic axioms) (definition_of t)) axioms
      (group_marks (map (λ t. length (uses_at t)) axioms) marks)
      (λ place t is. subst (λ (vs : List (List ℕ × List ℕ)). HoldsOfOne (λ (pair : List ℕ × List ℕ). Walks us pair.1 pair.0) (uses_at t) ↔ HoldsOfSome (λ d. HoldsOfOne (λ used. Walks vs used d.datatype) (used_by d)) (definition_of t)) (uses_each axioms) (cyclic_where us (definition_of t)))
      (marks_of_groups uses_at (λ (pair : List ℕ × List ℕ). Walks us pair.1 pair.0) axioms marks things)
