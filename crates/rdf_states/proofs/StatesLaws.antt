-- A graph of the ontology states it.
use Rattle.std.proofs.Common.{◌≡◌, ℕ, List, ◌∷◌, ◌++◌, inl, inr, refl, sym, ap, ◌∙◌, subst}
use Rattle.std.specs.Prelude.{Contains, map}
use Rattle.std.proofs.lemmas.List.Elements.{Contains-append_cases, Contains-append_left, Contains-append_right}
use Rattle.owl_kind.specs.Kinds.{Entity}
use Rattle.owl_list.proofs.AscendingLaws.{ascending_holds, from_map, in_map}
use Rattle.owl_tree.specs.declared.tag.Tag.TheVariants as tag
use Rattle.owl_tree.specs.Equivalence.{IsEquivalent}
use Rattle.owl_tree.proofs.EquivalenceLaws.{equivalent_is_equal_form, equivalent_sym}
use Rattle.owl_tree.specs.Ontologies.{HoldEquivalent, Ontology}
use Rattle.owl_tree.specs.Order.{tree_cmp}
use Rattle.owl_tree.specs.OrderLaws.{only_equal_trees_tie, trees_total}
use Rattle.owl_tree.proofs.TreeLaws.{kids_of_list_of}
use Rattle.owl_tree.specs.Trees.{Tree, leaf, node, no_kids, kid, kids_of, tag_of}
use Rattle.rdf_graph.specs.declared.term.Term.{Term}
use Rattle.rdf_graph.specs.declared.triple.Triple.{Triple}
use Rattle.rdf_meaning.specs.declared.role.Role.TheVariants as role
use Rattle.rdf_meaning.proofs.AxiomLaws.{axioms_of_nodes, axioms_of_triples, nodes_have_axioms, triples_have_axioms}
use Rattle.rdf_meaning.specs.Denotation.{of_node, of_triple}
use Rattle.rdf_meaning.proofs.NodeLaws.{nodes_are}
use Rattle.rdf_meaning.specs.Nodes.{nodes_of, role_of}
use Rattle.rdf_meaning.proofs.StatementLaws.{one_axiom, one_notes, one_variants}
use Rattle.rdf_meaning.specs.Statements.{AreAxioms, AreNodeAxioms, HasAxiom, HasNodeAxiom, IsAxiomWith, States, main_triples, notes, notes_of}
use Rattle.rdf_mapping.specs.Drawing.{statement_of}
use Rattle.rdf_mapping.specs.Entries.{AreEntries}
use Rattle.rdf_mapping.specs.GraphEntries.{made_entries}
use Rattle.rdf_mapping.specs.Graphs.{axiom_notes, bare, bare_axioms, header_term, sets_of}
use Rattle.rdf_mapping.proofs.GroupLaws.{set_of_axiom}
use Rattle.rdf_mapping.specs.NoteTrees.{AreReadAs}
use Rattle.rdf_mapping.specs.VariantLaws.{same_notes}
use Rattle.rdf_axioms.specs.AxiomReading.{main_of, with_notes}
use Rattle.rdf_states.proofs.GraphOf.{AreReadBack, AreWellDrawn, IsGraphOf, IsReadAtPlace, LabelsAreSingle}
use Rattle.rdf_states.proofs.HeadLaws.{annotations_read, head_read, header_is_head, same_head}
use Rattle.rdf_states.proofs.MainNodeLaws.{IsStandNode, main_is_stand, stand_is_main}
use Rattle.rdf_states.specs.Places.{Stand, StandsAt, first_number, stand_node, stands_of}
use Rattle.rdf_states.specs.PlaceLaws.{IsSaidBy, by_triple, by_nodes, from_mains, in_mains, place_of, said_by, stand_notes}
use Rattle.rdf_states.proofs.ReadLaws.{read_at}
use Rattle.rdf_states.proofs.SetReadLaws.{annotations_of, from_members, in_members, main_variants, members, stand_read}
use Rattle.rdf_states.proofs.SideLaws.{place_drawn}
use Rattle.rdf_states.proofs.SortedLaws.{main_triples_are, one_header_is}
use Rattle.rdf_states.specs.Stated.{CanBeStated, IsAxiomTree}
use Rattle.rdf_states.proofs.StatedLaws.{stated_axiom}

-- An axiom is what it is without annotations, with its own.

without : (n a : Tree) → with_notes n (bare a) ≡ with_notes n a
without n (leaf t a) = refl
without n (node t no_kids) = refl
without n (node t (kid m ks)) = refl

pub own_set : (a : Tree) → IsAxiomTree a → with_notes (notes (annotations_of a)) (bare a) ≡ a
own_set a is =
    let first = node tag.Notes is.notes in
    let set : notes (annotations_of a) ≡ first = ap (λ (b : Tree). notes (annotations_of b)) is.is ∙ ap (node tag.Notes) (kids_of_list_of is.notes) in
    ap (λ (n : Tree). with_notes n (bare a)) set ∙ ap (λ (b : Tree). with_notes first (bare b)) is.is ∙ sym is.is

same_set : (ts us : List Tree) → HoldEquivalent ts us → IsEquivalent (notes us) (notes ts)
same_set ts us h = (equivalent_is_equal_form (notes us) (notes ts)).1 (sym (same_notes ts us h))

module _ (k : List Entity) (o : Ontology) (c : CanBeStated k o) (name : ℕ → List ℕ) (g : List Triple) (d : IsGraphOf name g o) (drawn : AreWellDrawn name o) (single : LabelsAreSingle g o) (read : AreReadBack name g k o) (are : AreEntries name g (made_entries name o)) where
  abbrev header : Term
  header = header_term name o.head.name

  abbrev axiom_triples : List Triple
  axiom_triples = main_triples g k header

  abbrev axiom_nodes : List Term
  axiom_nodes = nodes_of g role.Main

  at : (b : Tree) (m : ℕ) → StandsAt o b m → IsReadAtPlace name g k o b m
  at b m p = read_at k o c.can_be_drawn name g d drawn single read b m p

  -- what is read at a place, with annotations that are equivalent to an axiom's, is equivalent to it
  read_as : (b : Tree) (m : ℕ) (r : IsReadAtPlace name g k o b m) (a : Tree) → Contains o.axioms a → bare a ≡ b → (s : Tree) → IsEquivalent s (notes (annotations_of a)) → IsEquivalent (node (tag_of r.tree) (kids_of (s ∷ r.read.kids))) a
  read_as b m r a i e s h =
      let n = notes (annotations_of a) in
      let whole : with_notes n r.tree ≡ a = sym (without n r.tree) ∙ ap (with_notes n) (r.is ∙ sym e) ∙ own_set a (stated_axiom k o c.can_be_drawn a i).tree in
      subst (λ (x : Tree). IsEquivalent (node (tag_of r.tree) (kids_of (s ∷ r.read.kids))) x) whole (r.read.equivalent s n h)

  -- Each triple that is an axiom, and each node that stands for one, has its axiom.

  triple_axiom : (t : Triple) → Contains axiom_triples t → HasAxiom g k t
  triple_axiom t i =
      let v = from_mains o.axioms name (bare_axioms o.axioms) (first_number o) t ((main_triples_are k o c name g d drawn single read are t).0 i) in
      let r = at v.0 v.1 v.2 in
      let sets = main_variants k o c name g d drawn single read are v.0 v.1 v.2 t v.3 in
      record { tag = tag_of r.tree; kids = r.read.kids; said = r.main t v.3; sets = sets.sets; variants = sets.variants }

  main_no_individual : role.Main ≡ role.Individual → ⊥
  main_no_individual e = cc

  in_nodes : (x : Term) → role_of g x ≡ role.Main → Contains axiom_nodes x
  in_nodes x e = (nodes_are g role.Main x main_no_individual).1 e

  record HasStand (x : Term) : Type 0 where
    pub node_is : IsStandNode name o x
    pub axiom_of : Tree
    pub inside : Contains o.axioms axiom_of
    pub same : bare axiom_of ≡ node_is.bare
    pub notes_are : axiom_notes axiom_of ≡ node_is.stand.notes

  has_stand : (x : Term) → Contains axiom_nodes x → HasStand x
  has_stand x i =
      let s = main_is_stand k o c.can_be_drawn name g d drawn single read are x ((nodes_are g role.Main x main_no_individual).0 i) in
      let a = set_of_axiom o.axioms s.bare s.stand.notes (stand_notes (statement_of s.bare) (sets_of s.bare o.axioms) s.number s.stand s.among) in
      record { node_is = s; axiom_of = a.0; inside = a.1; same = a.2; notes_are = a.3 }

  stand_annotations : (x : Term) (h : HasStand x) → AreReadAs g k (notes_of g x) (annotations_of h.axiom_of)
  stand_annotations x h =
      let s = h.node_is in
      subst (λ (y : Term). AreReadAs g k (notes_of g y) (annotations_of h.axiom_of)) (sym s.is)
      (stand_read k o c name g d drawn single read are s.bare s.number s.place s.stand s.among h.axiom_of h.inside h.notes_are)

  stand_said : (x : Term) (s : IsStandNode name o x) → IsAxiomWith g k (of_node x) (tag_of (at s.bare s.number s.place).tree) (at s.bare s.number s.place).read.kids
  stand_said x s =
      let r = at s.bare s.number s.place in
      subst (λ (y : Term). IsAxiomWith g k (of_node y) (tag_of r.tree) r.read.kids) (sym s.is) (r.stand s.stand s.among)

  node_axiom : (x : Term) → Contains axiom_nodes x → HasNodeAxiom g k x
  node_axiom x i =
      let h = has_stand x i in
      let r = at h.node_is.bare h.node_is.number h.node_is.place in
      let own = stand_annotations x h in
      record { tag = tag_of r.tree; kids = r.read.kids; said = stand_said x h.node_is; annotations = own.trees; annotates = own.annotates }

  pub list_of_triples : (us : List Tree) × AreAxioms g k axiom_triples us
  list_of_triples = (triples_have_axioms g k axiom_triples).1 triple_axiom

  pub list_of_nodes : (us : List Tree) × AreNodeAxioms g k axiom_nodes us
  list_of_nodes = (nodes_have_axioms g k axiom_nodes).1 node_axiom

  -- Each axiom of the ontology is among these.

  place_of_axiom : (a : Tree) → Contains o.axioms a → (m : ℕ) × StandsAt o (bare a) m
  place_of_axiom a i =
      place_of o.axioms (bare a) (bare_axioms o.axioms) (first_number o)
      ((ascending_holds tree_cmp trees_total only_equal_trees_tie (map bare o.axioms) (bare a)).1 (in_map bare o.axioms a i))

  module _ (us vs : List Tree) (is : AreAxioms g k axiom_triples us) (are_nodes : AreNodeAxioms g k axiom_nodes vs) where
    triple_there : (a : Tree) → Contains o.axioms a → (m : ℕ) (p : StandsAt o (bare a) m) (t : Triple) → Contains (main_of name (statement_of (bare a)) m) t → (u : Tree) × Contains us u × IsEquivalent a u
    triple_there a i m p t j =
        let r = at (bare a) m p in
        let v = main_variants k o c name g d drawn single read are (bare a) m p t j in
        let own = in_map notes (map annotations_of (members (bare a) o.axioms)) (annotations_of a) (in_map annotations_of (members (bare a) o.axioms) a (in_members o.axioms a i)) in
        let s = v.same.there (notes (annotations_of a)) own in
        let u = node (tag_of r.tree) (kids_of (s.0 ∷ r.read.kids)) in
        let equal = read_as (bare a) m r a i refl s.0 (equivalent_sym (notes (annotations_of a)) s.0 s.2) in (
          u,
          (axioms_of_triples g k c.no_clash axiom_triples us is u).1 (record {
            triple = t;
            inside = (main_triples_are k o c name g d drawn single read are t).1 (in_mains o.axioms name (bare a) m (bare_axioms o.axioms) (first_number o) p t j);
            axiom_of = record { tag = tag_of r.tree; kids = r.read.kids; said = r.main t j; sets = v.sets; variants = v.variants; annotations = s.0; inside = s.1; whole = refl };
          }),
          equivalent_sym u a equal,
        )

    node_there : (a : Tree) → Contains o.axioms a → (m : ℕ) (p : StandsAt o (bare a) m) (e : Stand) → Contains (stands_of (statement_of (bare a)) (sets_of (bare a) o.axioms) m) e → e.notes ≡ axiom_notes a → (u : Tree) × Contains vs u × IsEquivalent a u
    node_there a i m p e j same =
        let r = at (bare a) m p in
        let x = stand_node name e in
        let own = stand_read k o c name g d drawn single read are (bare a) m p e j a i (sym same) in
        let main = stand_is_main k o c.can_be_drawn name g d drawn single read are x (record { bare = bare a; number = m; place = p; stand = e; among = j; is = refl }) in
        let u = node (tag_of r.tree) (kids_of (notes own.trees ∷ r.read.kids)) in
        let equal = read_as (bare a) m r a i refl (notes own.trees) (same_set (annotations_of a) own.trees own.same) in (
          u,
          (axioms_of_nodes g k c.no_clash axiom_nodes vs are_nodes u).1 (record {
            x = x;
            inside = in_nodes x main;
            axiom_of = record { tag = tag_of r.tree; kids = r.read.kids; said = r.stand e j; annotations = own.trees; annotates = own.annotates; whole = refl };
          }),
          equivalent_sym u a equal,
        )

    axiom_there : (a : Tree) → Contains o.axioms a → (u : Tree) × Contains (us ++ vs) u × IsEquivalent a u
    axiom_there a i =
        let p = place_of_axiom a i in
        by (said_by name (statement_of (bare a)) (sets_of (bare a) o.axioms) p.0 (place_drawn name o drawn (bare a) p.0 p.1).said)
      where
        by : IsSaidBy name (statement_of (bare a)) (sets_of (bare a) o.axioms) (place_of_axiom a i).0 → (u : Tree) × Contains (us ++ vs) u × IsEquivalent a u
        by (by_triple t j) =
            let p = place_of_axiom a i in
            let u = triple_there a i p.0 p.1 t j in
            (u.0, Contains-append_left us vs u.0 u.1, u.2)
        by (by_nodes h) =
            let p = place_of_axiom a i in
            let e = h (axiom_notes a) (in_map axiom_notes (members (bare a) o.axioms) a (in_members o.axioms a i)) in
            let u = node_there a i p.0 p.1 e.0 e.1 e.2 in
            (u.0, Contains-append_right us vs u.0 u.1, u.2)

    -- And each of these is an axiom of the ontology.

    triple_back : (u : Tree) → Contains us u → (a : Tree) × Contains o.axioms a × IsEquivalent u a
    triple_back u i =
        let s = (axioms_of_triples g k c.no_clash axiom_triples us is u).0 i in
        let t = s.triple in
        let v = from_mains o.axioms name (bare_axioms o.axioms) (first_number o) t ((main_triples_are k o c name g d drawn single read are t).0 s.inside) in
        let r = at v.0 v.1 v.2 in
        let sets = main_variants k o c name g d drawn single read are v.0 v.1 v.2 t v.3 in
        let same = one_axiom g k c.no_clash (of_triple t) s.axiom_of.tag (tag_of r.tree) s.axiom_of.kids r.read.kids s.axiom_of.said (r.main t v.3) in
        let one = one_variants g k t s.axiom_of.sets s.axiom_of.variants sets.sets sets.variants in
        let n = s.axiom_of.annotations in
        let b = sets.same.back n (subst (λ (ss : List Tree). Contains ss n) one s.axiom_of.inside) in
        let ts = from_map notes (map annotations_of (members v.0 o.axioms)) b.0 b.1 in
        let a = from_map annotations_of (members v.0 o.axioms) ts.element ts.inside in
        let m = from_members o.axioms v.0 a.element a.inside in
        let set : b.0 ≡ notes (annotations_of a.element) = sym ts.value ∙ ap notes (sym a.value) in
        let equal = read_as v.0 v.1 r a.element m.0 m.1 n (subst (IsEquivalent n) set b.2) in
        let whole : node (tag_of r.tree) (kids_of (n ∷ r.read.kids)) ≡ u = (λ z. node (sym same.tag z) (kids_of (n ∷ sym same.parts z))) ∙ sym s.axiom_of.whole in
        (a.element, m.0, subst (λ (x : Tree). IsEquivalent x a.element) whole equal)

    node_back : (u : Tree) → Contains vs u → (a : Tree) × Contains o.axioms a × IsEquivalent u a
    node_back u i =
        let s = (axioms_of_nodes g k c.no_clash axiom_nodes vs are_nodes u).0 i in
        let x = s.x in
        let h = has_stand x s.inside in
        let r = at h.node_is.bare h.node_is.number h.node_is.place in
        let own = stand_annotations x h in
        let same = one_axiom g k c.no_clash (of_node x) s.axiom_of.tag (tag_of r.tree) s.axiom_of.kids r.read.kids s.axiom_of.said (stand_said x h.node_is) in
        let one = one_notes g k (notes_of g x) s.axiom_of.annotations s.axiom_of.annotates own.trees own.annotates in
        let equal = read_as h.node_is.bare h.node_is.number r h.axiom_of h.inside h.same (notes own.trees) (same_set (annotations_of h.axiom_of) own.trees own.same) in
        let whole : node (tag_of r.tree) (kids_of (notes own.trees ∷ r.read.kids)) ≡ u = (λ z. node (sym same.tag z) (kids_of (notes (sym one z) ∷ sym same.parts z))) ∙ sym s.axiom_of.whole in
        (h.axiom_of, h.inside, subst (λ (y : Tree). IsEquivalent y h.axiom_of) whole equal)

    pub axioms_same : HoldEquivalent o.axioms (us ++ vs)
    axioms_same = record {
      there = axiom_there;
      back = λ u i. elim (Contains-append_cases us vs u i) [ inl j ↦ triple_back u j | inr j ↦ node_back u j ];
    }

  -- The graph states the ontology.
  pub states : States g k o
  states =
      let own = annotations_read k o c name g d drawn single read are in
      let us = list_of_triples in
      let vs = list_of_nodes in
      record {
        no_clash = c.no_clash;
        header = header;
        one_header = one_header_is k o c name g d drawn single read are;
        said = head_read k o c name g d drawn single read are;
        is_head = header_is_head k o c name g d drawn single read are;
        notes_in = own.trees;
        are_notes = own.annotates;
        by_triples = us.0;
        are_axioms = us.1;
        by_nodes = vs.0;
        are_node_axioms = vs.1;
        head = same_head k o c name g d drawn single read are;
        annotations = own.same;
        axioms = axioms_same us.0 vs.0 us.1 vs.1;
      }

  pub states_header : states.header ≡ header
  unfolding states
  states_header = refl
