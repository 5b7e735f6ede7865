-- Below what is meant all is meant, and so is each node of a graph that says an ontology and would be a part of an axiom.
use Rattle.std.specs.Prelude.{◌≡◌, ◌⊎◌, true, false, not, List, [], ◌∷◌, ◌++◌, Contains, IsSome, Some, option_map}
use Rattle.std.specs.List.{AllByRecursion}
use Rattle.std.proofs.Common.{inl, inr, refl, sym, ap, ◌∙◌, subst}
use Rattle.std.proofs.lemmas.Bool.{and_parts, not-true}
use Rattle.std.proofs.lemmas.Option.{none-some}
use Rattle.owl_list.proofs.AscendingLaws.{all_in, in_cases, in_none}
use Rattle.owl_kind.specs.Kinds.{Entity}
use Rattle.owl_tree.specs.Ontologies.{Ontology}
use Rattle.owl_tree.specs.declared.tag.Tag.TheVariants as tag
use Rattle.owl_tree.specs.declared.row.Sort.{Sort}
use Rattle.owl_tree.specs.declared.row.Sort.TheVariants as sort
use Rattle.owl_tree.specs.Trees.{Tree}
use Rattle.rdf_graph.specs.declared.term.Term.{Term}
use Rattle.rdf_graph.specs.declared.term.Term.TheVariants.{Iri, Blank, Literal}
use Rattle.rdf_graph.specs.declared.triple.Triple.{Triple}
use Rattle.rdf_meaning.proofs.ListLaws.{Passing, only_one, same_only}
use Rattle.rdf_meaning.specs.declared.role.Role.TheVariants as role
use Rattle.rdf_meaning.specs.declared.row.Place.{Place}
use Rattle.rdf_meaning.specs.declared.row.Place.TheVariants.{Subject, Object}
use Rattle.rdf_meaning.specs.declared.row.Part.{Part}
use Rattle.rdf_meaning.specs.declared.row.Want.{Want}
use Rattle.rdf_meaning.specs.declared.row.Want.TheVariants.{One}
use Rattle.rdf_meaning.specs.Nodes.{is_structural, nodes_of, role_of}
use Rattle.rdf_meaning.proofs.NodeLaws.{nodes_are}
use Rattle.rdf_meaning.specs.Rows.{Row}
use Rattle.rdf_meaning.specs.RowTests.{is_mark, is_marked_well, is_place}
use Rattle.rdf_meaning.proofs.RowLaws.{axiom_marked_well, expression_marked_well, same_place}
use Rattle.rdf_meaning.specs.Denotation.{AreKeys, Lists, Bearer, of_node, of_triple, Denotes, by_itself, by_row, by_list, by_whole, by_keys, by_declaration, mark, is_true, Fits, Holds, no_parts, part, facet_pair, literal_leaf, select}
use Rattle.rdf_meaning.proofs.DenotationLaws.{key_is, list_is, one_is, itself, with_row}
use Rattle.rdf_meaning.proofs.SoundLaws.{cell_leads, declared_role, ends_of, in_facets, led_by, nothing_below, plain_itself, wants_tree}
use Rattle.rdf_meaning.specs.Statements.{HasAxiom, HasNodeAxiom, InSteps, one_step, one_more, IsDirectlyBelow, IsPartOfAxiom, IsReached, at_root, below_root, below_axiom, IsRoot, is_subject, is_object, Says, main_triples}
use Rattle.rdf_meaning.proofs.AxiomLaws.{nodes_have_axioms, triples_have_axioms}
use Rattle.rdf_faults.specs.Meant.{AnyTree, GoesDown, HasPart, HasPartOf, IsMeant, an_individual, a_tree, a_list, a_list_of_keys, an_axiom}

-- the value of a facet is a literal

value_literal : (f : Tree → Tree) (o : Term) (u : Tree) → option_map f (literal_leaf o) ≡ Some u → IsSome (literal_leaf o)
value_literal f (Iri iri) u e = absurd (none-some u e)
value_literal f (Blank label) u e = absurd (none-some u e)
value_literal f (Literal literal) u e = refl

pub pair_literal : (ts : List Triple) (u : Tree) → facet_pair ts ≡ Some u → (t : Triple) → Contains ts t → IsSome (literal_leaf t.object)
pair_literal [] u e t m = absurd (none-some u e)
pair_literal (v ∷ []) u e t m =
    elim (in_cases v [] t m) [
      | inl same ↦ subst (λ (w : Triple). IsSome (literal_leaf w.object)) same (value_literal _ v.object u e)
      | inr n ↦ absurd (in_none t n)
    ]
pair_literal (v ∷ w ∷ more) u e t m = absurd (none-some u e)

literal_individual : (g : List Triple) (o : Term) → IsSome (literal_leaf o) → role_of g o ≡ role.Individual
literal_individual g (Iri iri) h = cc
literal_individual g (Blank label) h = cc
literal_individual g (Literal literal) h = refl

-- of all of two lists

pub all_of_both : (P : Tree → Type 0) (ts us : List Tree) → AllByRecursion P (ts ++ us) → AllByRecursion P ts × AllByRecursion P us
all_of_both P [] us all = (tt, all)
all_of_both P (t ∷ ts) us all = let both = all_of_both P ts us all.1 in ((all.0, both.0), both.1)

pub all_are_trees : (ts : List Tree) → AllByRecursion AnyTree ts
all_are_trees [] = tt
all_are_trees (t ∷ ts) = (tt, all_are_trees ts)

pub any_goes_down : GoesDown AnyTree
any_goes_down t us h = all_are_trees us

module _ (g : List Triple) (k : List Entity) where
  pub each_part : (b : Bearer) (ps : List Part) (ts : List Tree) → Holds g k b ps ts → AllByRecursion (HasPart g k b) ps
  each_part _ _ _ (no_parts b) = tt
  each_part _ _ _ (part b p ps x ts us e d h) = (record { z = x; one = e; ts = ts; denotes = d }, each_part b ps us h)

  pub parts_of : (P : Tree → Type 0) (b : Bearer) (ps : List Part) (ts : List Tree) → Holds g k b ps ts → AllByRecursion P ts → AllByRecursion (HasPartOf g k P b) ps
  parts_of P _ _ _ (no_parts b) all = tt
  parts_of P _ _ _ (part b p ps x ts us e d h) all =
      let both = all_of_both P ts us all in
      (record { part = record { z = x; one = e; ts = ts; denotes = d }; all = both.0 }, parts_of P b ps us h both.1)

module _ (g : List Triple) (k : List Entity) (P : Tree → Type 0) (down : GoesDown P) where
  wanted_meant : (x : Term) (w : Want) (ts : List Tree) → Denotes g k x w ts → AllByRecursion P ts → is_mark w ≡ false → IsMeant g k P x
  wanted_meant _ _ _ (by_itself s x t e) all n = a_tree x s (t ∷ []) (by_itself s x t e) all
  wanted_meant _ _ _ (by_row s x row ts m a f h) all n = a_tree x s _ (by_row s x row ts m a f h) all
  wanted_meant _ _ _ (by_list s x least ts _ l) all n = a_list x s ts l all
  wanted_meant _ _ _ (by_whole t s x least ts _ l) all n = a_list x s ts l (down t ts all.0)
  wanted_meant _ _ _ (by_keys x os ds _ h) all n = a_list_of_keys x os ds h (down tag.ObjectKeys os all.0) (down tag.DataKeys ds all.1.0)
  wanted_meant _ _ _ (by_declaration t x u e) all n = an_individual x (declared_role g k t x u e)
  wanted_meant _ _ _ (mark x) all n = cc
  wanted_meant _ _ _ (is_true x e) all n = an_individual x (ap (role_of g) e)

  -- what the structural triples of a meant node lead to is meant

  below_row : (x : Term) (row : Row) (ts : List Tree) → is_marked_well row ≡ true → Fits g (of_node x) row → Holds g k (of_node x) row.parts ts → AllByRecursion P ts → (t : Triple) → Contains g t → t.subject ≡ x → is_structural g t ≡ true → IsMeant g k P t.object
  below_row x row ts well f h all t m s structural =
      let led = led_by g x row well f t m s structural in
      let stands = all_in (HasPartOf g k P (of_node x)) row.parts led.p (parts_of g k P (of_node x) row.parts ts h all) led.inside in
      elim led.plain [
        | inl n ↦
            subst (IsMeant g k P) (only_one (select g (of_node x) led.p.place) stands.part.z t.object stands.part.one led.chosen_there)
            (wanted_meant stands.part.z led.p.want stands.part.ts stands.part.denotes stands.all n)
        | inr e ↦ an_individual t.object e
      ]

  below_tree : (x : Term) (s : Sort) (ts : List Tree) → Denotes g k x (One s) ts → AllByRecursion P ts → (t : Triple) → Contains g t → t.subject ≡ x → is_structural g t ≡ true → IsMeant g k P t.object
  below_tree x s ts d all t m e h =
      elim (one_is g k s x ts d) [
        | itself u same _ ↦
            elim (plain_itself g k s x u same) [
              | inl i ↦ absurd (nothing_below g x i t m e h)
              | inr f ↦ an_individual t.object (literal_individual g t.object (pair_literal _ u f.1 t (in_facets g x f.0 t m e h)))
            ]
        | with_row row us among a f held whole ↦
            let of_kids = down row.tag us (subst (AllByRecursion P) whole all).0 in
            below_row x row us (expression_marked_well row among) f held of_kids t m e h
      ]

  below_list : (x : Term) (s : Sort) (ts : List Tree) → Lists g k x s ts → AllByRecursion P ts → (t : Triple) → Contains g t → t.subject ≡ x → is_structural g t ≡ true → IsMeant g k P t.object
  below_list x s ts l all t m e h =
      elim (list_is g k x s ts l) [
        | inl empty ↦ absurd (nothing_below g x (ap (role_of g) empty.0) t m e h)
        | inr c ↦
            let both = all_of_both P c.us c.vs (subst (AllByRecursion P) c.joined all) in
            elim (cell_leads g x c.first c.rest c.list c.one_first c.one_rest t m e h) [
              | inl same ↦ subst (IsMeant g k P) same (a_tree c.first s c.us c.is_first both.0)
              | inr same ↦ subst (IsMeant g k P) same (a_list c.rest s c.vs c.is_rest both.1)
            ]
      ]

  -- the first of some keys, and the others
  record AreKeysOf (first : Term) (us ps es : List Tree) : Type 0 where
    first_meant : IsMeant g k P first
    of_objects : AllByRecursion P ps
    of_data : AllByRecursion P es

  keys_of : (first : Term) (us ps es os ds : List Tree) → ((Denotes g k first (One sort.ObjectPropertyExpression) us × (os ≡ us ++ ps) × (ds ≡ es)) ⊎ (Denotes g k first (One sort.DataPropertyExpression) us × (os ≡ ps) × (ds ≡ us ++ es))) → AllByRecursion P os → AllByRecursion P ds → AreKeysOf first us ps es
  keys_of first us ps es os ds (inl d) of_os of_ds =
      let both = all_of_both P us ps (subst (AllByRecursion P) d.1 of_os) in
      record { first_meant = a_tree first sort.ObjectPropertyExpression us d.0 both.0; of_objects = both.1; of_data = subst (AllByRecursion P) d.2 of_ds }
  keys_of first us ps es os ds (inr d) of_os of_ds =
      let both = all_of_both P us es (subst (AllByRecursion P) d.2 of_ds) in
      record { first_meant = a_tree first sort.DataPropertyExpression us d.0 both.0; of_objects = subst (AllByRecursion P) d.1 of_os; of_data = both.1 }

  below_keys : (x : Term) (os ds : List Tree) → AreKeys g k x os ds → AllByRecursion P os → AllByRecursion P ds → (t : Triple) → Contains g t → t.subject ≡ x → is_structural g t ≡ true → IsMeant g k P t.object
  below_keys x os ds are of_os of_ds t m e h =
      elim (key_is g k x os ds are) [
        | inl empty ↦ absurd (nothing_below g x (ap (role_of g) empty.0) t m e h)
        | inr c ↦
            let keys = keys_of c.first c.us c.ps c.es os ds c.sorts of_os of_ds in
            elim (cell_leads g x c.first c.rest c.list c.one_first c.one_rest t m e h) [
              | inl same ↦ subst (IsMeant g k P) same keys.first_meant
              | inr same ↦ subst (IsMeant g k P) same (a_list_of_keys c.rest c.ps c.es c.is_rest keys.of_objects keys.of_data)
            ]
      ]

  pub below_meant : (x : Term) → IsMeant g k P x → (t : Triple) → Contains g t → t.subject ≡ x → is_structural g t ≡ true → IsMeant g k P t.object
  below_meant _ (an_individual x e) t m s h = absurd (nothing_below g x e t m s h)
  below_meant _ (a_tree x sort ts d all) t m s h = below_tree x sort ts d all t m s h
  below_meant _ (a_list x sort ts l all) t m s h = below_list x sort ts l all t m s h
  below_meant _ (a_list_of_keys x os ds are of_os of_ds) t m s h = below_keys x os ds are of_os of_ds t m s h
  below_meant _ (an_axiom x a ts is all) t m s h = below_row x is.row ts (axiom_marked_well is.row is.among) is.fits is.parts all t m s h

  steps_meant : (y x : Term) → IsMeant g k P x → InSteps (IsDirectlyBelow g) y x → IsMeant g k P y
  steps_meant _ _ h (one_step y x b) = subst (IsMeant g k P) b.object (below_meant x h b.triple b.inside b.subject b.structural)
  steps_meant _ _ h (one_more y z x b more) =
      subst (IsMeant g k P) b.object (below_meant z (steps_meant z x h more) b.triple b.inside b.subject b.structural)

  -- the ends of a triple that is an axiom

  end_meant : (t : Triple) (place : Place) (x : Term) (ps : List Part) → select g (of_triple t) place ≡ x ∷ [] → AllByRecursion (HasPartOf g k P (of_triple t)) ps → Passing (wants_tree place) ps → IsMeant g k P x
  end_meant t place x ps one parts p =
      let tests = and_parts (is_place p.element.place place) (not (is_mark p.element.want)) p.passes in
      let s = all_in (HasPartOf g k P (of_triple t)) ps p.element parts p.inside in
      let same = same_only s.part.z x (sym s.part.one ∙ ap (select g (of_triple t)) (same_place p.element.place place tests.0) ∙ one) in
      subst (IsMeant g k P) same (wanted_meant s.part.z p.element.want s.part.ts s.part.denotes s.all (not-true _ tests.1))

  subject_meant : (t : Triple) (is : HasAxiom g k t) → AllByRecursion P is.kids → IsMeant g k P t.subject
  subject_meant t is all =
      let row = is.said.row in
      end_meant t Subject t.subject row.parts refl (parts_of g k P (of_triple t) row.parts is.kids is.said.parts all)
      (ends_of g t row is.said.among is.said.fits).subject

  object_meant : (t : Triple) (is : HasAxiom g k t) → AllByRecursion P is.kids → IsMeant g k P t.object
  object_meant t is all =
      let row = is.said.row in
      elim (ends_of g t row is.said.among is.said.fits).object [
        | inl e ↦ an_individual t.object e
        | inr p ↦ end_meant t Object t.object row.parts refl (parts_of g k P (of_triple t) row.parts is.kids is.said.parts all) p
      ]

-- what stands at the parts of each axiom of the graph has this property
pub record AreSaidOf (g : List Triple) (k : List Entity) (header : Term) (P : Tree → Type 0) : Type 0 where
  pub triples : (t : Triple) → Contains (main_triples g k header) t → (is : HasAxiom g k t) × AllByRecursion P is.kids
  pub nodes : (x : Term) → role_of g x ≡ role.Main → (is : HasNodeAxiom g k x) × AllByRecursion P is.kids

-- in a graph that says an ontology

module _ (g : List Triple) (k : List Entity) (o : Ontology) (h : Says g k o) where
  pub triple_axiom : (t : Triple) → Contains (main_triples g k h.states.header) t → HasAxiom g k t
  triple_axiom = (triples_have_axioms g k (main_triples g k h.states.header)).0 (h.states.by_triples, h.states.are_axioms)

  pub node_axiom : (x : Term) → role_of g x ≡ role.Main → HasNodeAxiom g k x
  node_axiom x e =
      (nodes_have_axioms g k (nodes_of g role.Main)).0 (h.states.by_nodes, h.states.are_node_axioms) x
      ((nodes_are g role.Main x (λ f. cc)).1 e)

  module _ (P : Tree → Type 0) (down : GoesDown P) (said : AreSaidOf g k h.states.header P) where
    root_meant : (x : Term) → IsRoot g k h.states.header x → IsMeant g k P x
    root_meant _ (is_subject t m) = let is = said.triples t m in subject_meant g k P down t is.0 is.1
    root_meant _ (is_object t m) = let is = said.triples t m in object_meant g k P down t is.0 is.1

    reached_meant : (x : Term) → IsReached g k h.states.header x → IsMeant g k P x
    reached_meant _ (at_root x r) = root_meant x r
    reached_meant _ (below_root y x r s) = steps_meant g k P down y x (root_meant x r) s
    reached_meant _ (below_axiom y x e s) =
        let is = said.nodes x e in
        steps_meant g k P down y x (an_axiom x is.0.tag is.0.kids is.0.said is.1) s

    -- each node that would be a part of an axiom is meant
    pub part_meant : (x : Term) → IsPartOfAxiom (role_of g x) → IsMeant g k P x
    part_meant (Iri iri) p = absurd p
    part_meant (Blank label) p = reached_meant (Blank label) (h.whole.reached label p)
    part_meant (Literal literal) p = absurd p

  pub node_meant : (x : Term) → IsPartOfAxiom (role_of g x) → IsMeant g k AnyTree x
  node_meant =
      part_meant AnyTree any_goes_down (record {
        triples = λ t m. let is = triple_axiom t m in (is, all_are_trees is.kids);
        nodes = λ x e. let is = node_axiom x e in (is, all_are_trees is.kids);
      })
