-- The axioms of triples and of nodes are held one after the other.
use Rattle.std.specs.Prelude.{◌≡◌, ◌<◌, ◌+◌, ◌&&◌, ◌||◌, not, ℕ, Bool, true, false, cond, List, [], ◌∷◌, ◌++◌, Contains, Some, length, map, slice_get, take, get_or}
use Rattle.std.specs.List.{filter}
use Rattle.std.specs.Map.{keys_of}
use Rattle.std.proofs.Common.{refl, ap, sym, subst, append_assoc, append-nil, ◌∙◌}
use Rattle.std.proofs.Math.Seq.{take-length}
use Rattle.std.proofs.lemmas.List.{length-map, take_more}
use Rattle.std.proofs.lemmas.List.Elements.{Contains-get_or, filter-append}
use Rattle.std.proofs.lemmas.Option.{get_or_from_slice_get, same_Some, slice_get-get_or, slice_get_within}
use Rattle.owl_list.proofs.AscendingLaws.{in_head}
use Rattle.owl_kind.specs.Kinds.{Entity}
use Rattle.owl_tree.specs.Trees.{Tree, node, kids_of}
use Rattle.rdf_graph.specs.declared.term.Term.{Term}
use Rattle.rdf_graph.specs.declared.term.Term.TheVariants.{Iri, Blank, Literal}
use Rattle.rdf_graph.specs.declared.triple.Triple.{Triple}
use Rattle.rdf_meaning.specs.declared.role.Role.{Role}
use Rattle.rdf_meaning.specs.declared.role.Role.TheVariants as role
use Rattle.rdf_meaning.specs.Denotation.{of_node, of_triple}
use Rattle.owl_list.proofs.FilterLaws.{in_filter}
use Rattle.rdf_meaning.proofs.ListLaws.{only_one}
use Rattle.rdf_meaning.specs.Nodes.{is_blank, is_role, is_structural, nodes_of, role_of, subjects_of}
use Rattle.rdf_meaning.specs.Statements.{AreAxioms, no_triple, triple, AreNodeAxioms, no_node, an_axiom, set, Annotates, IsAxiomOf, IsAxiomOfNode, Variants, bare, noted, axioms_of, is_annotation_triple, is_header_triple, main_triples, notes, notes_of}
use Rattle.rdf_roles.proofs.NodeLaws.{keys_are}
use Rattle.rdf_roles.specs.Tables.{IsTableOf, RoleTable, blank_nodes, labels_in}
use Rattle.rdf_scans.specs.Sorts.{is_main, sort_of}
use Rattle.rdf_scans.specs.declared.sorts.TripleSort.{TripleSort}
use Rattle.rdf_scans.specs.declared.sorts.TripleSort.TheVariants.{Structural, Header, Annotation, Main}
use Rattle.tree_stores.specs.Stores.{Keeps, StandFor}
use Rattle.tree_stores.proofs.StoreLaws.{both_stand, keeps_all, keeps_more, stand_still}
use Rattle.tree_stores.specs.declared.fault.TreeFault.{TreeFault}
use Rattle.rdf_annotations.specs.Annotations.{IsFaultOfSome}
use Rattle.rdf_annotations.proofs.AnnotationLaws.{sets_kept}
use Rattle.rdf_statements.specs.declared.form.AxiomForm.{AxiomForm}
use Rattle.rdf_statements.specs.declared.known.Known.{Known}
use Rattle.rdf_statements.specs.Forms.{IsAxiomForm}
use Rattle.rdf_statements.proofs.FormLaws.{axiom_form_says}
use Rattle.rdf_statements.specs.GraphTrees.{IsTreeOf, of_axiom, of_axiom_node}
use Rattle.rdf_statements.specs.Holding.{Adds, FormStands, IsKnown, IsOfForm, StandForSome, is_main_triple, main_nodes}
use Rattle.rdf_statements.proofs.Faults.{fault_of_some}
use Rattle.rdf_statements.proofs.Sets.{map_both}
use Rattle.rdf_statements.proofs.HoldingKids.{numbered_still}

-- numbers behind others

module _ {N : Type 0} where
  pub nothing_added : (Stands : Tree → N → Type 0) (Are : List Tree → Type 0) → Are [] → (ns : List N) → Adds Stands Stands Are ns ns
  nothing_added Stands Are none ns =
      record { trees = []; are = none; stand = λ before h. subst (λ ts. StandFor Stands ts ns) (sym (append-nil before)) h }

  pub some_added : (Old New : Tree → N → Type 0) (Are : List Tree → Type 0) → Keeps Old New → (ns more : List N) → StandForSome New Are more → Adds Old New Are ns (ns ++ more)
  some_added Old New Are kept ns more s = record {
    trees = s.trees;
    are = s.are;
    stand = λ before h. both_stand New before s.trees ns more (stand_still Old New kept before ns h) s.stand;
  }

  pub both_added : (A B C : Tree → N → Type 0) (P Q R : List Tree → Type 0) → ((ts us : List Tree) → P ts → Q us → R (ts ++ us)) → (os ms ns : List N) → Adds A B P os ms → Adds B C Q ms ns → Adds A C R os ns
  both_added A B C P Q R join os ms ns first second = record {
    trees = first.trees ++ second.trees;
    are = join first.trees second.trees first.are second.are;
    stand = λ before h.
        subst (λ ts. StandFor C ts ns) (append_assoc before first.trees second.trees) (second.stand (before ++ first.trees) (first.stand before h));
  }

-- lists, element by element

module _ {X : Type 0} where
  pub at_place : (xs : List X) (i : ℕ) (x : X) → slice_get xs i ≡ Some x → Contains xs x
  at_place xs i x e = subst (Contains xs) (get_or_from_slice_get xs i x x e) (Contains-get_or xs i x (slice_get_within xs i x e))

  -- what stands at a place
  pub some_at : (xs : List X) (i : ℕ) (other : X) → i < length xs → slice_get xs i ≡ Some (get_or xs i other)
  some_at xs i other within = slice_get-get_or xs i other within

  pub further : (test : X → Bool) (xs : List X) (i : ℕ) (x : X) → slice_get xs i ≡ Some x → filter test (take (i + 1) xs) ≡ filter test (take i xs) ++ filter test (x ∷ [])
  further test xs i x e =
      ap (filter test) (take_more xs i x (slice_get_within xs i x e) ∙ ap (λ y. take i xs ++ y ∷ []) (get_or_from_slice_get xs i x x e))
      ∙ filter-append test (take i xs) (x ∷ [])

  pub passed : (test : X → Bool) (x : X) (b : Bool) → test x ≡ b → filter test (x ∷ []) ≡ cond b (x ∷ []) []
  passed test x b e = ap (λ c. cond c (x ∷ []) []) e

module _ (g : List Triple) (k : List Entity) where
  pub axioms_both : (ts more : List Triple) (us vs : List Tree) → AreAxioms g k ts us → AreAxioms g k more vs → AreAxioms g k (ts ++ more) (us ++ vs)
  axioms_both _ more _ vs no_triple h = h
  axioms_both _ more _ vs (triple t ts tag kids sets us is d rest) h =
      subst (AreAxioms g k (t ∷ ts ++ more)) (sym (append_assoc (axioms_of tag kids sets) us vs))
      (triple t (ts ++ more) tag kids sets (us ++ vs) is d (axioms_both ts more us vs rest h))

  pub node_axioms_both : (xs more : List Term) (us vs : List Tree) → AreNodeAxioms g k xs us → AreNodeAxioms g k more vs → AreNodeAxioms g k (xs ++ more) (us ++ vs)
  node_axioms_both _ more _ vs no_node h = h
  node_axioms_both _ more _ vs (an_axiom x xs tag kids notes_in us is d rest) h =
      subst (AreNodeAxioms g k (x ∷ xs ++ more)) (sym (append_assoc (axioms_of tag kids (notes notes_in ∷ [])) us vs))
      (an_axiom x (xs ++ more) tag kids notes_in (us ++ vs) is d (node_axioms_both xs more us vs rest h))

  -- there is some set of annotations
  pub some_variant : (t : Triple) (sets : List Tree) → Variants g k t sets → (s : Tree) × Contains sets s
  some_variant _ _ (bare t e) = (notes [], in_head (notes []) [])
  some_variant _ _ (noted t _ _ _ e (set r rs ts more d rest)) = (notes ts, in_head (notes ts) more)

  -- the axioms of one triple, and of one node
  module _ {N : Type 0} (Stands : Tree → N → Type 0) (roles : RoleTable) (form : AxiomForm) where
    pub triple_stands : (t : Triple) (sets : List Tree) (ns : List N) → IsAxiomForm g k roles (of_triple t) form → Variants g k t sets → FormStands g k roles Stands form sets ns →
        StandForSome Stands (AreAxioms g k (t ∷ [])) ns
    triple_stands t sets ns is variants s = record {
      trees = axioms_of form.tag s.kids sets ++ [];
      are = triple t [] form.tag s.kids sets [] (axiom_form_says g k roles (of_triple t) form s.kids is s.mean) variants no_triple;
      stand = subst (λ ts. StandFor Stands ts ns) (sym (append-nil (axioms_of form.tag s.kids sets))) s.stand;
    }

    pub node_stands : (x : Term) (annotations : List Tree) (ns : List N) → IsAxiomForm g k roles (of_node x) form → Annotates g k (notes_of g x) annotations →
        FormStands g k roles Stands form (notes annotations ∷ []) ns → StandForSome Stands (AreNodeAxioms g k (x ∷ [])) ns
    node_stands x annotations ns is annotates s = record {
      trees = axioms_of form.tag s.kids (notes annotations ∷ []) ++ [];
      are = an_axiom x [] form.tag s.kids annotations [] (axiom_form_says g k roles (of_node x) form s.kids is s.mean) annotates no_node;
      stand = subst (λ ts. StandFor Stands ts ns) (sym (append-nil (axioms_of form.tag s.kids (notes annotations ∷ [])))) s.stand;
    }

  pub triple_of_form : (roles : RoleTable) (form : AxiomForm) (t : Triple) (sets : List Tree) → IsAxiomForm g k roles (of_triple t) form → Variants g k t sets → (a : Tree) →
      IsOfForm g k roles form sets a → IsAxiomOf g k t a
  triple_of_form roles form t sets is variants a of = record {
    tag = form.tag;
    kids = of.kids;
    said = axiom_form_says g k roles (of_triple t) form of.kids is of.mean;
    sets = sets;
    variants = variants;
    annotations = of.annotations;
    inside = of.inside;
    whole = of.whole;
  }

  pub node_of_form : (roles : RoleTable) (form : AxiomForm) (x : Term) (annotations : List Tree) → IsAxiomForm g k roles (of_node x) form → Annotates g k (notes_of g x) annotations → (a : Tree) →
      IsOfForm g k roles form (notes annotations ∷ []) a → IsAxiomOfNode g k x a
  node_of_form roles form x annotations is annotates a of = record {
    tag = form.tag;
    kids = of.kids;
    said = axiom_form_says g k roles (of_node x) form of.kids is of.mean;
    annotations = annotations;
    annotates = annotates;
    whole = of.whole ∙ ap (λ s. node form.tag (kids_of (s ∷ of.kids))) (sym (only_set of.inside));
  }
    where
      only_set : Contains (notes annotations ∷ []) of.annotations → notes annotations ≡ of.annotations
      only_set m = only_one (notes annotations ∷ []) (notes annotations) of.annotations refl m

-- which triples are axioms

by_sort : (a b c : Bool) → is_main (cond a Structural (cond b Header (cond c Annotation Main))) ≡ not (a || b || c)
by_sort true b c = refl
by_sort false true c = refl
by_sort false false true = refl
by_sort false false false = refl

module _ (g : List Triple) (k : List Entity) (header : Term) where
  pub main_by_sort : (t : Triple) → is_main (sort_of g k header t) ≡ is_main_triple g k header t
  main_by_sort t = by_sort (is_structural g t) (is_header_triple header t) (is_annotation_triple g k header t)

  pub main_are : main_triples g k header ≡ filter (is_main_triple g k header) g
  unfolding main_triples
  main_are = refl

  pub in_main : (t : Triple) (i : ℕ) → slice_get g i ≡ Some t → is_main_triple g k header t ≡ true → Contains (main_triples g k header) t
  in_main t i at e = subst (λ ts. Contains ts t) (sym main_are) (in_filter (is_main_triple g k header) g t (at_place g i t at) e)

  pub axiom_fault : {H : Type 0} (t : Triple) → Contains (main_triples g k header) t → (f : TreeFault H) → IsFaultOfSome (IsAxiomOf g k t) f → IsFaultOfSome (IsTreeOf g k header) f
  axiom_fault t m f = fault_of_some (IsAxiomOf g k t) (IsTreeOf g k header) (λ a is. of_axiom t a m is) f

  pub node_fault : {H : Type 0} (x : Term) → role_of g x ≡ role.Main → (f : TreeFault H) → IsFaultOfSome (IsAxiomOfNode g k x) f → IsFaultOfSome (IsTreeOf g k header) f
  node_fault x r f = fault_of_some (IsAxiomOfNode g k x) (IsTreeOf g k header) (λ a is. of_axiom_node x a r is) f

  pub told : (u t : Triple) → u ≡ t → (s : TripleSort) (answer b : Bool) → s ≡ sort_of g k header u → answer ≡ is_main s → answer ≡ b → is_main_triple g k header t ≡ b
  told u t same s answer b sort is e =
      ap (is_main_triple g k header) (sym same) ∙ sym (main_by_sort u) ∙ ap is_main (sym sort) ∙ sym is ∙ e

  module _ {N : Type 0} (Old New : Tree → N → Type 0) (t : Triple) where
    pub triple_passed : (ns : List N) → is_main_triple g k header t ≡ false → Adds Old Old (AreAxioms g k (filter (is_main_triple g k header) (t ∷ []))) ns ns
    triple_passed ns e =
        subst (λ ts. Adds Old Old (AreAxioms g k ts) ns ns) (sym (passed (is_main_triple g k header) t false e)) (nothing_added Old (AreAxioms g k []) no_triple ns)

    pub triple_added : (ns more all : List N) → is_main_triple g k header t ≡ true → Keeps Old New → StandForSome New (AreAxioms g k (t ∷ [])) more → all ≡ ns ++ more →
        Adds Old New (AreAxioms g k (filter (is_main_triple g k header) (t ∷ []))) ns all
    triple_added ns more all e kept s joined =
        subst (Adds Old New (AreAxioms g k (filter (is_main_triple g k header) (t ∷ []))) ns) (sym joined)
        (subst (λ ts. Adds Old New (AreAxioms g k ts) ns (ns ++ more)) (sym (passed (is_main_triple g k header) t true e))
        (some_added Old New (AreAxioms g k (t ∷ [])) kept ns more s))

-- the nodes that stand for axioms, by their labels

pub main_role : (r : Role) → is_role role.Main r ≡ true → r ≡ role.Main
main_role role.Main e = refl
main_role role.List e = cc
main_role role.Property e = cc
main_role role.Class e = cc
main_role role.Range e = cc
main_role role.Facet e = cc
main_role role.Note e = cc
main_role role.Header e = cc
main_role role.Individual e = cc

pub labels_are : (g : List Triple) (roles : RoleTable) → IsTableOf g roles → keys_of roles.nodes ≡ blank_nodes g
labels_are g roles table = keys_are g roles.nodes table.nodes

pub as_many_nodes : (g : List Triple) (roles : RoleTable) → IsTableOf g roles → length roles.nodes ≡ length (blank_nodes g)
as_many_nodes g roles table = sym (length-map roles.nodes (λ e. e.0)) ∙ ap length (labels_are g roles table)

-- the label with the number
pub label_at : (g : List Triple) (roles : RoleTable) → IsTableOf g roles → (number : ℕ) (label other : List ℕ) → slice_get (keys_of roles.nodes) number ≡ Some label →
    slice_get (blank_nodes g) number ≡ Some other → label ≡ other
label_at g roles table number label other e f = same_Some label other (sym e ∙ ap (λ ls. slice_get ls number) (labels_are g roles table) ∙ f)

module _ {N : Type 0} (Old New : Tree → N → Type 0) (g : List Triple) (k : List Entity) (label : List ℕ) where
  one_main : (b : Bool) → is_role role.Main (role_of g (Blank label)) ≡ b → main_nodes g (label ∷ []) ≡ map Blank (cond b (label ∷ []) [])
  one_main b e = ap (map Blank) (passed (λ l. is_role role.Main (role_of g (Blank l))) label b e)

  pub node_passed : (ns : List N) → is_role role.Main (role_of g (Blank label)) ≡ false → Adds Old Old (AreNodeAxioms g k (main_nodes g (label ∷ []))) ns ns
  node_passed ns e = subst (λ xs. Adds Old Old (AreNodeAxioms g k xs) ns ns) (sym (one_main false e)) (nothing_added Old (AreNodeAxioms g k []) no_node ns)

  pub node_added : (ns more all : List N) → is_role role.Main (role_of g (Blank label)) ≡ true → Keeps Old New → StandForSome New (AreNodeAxioms g k (Blank label ∷ [])) more →
      all ≡ ns ++ more → Adds Old New (AreNodeAxioms g k (main_nodes g (label ∷ []))) ns all
  node_added ns more all e kept s joined =
      subst (Adds Old New (AreNodeAxioms g k (main_nodes g (label ∷ []))) ns) (sym joined)
      (subst (λ xs. Adds Old New (AreNodeAxioms g k xs) ns (ns ++ more)) (sym (one_main true e)) (some_added Old New (AreNodeAxioms g k (Blank label ∷ [])) kept ns more s))

main_in : (g : List Triple) (xs : List Term) → filter (λ x. is_blank x && is_role role.Main (role_of g x)) xs ≡ main_nodes g (labels_in xs)
main_in g [] = refl
main_in g (Iri iri ∷ xs) = main_in g xs
main_in g (Literal literal ∷ xs) = main_in g xs
main_in g (Blank label ∷ xs) = blank_in (is_role role.Main (role_of g (Blank label))) (main_in g xs)
  where
    blank_in : (b : Bool) → filter (λ x. is_blank x && is_role role.Main (role_of g x)) xs ≡ main_nodes g (labels_in xs) →
        cond b (Blank label ∷ filter (λ x. is_blank x && is_role role.Main (role_of g x)) xs) (filter (λ x. is_blank x && is_role role.Main (role_of g x)) xs)
        ≡ map Blank (cond b (label ∷ filter (λ l. is_role role.Main (role_of g (Blank l))) (labels_in xs)) (filter (λ l. is_role role.Main (role_of g (Blank l))) (labels_in xs)))
    blank_in true e = ap (λ ys. Blank label ∷ ys) e
    blank_in false e = e

pub main_nodes_are : (g : List Triple) → nodes_of g role.Main ≡ main_nodes g (blank_nodes g)
unfolding nodes_of blank_nodes
main_nodes_are g = main_in g (subjects_of g)

-- what is known stays known

pub known_still : {N : Type 0} (Old New : Tree → N → Type 0) → Keeps Old New → (known : Known N) → IsKnown Old known → IsKnown New known
known_still Old New kept known h =
    let reading = known.annotated.reading in
    record {
      annotated = h.annotated;
      axioms = h.axioms;
      numbered = numbered_still reading.graph.now reading.kinds.now reading.roles.now Old New kept known.ids.now h.numbered;
      all = h.all;
      sets = sets_kept Old New kept reading.graph.now reading.kinds.now reading.roles.now known.sets.now.of_nodes.items known.sets.now.empty h.sets;
    }

-- so far, place by place

pub record AreUpTo {N : Type 0} (Old Now : Tree → N → Type 0) (Are : List Tree → Type 0) (old now : List N) : Type 0 where
  pub kept : Keeps Old Now
  pub adds : Adds Old Now Are old now

module _ {N : Type 0} (Old : Tree → N → Type 0) (g : List Triple) (k : List Entity) where
  module _ (header : Term) where
    abbrev pub TriplesUpTo : (Tree → N → Type 0) → ℕ → List N → List N → Type 0
    TriplesUpTo Now i os ns = AreUpTo Old Now (AreAxioms g k (filter (is_main_triple g k header) (take i g))) os ns

    pub no_triples : (os : List N) → TriplesUpTo Old 0 os os
    no_triples os = record { kept = keeps_all Old; adds = nothing_added Old (AreAxioms g k []) no_triple os }

    pub next_triple : (Now New : Tree → N → Type 0) (i : ℕ) (t : Triple) (os ms ns : List N) → slice_get g i ≡ Some t → TriplesUpTo Now i os ms → Keeps Now New →
        Adds Now New (AreAxioms g k (filter (is_main_triple g k header) (t ∷ []))) ms ns → TriplesUpTo New (i + 1) os ns
    next_triple Now New i t os ms ns at h kept more =
        let test = is_main_triple g k header in
        record {
          kept = keeps_more Old Now New h.kept kept;
          adds =
              subst (λ ts. Adds Old New (AreAxioms g k ts) os ns) (sym (further test g i t at))
              (both_added Old Now New (AreAxioms g k (filter test (take i g))) (AreAxioms g k (filter test (t ∷ []))) (AreAxioms g k (filter test (take i g) ++ filter test (t ∷ [])))
              (axioms_both g k (filter test (take i g)) (filter test (t ∷ []))) os ms ns h.adds more);
        }

    pub all_triples : (Now : Tree → N → Type 0) (i : ℕ) (os ns : List N) → i ≡ length g → TriplesUpTo Now i os ns → Adds Old Now (AreAxioms g k (main_triples g k header)) os ns
    all_triples Now i os ns e h =
        subst (λ ts. Adds Old Now (AreAxioms g k ts) os ns)
        (ap (filter (is_main_triple g k header)) (ap (λ n. take n g) e ∙ take-length g) ∙ sym (main_are g k header)) h.adds

  abbrev pub NodesUpTo : (Tree → N → Type 0) → ℕ → List N → List N → Type 0
  NodesUpTo Now i os ns = AreUpTo Old Now (AreNodeAxioms g k (main_nodes g (take i (blank_nodes g)))) os ns

  pub no_nodes : (os : List N) → NodesUpTo Old 0 os os
  no_nodes os = record { kept = keeps_all Old; adds = nothing_added Old (AreNodeAxioms g k []) no_node os }

  main_further : (i : ℕ) (label : List ℕ) → slice_get (blank_nodes g) i ≡ Some label →
      main_nodes g (take (i + 1) (blank_nodes g)) ≡ main_nodes g (take i (blank_nodes g)) ++ main_nodes g (label ∷ [])
  main_further i label at =
      let test = λ (l : List ℕ). is_role role.Main (role_of g (Blank l)) in
      ap (map Blank) (further test (blank_nodes g) i label at) ∙ map_both Blank (filter test (take i (blank_nodes g))) (filter test (label ∷ []))

  pub next_node : (Now New : Tree → N → Type 0) (i : ℕ) (label : List ℕ) (os ms ns : List N) → slice_get (blank_nodes g) i ≡ Some label → NodesUpTo Now i os ms → Keeps Now New →
      Adds Now New (AreNodeAxioms g k (main_nodes g (label ∷ []))) ms ns → NodesUpTo New (i + 1) os ns
  next_node Now New i label os ms ns at h kept more =
      let before = main_nodes g (take i (blank_nodes g)) in
      let here = main_nodes g (label ∷ []) in
      record {
        kept = keeps_more Old Now New h.kept kept;
        adds =
            subst (λ xs. Adds Old New (AreNodeAxioms g k xs) os ns) (sym (main_further i label at))
            (both_added Old Now New (AreNodeAxioms g k before) (AreNodeAxioms g k here) (AreNodeAxioms g k (before ++ here)) (node_axioms_both g k before here) os ms ns h.adds more);
      }

  pub all_nodes : (Now : Tree → N → Type 0) (i : ℕ) (os ns : List N) → i ≡ length (blank_nodes g) → NodesUpTo Now i os ns → Adds Old Now (AreNodeAxioms g k (nodes_of g role.Main)) os ns
  all_nodes Now i os ns e h =
      subst (λ xs. Adds Old Now (AreNodeAxioms g k xs) os ns)
      (ap (main_nodes g) (ap (λ n. take n (blank_nodes g)) e ∙ take-length (blank_nodes g)) ∙ sym (main_nodes_are g)) h.adds
