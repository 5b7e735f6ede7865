-- Each tree that a graph says is a part of an annotation or an axiom that it states, or the set of no annotation.
use Rattle.std.specs.Prelude.{◌≡◌, ◌⊎◌, ◌&&◌, List, [], ◌∷◌, ◌++◌, Contains, Some, true}
use Rattle.std.specs.List.{AllByRecursion}
use Rattle.std.proofs.Common.{arith, inl, inr, refl, ap, sym, subst, ◌∙◌}
use Rattle.std.proofs.lemmas.Bool.{and_from, both_ways}
use Rattle.std.proofs.lemmas.List.Elements.{Contains-append_left, Contains-append_right}
use Rattle.owl_kind.specs.Kinds.{Entity}
use Rattle.owl_list.proofs.AscendingLaws.{all_from, all_in, in_head, in_tail}
use Rattle.owl_list.proofs.FilterLaws.{in_filter}
use Rattle.owl_tree.specs.Ontologies.{Ontology}
use Rattle.owl_tree.specs.declared.tag.Tag.{Tag}
use Rattle.owl_tree.specs.declared.tag.Tag.TheVariants as tag
use Rattle.owl_tree.specs.declared.row.Sort.{Sort}
use Rattle.owl_tree.specs.declared.row.Sort.TheVariants as sort
use Rattle.owl_tree.specs.Shape.{IsShaped}
use Rattle.owl_tree.proofs.TreeLaws.{list_of_kids_of}
use Rattle.owl_tree.specs.Trees.{Tree, node, kids_in, kids_of}
use Rattle.rdf_graph.specs.declared.term.Term.{Term}
use Rattle.rdf_graph.specs.declared.term.Term.TheVariants.{Blank}
use Rattle.rdf_graph.specs.declared.triple.Triple.{Triple}
use Rattle.rdf_meaning.proofs.AxiomLaws.{axioms_of_nodes, axioms_of_triples, notes_of_triples}
use Rattle.rdf_meaning.proofs.DenotationLaws.{itself as by_itself, one_is, simple_has_none, with_row}
use Rattle.rdf_meaning.proofs.NodeLaws.{nodes_are, own_term}
use Rattle.rdf_meaning.specs.Nodes.{is_same, nodes_of, role_of}
use Rattle.rdf_meaning.proofs.StatementLaws.{one_notes}
use Rattle.rdf_meaning.specs.Statements.{Annotates, no_note, set, HasAxiom, IsDirectlyNotedUnder, IsNoteOf, an_axiom, an_annotation, Says, Variants, bare, noted, header_notes, is_annotation_triple, main_triples, notes, notes_of, reifies, a_set, note_tree, is_noted}
use Rattle.rdf_meaning.specs.declared.role.Role.TheVariants as role
use Rattle.rdf_faults.specs.Meant.{GoesDown}
use Rattle.rdf_faults.proofs.MeantLaws.{AreSaidOf, node_axiom, part_meant, triple_axiom}
use Rattle.rdf_faults.proofs.NoteLaws.{annotation_of, by_notes_above, in_noters, in_notes_of, note_said, of_axiom, of_header, of_note, set_of}
use Rattle.rdf_annotations.proofs.AnnotationLaws.{noted_or}
use Rattle.rdf_nodes.proofs.ExpressionLaws.{expression_has_row, expression_is_part, meant_denotes_such, own_same}
use Rattle.rdf_nodes.specs.Large.{HasLargeNumber}
use Rattle.rdf_nodes.proofs.NumberLaws.{IsLargeLeaf, large_kid}
use Rattle.rdf_meaning.specs.Denotation.{sort_of, DenotesOwn}
use Rattle.rdf_statements.specs.GraphTrees.{IsPartOf, itself, IsTreeOf, of_node, of_annotation, of_axiom as axiom_tree, of_axiom_node}
use Rattle.rdf_statements.proofs.PartLaws.{kid_part, part_shape}

-- the tree is a part of one of these
pub record IsPartOfSome (stated : List Tree) (t : Tree) : Type 0 where
  pub whole : Tree
  pub inside : Contains stated whole
  pub part : IsPartOf t whole

abbrev pub IsStated : List Tree → Tree → Type 0
IsStated stated t = IsPartOfSome stated t ⊎ (t ≡ notes [])

no_kid : (us : List Tree) (tag : Tag) → node tag (kids_of us) ≡ notes [] → us ≡ []
no_kid us tag e = sym (list_of_kids_of us) ∙ ap kids_in e

pub stated_goes_down : (stated : List Tree) → GoesDown (IsStated stated)
stated_goes_down stated tag us (inl p) =
    all_from (IsStated stated) us (λ u m. inl (record { whole = p.whole; inside = p.inside; part = kid_part p.whole u tag us m p.part }))
stated_goes_down stated tag us (inr e) = subst (AllByRecursion (IsStated stated)) (sym (no_kid us tag e)) tt

-- a triple has a set of annotations, though it be empty
pub has_set : (g : List Triple) (k : List Entity) (t : Triple) (sets : List Tree) → Variants g k t sets → (s : Tree) × Contains sets s
has_set g k _ _ (bare t e) = (notes [], in_head (notes []) [])
has_set g k _ _ (noted t r rs _ e (set _ _ ts sets a h)) = (notes ts, in_head (notes ts) sets)

module _ (g : List Triple) (k : List Entity) (o : Ontology) (h : Says g k o) where
  abbrev header : Term
  header = h.states.header

  -- the annotations and axioms that the graph states
  abbrev pub stated : List Tree
  stated = h.states.notes_in ++ (h.states.by_triples ++ h.states.by_nodes)

  whole_stated : (t : Tree) → Contains stated t → IsStated stated t
  whole_stated t m = inl (record { whole = t; inside = m; part = itself t })

  kid_stated : (tag : Tag) (us : List Tree) (u : Tree) → IsStated stated (node tag (kids_of us)) → Contains us u → IsStated stated u
  kid_stated tag us u p m = all_in (IsStated stated) us u (stated_goes_down stated tag us p) m

  header_note : (t : Triple) (a : Tree) → Contains (header_notes g k header) t → IsNoteOf g k t a → IsStated stated a
  header_note t a m is =
      whole_stated a (Contains-append_left h.states.notes_in (h.states.by_triples ++ h.states.by_nodes) a
      ((notes_of_triples g k (header_notes g k header) h.states.notes_in h.states.are_notes a).1 (record { triple = t; inside = m; note_of = is })))

  in_axioms : (a : Tree) → Contains (h.states.by_triples ++ h.states.by_nodes) a → IsStated stated a
  in_axioms a m = whole_stated a (Contains-append_right h.states.notes_in (h.states.by_triples ++ h.states.by_nodes) a m)

  -- the axiom of a triple, with one of its sets
  triple_stated : (t : Triple) (is : HasAxiom g k t) (s : Tree) → Contains (main_triples g k header) t → Contains is.sets s → IsStated stated (node is.tag (kids_of (s ∷ is.kids)))
  triple_stated t is s m n =
      let a = node is.tag (kids_of (s ∷ is.kids)) in
      in_axioms a (Contains-append_left h.states.by_triples h.states.by_nodes a
      ((axioms_of_triples g k h.states.no_clash (main_triples g k header) h.states.by_triples h.states.are_axioms a).1 (record {
        triple = t;
        inside = m;
        axiom_of = record { tag = is.tag; kids = is.kids; said = is.said; sets = is.sets; variants = is.variants; annotations = s; inside = n; whole = refl };
      })))

  -- the annotations of a term, whose set is stated
  record HasStated (x : Term) : Type 0 where
    trees : List Tree
    annotates : Annotates g k (notes_of g x) trees
    is : IsStated stated (notes trees)

  node_stated : (x : Term) (e : role_of g x ≡ role.Main) → IsStated stated (node (node_axiom g k o h x e).tag (kids_of (notes (node_axiom g k o h x e).annotations ∷ (node_axiom g k o h x e).kids)))
  node_stated x e =
      let is = node_axiom g k o h x e in
      let a = node is.tag (kids_of (notes is.annotations ∷ is.kids)) in
      in_axioms a (Contains-append_right h.states.by_triples h.states.by_nodes a
      ((axioms_of_nodes g k h.states.no_clash (nodes_of g role.Main) h.states.by_nodes h.states.are_node_axioms a).1 (record {
        x = x;
        inside = (nodes_are g role.Main x (λ f. cc)).1 e;
        axiom_of = record { tag = is.tag; kids = is.kids; said = is.said; annotations = is.annotations; annotates = is.annotates; whole = refl };
      })))

  main_stated : (x : Term) → role_of g x ≡ role.Main → HasStated x
  main_stated x e =
      let is = node_axiom g k o h x e in
      let kids = notes is.annotations ∷ is.kids in
      record { trees = is.annotations; annotates = is.annotates; is = kid_stated is.tag kids (notes is.annotations) (node_stated x e) (in_head (notes is.annotations) is.kids) }

  -- an annotation of such a term is stated
  note_stated : (x : Term) → HasStated x → (t : Triple) (a : Tree) → Contains (notes_of g x) t → IsNoteOf g k t a → IsStated stated a
  note_stated x has t a m is =
      kid_stated tag.Notes has.trees a has.is
      ((notes_of_triples g k (notes_of g x) has.trees has.annotates a).1 (record { triple = t; inside = m; note_of = is }))

  in_header_notes : (t : Triple) → Contains g t → t.subject ≡ header → is_annotation_triple g k header t ≡ true → Contains (header_notes g k header) t
  unfolding header_notes
  in_header_notes t m e a =
      in_filter (λ u. is_same u.subject header && is_annotation_triple g k header u) g t m
      (and_from (is_same t.subject header) _ (ap (λ y. is_same y header) e ∙ own_term header) a)

  -- an annotation triple's annotations are stated, where those of the reification that it is of are
  annotation_stated : (t : Triple) (a : Tree) → Contains g t → is_annotation_triple g k header t ≡ true → (role_of g t.subject ≡ role.Note → Contains (notes_of g t.subject) t → HasStated t.subject) → IsNoteOf g k t a → IsStated stated a
  annotation_stated t a m e above is =
      elim (annotation_of g k header t e) [
        | of_header f ↦ header_note t a (in_header_notes t m f e) is
        | of_axiom f n ↦ note_stated t.subject (main_stated t.subject f) t a (in_notes_of g t m n) is
        | of_note f n ↦ let own = in_notes_of g t m n in note_stated t.subject (above f own) t a own is
      ]

  -- the set of a reification, where what it reifies is stated with each of its sets
  reification_stated : (x : Term) (t : Triple) (sets : List Tree) → role_of g x ≡ role.Note → reifies g x t ≡ true → Variants g k t sets → ((s : Tree) → Contains sets s → IsStated stated s) → HasStated x
  reification_stated x t sets e r variants each =
      notes_or_none (notes_of g x) refl
    where
      notes_or_none : (ts : List Triple) → notes_of g x ≡ ts → HasStated x
      notes_or_none [] none = record { trees = []; annotates = subst (λ ts. Annotates g k ts []) (sym none) no_note; is = inr refl }
      notes_or_none (u ∷ us) some =
          let own = set_of g k t sets variants x (in_noters g x t u e r (subst (λ ts. Contains ts u) (sym some) (in_head u us))) in
          record { trees = own.trees; annotates = own.annotates; is = each (notes own.trees) own.among }

  set_from : (x : Term) → role_of g x ≡ role.Note → ((p : Term) → role_of g p ≡ role.Note → IsDirectlyNotedUnder g x p → HasStated p) → HasStated x
  set_from x e above =
      elim (h.whole.reifications x ((nodes_are g role.Note x (λ f. cc)).1 e)) [
        | an_axiom t n r ↦
            let is = triple_axiom g k o h t n in
            reification_stated x t is.sets e r is.variants (λ s m. kid_stated is.tag (s ∷ is.kids) s (triple_stated t is s n m) (in_head s is.kids))
        | an_annotation t n a r ↦
            let is = note_said g k o h t n a in
            reification_stated x t is.sets e r is.variants (λ s m.
            let kids = s ∷ is.property ∷ is.value ∷ [] in
            let whole = node tag.Annotation (kids_of kids) in
            kid_stated tag.Annotation kids s
            (annotation_stated t whole n a (λ f own. above t.subject f (record { note = e; under = f; triple = t; annotation = own; reified = r }))
            (record { has = is; annotations = s; inside = m; whole = refl }))
            (in_head s (is.property ∷ is.value ∷ [])))
      ]

  set_stated : (x : Term) → role_of g x ≡ role.Note → HasStated x
  set_stated = by_notes_above g k o h HasStated set_from

  noted_stated : (x : Term) → is_noted (role_of g x) ≡ true → HasStated x
  noted_stated x n = elim (noted_or (role_of g x) n) [ inl e ↦ main_stated x e | inr e ↦ set_stated x e ]

  -- what stands at the parts of axioms is stated
  said_of : AreSaidOf g k header (IsStated stated)
  said_of = record {
    triples = λ t m.
        let is = triple_axiom g k o h t m in
        let s = has_set g k t is.sets is.variants in
        (is, all_from (IsStated stated) is.kids (λ u i. kid_stated is.tag (s.0 ∷ is.kids) u (triple_stated t is s.0 m s.1) (in_tail s.0 is.kids u i)));
    nodes = λ x e.
        let is = node_axiom g k o h x e in
        let set = notes is.annotations in
        (is, all_from (IsStated stated) is.kids (λ u i. kid_stated is.tag (set ∷ is.kids) u (node_stated x e) (in_tail set is.kids u i)));
  }

  -- the tree that an expression denotes
  record DenotesStated (x : Term) : Type 0 where
    tree : Tree
    own : DenotesOwn g k x tree
    is : IsStated stated tree

  expression_stated : (x : Term) (s : Sort) → sort_of (role_of g x) ≡ Some s → DenotesStated x
  expression_stated x s gives =
      let meant = part_meant g k o h (IsStated stated) (stated_goes_down stated) said_of x (expression_is_part (role_of g x) s gives) in
      let own = meant_denotes_such g k (IsStated stated) x s gives meant in
      record { tree = own.0; own = own.1; is = own.2 }

  -- all trees that the graph says are stated, or parts of these
  pub all_stated : (t : Tree) → IsTreeOf g k header t → IsStated stated t
  all_stated _ (of_node label t own) =
      let its = expression_stated (Blank label) own.sort own.gives in
      subst (IsStated stated) (own_same g k h.states.no_clash (Blank label) its.tree t its.own own) its.is
  all_stated _ (of_annotation _ (note_tree u t m e is)) = annotation_stated u t m e (λ f own. set_stated u.subject f) is
  all_stated _ (of_annotation _ (a_set x ts bears annotates)) =
      let own = noted_stated x bears in
      subst (λ us. IsStated stated (notes us)) (one_notes g k (notes_of g x) own.trees own.annotates ts annotates) own.is
  all_stated _ (axiom_tree u t m is) =
      in_axioms t (Contains-append_left h.states.by_triples h.states.by_nodes t
      ((axioms_of_triples g k h.states.no_clash (main_triples g k header) h.states.by_triples h.states.are_axioms t).1 (record { triple = u; inside = m; axiom_of = is })))
  all_stated _ (of_axiom_node x t r is) =
      in_axioms t (Contains-append_right h.states.by_triples h.states.by_nodes t
      ((axioms_of_nodes g k h.states.no_clash (nodes_of g role.Main) h.states.by_nodes h.states.are_node_axioms t).1
      (record { x = x; inside = (nodes_are g role.Main x (λ f. cc)).1 r; axiom_of = is })))

  -- where what is stated is shaped, no number is too large

  no_large_leaf : ((t : Tree) → Contains stated t → IsShaped t) → (u : Tree) → IsStated stated u → IsLargeLeaf u → ⊥
  no_large_leaf shaped u (inl p) large =
      let shape = subst IsShaped large.is (part_shape u p.whole p.part (shaped p.whole p.inside)) in
      let less = shape.1 in
      let most = large.large in
      omega (arith, less, most)
  no_large_leaf shaped u (inr e) large = let same = sym large.is ∙ e in cc

  pub no_large_number : ((t : Tree) → Contains stated t → IsShaped t) → HasLargeNumber g → ⊥
  no_large_number shaped large =
      let x = large.triple.subject in
      let gives : sort_of (role_of g x) ≡ Some sort.ClassExpression = ap sort_of large.is.of_class in
      let its = expression_stated x sort.ClassExpression gives in
      elim (one_is g k its.own.sort x (its.tree ∷ []) its.own.denotes) [
        | by_itself t e _ ↦ both_ways _ (simple_has_none g k its.own.sort x t e) (expression_has_row (role_of g x) its.own.sort its.own.gives)
        | with_row row us m a f held whole ↦
            let kid = large_kid g k x row us large.is.of_class m f held large.triple large.inside refl large.is in
            let all : AllByRecursion (IsStated stated) (its.tree ∷ []) = (its.is, tt) in
            let node_is = (subst (AllByRecursion (IsStated stated)) whole all).0 in
            no_large_leaf shaped kid.kid (kid_stated row.tag us kid.kid node_is kid.inside) kid.large
      ]
