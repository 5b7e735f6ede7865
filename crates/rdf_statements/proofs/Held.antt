-- All trees that a graph says are parts of those that stand for its axioms and annotations, sets and nodes.
use Rattle.std.specs.Prelude.{◌≡◌, ◌⊎◌, ◌&&◌, ◌||◌, Bool, true, false, not, List, [], ◌∷◌, ◌++◌, Contains, Option, slice_get}
use Rattle.std.proofs.Common.{inl, inr, refl, ap, sym, subst, ◌∙◌}
use Rattle.std.proofs.lemmas.Bool.{and_from}
use Rattle.std.proofs.lemmas.List.Elements.{Contains-append_left, Contains-append_right}
use Rattle.owl_list.proofs.AscendingLaws.{in_cases, in_head, in_none}
use Rattle.owl_kind.specs.Kinds.{Entity}
use Rattle.owl_tree.specs.declared.tag.Tag.{Tag}
use Rattle.owl_tree.specs.declared.tag.Tag.TheVariants as tag
use Rattle.owl_tree.specs.Trees.{Tree, node, kids_of}
use Rattle.rdf_graph.specs.declared.term.Term.{Term}
use Rattle.rdf_graph.specs.declared.triple.Triple.{Triple}
use Rattle.rdf_meaning.specs.declared.role.Role.TheVariants as role
use Rattle.rdf_meaning.proofs.AxiomLaws.{axioms_of_nodes, axioms_of_triples, nodes_have_axioms, notes_of_triples}
use Rattle.rdf_meaning.specs.Kinds.{HaveNoClash}
use Rattle.owl_list.proofs.FilterLaws.{in_filter}
use Rattle.rdf_meaning.specs.Nodes.{is_same, is_structural, nodes_of, of_subject, role_of}
use Rattle.rdf_meaning.proofs.NodeLaws.{in_subject, nodes_are}
use Rattle.rdf_meaning.proofs.StatementLaws.{one_notes}
use Rattle.rdf_meaning.specs.Statements.{Annotates, IsAxiomOfNode, IsNoteOf, header_notes, is_annotation_triple, main_triples, notes, notes_of, note_tree, a_set, is_noted}
use Rattle.rdf_roles.proofs.WayLaws.{numbered_by_role}
use Rattle.rdf_roles.specs.Tables.{IsTableOf, RoleTable}
use Rattle.tree_stores.specs.Stores.{StandFor}
use Rattle.rdf_annotations.specs.Annotations.{AreSets}
use Rattle.rdf_annotations.proofs.AnnotationLaws.{noted_or}
use Rattle.rdf_nodes.specs.Numbers.{AreAllHeld}
use Rattle.rdf_statements.proofs.Adding.{labels_are}
use Rattle.rdf_statements.proofs.PartLaws.{part_of_part}
use Rattle.rdf_statements.specs.GraphTrees.{AreStatements, IsHeldWithin, IsPartOf, itself, below, IsTreeOf, of_node, of_annotation, of_axiom, of_axiom_node}

either : (h a b c n s : Bool) → ((h && a && b && c) || (n && s)) ≡ true → (h ≡ true) ⊎ ((n ≡ true) × (s ≡ true))
either true a b c n s e = inl refl
either false a b c true true e = inr (refl, refl)
either false a b c true false e = cc
either false a b c false s e = cc

module _ {N : Type 0} (Stands : Tree → N → Type 0) where
  one_of : (ts : List Tree) (ns : List N) (t : Tree) → StandFor Stands ts ns → Contains ts t → IsHeldWithin Stands t
  one_of [] ns t h m = absurd (in_none t m)
  one_of (u ∷ ts) [] t h m = absurd h
  one_of (u ∷ ts) (n ∷ ns) t h m =
      elim (in_cases u ts t m) [
        | inl e ↦ record { whole = u; part = subst (λ v. IsPartOf v u) e (itself u); number = n; stands = h.0 }
        | inr r ↦ one_of ts ns t h.1 r
      ]

  kid_within : (t : Tree) (tag : Tag) (us : List Tree) → Contains us t → IsHeldWithin Stands (node tag (kids_of us)) → IsHeldWithin Stands t
  kid_within t tag us m h =
      record { whole = h.whole; part = part_of_part t (node tag (kids_of us)) h.whole (below t t tag us m (itself t)) h.part; number = h.number; stands = h.stands }

  module _ (g : List Triple) (k : List Entity) (roles : RoleTable) (header : Term) (none : HaveNoClash k) (table : IsTableOf g roles) (of_nodes : List (Option N)) (empty : N)
      (annotations axioms : List N) (nodes : AreAllHeld g k Stands) (sets : AreSets Stands g k roles of_nodes empty) (said : AreStatements Stands g k header annotations axioms) where
    in_axioms : (t : Tree) → Contains (said.by_triples ++ said.by_nodes) t → IsHeldWithin Stands t
    in_axioms t m = one_of (said.by_triples ++ said.by_nodes) axioms t said.axioms_stand m

    node_axiom_held : (x : Term) (t : Tree) → role_of g x ≡ role.Main → IsAxiomOfNode g k x t → IsHeldWithin Stands t
    node_axiom_held x t r is =
        in_axioms t
        (Contains-append_right said.by_triples said.by_nodes t
        ((axioms_of_nodes g k none (nodes_of g role.Main) said.by_nodes said.are_node_axioms t).1
        (record { x = x; inside = (nodes_are g role.Main x (λ e. cc)).1 r; axiom_of = is })))

    -- the set of annotations of a node
    record HasSet (x : Term) : Type 0 where
      trees : List Tree
      annotates : Annotates g k (notes_of g x) trees
      within : IsHeldWithin Stands (notes trees)

    main_set : (x : Term) → role_of g x ≡ role.Main → HasSet x
    main_set x r =
        let has = (nodes_have_axioms g k (nodes_of g role.Main)).0 (said.by_nodes, said.are_node_axioms) x ((nodes_are g role.Main x (λ e. cc)).1 r) in
        let kids = notes has.annotations ∷ has.kids in
        record {
          trees = has.annotations;
          annotates = has.annotates;
          within =
              kid_within (notes has.annotations) has.tag kids (in_head (notes has.annotations) has.kids)
              (node_axiom_held x (node has.tag (kids_of kids)) r
              (record { tag = has.tag; kids = has.kids; said = has.said; annotations = has.annotations; annotates = has.annotates; whole = refl }));
        }

    note_set : (x : Term) → role_of g x ≡ role.Note → HasSet x
    note_set x r =
        let n = numbered_by_role g x (λ e. let same : role.Note ≡ role.Individual = sym r ∙ e in cc) in
        let at = ap (λ ls. slice_get ls n.number) (labels_are g roles table) ∙ n.at in
        let own = sets.all.each n.number n.label at (ap (role_of g) (sym n.is) ∙ r) in
        let set = sets.some.each n.number n.label own.0 at own.1 in
        subst HasSet (sym n.is)
        (record {
          trees = set.trees;
          annotates = set.annotates;
          within = record { whole = notes set.trees; part = itself (notes set.trees); number = own.0; stands = set.stands };
        })

    noted_set : (x : Term) → is_noted (role_of g x) ≡ true → HasSet x
    noted_set x noted = elim (noted_or (role_of g x) noted) [ inl r ↦ main_set x r | inr r ↦ note_set x r ]

    set_held : (x : Term) (ts : List Tree) → is_noted (role_of g x) ≡ true → Annotates g k (notes_of g x) ts → IsHeldWithin Stands (notes ts)
    set_held x ts noted annotates =
        let own = noted_set x noted in
        subst (λ us. IsHeldWithin Stands (notes us)) (one_notes g k (notes_of g x) own.trees own.annotates ts annotates) own.within

    header_note : (u : Triple) (t : Tree) → Contains (header_notes g k header) u → IsNoteOf g k u t → IsHeldWithin Stands t
    header_note u t m is =
        one_of said.notes_in annotations t said.notes_stand
        ((notes_of_triples g k (header_notes g k header) said.notes_in said.are_notes t).1 (record { triple = u; inside = m; note_of = is }))

    node_note : (u : Triple) (t : Tree) → is_noted (role_of g u.subject) ≡ true → Contains (notes_of g u.subject) u → IsNoteOf g k u t → IsHeldWithin Stands t
    node_note u t noted m is =
        let own = noted_set u.subject noted in
        kid_within t tag.Notes own.trees
        ((notes_of_triples g k (notes_of g u.subject) own.trees own.annotates t).1 (record { triple = u; inside = m; note_of = is })) own.within

    in_notes_of : (u : Triple) → Contains g u → not (is_structural g u) ≡ true → Contains (notes_of g u.subject) u
    unfolding notes_of
    in_notes_of u m e = in_filter (λ t. not (is_structural g t)) (of_subject g u.subject) u (in_subject g u.subject u m refl) e

    in_header_notes : (u : Triple) → Contains g u → is_same u.subject header ≡ true → is_annotation_triple g k header u ≡ true → Contains (header_notes g k header) u
    unfolding header_notes
    in_header_notes u m e f =
        in_filter (λ t. is_same t.subject header && is_annotation_triple g k header t) g u m (and_from (is_same u.subject header) (is_annotation_triple g k header u) e f)

    -- an annotation triple is one of the header, or one of a node
    annotation_is : (u : Triple) → is_annotation_triple g k header u ≡ true → (is_same u.subject header ≡ true) ⊎ ((is_noted (role_of g u.subject) ≡ true) × (not (is_structural g u) ≡ true))
    unfolding is_annotation_triple
    annotation_is u e = either (is_same u.subject header) _ _ _ (is_noted (role_of g u.subject)) (not (is_structural g u)) e

    note_held : (u : Triple) (t : Tree) → Contains g u → is_annotation_triple g k header u ≡ true → IsNoteOf g k u t → IsHeldWithin Stands t
    note_held u t m e is =
        elim (annotation_is u e) [
          | inl s ↦ header_note u t (in_header_notes u m s e) is
          | inr n ↦ node_note u t n.0 (in_notes_of u m n.1) is
        ]

    pub all_held : (t : Tree) → IsTreeOf g k header t → IsHeldWithin Stands t
    all_held _ (of_node label t own) =
        let h = nodes label t own in record { whole = t; part = itself t; number = h.number; stands = h.stands }
    all_held _ (of_annotation _ (note_tree u t m e is)) = note_held u t m e is
    all_held _ (of_annotation _ (a_set x ts noted annotates)) = set_held x ts noted annotates
    all_held _ (of_axiom u t m is) =
        in_axioms t
        (Contains-append_left said.by_triples said.by_nodes t
        ((axioms_of_triples g k none (main_triples g k header) said.by_triples said.are_axioms t).1 (record { triple = u; inside = m; axiom_of = is })))
    all_held _ (of_axiom_node x t r is) = node_axiom_held x t r is
