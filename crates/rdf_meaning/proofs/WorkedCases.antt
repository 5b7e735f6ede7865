-- What the definitions say of some graphs, worked out by hand.
use lib.Utf8.{encode}
use Rattle.std.specs.Prelude.{◌≡◌, ◌⊎◌, ℕ, Bool, true, not, ◌&&◌, ◌||◌, List, [], ◌∷◌, None, codes, refl}
use Rattle.std.specs.List.{list_all}
use Rattle.std.proofs.Common.{arith, inl, inr, subst, sym, ◌∙◌}
use Rattle.std.proofs.lemmas.Bool.{and_from, both_ways, not-true, or_left, or_right}
use Rattle.owl_list.proofs.AscendingLaws.{hold_same}
use Rattle.rdf_terms.specs.Literals.{of_datatype, string}
use Rattle.rdf_terms.specs.Vocabulary.{is_reserved, owl, rdf, rdfs, xsd}
use Rattle.owl_kind.specs.declared.kind.Kind.{Kind}
use Rattle.owl_kind.specs.declared.kind.Kind.TheVariants as kind
use Rattle.owl_kind.specs.Kinds.{Entity, HasBoth, SharesKinds, annotation_properties, is_built_in}
use Rattle.rdf_terms.specs.Datatypes.{bare_row, binary_row, datatype_map, is_in_map, ordered_row, plain_row, text_facets, text_row}
use Rattle.owl_tree.specs.declared.atom.Atom.TheVariants as atom
use Rattle.owl_tree.specs.declared.tag.Tag.TheVariants as tag
use Rattle.owl_tree.specs.declared.row.Sort.TheVariants as sort
use Rattle.owl_tree.specs.Rows.{admits}
use Rattle.owl_tree.specs.Ontologies.{HoldEquivalent, Ontology}
use Rattle.owl_tree.proofs.OntologyLaws.{equivalent_lists}
use Rattle.owl_tree.specs.Tags.{number_of}
use Rattle.owl_tree.specs.Trees.{Tree, leaf}
use Rattle.rdf_graph.specs.declared.term.Term.{Term}
use Rattle.rdf_graph.specs.declared.term.Term.TheVariants.{Iri, Blank, Literal}
use Rattle.rdf_graph.specs.declared.triple.Triple.{Triple}
use Rattle.rdf_meaning.proofs.GroundLaws.{no_cycle, one_grounded}
use Rattle.rdf_meaning.proofs.ListLaws.{passes}
use Rattle.rdf_meaning.specs.declared.role.Role.TheVariants as role
use Rattle.rdf_meaning.specs.declared.word.Word.TheVariants as word
use Rattle.rdf_meaning.specs.declared.row.Want.TheVariants.{One}
use Rattle.rdf_meaning.specs.declared.row.Site.TheVariants.{TypedBy, OtherType, LinkedBy, OtherLink}
use Rattle.rdf_meaning.specs.Kinds.{HaveNoClash, has_kind, may_be_declared}
use Rattle.rdf_meaning.proofs.KindLaws.{has_kind_is}
use Rattle.rdf_meaning.specs.Nodes.{carries, chosen, is_facet, is_mixed, is_structural, marks_role, nil_iri, nodes_of, role_of, roles_of, words_of}
use Rattle.rdf_meaning.specs.Rows.{axiom_rows, node_rows}
use Rattle.rdf_meaning.specs.Statements.{Annotates, no_note, note, no_set, set, IsAxiomWith, AreAxioms, no_triple, triple, AreNodeAxioms, no_node, IsHeadOf, named as named_so, States, Variants, bare, noted, header_notes, headers, is_annotation_triple, is_header_triple, main_triples, noters, notes_of, reifies, an_axiom, IsDirectlyBelow, one_step}
use Rattle.rdf_meaning.specs.Words.{is_type, word_iri, word_number}
use Rattle.rdf_meaning.specs.Denotation.{axiom_predicates, axiom_types, declared_entity, of_node, of_triple, Denotes, by_itself, by_row, by_declaration, by_list, mark, Lists, no_cell, cell, no_parts, part, simple, site_of, AreKeys, no_key, object_key, data_key, by_keys}
use Rattle.rdf_meaning.specs.Examples.{A, B, c, classes, comment, comments, complement, cycle, entity, first_cell, last_cell, named, no_notes, of_data, over, own_complement, restriction, says, small, some_values, stated, text, typed, u, union, with_comment, x, y}

-- which rows may say a triple

declares : site_of (typed (Iri (codes "e:A")) (owl (codes "Class"))) ≡ TypedBy word.Class
unfolding site_of axiom_types word_iri encode
declares = refl

asserts_class : site_of (typed (Iri (codes "e:i")) (codes "e:A")) ≡ OtherType
unfolding site_of axiom_types word_iri encode
asserts_class = refl

-- a predicate of axioms is no class of theirs
asserts_predicate : site_of (typed (Iri (codes "e:i")) (rdfs (codes "subClassOf"))) ≡ OtherType
unfolding site_of axiom_types word_iri encode
asserts_predicate = refl

says_subclass : site_of (says (Iri (codes "e:A")) (rdfs (codes "subClassOf")) (Blank (codes "x"))) ≡ LinkedBy word.SubClassOf
unfolding site_of axiom_predicates word_iri encode
says_subclass = refl

says_inverse : site_of (says (Blank (codes "a")) (owl (codes "inverseOf")) (Blank (codes "b"))) ≡ LinkedBy word.InverseOf
unfolding site_of axiom_predicates word_iri encode
says_inverse = refl

-- and a class of theirs is no predicate
links : site_of (says (Iri (codes "e:i")) (owl (codes "Class")) (Iri (codes "e:j"))) ≡ OtherLink
unfolding site_of axiom_predicates word_iri encode
links = refl

-- _:u a owl:Class ; owl:unionOf ( e:A [ a owl:Class ; owl:complementOf e:B ] )

-- roles

union_role : role_of union u ≡ role.Class
unfolding roles_of marks_role carries is_type word_iri word_number is_facet encode
union_role = refl

cell_role : role_of union first_cell ≡ role.List
unfolding roles_of marks_role carries is_type word_iri word_number is_facet encode
cell_role = refl

-- an IRI has no role, whatever is said of it
iri_role : role_of (typed (Iri (codes "e:A")) (owl (codes "Class")) ∷ []) (Iri (codes "e:A")) ≡ role.Individual
iri_role = refl

inverse_role : role_of (says (Blank (codes "a")) (owl (codes "inverseOf")) (Iri (codes "e:p")) ∷ []) (Blank (codes "a")) ≡ role.Property
unfolding roles_of marks_role carries is_type word_iri word_number is_facet encode
inverse_role = refl

inverse_of_node_role : role_of (says (Blank (codes "a")) (owl (codes "inverseOf")) (Blank (codes "b")) ∷ []) (Blank (codes "a")) ≡ role.Individual
unfolding roles_of marks_role carries is_type word_iri word_number is_facet encode
inverse_of_node_role = refl

facet_role : role_of (says (Blank (codes "a")) (xsd (codes "minInclusive")) (Literal (of_datatype (codes "5") (xsd (codes "integer")))) ∷ []) (Blank (codes "a")) ≡ role.Facet
unfolding roles_of marks_role carries is_type word_iri word_number is_facet encode
facet_role = refl

mixed : is_mixed (typed u (owl (codes "Class")) ∷ typed u (rdfs (codes "Datatype")) ∷ []) u ≡ true
unfolding roles_of marks_role carries is_type word_iri word_number is_facet encode
mixed = refl

-- what the nodes denote

complement_denotes : Denotes union classes c (One sort.ClassExpression) (complement ∷ [])
unfolding node_rows admits number_of chosen words_of roles_of marks_role carries is_type word_iri word_number is_facet simple has_kind encode
complement_denotes =
    by_row sort.ClassExpression c _ _ (3, omega arith, refl) refl (refl, refl)
    (part (of_node c) _ _ (Iri (owl (codes "Class"))) [] (B ∷ []) refl (mark _)
    (part (of_node c) _ _ (Iri (codes "e:B")) (B ∷ []) [] refl (by_itself sort.ClassExpression (Iri (codes "e:B")) B refl)
    (no_parts (of_node c))))

operands : Lists union classes first_cell sort.ClassExpression (A ∷ complement ∷ [])
unfolding chosen roles_of marks_role carries is_type word_iri word_number is_facet simple has_kind encode
operands =
    cell sort.ClassExpression first_cell (Iri (codes "e:A")) last_cell (A ∷ []) (complement ∷ []) refl refl refl
    (by_itself sort.ClassExpression (Iri (codes "e:A")) A refl)
    (cell sort.ClassExpression last_cell c (Iri nil_iri) (complement ∷ []) [] refl refl refl complement_denotes
    (no_cell sort.ClassExpression (Iri nil_iri) refl))

pub union_denotes : Denotes union classes u (One sort.ClassExpression) (over tag.ObjectUnionOf (A ∷ complement ∷ []) ∷ [])
unfolding node_rows admits number_of chosen words_of roles_of marks_role carries is_type word_iri word_number is_facet encode
union_denotes =
    by_row sort.ClassExpression u _ _ (2, omega arith, refl) refl (refl, refl)
    (part (of_node u) _ _ (Iri (owl (codes "Class"))) [] (A ∷ complement ∷ []) refl (mark _)
    (part (of_node u) _ _ first_cell (A ∷ complement ∷ []) [] refl (by_list sort.ClassExpression first_cell 2 _ (omega arith) operands)
    (no_parts (of_node u))))

-- _:u a owl:Restriction ; owl:onProperty e:p ; owl:someValuesFrom e:D, where the kind of e:p decides

pub restriction_denotes : Denotes restriction of_data u (One sort.ClassExpression) (some_values ∷ [])
unfolding node_rows admits number_of chosen words_of roles_of marks_role carries is_type word_iri word_number is_facet simple has_kind encode
restriction_denotes =
    by_row sort.ClassExpression u _ _ (15, omega arith, refl) refl (refl, refl)
    (part (of_node u) _ _ (Iri (owl (codes "Restriction"))) [] _ refl (mark _)
    (part (of_node u) _ _ (Iri (codes "e:p")) (named tag.DataProperty (codes "e:p") ∷ []) _ refl (by_itself sort.DataPropertyExpression (Iri (codes "e:p")) _ refl)
    (part (of_node u) _ _ (Iri (codes "e:D")) (named tag.Datatype (codes "e:D") ∷ []) [] refl (by_itself sort.DataRange (Iri (codes "e:D")) _ refl)
    (no_parts (of_node u)))))

-- e:o a owl:Ontology. e:A a owl:Class ; rdfs:subClassOf e:B. The subclass axiom has the comment "c", and this the comment "d".

-- the sorts of its triples

abbrev pub header : Term
header = Iri (codes "e:o")

small_headers : headers small ≡ header ∷ []
unfolding headers carries is_type word_iri word_number encode
small_headers = refl

small_mains : main_triples small classes header ≡ typed (Iri (codes "e:A")) (owl (codes "Class")) ∷ says (Iri (codes "e:A")) (rdfs (codes "subClassOf")) (Iri (codes "e:B")) ∷ []
unfolding main_triples is_structural is_header_triple is_annotation_triple has_kind is_built_in annotation_properties axiom_predicates words_of roles_of marks_role carries is_type word_iri word_number is_facet encode
small_mains = refl

small_notes : notes_of small x ≡ says x comment (text (codes "c")) ∷ []
unfolding notes_of is_structural words_of roles_of marks_role carries is_type word_iri word_number is_facet encode
small_notes = refl

noted_subclass : noters small (says (Iri (codes "e:A")) (rdfs (codes "subClassOf")) (Iri (codes "e:B"))) ≡ x ∷ []
unfolding noters reifies chosen nodes_of notes_of is_structural words_of roles_of marks_role carries is_type word_iri word_number is_facet encode
noted_subclass = refl

noted_comment : noters small (says x comment (text (codes "c"))) ≡ y ∷ []
unfolding noters reifies chosen nodes_of notes_of is_structural words_of roles_of marks_role carries is_type word_iri word_number is_facet encode
noted_comment = refl

-- these kinds have no clash

abbrev pub have_both : List Entity → Kind → Kind → List ℕ → Bool
have_both k a b iri = has_kind k a iri && has_kind k b iri

abbrev pub share_kinds : List Entity → List ℕ → Bool
share_kinds k iri =
    have_both k kind.Class kind.Datatype iri
    || (have_both k kind.ObjectProperty kind.DataProperty iri
    || (have_both k kind.ObjectProperty kind.AnnotationProperty iri || have_both k kind.DataProperty kind.AnnotationProperty iri))

both_had : (k : List Entity) (a b : Kind) (iri : List ℕ) → HasBoth k a b iri → have_both k a b iri ≡ true
both_had k a b iri h = and_from (has_kind k a iri) (has_kind k b iri) ((has_kind_is k a iri).1 h.0) ((has_kind_is k b iri).1 h.1)

one_of_four : (p q r t : Bool) → (p ≡ true) ⊎ ((q ≡ true) ⊎ ((r ≡ true) ⊎ (t ≡ true))) → (p || (q || (r || t))) ≡ true
one_of_four p q r t (inl h) = or_left p _ h
one_of_four p q r t (inr (inl h)) = or_right p _ (or_left q _ h)
one_of_four p q r t (inr (inr (inl h))) = or_right p _ (or_right q _ (or_left r t h))
one_of_four p q r t (inr (inr (inr h))) = or_right p _ (or_right q _ (or_right r t h))

abbrev AreSome : List Entity → List ℕ → Type 0
AreSome k iri =
    (have_both k kind.Class kind.Datatype iri ≡ true) ⊎ ((have_both k kind.ObjectProperty kind.DataProperty iri ≡ true)
    ⊎ ((have_both k kind.ObjectProperty kind.AnnotationProperty iri ≡ true) ⊎ (have_both k kind.DataProperty kind.AnnotationProperty iri ≡ true)))

some_shared : (k : List Entity) (iri : List ℕ) → AreSome k iri → share_kinds k iri ≡ true
some_shared k iri h = one_of_four _ _ _ _ h

shared : (k : List Entity) (iri : List ℕ) → SharesKinds k iri → share_kinds k iri ≡ true
shared k iri (inl h) = some_shared k iri (inl (both_had k kind.Class kind.Datatype iri h))
shared k iri (inr (inl h)) = some_shared k iri (inr (inl (both_had k kind.ObjectProperty kind.DataProperty iri h)))
shared k iri (inr (inr (inl h))) = some_shared k iri (inr (inr (inl (both_had k kind.ObjectProperty kind.AnnotationProperty iri h))))
shared k iri (inr (inr (inr h))) = some_shared k iri (inr (inr (inr (both_had k kind.DataProperty kind.AnnotationProperty iri h))))

none_clash : (k : List Entity) → list_all (λ e. not (share_kinds k e.iri)) k ≡ true → HaveNoClash k
none_clash k h iri clash =
    both_ways (share_kinds k iri)
    (not-true _ (passes (λ e. not (share_kinds k e.iri)) k (entity clash.kind iri) h clash.declared)) (shared k iri clash.clash)

classes_have_no_clash : HaveNoClash classes
unfolding has_kind is_built_in annotation_properties is_in_map datatype_map ordered_row text_row text_facets plain_row binary_row bare_row encode
classes_have_no_clash = none_clash classes refl

-- what the graph states

abbrev declaration_triple : Triple
declaration_triple = typed (Iri (codes "e:A")) (owl (codes "Class"))

abbrev pub subclass_triple : Triple
subclass_triple = says (Iri (codes "e:A")) (rdfs (codes "subClassOf")) (Iri (codes "e:B"))

abbrev pub inner_triple : Triple
inner_triple = says y comment (text (codes "d"))

abbrev pub outer_triple : Triple
outer_triple = says x comment (text (codes "c"))

declaration_is : IsAxiomWith small classes (of_triple declaration_triple) tag.Declaration (A ∷ [])
unfolding axiom_rows site_of axiom_types word_iri declared_entity has_kind may_be_declared is_reserved encode
declaration_is = record {
  row = _;
  among = (0, omega arith, refl);
  tag = refl;
  fits = refl;
  parts =
      part (of_triple declaration_triple) _ _ (Iri (codes "e:A")) (A ∷ []) [] refl (by_declaration tag.Class (Iri (codes "e:A")) A refl)
      (no_parts (of_triple declaration_triple));
}

subclass_is : IsAxiomWith small classes (of_triple subclass_triple) tag.SubClassOf (A ∷ B ∷ [])
unfolding axiom_rows site_of axiom_predicates word_iri simple has_kind encode
subclass_is = record {
  row = _;
  among = (6, omega arith, refl);
  tag = refl;
  fits = refl;
  parts =
      part (of_triple subclass_triple) _ _ (Iri (codes "e:A")) (A ∷ []) (B ∷ []) refl (by_itself sort.ClassExpression (Iri (codes "e:A")) A refl)
      (part (of_triple subclass_triple) _ _ (Iri (codes "e:B")) (B ∷ []) [] refl (by_itself sort.ClassExpression (Iri (codes "e:B")) B refl)
      (no_parts (of_triple subclass_triple)));
}

inner_notes : Annotates small classes (inner_triple ∷ []) (with_comment no_notes (codes "d") ∷ [])
unfolding noters reifies chosen nodes_of notes_of is_structural words_of roles_of marks_role carries is_type word_iri word_number is_facet simple has_kind is_built_in annotation_properties encode
inner_notes =
    note inner_triple [] (named tag.AnnotationProperty comment) (leaf tag.Literal (atom.Literal (of_datatype (codes "d") string))) (no_notes ∷ []) [] refl refl
    (bare inner_triple refl) no_note

outer_notes : Annotates small classes (outer_triple ∷ []) (with_comment (over tag.Notes (with_comment no_notes (codes "d") ∷ [])) (codes "c") ∷ [])
unfolding noters reifies chosen nodes_of notes_of is_structural words_of roles_of marks_role carries is_type word_iri word_number is_facet simple has_kind is_built_in annotation_properties encode
outer_notes =
    note outer_triple [] (named tag.AnnotationProperty comment) (leaf tag.Literal (atom.Literal (of_datatype (codes "c") string)))
    (over tag.Notes (with_comment no_notes (codes "d") ∷ []) ∷ []) [] refl refl
    (noted outer_triple y [] _ refl (set y [] (with_comment no_notes (codes "d") ∷ []) [] inner_notes no_set)) no_note

declaration_sets : Variants small classes declaration_triple (no_notes ∷ [])
unfolding noters reifies chosen nodes_of notes_of is_structural words_of roles_of marks_role carries is_type word_iri word_number is_facet encode
declaration_sets = bare declaration_triple refl

subclass_sets : Variants small classes subclass_triple (comments ∷ [])
unfolding noters reifies chosen nodes_of notes_of is_structural words_of roles_of marks_role carries is_type word_iri word_number is_facet encode
subclass_sets = noted subclass_triple x [] _ refl (set x [] (with_comment (over tag.Notes (with_comment no_notes (codes "d") ∷ [])) (codes "c") ∷ []) [] outer_notes no_set)

small_axioms : AreAxioms small classes (declaration_triple ∷ subclass_triple ∷ []) stated.axioms
small_axioms =
    triple declaration_triple (subclass_triple ∷ []) tag.Declaration (A ∷ []) (no_notes ∷ []) _ declaration_is declaration_sets
    (triple subclass_triple [] tag.SubClassOf (A ∷ B ∷ []) (comments ∷ []) [] subclass_is subclass_sets no_triple)

small_header_notes : header_notes small classes header ≡ []
unfolding header_notes is_structural is_annotation_triple is_header_triple has_kind is_built_in annotation_properties axiom_predicates words_of roles_of marks_role carries is_type word_iri word_number is_facet encode
small_header_notes = refl

small_main_nodes : nodes_of small role.Main ≡ []
unfolding nodes_of roles_of marks_role carries is_type word_iri word_number is_facet encode
small_main_nodes = refl

small_head : IsHeadOf small header stated.head
unfolding chosen carries is_type word_iri word_number encode
small_head = named_so (codes "e:o") None [] [] refl tt refl

same_trees : (ts : List Tree) → HoldEquivalent ts ts
same_trees ts = (equivalent_lists ts ts).1 refl

pub small_states : States small classes stated
small_states = record {
  no_clash = classes_have_no_clash;
  header = header;
  one_header = small_headers;
  said = stated.head;
  is_head = small_head;
  notes_in = [];
  are_notes = subst (λ ts. Annotates small classes ts []) (sym small_header_notes) no_note;
  by_triples = stated.axioms;
  are_axioms = subst (λ ts. AreAxioms small classes ts stated.axioms) (sym small_mains) small_axioms;
  by_nodes = [];
  are_node_axioms = subst (λ xs. AreNodeAxioms small classes xs []) (sym small_main_nodes) no_node;
  head = record { name = refl; imports = hold_same [] };
  annotations = same_trees [];
  axioms = same_trees stated.axioms;
}

pub small_header : small_states.header ≡ header
unfolding small_states
small_header = refl

-- _:u a owl:AllDisjointClasses ; owl:members ( e:A e:B ) ; rdfs:comment "c"

abbrev list_of_two : Term → Term → List Triple
list_of_two a b =
    says first_cell (rdf (codes "first")) a
    ∷ says first_cell (rdf (codes "rest")) last_cell
    ∷ says last_cell (rdf (codes "first")) b
    ∷ says last_cell (rdf (codes "rest")) (Iri nil_iri)
    ∷ []

abbrev disjoint : List Triple
disjoint =
    typed u (owl (codes "AllDisjointClasses"))
    ∷ says u (owl (codes "members")) first_cell
    ∷ says u comment (text (codes "c"))
    ∷ list_of_two (Iri (codes "e:A")) (Iri (codes "e:B"))

disjoint_main : nodes_of disjoint role.Main ≡ u ∷ []
unfolding nodes_of roles_of marks_role carries is_type word_iri word_number is_facet encode
disjoint_main = refl

disjoint_members : Lists disjoint classes first_cell sort.ClassExpression (A ∷ B ∷ [])
unfolding chosen roles_of marks_role carries is_type word_iri word_number is_facet simple has_kind encode
disjoint_members =
    cell sort.ClassExpression first_cell (Iri (codes "e:A")) last_cell (A ∷ []) (B ∷ []) refl refl refl
    (by_itself sort.ClassExpression (Iri (codes "e:A")) A refl)
    (cell sort.ClassExpression last_cell (Iri (codes "e:B")) (Iri nil_iri) (B ∷ []) [] refl refl refl
    (by_itself sort.ClassExpression (Iri (codes "e:B")) B refl) (no_cell sort.ClassExpression (Iri nil_iri) refl))

disjoint_is : IsAxiomWith disjoint classes (of_node u) tag.DisjointClasses (A ∷ B ∷ [])
unfolding axiom_rows chosen words_of roles_of marks_role carries is_type word_iri word_number is_facet encode
disjoint_is = record {
  row = _;
  among = (9, omega arith, refl);
  tag = refl;
  fits = (refl, refl);
  parts =
      part (of_node u) _ _ (Iri (owl (codes "AllDisjointClasses"))) [] _ refl (mark _)
      (part (of_node u) _ _ first_cell (A ∷ B ∷ []) [] refl (by_list sort.ClassExpression first_cell 2 _ (omega arith) disjoint_members)
      (no_parts (of_node u)));
}

disjoint_notes : Annotates disjoint classes (notes_of disjoint u) (with_comment no_notes (codes "c") ∷ [])
unfolding noters reifies chosen nodes_of notes_of is_structural words_of roles_of marks_role carries is_type word_iri word_number is_facet simple has_kind is_built_in annotation_properties encode
disjoint_notes =
    note (says u comment (text (codes "c"))) [] (named tag.AnnotationProperty comment) (leaf tag.Literal (atom.Literal (of_datatype (codes "c") string))) (no_notes ∷ []) [] refl refl
    (bare (says u comment (text (codes "c"))) refl) no_note

disjoint_says : AreNodeAxioms disjoint classes (u ∷ []) (over tag.DisjointClasses (over tag.Notes (with_comment no_notes (codes "c") ∷ []) ∷ A ∷ B ∷ []) ∷ [])
disjoint_says = an_axiom u [] tag.DisjointClasses (A ∷ B ∷ []) _ [] disjoint_is disjoint_notes no_node

-- e:A owl:hasKey ( e:q e:p ), where e:q is a data property and e:p is an object property

abbrev keyed : List Triple
keyed = says (Iri (codes "e:A")) (owl (codes "hasKey")) first_cell ∷ list_of_two (Iri (codes "e:q")) (Iri (codes "e:p"))

abbrev of_keys : List Entity
of_keys = entity kind.Class (codes "e:A") ∷ entity kind.DataProperty (codes "e:q") ∷ entity kind.ObjectProperty (codes "e:p") ∷ []

abbrev p_keys : List Tree
p_keys = named tag.ObjectProperty (codes "e:p") ∷ []

abbrev q_keys : List Tree
q_keys = named tag.DataProperty (codes "e:q") ∷ []

both_keys : AreKeys keyed of_keys first_cell p_keys q_keys
unfolding chosen roles_of marks_role carries is_type word_iri word_number is_facet simple has_kind encode
both_keys =
    data_key first_cell (Iri (codes "e:q")) last_cell q_keys p_keys [] refl refl refl (by_itself sort.DataPropertyExpression (Iri (codes "e:q")) _ refl)
    (object_key last_cell (Iri (codes "e:p")) (Iri nil_iri) p_keys [] [] refl refl refl (by_itself sort.ObjectPropertyExpression (Iri (codes "e:p")) _ refl)
    (no_key (Iri nil_iri) refl))

keyed_is : IsAxiomWith keyed of_keys (of_triple (says (Iri (codes "e:A")) (owl (codes "hasKey")) first_cell)) tag.HasKey (A ∷ over tag.ObjectKeys p_keys ∷ over tag.DataKeys q_keys ∷ [])
unfolding axiom_rows site_of axiom_predicates word_iri simple has_kind encode
keyed_is = record {
  row = _;
  among = (34, omega arith, refl);
  tag = refl;
  fits = refl;
  parts =
      part (of_triple _) _ _ (Iri (codes "e:A")) (A ∷ []) _ refl (by_itself sort.ClassExpression (Iri (codes "e:A")) A refl)
      (part (of_triple _) _ _ first_cell (over tag.ObjectKeys p_keys ∷ over tag.DataKeys q_keys ∷ []) [] refl (by_keys first_cell p_keys q_keys (omega arith) both_keys)
      (no_parts (of_triple _)));
}

-- _:c a owl:Class ; owl:complementOf _:c denotes nothing

cycle_role : role_of cycle c ≡ role.Class
unfolding roles_of marks_role carries is_type word_iri word_number is_facet encode
cycle_role = refl

no_note_role : role.Class ≡ role.Note → ⊥
no_note_role e = cc

below_itself : IsDirectlyBelow cycle c c
unfolding is_structural words_of roles_of marks_role carries is_type word_iri word_number is_facet encode
below_itself = record {
  triple = own_complement;
  inside = (1, omega arith, refl);
  subject = refl;
  object = refl;
  structural = refl;
  no_note = λ e. no_note_role (sym cycle_role ∙ e);
}

pub cycle_denotes_nothing : (k : List Entity) (ts : List Tree) → Denotes cycle k c (One sort.ClassExpression) ts → ⊥
cycle_denotes_nothing k ts d = no_cycle cycle c (one_grounded cycle k c sort.ClassExpression ts d) (one_step c c below_itself)
