-- The annotations of nodes and of the header, and sets of annotations as a store takes more.
use Rattle.std.specs.Prelude.{◌≡◌, ◌⊎◌, ℕ, Bool, true, false, not, ◌&&◌, ◌||◌, cond, nat_le, IsTrue, List, [], ◌∷◌, Contains, Option, length}
use Rattle.std.specs.List.{filter, list_any}
use Rattle.std.proofs.Common.{arith, inl, inr, refl, sym, ap, ◌∙◌, subst}
use Rattle.std.proofs.lemmas.Bool.{and_parts, cases_Bool, le-leb}
use Rattle.owl_kind.specs.declared.kind.Kind.TheVariants as kind
use Rattle.owl_kind.specs.Kinds.{Entity}
use Rattle.owl_list.proofs.AscendingLaws.{all_in, in_cases, in_head, in_none, in_tail}
use Rattle.owl_tree.specs.Trees.{Tree}
use Rattle.rdf_faults.specs.Faults.{IsMixed}
use Rattle.rdf_graph.specs.declared.term.Term.{Term}
use Rattle.rdf_graph.specs.declared.term.Term.TheVariants.{Iri, Blank, Literal}
use Rattle.rdf_graph.specs.declared.triple.Triple.{Triple}
use Rattle.rdf_meaning.specs.declared.role.Role.{Role}
use Rattle.rdf_meaning.specs.declared.role.Role.TheVariants as role
use Rattle.rdf_meaning.specs.declared.word.Word.TheVariants as word
use Rattle.rdf_meaning.specs.Kinds.{has_kind}
use Rattle.owl_list.proofs.FilterLaws.{from_filter, in_filter}
use Rattle.rdf_meaning.specs.Nodes.{carries, carries_some, first_role, is_mixed, is_same, is_structural, marked_roles, marks_role, nodes_of, of_subject, role_of, roles_of, subjects_of}
use Rattle.rdf_meaning.proofs.NodeLaws.{from_subject, marked_subject, nodes_are, same_term}
use Rattle.rdf_meaning.specs.Statements.{header_notes, header_words, headers, is_annotation_triple, is_axiom_predicate, noters, notes_of, reifies, is_noted}
use Rattle.rdf_roles.specs.Refusals.{AreNodesFormed, HaveOneRole}
use Rattle.rdf_roles.proofs.NodeLaws.{blank_nodes_are}
use Rattle.rdf_roles.specs.Tables.{RoleTable, blank_nodes}
use Rattle.tree_stores.specs.declared.fault.TreeFault.{TreeFault}
use Rattle.tree_stores.specs.declared.fault.TreeFault.TheVariants.{TooDeep, TooHeavy, Memory}
use Rattle.tree_stores.specs.Stores.{IsTreeFault, Keeps}
use Rattle.tree_stores.proofs.StoreLaws.{stand_still}
use Rattle.rdf_annotations.specs.Annotations.{AreAnnotations, AreSets, AreSomeSets, AreVariants, HaveSets, HaveSetsOf, IsFaultOfSome, IsSetOf, annotations_at}

module _ {X : Type 0} where
  kept_at : (test : X → Bool) (b : Bool) (x : X) (xs : List X) → test x ≡ b → filter test (x ∷ xs) ≡ cond b (x ∷ filter test xs) (filter test xs)
  kept_at test b x xs e = ap (λ (c : Bool). cond c (x ∷ filter test xs) (filter test xs)) e

  -- tests that agree on a list keep the same of it
  pub same_filter : (p q : X → Bool) (xs : List X) → ((x : X) → Contains xs x → p x ≡ q x) → filter p xs ≡ filter q xs
  same_filter p q [] same = refl
  same_filter p q (x ∷ xs) same =
      let rest = same_filter p q xs (λ y m. same y (in_tail x xs y m)) in
      kept_at p (q x) x xs (same x (in_head x xs)) ∙ ap (λ (ys : List X). cond (q x) (x ∷ ys) ys) rest

  -- one test behind the other
  pub filter_twice : (p q : X → Bool) (xs : List X) → filter p (filter q xs) ≡ filter (λ x. q x && p x) xs
  filter_twice p q [] = refl
  filter_twice p q (x ∷ xs) =
      elim (cases_Bool (q x)) [
        | inl t ↦
            ap (filter p) (kept_at q true x xs t)
            ∙ ap (λ (ys : List X). cond (p x) (x ∷ ys) ys) (filter_twice p q xs)
            ∙ sym (kept_at (λ y. q y && p y) (p x) x xs (ap (λ (b : Bool). b && p x) t))
        | inr f ↦
            ap (filter p) (kept_at q false x xs f) ∙ filter_twice p q xs ∙ sym (kept_at (λ y. q y && p y) false x xs (ap (λ (b : Bool). b && p x) f))
      ]

-- the header has the mark of a header
header_passes : (g : List Triple) (x : Term) → headers g ≡ x ∷ [] → list_any (carries word.Ontology) (of_subject g x) ≡ true
unfolding headers
header_passes g x e =
    (from_filter (λ y. list_any (carries word.Ontology) (of_subject g y)) (subjects_of g) x (subst (λ (ys : List Term). Contains ys x) (sym e) (in_head x []))).passes

header_marked : (g : List Triple) (x : Term) → headers g ≡ x ∷ [] → Contains (roles_of g x) role.Header
unfolding roles_of marks_role
header_marked g x e =
    in_filter (λ r. list_any (marks_role r) (of_subject g x)) marked_roles role.Header (7, omega arith, refl) (header_passes g x e)

pub noted_or : (r : Role) → is_noted r ≡ true → (r ≡ role.Main) ⊎ (r ≡ role.Note)
noted_or role.Main e = inl refl
noted_or role.Note e = inr refl
noted_or role.List e = cc
noted_or role.Property e = cc
noted_or role.Class e = cc
noted_or role.Range e = cc
noted_or role.Facet e = cc
noted_or role.Header e = cc
noted_or role.Individual e = cc

no_header_role : is_noted role.Header ≡ true → ⊥
no_header_role e = cc

no_individual : is_noted role.Individual ≡ true → ⊥
no_individual e = cc

-- a node with annotations that has the mark of a header has two roles
two_roles : (rs : List Role) → is_noted (first_role rs) ≡ true → Contains rs role.Header → nat_le 2 (length rs) ≡ true
two_roles [] e m = absurd (no_individual e)
two_roles (r ∷ []) e m =
    elim (in_cases r [] role.Header m) [
      | inl same ↦ absurd (no_header_role (subst (λ (q : Role). is_noted q ≡ true) same e))
      | inr none ↦ absurd (in_none role.Header none)
    ]
two_roles (r ∷ s ∷ rs) e m = le-leb 2 (length (r ∷ s ∷ rs)) (omega arith)

mixed_nowhere : (g : List Triple) → HaveOneRole g → (label : List ℕ) → Contains (blank_nodes g) label → IsTrue (is_mixed g (Blank label)) → ⊥
mixed_nowhere g one label m = all_in (λ l. IsMixed g l → ⊥) (blank_nodes g) label one m

-- so it is not the header
no_header : (g : List Triple) (x : Term) → HaveOneRole g → is_noted (role_of g x) ≡ true → Contains (roles_of g x) role.Header → ⊥
no_header g (Iri iri) one e m = no_individual e
no_header g (Blank label) one e m =
    mixed_nowhere g one label ((blank_nodes_are g label).1 (marked_subject g (Blank label) role.Header m)) (two_roles (roles_of g (Blank label)) e m)
no_header g (Literal literal) one e m = no_individual e

by_node : (h a b c n s : Bool) → h ≡ false → n ≡ true → (h && a && b && c) || (n && s) ≡ s
by_node false a b c true s e f = refl
by_node true a b c n s e f = cc
by_node false a b c false s e f = cc

module _ (g : List Triple) (k : List Entity) (header : Term) where
  note_is : (x : Term) (t : Triple) → t.subject ≡ x → is_same x header ≡ false → is_noted (role_of g x) ≡ true → is_annotation_triple g k header t ≡ not (is_structural g t)
  unfolding is_annotation_triple
  note_is x t e f n =
      by_node (is_same t.subject header) (not (carries_some header_words t)) (has_kind k kind.AnnotationProperty t.predicate)
      (not (is_axiom_predicate t.predicate)) (is_noted (role_of g t.subject)) (not (is_structural g t))
      (ap (λ (y : Term). is_same y header) e ∙ f) (ap (λ (y : Term). is_noted (role_of g y)) e ∙ n)

  other_term : (x : Term) → headers g ≡ header ∷ [] → HaveOneRole g → is_noted (role_of g x) ≡ true → is_same x header ≡ false
  other_term x one roles n =
      elim (cases_Bool (is_same x header)) [
        | inl t ↦ absurd (no_header g x roles n (subst (λ (y : Term). Contains (roles_of g y) role.Header) (sym (same_term x header t)) (header_marked g header one)))
        | inr f ↦ f
      ]

  -- the annotations that stand at a reification, or at a node that stands for an axiom
  pub annotations_of_node : (x : Term) → headers g ≡ header ∷ [] → AreNodesFormed g → IsTrue (is_noted (role_of g x)) → annotations_at g k header x ≡ notes_of g x
  unfolding notes_of
  annotations_of_node x one formed n =
      same_filter (is_annotation_triple g k header) (λ t. not (is_structural g t)) (of_subject g x)
      (λ t m. note_is x t (from_subject g x t m).1 (other_term x one formed.one_role n) n)

  -- those of the header
  pub annotations_of_header : header_notes g k header ≡ annotations_at g k header header
  unfolding header_notes
  annotations_of_header = sym (filter_twice (is_annotation_triple g k header) (λ t. is_same t.subject header) g)

-- numbers go on standing for sets and annotations
module _ {N : Type 0} (Old New : Tree → N → Type 0) (kept : Keeps Old New) (g : List Triple) (k : List Entity) where
  pub set_kept : (x : Term) (n : N) → IsSetOf Old g k x n → IsSetOf New g k x n
  set_kept x n h = record { trees = h.trees; annotates = h.annotates; stands = kept _ n h.stands }

  pub some_sets_kept : (roles : RoleTable) (of_nodes : List (Option N)) (empty : N) → AreSomeSets Old g k roles of_nodes empty → AreSomeSets New g k roles of_nodes empty
  some_sets_kept roles of_nodes empty h = record {
    each = λ number label n named at. set_kept (Blank label) n (h.each number label n named at);
    empty_set = kept _ empty h.empty_set;
  }

  pub sets_kept : (roles : RoleTable) (of_nodes : List (Option N)) (empty : N) → AreSets Old g k roles of_nodes empty → AreSets New g k roles of_nodes empty
  sets_kept roles of_nodes empty h = record { some = some_sets_kept roles of_nodes empty h.some; all = h.all }

  pub variants_kept : (t : Triple) (ns : List N) → AreVariants Old g k t ns → AreVariants New g k t ns
  variants_kept t ns h = record { sets = h.sets; variants = h.variants; stand = stand_still Old New kept h.sets ns h.stand }

  pub annotations_kept : (header x : Term) (ns : List N) → AreAnnotations Old g k header x ns → AreAnnotations New g k header x ns
  annotations_kept header x ns h = record { trees = h.trees; annotates = h.annotates; stand = stand_still Old New kept h.trees ns h.stand }

-- a node by which a triple is annotated is a reification of it
pub noter_is : (g : List Triple) (t : Triple) (s : Term) → Contains (noters g t) s → (role_of g s ≡ role.Note) × IsTrue (reifies g s t)
unfolding noters
noter_is g t s m =
    let kept = from_filter _ (nodes_of g role.Note) s m in
    ((nodes_are g role.Note s (λ e. let never : role.Note ≡ role.Individual = e in cc)).0 kept.inside, (and_parts (reifies g s t) _ kept.passes).0)

pub all_have_sets : {N : Type 0} (g : List Triple) (roles : RoleTable) (of_nodes : List (Option N)) → HaveSets g roles of_nodes → (t : Triple) → HaveSetsOf g roles of_nodes t
all_have_sets g roles of_nodes all t number label at m = all.each number label at (noter_is g t (Blank label) m).0

-- what is wrong with some tree
pub fault_of_some : {H : Type 0} (P : Tree → Type 0) (t : Tree) → P t → (fault : TreeFault H) → IsTreeFault t fault → IsFaultOfSome P fault
fault_of_some P t p TooDeep f = (t, p, f)
fault_of_some P t p (TooHeavy _) f = (t, p, f)
fault_of_some P t p Memory f = tt

pub fault_of_more : {H : Type 0} (P Q : Tree → Type 0) → ((t : Tree) → P t → Q t) → (fault : TreeFault H) → IsFaultOfSome P fault → IsFaultOfSome Q fault
fault_of_more P Q more TooDeep f = (f.0, more f.0 f.1, f.2)
fault_of_more P Q more (TooHeavy _) f = (f.0, more f.0 f.1, f.2)
fault_of_more P Q more Memory f = tt
