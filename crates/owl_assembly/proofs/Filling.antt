-- Documents that are filled.
use Rattle.std.proofs.Common.{◌≡◌, ◌↔◌, ◌<◌, ◌≤◌, ◌+◌, inl, inr, ℕ, Bool, true, false, IsTrue, List, [], ◌∷◌, ◌++◌, length, take, drop, get_or, Contains, nat_eq, refl, sym, ap, ◌∙◌, subst, arith}
use Rattle.std.specs.Prelude.{map}
use Rattle.std.specs.Cmp.{nat_eq_equiv}
use Rattle.std.specs.List.{AllByRecursion, list_any, sum_by}
use Rattle.std.proofs.lemmas.Bool.{eqb-true, false≢true}
use Rattle.std.proofs.lemmas.List.{take-append-drop, take_more}
use Rattle.std.proofs.lemmas.List.Elements.{Contains-append_cases, Contains-append_left, Contains-append_right}
use Rattle.std.proofs.lemmas.List.Sums.{sum_by-cons}
use Rattle.std.proofs.lemmas.Map.Views.{Contains-from_any, list_any-from_Contains}
use Rattle.owl_arena.specs.Held.{AreHeld, tree_at, trees_at}
use Rattle.owl_arena.specs.Shared.{AreShared, heaviest}
use Rattle.owl_assembly.specs.Assembled.{assembled}
use Rattle.owl_assembly.specs.Filling.{AreAnnotations, AreAxioms, HasAxioms, HasNotes, IsFilled, with_axioms, with_imports, with_notes}
use Rattle.owl_assembly.proofs.Weighing.{part_weighs}
use Rattle.owl_doc.specs.declared.head.Head as held
use Rattle.owl_doc.specs.Documents.{Document, IsAnnotationAt, IsAxiomAt, IsBegun, IsDocument, PassesWeight, nothing_yet, ontology_of, weight_at, with_axiom, with_name, with_note}
use Rattle.owl_doc.specs.Heads.{name_of}
use Rattle.owl_list.specs.Ascending.{AreApart, HoldSame}
use Rattle.owl_list.proofs.AscendingLaws.{all_in, ascending_same, in_cases, in_map, in_none, same_map}
use Rattle.owl_tree.specs.Canonical.{canonical}
use Rattle.owl_tree.specs.Ontologies.{Ontology, canonical_list, canonical_ontology, list_weight, ontology_weight}
use Rattle.owl_tree.proofs.OntologyLaws.{canonical_same_ontology, same_ontology_weight}
use Rattle.owl_tree.specs.Order.{tree_cmp}
use Rattle.owl_tree.specs.OrderLaws.{only_equal_trees_tie, trees_total}
use Rattle.owl_tree.specs.declared.tag.Tag.TheVariants as tag
use Rattle.owl_tree.specs.Tags.{is_axiom}
use Rattle.owl_tree.specs.Trees.{Tree, tag_of, weight}

-- a number that is not new is there
is_there : (ids : List ℕ) (id : ℕ) → (IsTrue false ↔ (Contains ids id → ⊥)) → Contains ids id
is_there ids id h = by_test (list_any (nat_eq id) ids) refl
  where
    by_test : (b : Bool) → list_any (nat_eq id) ids ≡ b → Contains ids id
    by_test true e = Contains-from_any eqb-true id ids e
    by_test false e = absurd (false≢true (h.1 (λ m. false≢true (sym e ∙ list_any-from_Contains nat_eq_equiv id ids m))))

abbrev pushed : Bool → ℕ → List ℕ → List ℕ
pushed true id ids = ids ++ id ∷ []
pushed false id ids = ids

-- what holds the same as the first so many does so with one more
same_pushed : (got first : List ℕ) (id : ℕ) (added : Bool) → HoldSame got first → (IsTrue added ↔ (Contains got id → ⊥)) → HoldSame (pushed added id got) (first ++ id ∷ [])
same_pushed got first id true h told = λ z. (
  λ m. elim (Contains-append_cases got (id ∷ []) z m) [ inl n ↦ Contains-append_left first (id ∷ []) z ((h z).0 n) | inr n ↦ Contains-append_right first (id ∷ []) z n ],
  λ m. elim (Contains-append_cases first (id ∷ []) z m) [ inl n ↦ Contains-append_left got (id ∷ []) z ((h z).1 n) | inr n ↦ Contains-append_right got (id ∷ []) z n ],
)
same_pushed got first id false h told = λ z. (
  λ m. Contains-append_left first (id ∷ []) z ((h z).0 m),
  λ m. elim (Contains-append_cases first (id ∷ []) z m) [
    | inl n ↦ (h z).1 n
    | inr n ↦ elim (in_cases id [] z n) [ inl e ↦ subst (Contains got) e (is_there got id told) | inr k ↦ absurd (in_none z k) ]
  ],
)

-- the number at the place behind the first so many
pub record IsNext (ids : List ℕ) (i id : ℕ) : Type 0 where
  pub inside : i < length ids
  pub number : id ≡ get_or ids i id

one_further : (ids : List ℕ) (i id : ℕ) → IsNext ids i id → take (i + 1) ids ≡ take i ids ++ id ∷ []
one_further ids i id n = take_more ids i id n.inside ∙ ap (λ (k : ℕ). take i ids ++ k ∷ []) (sym n.number)

further : (got all : List ℕ) (i id : ℕ) (added : Bool) → IsNext all i id → HoldSame got (take i all) → (IsTrue added ↔ (Contains got id → ⊥)) → HoldSame (pushed added id got) (take (i + 1) all)
further got all i id added n h told = subst (HoldSame (pushed added id got)) (sym (one_further all i id n)) (same_pushed got (take i all) id added h told)

-- with one more number
module _ (d now : Document) (ids : List ℕ) (i id : ℕ) (n : IsNext ids i id) where
  note_with : (added : Bool) → HasNotes d (take i ids) now → (IsTrue added ↔ (Contains now.notes id → ⊥)) → HasNotes d (take (i + 1) ids) (with_note added id now)
  note_with true h told = record { rest = ap (λ (e : Document). with_note true id e) h.rest; notes = further now.notes ids i id true n h.notes told }
  note_with false h told = record { rest = h.rest; notes = further now.notes ids i id false n h.notes told }

  pub note_added : (new : Document) (added : Bool) → HasNotes d (take i ids) now → (IsTrue added ↔ (Contains now.notes id → ⊥)) → new ≡ with_note added id now → HasNotes d (take (i + 1) ids) new
  note_added new added h told f = subst (HasNotes d (take (i + 1) ids)) (sym f) (note_with added h told)

  axiom_with : (added : Bool) → HasAxioms d (take i ids) now → (IsTrue added ↔ (Contains now.axioms id → ⊥)) → HasAxioms d (take (i + 1) ids) (with_axiom added id now)
  axiom_with true h told = record { rest = ap (λ (e : Document). with_axiom true id e) h.rest; axioms = further now.axioms ids i id true n h.axioms told }
  axiom_with false h told = record { rest = h.rest; axioms = further now.axioms ids i id false n h.axioms told }

  pub axiom_added : (new : Document) (added : Bool) → HasAxioms d (take i ids) now → (IsTrue added ↔ (Contains now.axioms id → ⊥)) → new ≡ with_axiom added id now → HasAxioms d (take (i + 1) ids) new
  axiom_added new added h told f = subst (HasAxioms d (take (i + 1) ids)) (sym f) (axiom_with added h told)

-- numbers of a list that are apart, and one more of it, weigh no more than the list
module _ (ts : List Tree) (shared : AreShared ts) where
  one_more_weighs : (got all : List ℕ) (i id : ℕ) → IsNext all i id → HoldSame got (take i all) → AreHeld ts all → AreApart got → (Contains got id → ⊥) → weight_at ts got + weight (tree_at ts id) ≤ list_weight (trees_at ts all)
  one_more_weighs got all i id n h held apart absent =
      let first = λ (k : ℕ) (m : Contains (take i all) k). subst (λ (ks : List ℕ). Contains ks k) (take-append-drop i all) (Contains-append_left (take i all) (drop i all) k m) in
      let whole = sum_by-cons weight (tree_at ts id) (trees_at ts got) in
      let part = part_weighs ts shared (id ∷ got) all held (absent, apart) (λ k m. elim (in_cases id got k m) [ inl e ↦ (i, n.inside, subst (λ (j : ℕ). get_or all i j ≡ j) e (sym n.number)) | inr l ↦ first k ((h k).0 l) ]) in
      omega (arith, whole, part)

  all_weigh : (ids : List ℕ) → AreHeld ts ids → AreApart ids → weight_at ts ids ≤ list_weight (trees_at ts ids)
  all_weigh ids held apart = part_weighs ts shared ids ids held apart (λ id m. m)

module _ (d now : Document) (ids : List ℕ) (i id : ℕ) (n : IsNext ids i id) (held : AreHeld d.arena.trees ids) (shared : AreShared now.arena.trees) (b : IsBegun now) where
  pub notes_too_heavy : HasNotes d (take i ids) now → PassesWeight now now.notes id → heaviest < ontology_weight (ontology_of (with_notes ids d))
  notes_too_heavy h p =
      let same : with_notes ids now ≡ with_notes ids d = ap (with_notes ids) h.rest in
      let there = subst (λ (e : Document). AreHeld e.arena.trees ids) (sym h.rest) held in
      let notes = one_more_weighs now.arena.trees shared now.notes ids i id n h.notes there b.notes_once p.new in
      let axioms = all_weigh now.arena.trees shared now.axioms b.axioms b.axioms_once in
      let heavy = p.heavy in
      subst (λ (e : Document). heaviest < ontology_weight (ontology_of e)) same (omega (arith, notes, axioms, heavy))

  pub axioms_too_heavy : HasAxioms d (take i ids) now → PassesWeight now now.axioms id → heaviest < ontology_weight (ontology_of (with_axioms ids d))
  axioms_too_heavy h p =
      let same : with_axioms ids now ≡ with_axioms ids d = ap (with_axioms ids) h.rest in
      let there = subst (λ (e : Document). AreHeld e.arena.trees ids) (sym h.rest) held in
      let axioms = one_more_weighs now.arena.trees shared now.axioms ids i id n h.axioms there b.axioms_once p.new in
      let notes = all_weigh now.arena.trees shared now.notes b.notes b.notes_once in
      let heavy = p.heavy in
      subst (λ (e : Document). heaviest < ontology_weight (ontology_of e)) same (omega (arith, notes, axioms, heavy))

-- neither order nor repeats of numbers matter
same_forms : (ts : List Tree) (xs ys : List ℕ) → HoldSame xs ys → canonical_list (trees_at ts xs) ≡ canonical_list (trees_at ts ys)
same_forms ts xs ys h = ascending_same tree_cmp trees_total only_equal_trees_tie (map canonical (trees_at ts xs)) (map canonical (trees_at ts ys)) (same_map canonical (trees_at ts xs) (trees_at ts ys) (same_map (tree_at ts) xs ys h))

-- a document that has the head
abbrev pub headed : Document → held.Head → Document
headed d head = with_imports head.imports.items (with_name (name_of head.iri head.version) (nothing_yet d.prefixes d.arena))

pub is_headed : (d named new : Document) (head : held.Head) → d ≡ nothing_yet d.prefixes d.arena → named ≡ with_name (name_of head.iri head.version) d → new ≡ with_imports head.imports.items named → new ≡ headed d head
is_headed d named new head e f g =
    g ∙ ap (with_imports head.imports.items) f ∙ ap (λ (b : Document). with_imports head.imports.items (with_name (name_of head.iri head.version) b)) e

-- and then annotations and axioms
module _ (d : Document) (head : held.Head) (notes axioms : List ℕ) (first noted : Document) (is : first ≡ headed d head) (h : HasNotes first notes noted) where
  noted_is : noted ≡ with_notes noted.notes (headed d head)
  noted_is = h.rest ∙ ap (with_notes noted.notes) is

  pub whole : (new : Document) → HasAxioms noted axioms new → IsFilled d (assembled head d.arena.trees notes axioms) new
  whole new k =
      let new_is : new ≡ with_axioms new.axioms (with_notes noted.notes (headed d head)) = k.rest ∙ ap (with_axioms new.axioms) noted_is in
      let annotations = same_forms d.arena.trees noted.notes notes h.notes in
      let statements = same_forms d.arena.trees new.axioms axioms k.axioms in
      record {
        prefixes = ap (λ (e : Document). e.prefixes) new_is;
        ontology = ap (λ (e : Document). canonical_ontology (ontology_of e)) new_is ∙ (λ j. record { head = (canonical_ontology (assembled head d.arena.trees notes axioms)).head; annotations = annotations j; axioms = statements j });
      }

  pub whole_is_heavy : heaviest < ontology_weight (ontology_of (with_axioms axioms noted)) → heaviest < ontology_weight (assembled head d.arena.trees notes axioms)
  whole_is_heavy heavy =
      let there = subst (λ (e : Document). heaviest < ontology_weight (ontology_of (with_axioms axioms e))) noted_is heavy in
      let same = ap (sum_by weight) (same_forms d.arena.trees noted.notes notes h.notes) in
      omega (arith, there, same)

-- what no document passes
pub light : (d : Document) (o : Ontology) → IsDocument d → ontology_of d ≡ canonical_ontology o → ontology_weight o ≤ heaviest
light d o h e = subst (λ (n : ℕ). n ≤ heaviest) (ap ontology_weight e ∙ sym (same_ontology_weight o (canonical_ontology o) (canonical_same_ontology o))) h.weight

-- what is added is an annotation, or an axiom
module _ (d now : Document) (ids : List ℕ) (i id : ℕ) (n : IsNext ids i id) where
  holds_at : (P : Tree → Type 0) → AllByRecursion P (trees_at d.arena.trees ids) → P (tree_at d.arena.trees id)
  holds_at P all = all_in P (trees_at d.arena.trees ids) (tree_at d.arena.trees id) all (in_map (tree_at d.arena.trees) ids id (i, n.inside, sym n.number))

  pub is_annotation : HasNotes d (take i ids) now → AreAnnotations (trees_at d.arena.trees ids) → IsAnnotationAt now id
  is_annotation h all = subst (λ (e : Document). IsAnnotationAt e id) (sym h.rest) (holds_at (λ t. tag_of t ≡ tag.Annotation) all)

  pub is_axiom_there : HasAxioms d (take i ids) now → AreAxioms (trees_at d.arena.trees ids) → IsAxiomAt now id
  is_axiom_there h all = subst (λ (e : Document). IsAxiomAt e id) (sym h.rest) (holds_at (λ t. IsTrue (is_axiom (tag_of t))) all)
