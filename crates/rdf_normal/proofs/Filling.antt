-- Documents that are filled.
use Rattle.std.proofs.Common.{◌≡◌, ◌<◌, ◌≤◌, ◌+◌, arith, ℕ, zero, suc, Bool, true, List, [], ◌∷◌, length, take, get_or, Contains, IsTrue, Result, Ok, Err, IsErrOf, refl, sym, ap, ◌∙◌, subst, inl, inr}
use Rattle.std.specs.Prelude.{◌↔◌}
use Rattle.std.proofs.lemmas.List.Sums.{sum_by-cons}
use Rattle.std.specs.List.{AllByRecursion}
use Rattle.std.specs.Result.{IsErrAnd}
use Rattle.owl_arena.specs.Held.{tree_at, trees_at}
use Rattle.owl_arena.specs.Shared.{heaviest}
use Rattle.owl_doc.specs.Documents.{Document, IsAnnotationAt, IsAxiomAt, total_weight, weight_at, with_axiom, with_import, with_note}
use Rattle.owl_list.specs.Ascending.{AreApart}
use Rattle.owl_list.proofs.AscendingLaws.{all_in, in_cases, in_map, in_none}
use Rattle.owl_tree.specs.Ontologies.{IsAnnotation, IsAxiom}
use Rattle.owl_tree.specs.Trees.{Tree, weight}
use Rattle.rdf_normal.specs.Building.{with_axioms, with_imports, with_notes}
use Rattle.rdf_normal.proofs.Extending.{one_further}

-- a number that stands further behind is not among the first
at_later : (ids : List ℕ) (i id : ℕ) → i < length ids → id ≡ get_or ids i id → Contains ids id
at_later ids i id l e = (i, l, sym e)

not_taken : (ids : List ℕ) (i id : ℕ) → AreApart ids → i < length ids → id ≡ get_or ids i id → Contains (take i ids) id → ⊥
not_taken [] i id a l e m = absurd (omega arith)
not_taken (x ∷ xs) zero id a l e m = in_none id m
not_taken (x ∷ xs) (suc i) id a l e m =
    elim (in_cases x (take i xs) id m) [
      | inl f ↦ a.0 (subst (λ n. Contains xs n) (sym f) (at_later xs i id (omega arith) e))
      | inr n ↦ not_taken xs i id a.1 (omega arith) e n
    ]

pub note_added : (b now new : Document) (ids : List ℕ) (i id : ℕ) (added : Bool) → now ≡ with_notes (take i ids) b → AreApart ids → i < length ids → id ≡ get_or ids i id → IsTrue added ↔ (Contains now.notes id → ⊥) → new ≡ with_note added id now → new ≡ with_notes (take (i + 1) ids) b
note_added b now new ids i id added e apart l at told f =
    let absent : Contains now.notes id → ⊥ = λ m. not_taken ids i id apart l at (subst (λ (d : Document). Contains d.notes id) e m) in
    f
    ∙ ap (λ (a : Bool). with_note a id now) (told.1 absent)
    ∙ ap (λ (d : Document). with_note true id d) e
    ∙ ap (λ (ns : List ℕ). with_notes ns b) (sym (one_further ids i id l at))

pub axiom_added : (b now new : Document) (ids : List ℕ) (i id : ℕ) (added : Bool) → now ≡ with_axioms (take i ids) b → AreApart ids → i < length ids → id ≡ get_or ids i id → IsTrue added ↔ (Contains now.axioms id → ⊥) → new ≡ with_axiom added id now → new ≡ with_axioms (take (i + 1) ids) b
axiom_added b now new ids i id added e apart l at told f =
    let absent : Contains now.axioms id → ⊥ = λ m. not_taken ids i id apart l at (subst (λ (d : Document). Contains d.axioms id) e m) in
    f
    ∙ ap (λ (a : Bool). with_axiom a id now) (told.1 absent)
    ∙ ap (λ (d : Document). with_axiom true id d) e
    ∙ ap (λ (ns : List ℕ). with_axioms ns b) (sym (one_further ids i id l at))

pub import_added : (b now new : Document) (iris : List (List ℕ)) (i : ℕ) (iri copy : List ℕ) → now ≡ with_imports (take i iris) b → i < length iris → iri ≡ get_or iris i iri → copy ≡ iri → new ≡ with_import copy now → new ≡ with_imports (take (i + 1) iris) b
import_added b now new iris i iri copy e l at same f =
    f
    ∙ ap (λ (c : List ℕ). with_import c now) same
    ∙ ap (λ (d : Document). with_import iri d) e
    ∙ ap (λ (xs : List (List ℕ)). with_imports xs b) (sym (one_further iris i iri l at))

-- the first and one more weigh no more than all
part_weighs : (ts : List Tree) (ids : List ℕ) (i id : ℕ) → i < length ids → id ≡ get_or ids i id → weight_at ts (take i ids) + weight (tree_at ts id) ≤ weight_at ts ids
part_weighs ts [] i id l e = absurd (omega arith)
part_weighs ts (x ∷ xs) zero id l e =
    let is : id ≡ x = e in
    let same = ap (λ n. weight (tree_at ts n)) is in
    let whole : weight_at ts (x ∷ xs) ≡ weight (tree_at ts x) + weight_at ts xs = sum_by-cons weight (tree_at ts x) (trees_at ts xs) in
    let none : weight_at ts (take zero (x ∷ xs)) ≡ 0 = refl in
    omega arith
part_weighs ts (x ∷ xs) (suc i) id l e =
    let rest = part_weighs ts xs i id (omega arith) e in
    let whole : weight_at ts (x ∷ xs) ≡ weight (tree_at ts x) + weight_at ts xs = sum_by-cons weight (tree_at ts x) (trees_at ts xs) in
    let first : weight_at ts (take (suc i) (x ∷ xs)) ≡ weight (tree_at ts x) + weight_at ts (take i xs) = sum_by-cons weight (tree_at ts x) (trees_at ts (take i xs)) in
    omega arith

pub notes_too_heavy : (b now : Document) (ids : List ℕ) (i id : ℕ) → now ≡ with_notes (take i ids) b → i < length ids → id ≡ get_or ids i id → heaviest < total_weight now + weight (tree_at now.arena.trees id) → heaviest < total_weight b + weight_at b.arena.trees ids
notes_too_heavy b now ids i id e l at heavy =
    let here = subst (λ (d : Document). heaviest < total_weight d + weight (tree_at d.arena.trees id)) e heavy in
    let part = part_weighs b.arena.trees ids i id l at in
    omega arith

pub axioms_too_heavy : (b now : Document) (ids : List ℕ) (i id : ℕ) → now ≡ with_axioms (take i ids) b → i < length ids → id ≡ get_or ids i id → heaviest < total_weight now + weight (tree_at now.arena.trees id) → heaviest < total_weight b + weight_at b.arena.trees ids
axioms_too_heavy b now ids i id e l at heavy =
    let here = subst (λ (d : Document). heaviest < total_weight d + weight (tree_at d.arena.trees id)) e heavy in
    let part = part_weighs b.arena.trees ids i id l at in
    omega arith

-- what is added is an annotation, or an axiom
module _ (b now : Document) (ids : List ℕ) (i id : ℕ) (l : i < length ids) (at : id ≡ get_or ids i id) where
  holds_at : (P : Tree → Type 0) → AllByRecursion P (trees_at b.arena.trees ids) → P (tree_at b.arena.trees id)
  holds_at P all = all_in P (trees_at b.arena.trees ids) (tree_at b.arena.trees id) all (in_map (tree_at b.arena.trees) ids id (at_later ids i id l at))

  pub is_note : now ≡ with_notes (take i ids) b → AllByRecursion IsAnnotation (trees_at b.arena.trees ids) → IsAnnotationAt now id
  is_note e all = subst (λ (d : Document). IsAnnotationAt d id) (sym e) (holds_at IsAnnotation all).tag

  pub is_axiom_there : now ≡ with_axioms (take i ids) b → AllByRecursion IsAxiom (trees_at b.arena.trees ids) → IsAxiomAt now id
  is_axiom_there e all = subst (λ (d : Document). IsAxiomAt d id) (sym e) (holds_at IsAxiom all).tag

pub err_of : {T E : Type 0} (r : Result T E) (e : E) → r ≡ Err e → IsErrOf r e
err_of {T} {E} r e h = subst (λ (q : Result T E). IsErrOf q e) (sym h) refl

-- a fault that is passed on
pub passed_on : {X Y E : Type 0} (r : Result X E) (fault e : E) → IsErrAnd r (λ x. x ≡ fault) → IsErrOf r e → IsErrOf {T = Y} (Err fault) e
passed_on (Ok x) fault e h k = absurd (cc)
passed_on (Err x) fault e h k = cc
