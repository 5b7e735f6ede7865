-- The trees of an arena that have marks.
use Rattle.std.proofs.Common.{◌≡◌, ◌<◌, ◌⊎◌, inl, inr, ℕ, ◌+◌, suc, zero, Bool, cond, true, false, List, [], ◌∷◌, ◌++◌, length, refl, sym, ap, ◌∙◌, subst, arith}
use Rattle.std.specs.Prelude.{◌↔◌, Contains, count_by}
use Rattle.std.specs.List.{AllByRecursion}
use Rattle.std.proofs.lemmas.List.{get_or_default}
use Rattle.std.proofs.lemmas.List.Recursion.{is_count_by}
use Rattle.std.proofs.lemmas.List.Elements.{Contains-append_left, Contains-append_right}
use Rattle.owl_doc.specs.Counts.{distinct_count, subtrees, subtrees_of}
use Rattle.owl_doc.specs.Documents.{Document, IsDocument, ontology_of}
use Rattle.owl_arena.specs.Held.{AreHeld, tree_at, trees_at}
use Rattle.owl_doc.specs.Marks.{AddsParts, HasMark, IsClosedFrom, IsMarked, MarkParts}
use Rattle.owl_arena.specs.Shared.{HaveOneNumber}
use Rattle.owl_doc.proofs.Marking.{kids_are_parts}
use Rattle.owl_list.specs.Ascending.{AreApart, HoldSame, ascending}
use Rattle.owl_list.proofs.AscendingLaws.{apart_as_long, all_from, all_in, all_map, in_cases, in_head, in_map, in_none, in_tail}
use Rattle.owl_tree.specs.Ontologies.{Ontology, canonical_list}
use Rattle.owl_tree.specs.Order.{tree_cmp}
use Rattle.owl_tree.specs.OrderLaws.{only_equal_trees_tie, trees_total}
use Rattle.owl_tree.proofs.TreeLaws.{list_of_kids_of}
use Rattle.owl_tree.specs.Trees.{Tree, Kids, leaf, node, no_kids, kid, kids_in, kids_of, list_of}

-- the trees at whose places the marks are set
abbrev kept : List Bool → List Tree → List Tree
kept [] ts = []
kept (m ∷ ms) [] = []
kept (true ∷ ms) (t ∷ ts) = t ∷ kept ms ts
kept (false ∷ ms) (t ∷ ts) = kept ms ts

abbrev set_marks : List Bool → ℕ
set_marks [] = 0
set_marks (true ∷ ms) = suc (set_marks ms)
set_marks (false ∷ ms) = set_marks ms

set_marks_step : (m : Bool) (ms : List Bool) → set_marks (m ∷ ms) ≡ cond m (1 + set_marks ms) (set_marks ms)
set_marks_step true ms = omega arith
set_marks_step false ms = refl

set_marks_are : (marks : List Bool) → set_marks marks ≡ count_by (λ mark. mark) marks
set_marks_are marks = is_count_by set_marks (λ mark. mark) refl set_marks_step marks

kept_length : (marks : List Bool) (ts : List Tree) → length marks ≡ length ts → length (kept marks ts) ≡ set_marks marks
kept_length [] ts e = refl
kept_length (m ∷ ms) [] e = absurd (omega arith)
kept_length (true ∷ ms) (t ∷ ts) e = ap suc (kept_length ms ts (omega arith))
kept_length (false ∷ ms) (t ∷ ts) e = kept_length ms ts (omega arith)

kept_in : (marks : List Bool) (ts : List Tree) (t : Tree) → Contains (kept marks ts) t → Contains ts t
kept_in [] ts t m = absurd (in_none t m)
kept_in (b ∷ ms) [] t m = m
kept_in (true ∷ ms) (u ∷ ts) t m =
    elim (in_cases u (kept ms ts) t m) [
      | inl e ↦ subst (λ (v : Tree). Contains (u ∷ ts) v) e (in_head u ts)
      | inr n ↦ in_tail u ts t (kept_in ms ts t n)
    ]
kept_in (false ∷ ms) (u ∷ ts) t m = in_tail u ts t (kept_in ms ts t m)

kept_apart : (marks : List Bool) (ts : List Tree) → AreApart ts → AreApart (kept marks ts)
kept_apart [] ts h = tt
kept_apart (b ∷ ms) [] h = tt
kept_apart (true ∷ ms) (t ∷ ts) h = (λ m. h.0 (kept_in ms ts t m), kept_apart ms ts h.1)
kept_apart (false ∷ ms) (t ∷ ts) h = kept_apart ms ts h.1

kept_at : (marks : List Bool) (ts : List Tree) (t : Tree) (place : ℕ) → place < length ts → IsMarked marks place → tree_at ts place ≡ t → Contains (kept marks ts) t
kept_at [] ts t place h m e = absurd cc
kept_at (b ∷ ms) [] t place h m e = absurd (omega arith)
kept_at (true ∷ ms) (u ∷ ts) t zero h m e = subst (λ (v : Tree). Contains (u ∷ kept ms ts) v) e (in_head u (kept ms ts))
kept_at (false ∷ ms) (u ∷ ts) t zero h m e = absurd cc
kept_at (true ∷ ms) (u ∷ ts) t (suc place) h m e = in_tail u (kept ms ts) t (kept_at ms ts t place (omega arith) m e)
kept_at (false ∷ ms) (u ∷ ts) t (suc place) h m e = kept_at ms ts t place (omega arith) m e

further : (b : Bool) (ms : List Bool) (u : Tree) (ts : List Tree) (t : Tree) → HasMark ts ms t → HasMark (u ∷ ts) (b ∷ ms) t
further b ms u ts t h = let within = h.within in record { place = suc h.place; within = omega arith; mark = h.mark; tree = h.tree }

kept_has : (marks : List Bool) (ts : List Tree) (t : Tree) → Contains (kept marks ts) t → HasMark ts marks t
kept_has [] ts t m = absurd (in_none t m)
kept_has (b ∷ ms) [] t m = absurd (in_none t m)
kept_has (true ∷ ms) (u ∷ ts) t m =
    elim (in_cases u (kept ms ts) t m) [
      | inl e ↦ record { place = 0; within = omega arith; mark = refl; tree = e }
      | inr n ↦ further true ms u ts t (kept_has ms ts t n)
    ]
kept_has (false ∷ ms) (u ∷ ts) t m = further false ms u ts t (kept_has ms ts t m)

-- trees of which each has one number stand once
trees_apart : (ts : List Tree) → HaveOneNumber ts → AreApart ts
trees_apart [] h = tt
trees_apart (t ∷ ts) h = (
  λ m. let e = h 0 (suc m.0) (omega arith) (let k = m.1 in omega arith) (sym m.2 ∙ get_or_default ts m.0 t _ m.1) in omega arith,
  trees_apart ts (λ a b j k e. let f = h (suc a) (suc b) (omega arith) (omega arith) e in omega arith),
)

all_both : (P : Tree → Type 0) (ts us : List Tree) → AllByRecursion P ts → AllByRecursion P us → AllByRecursion P (ts ++ us)
all_both P [] us h k = k
all_both P (t ∷ ts) us h k = (h.0, all_both P ts us h.1 k)

-- what is true of the kids of each tree of which it is true is true of all parts
module _ (P : Tree → Type 0) (closed : (t : Tree) → P t → AllByRecursion P (kids_in t)) where
  mutual
    all_of_tree : (t : Tree) → P t → AllByRecursion P (subtrees t)
    all_of_tree (leaf t a) h = (h, tt)
    all_of_tree (node t ks) h = (h, all_of_kids ks (closed (node t ks) h))

    all_of_kids : (ks : Kids) → AllByRecursion P (list_of ks) → AllByRecursion P (subtrees_of ks)
    all_of_kids no_kids h = tt
    all_of_kids (kid t ks) h = all_both P (subtrees t) (subtrees_of ks) (all_of_tree t h.0) (all_of_kids ks h.1)

-- marks that stand at the parts of these trees, and there alone
module _ (ts : List Tree) (marks : List Bool) (roots : List Tree) where
  record MarkAllParts : Type 0 where
    pub long : length marks ≡ length ts
    pub one_number : HaveOneNumber ts
    pub parts : MarkParts roots ts marks
    pub there : AllByRecursion (HasMark ts marks) roots
    pub closed : IsClosedFrom 0 ts marks

  kids_have : MarkAllParts → (t : Tree) → HasMark ts marks t → AllByRecursion (HasMark ts marks) (kids_in t)
  kids_have h t k =
      subst (λ (u : Tree). AllByRecursion (HasMark ts marks) (kids_in u)) k.tree (h.closed k.place (omega arith) k.within k.mark)

  parts_have : MarkAllParts → AllByRecursion (HasMark ts marks) (subtrees_of (kids_of roots))
  parts_have h =
      all_of_kids (HasMark ts marks) (kids_have h) (kids_of roots) (subst (λ (us : List Tree). AllByRecursion (HasMark ts marks) us) (sym (list_of_kids_of roots)) h.there)

  kept_parts : MarkAllParts → HoldSame (subtrees_of (kids_of roots)) (kept marks ts)
  kept_parts h = λ t. (
    λ m. let k = all_in (HasMark ts marks) (subtrees_of (kids_of roots)) t (parts_have h) m in kept_at marks ts t k.place k.within k.mark k.tree,
    λ m. let k = kept_has marks ts t m in subst (λ (u : Tree). Contains (subtrees_of (kids_of roots)) u) k.tree (h.parts k.place k.within k.mark),
  )

  parts_counted : MarkAllParts → length (ascending tree_cmp (subtrees_of (kids_of roots))) ≡ count_by (λ mark. mark) marks
  parts_counted h =
      apart_as_long tree_cmp trees_total only_equal_trees_tie (subtrees_of (kids_of roots)) (kept marks ts) (kept_parts h) (kept_apart marks ts (trees_apart ts h.one_number))
      ∙ kept_length marks ts h.long
      ∙ set_marks_are marks

-- where the marks of the first are those of a list of numbers, and of what was marked before
abbrev pub IsMarkedToo : List Bool → List ℕ → List Bool → Type 0
IsMarkedToo old ids new = (place : ℕ) → IsMarked new place ↔ (IsMarked old place ⊎ Contains ids place)

-- how the marks of a document come about
module _ (d : Document) (none first second last : List Bool) where
  pub record AreMarked : Type 0 where
    pub document : IsDocument d
    pub one_number : HaveOneNumber d.arena.trees
    pub nothing : (place : ℕ) → IsMarked none place → ⊥
    pub notes : IsMarkedToo none d.notes first
    pub axioms : IsMarkedToo first d.axioms second
    pub long : length second ≡ length d.arena.trees
    pub added : AddsParts d.arena.trees second last
    pub closed : IsClosedFrom 0 d.arena.trees last

  abbrev roots : List Tree
  roots = trees_at d.arena.trees d.notes ++ trees_at d.arena.trees d.axioms

  root_part : (t : Tree) → Contains roots t → Contains (subtrees_of (kids_of roots)) t
  root_part t m = kids_are_parts (kids_of roots) t (subst (λ (us : List Tree). Contains us t) (sym (list_of_kids_of roots)) m)

  roots_only : AreMarked → MarkParts roots d.arena.trees second
  roots_only h place within mark =
      root_part (tree_at d.arena.trees place) (elim ((h.axioms place).0 mark) [
        | inl m ↦ elim ((h.notes place).0 m) [
          | inl n ↦ absurd (h.nothing place n)
          | inr n ↦ Contains-append_left (trees_at d.arena.trees d.notes) (trees_at d.arena.trees d.axioms) (tree_at d.arena.trees place) (in_map (tree_at d.arena.trees) d.notes place n)
        ]
        | inr m ↦ Contains-append_right (trees_at d.arena.trees d.notes) (trees_at d.arena.trees d.axioms) (tree_at d.arena.trees place) (in_map (tree_at d.arena.trees) d.axioms place m)
      ])

  have_marks : (ids : List ℕ) → AreHeld d.arena.trees ids → ((place : ℕ) → Contains ids place → IsMarked last place) → AllByRecursion (HasMark d.arena.trees last) (trees_at d.arena.trees ids)
  have_marks ids held marks =
      all_map (tree_at d.arena.trees) (HasMark d.arena.trees last) ids (all_from (λ id. HasMark d.arena.trees last (tree_at d.arena.trees id)) ids (λ id m. record {
        place = id;
        within = all_in (λ id. id < length d.arena.trees) ids id held m;
        mark = marks id m;
        tree = refl;
      }))

  roots_there : AreMarked → AllByRecursion (HasMark d.arena.trees last) roots
  roots_there h =
      all_both (HasMark d.arena.trees last) (trees_at d.arena.trees d.notes) (trees_at d.arena.trees d.axioms)
      (have_marks d.notes h.document.notes (λ place m. h.added.kept place ((h.axioms place).1 (inl ((h.notes place).1 (inr m))))))
      (have_marks d.axioms h.document.axioms (λ place m. h.added.kept place ((h.axioms place).1 (inr m))))

  all_parts : AreMarked → MarkAllParts d.arena.trees last roots
  all_parts h = record {
    long = h.added.long ∙ h.long;
    one_number = h.one_number;
    parts = h.added.parts roots (roots_only h);
    there = roots_there h;
    closed = h.closed;
  }

  roots_are : AreMarked → canonical_list (ontology_of d).annotations ++ canonical_list (ontology_of d).axioms ≡ roots
  roots_are h = ap (λ (o : Ontology). o.annotations ++ o.axioms) h.document.canonical

  pub distinct_counted : AreMarked → distinct_count (ontology_of d) ≡ count_by (λ mark. mark) last
  distinct_counted h =
      ap (λ (us : List Tree). length (ascending tree_cmp (subtrees_of (kids_of us)))) (roots_are h) ∙ parts_counted d.arena.trees last roots (all_parts h)
