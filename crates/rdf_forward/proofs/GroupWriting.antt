-- Groups of axioms that are written one behind the other.
use Rattle.std.proofs.Common.{◌≡◌, ◌≤◌, ◌<◌, ◌+◌, ℕ, zero, suc, List, [], ◌∷◌, ◌++◌, length, get_or, take, drop, refl, sym, ap, ◌∙◌, subst, arith}
use Rattle.std.specs.List.{AllByRecursion}
use Rattle.std.proofs.lemmas.List.{map-append, take-append-drop}
use Rattle.std.proofs.lemmas.Simd.{map-map}
use Rattle.owl_arena.specs.Held.{AreHeld, tree_at, trees_at}
use Rattle.owl_list.proofs.AscendingLaws.{all_map}
use Rattle.owl_tree.specs.Trees.{Tree}
use Rattle.rdf_forward.specs.declared.writer.Writer.{Writer}
use Rattle.rdf_forward.specs.AxiomWalks.{WritesGroups, WritesStatement, sets_at}
use Rattle.rdf_forward.specs.BareOrder.{AreOrdered, IsGroup}
use Rattle.rdf_forward.specs.Walks.{names}
use Rattle.rdf_forward.proofs.Cells.{writes_nothing}
use Rattle.rdf_forward.proofs.Grouping.{IsOther, all_behind, group_with, groups_begin, ordered_behind}
use Rattle.rdf_forward.proofs.Writing.{followed}
use Rattle.rdf_mapping.specs.Drawing.{statement_of}
use Rattle.rdf_mapping.specs.GroupFrames.{group_nodes}
use Rattle.rdf_mapping.specs.Graphs.{Group, axiom_notes, bare, group_triples, groups_of, statement_nodes, statement_triples}

pub both_written : (old mid new : Writer) (g : Group) (gs : List Group) → WritesStatement old mid g.statement g.sets → WritesGroups mid new gs → WritesGroups old new (g ∷ gs)
both_written old mid new g gs x y =
    followed old mid new (statement_nodes g.statement g.sets) (group_nodes gs) (group_nodes (g ∷ gs)) (old.next + statement_nodes g.statement g.sets)
    (statement_triples (names old) g.statement g.sets old.next) (group_triples (names old) (g ∷ gs) old.next) (λ (m : ℕ → List ℕ) (k : ℕ). group_triples m gs k) x y refl refl refl

-- what is left makes the whole
pub record GroupsOn (trees : List Tree) (start now : Writer) (axioms left : List ℕ) : Type 0 where
  pub on : (last : Writer) → WritesGroups now last (groups_of (trees_at trees left)) → WritesGroups start last (groups_of (trees_at trees axioms))

pub groups_end : (trees : List Tree) (start now : Writer) (axioms left : List ℕ) → left ≡ [] → GroupsOn trees start now axioms left → WritesGroups start now (groups_of (trees_at trees axioms))
groups_end trees start now axioms left e on = on.on now (subst (λ (ids : List ℕ). WritesGroups now now (groups_of (trees_at trees ids))) (sym e) (writes_nothing now))

all_taken : (P : ℕ → Type 0) (count : ℕ) (ids : List ℕ) → count ≤ length ids → ((k : ℕ) → k < count → P (get_or ids k 0)) → AllByRecursion P (take count ids)
all_taken P zero ids h each = tt
all_taken P (suc n) [] h each = absurd (omega arith)
all_taken P (suc n) (id ∷ ids) h each = (each 0 (omega arith), all_taken P n ids (omega arith) (λ k l. each (suc k) (omega arith)))

-- the one at the place where the others begin
next_other : (trees : List Tree) (x : Tree) (count : ℕ) (ids : List ℕ) → (count < length ids → bare x ≡ bare (tree_at trees (get_or ids count 0)) → ⊥) → IsOther x (trees_at trees (drop count ids))
next_other trees x zero [] h = tt
next_other trees x zero (id ∷ ids) h = h (omega arith)
next_other trees x (suc n) [] h = tt
next_other trees x (suc n) (id ∷ ids) h = next_other trees x n ids (λ l. h (omega arith))

module _ (trees : List Tree) where
  parted : (n : ℕ) (ids : List ℕ) → trees_at trees ids ≡ trees_at trees (take n ids) ++ trees_at trees (drop n ids)
  parted n ids = ap (trees_at trees) (sym (take-append-drop n ids)) ∙ map-append (tree_at trees) (take n ids) (drop n ids)

  -- the first of these groups, and the others
  pub groups_split : (id n : ℕ) (ids : List ℕ) → AreOrdered (trees_at trees (id ∷ ids)) → IsGroup trees (id ∷ ids) (suc n) → groups_of (trees_at trees (id ∷ ids)) ≡ group_with (tree_at trees id) (sets_at trees (id ∷ take n ids)) ∷ groups_of (trees_at trees (drop n ids))
  groups_split id n ids ordered group =
      let x = tree_at trees id in
      let split = ap (λ (ts : List Tree). x ∷ ts) (parted n ids) in
      let same = all_taken (λ k. bare (tree_at trees k) ≡ bare x) n ids (omega (arith, group.within)) (λ k l. sym (group.same (suc k) (omega arith))) in
      let others = next_other trees x n ids (λ l. group.apart (omega arith)) in
      ap groups_of split
      ∙ groups_begin x (trees_at trees (take n ids)) (trees_at trees (drop n ids)) (subst AreOrdered split ordered) (all_map (tree_at trees) (λ t. bare t ≡ bare x) (take n ids) same) others
      ∙ ap (λ ns. group_with x ns ∷ groups_of (trees_at trees (drop n ids))) (map-map axiom_notes (tree_at trees) (id ∷ take n ids))

  next_at : (start now new : Writer) (axioms : List ℕ) (id count : ℕ) (ids : List ℕ) → AreOrdered (trees_at trees (id ∷ ids)) → IsGroup trees (id ∷ ids) count → WritesStatement now new (statement_of (tree_at trees id)) (sets_at trees (take count (id ∷ ids))) → GroupsOn trees start now axioms (id ∷ ids) → GroupsOn trees start new axioms (drop count (id ∷ ids))
  next_at start now new axioms id zero ids ordered group x on = absurd (omega (arith, group.some))
  next_at start now new axioms id (suc n) ids ordered group x on =
      let g = group_with (tree_at trees id) (sets_at trees (id ∷ take n ids)) in
      record { on = λ last behind. on.on last (subst (WritesGroups now last) (sym (groups_split id n ids ordered group)) (both_written now new last g (groups_of (trees_at trees (drop n ids))) x behind)) }

  pub groups_next : (start now new : Writer) (axioms left rest group others : List ℕ) (id count : ℕ) → left ≡ id ∷ rest → group ≡ take count left → others ≡ drop count left → AreOrdered (trees_at trees left) → IsGroup trees left count → WritesStatement now new (statement_of (tree_at trees id)) (sets_at trees group) → GroupsOn trees start now axioms left → GroupsOn trees start new axioms others
  groups_next start now new axioms left rest group others id count e f g ordered is x on =
      subst (GroupsOn trees start new axioms) (sym (g ∙ ap (drop count) e))
      (next_at start now new axioms id count rest (subst (λ (ids : List ℕ). AreOrdered (trees_at trees ids)) e ordered) (subst (λ (ids : List ℕ). IsGroup trees ids count) e is)
      (subst (λ (ids : List ℕ). WritesStatement now new (statement_of (tree_at trees id)) (sets_at trees ids)) (f ∙ ap (take count) e) x) (subst (GroupsOn trees start now axioms) e on))

  pub ordered_others : (n : ℕ) (ids others : List ℕ) → others ≡ drop n ids → AreOrdered (trees_at trees ids) → AreOrdered (trees_at trees others)
  ordered_others n ids others e h =
      subst (λ (us : List ℕ). AreOrdered (trees_at trees us)) (sym e) (ordered_behind (trees_at trees (take n ids)) (trees_at trees (drop n ids)) (subst AreOrdered (parted n ids) h))

  pub held_others : (n : ℕ) (ids others : List ℕ) → others ≡ drop n ids → AreHeld trees ids → AreHeld trees others
  held_others n ids others e h =
      subst (AreHeld trees) (sym e) (all_behind (λ id. id < length trees) (take n ids) (drop n ids) (subst (AreHeld trees) (sym (take-append-drop n ids)) h))
