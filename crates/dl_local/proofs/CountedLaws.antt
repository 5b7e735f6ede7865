-- What counts of a tree, by its kids.
use Rattle.std.proofs.Common.{◌≡◌, ◌<◌, ◌+◌, ℕ, Bool, true, false, ◌&&◌, ◌||◌, List, [], ◌∷◌, ◌++◌, length, None, Some, refl, sym, ap, ◌∙◌, subst, arith}
use Rattle.std.specs.Prelude.{◌↔◌, if◌then◌else◌, not}
use Rattle.std.specs.List.{AllByRecursion, flat_map, list_any}
use Rattle.std.proofs.lemmas.List.{length_push}
use Rattle.std.proofs.lemmas.Option.{none-some}
use Rattle.graph_walks.proofs.MarkLaws.{pushed_at}
use Rattle.owl_arena.specs.Held.{tree_at, trees_at}
use Rattle.owl_breaches.specs.Sites.{Ontologies, axiom_closure}
use Rattle.owl_breaches.specs.Those.{HoldsOfOne}
use Rattle.owl_doc.specs.Counts.{subtrees, subtrees_of}
use Rattle.owl_doc.proofs.FirstUndeclared.{leaf_is}
use Rattle.owl_list.proofs.AscendingLaws.{all_later}
use Rattle.owl_tree.specs.declared.atom.Atom.{Atom}
use Rattle.owl_tree.specs.declared.tag.Tag.{Tag}
use Rattle.owl_tree.specs.Trees.{Tree, Kids, leaf, node, no_kids, kid, list_of, kids_in, atom_in, tag_of}
use Rattle.dl_rules.specs.Local.{HasMisusedDatatype}
use Rattle.dl_rules.specs.Logical.{is_remark, logical, logical_of}
use Rattle.dl_local.specs.declared.faults.Local.{Local}
use Rattle.dl_local.specs.declared.faults.Local.TheVariants.{Undeclared, Misnamed}
use Rattle.dl_local.specs.declared.faults.LocalFaults.{LocalFaults}
use Rattle.dl_local.specs.Faults.{AreFaultsBelow, AreFaultsOf, AreOwnFaults, HasFault, IsAtFault, counted, counts, faults_of, has, no_faults}
use Rattle.owl_breaches.proofs.OneLaws.{never, one_of_flat, one_of_more, one_of_none, one_of_single, through, told_any, told_as, told_either, turned}

pub subtrees_are : (ks : Kids) → subtrees_of ks ≡ flat_map subtrees (list_of ks)
subtrees_are no_kids = refl
subtrees_are (kid t ks) = ap (λ (us : List Tree). subtrees t ++ us) (subtrees_are ks)

logical_are : (ks : Kids) → logical_of ks ≡ flat_map logical (list_of ks)
logical_are no_kids = refl
logical_are (kid t ks) = ap (λ (us : List Tree). logical t ++ us) (logical_are ks)

unless : (b : Bool) (us vs : List Tree) → us ≡ vs → (if b then [] else us) ≡ (if not b then vs else [])
unless true us vs e = refl
unless false us vs e = e

counted_node : (test : Local) (t : Tag) (ks : Kids) → counted test (node t ks) ≡ (if counts test t then node t ks ∷ flat_map (counted test) (list_of ks) else [])
counted_node Undeclared t ks = ap (λ (us : List Tree). node t ks ∷ us) (subtrees_are ks)
counted_node Misnamed t ks = ap (λ (us : List Tree). node t ks ∷ us) (subtrees_are ks)
counted_node _ t ks = unless (is_remark t) (node t ks ∷ logical_of ks) (node t ks ∷ flat_map logical (list_of ks)) (ap (λ (us : List Tree). node t ks ∷ us) (logical_are ks))

counted_leaf : (test : Local) (t : Tag) (a : Atom) → counted test (leaf t a) ≡ leaf t a ∷ []
counted_leaf Undeclared t a = refl
counted_leaf _ t a = refl

-- a test that counts only where a list does
counted_list : (Holds : Tree → Type 0) (b test : Bool) (ts : List Tree) → (test ≡ true) ↔ HoldsOfOne Holds ts → ((b && test) ≡ true) ↔ HoldsOfOne Holds (if b then ts else [])
counted_list Holds true test ts told = told
counted_list Holds false test ts told = never (one_of_none Holds)

module _ (c : Ontologies) (test : Local) where
  leaf_fault : (t : Tag) (a : Atom) → IsAtFault c test (leaf t a) ↔ HasFault c test (leaf t a)
  leaf_fault t a = subst (λ (ts : List Tree). IsAtFault c test (leaf t a) ↔ HoldsOfOne (IsAtFault c test) ts) (sym (counted_leaf test t a)) (turned (one_of_single (IsAtFault c test) (leaf t a)))

  -- a node has its own faults and those of its kids, where it counts
  node_fault : (t : Tree) (own kids : Bool) → None ≡ atom_in t → (own ≡ true) ↔ IsAtFault c test t → (kids ≡ true) ↔ HoldsOfOne (HasFault c test) (kids_in t) → ((counts test (tag_of t) && (own || kids)) ≡ true) ↔ HasFault c test t
  node_fault (leaf t a) own kids is h k = absurd (none-some a is)
  node_fault (node t ks) own kids is h k =
      let below = through k (one_of_flat (IsAtFault c test) (counted test) (list_of ks)) in
      let all = through (told_either own kids h below) (turned (one_of_more (IsAtFault c test) (node t ks) (flat_map (counted test) (list_of ks)))) in
      subst (λ (ts : List Tree). ((counts test t && (own || kids)) ≡ true) ↔ HoldsOfOne (IsAtFault c test) ts) (sym (counted_node test t ks))
      (counted_list (IsAtFault c test) (counts test t) (own || kids) (node t ks ∷ flat_map (counted test) (list_of ks)) all)

-- some of these trees has a fault, below the count of those that are told of
pub some_told : (c : Ontologies) (ts : List Tree) (found : List LocalFaults) (count : ℕ) (test : Local) (ids : List ℕ) →
    ((id : ℕ) → id < count → (has (faults_of found id) test ≡ true) ↔ HasFault c test (tree_at ts id)) → AllByRecursion (λ id. id < count) ids → (list_any (λ id. has (faults_of found id) test) ids ≡ true) ↔ HoldsOfOne (HasFault c test) (trees_at ts ids)
some_told c ts found count test ids told below =
    told_any (HasFault c test) (λ id. has (faults_of found id) test) (tree_at ts) ids
    (all_later (λ k. k < count) (λ k. (has (faults_of found k) test ≡ true) ↔ HasFault c test (tree_at ts k)) told ids below)

module _ (c : Ontologies) where
  -- what is found of a leaf
  pub leaf_told : (t : Tree) (g : Tag) (a : Atom) (misused : Bool) (faults : LocalFaults) → g ≡ tag_of t → Some a ≡ atom_in t → (misused ≡ true) ↔ HasMisusedDatatype (axiom_closure c) t →
      ((misused ≡ true) ↔ HasMisusedDatatype (axiom_closure c) (leaf g a) → AreOwnFaults c (leaf g a) faults) → AreFaultsOf c t faults
  leaf_told t g a misused faults is holds marked own =
      let e : leaf g a ≡ t = ap (λ (u : Tag). leaf u a) is ∙ leaf_is t a holds in
      let found = own (subst (λ (u : Tree). (misused ≡ true) ↔ HasMisusedDatatype (axiom_closure c) u) (sym e) marked) in
      λ test. subst (λ (u : Tree). (has faults test ≡ true) ↔ HasFault c test u) e (through (found test) (leaf_fault c test g a))

  -- what is found of a node, by what was found of its kids
  module _ (ts : List Tree) (found : List LocalFaults) (id : ℕ) (ids : List ℕ) (below : AllByRecursion (λ kid. kid < id) ids) (told : AreFaultsBelow id c ts found) (kids : trees_at ts ids ≡ kids_in (tree_at ts id)) where
    kids_told : (faults : LocalFaults) (test : Local) → has faults test ≡ list_any (λ kid. has (faults_of found kid) test) ids → (has faults test ≡ true) ↔ HoldsOfOne (HasFault c test) (kids_in (tree_at ts id))
    kids_told faults test e =
        subst (λ (us : List Tree). (has faults test ≡ true) ↔ HoldsOfOne (HasFault c test) us) kids
        (told_as e (some_told c ts found id test ids (λ kid inside. told kid inside test) below))

    pub node_told : (g : Tag) (own of_kids both faults : LocalFaults) → g ≡ tag_of (tree_at ts id) → None ≡ atom_in (tree_at ts id) → AreOwnFaults c (tree_at ts id) own →
        ((test : Local) → has of_kids test ≡ list_any (λ kid. has (faults_of found kid) test) ids) → ((test : Local) → has both test ≡ (has own test || has of_kids test)) → ((test : Local) → has faults test ≡ (counts test g && has both test)) →
        AreFaultsOf c (tree_at ts id) faults
    node_told g own of_kids both faults is none own_told each joined left test =
        let all : has faults test ≡ (counts test (tag_of (tree_at ts id)) && (has own test || has of_kids test)) = left test ∙ ap (λ (b : Bool). counts test g && b) (joined test) ∙ ap (λ (u : Tag). counts test u && (has own test || has of_kids test)) is in
        told_as all
        (node_fault c test (tree_at ts id) (has own test) (has of_kids test) none (own_told test) (kids_told of_kids test (each test)))

  -- one more tree
  pub faults_more : (ts : List Tree) (found lent now : List LocalFaults) (faults : LocalFaults) (place id : ℕ) → now ≡ found ++ faults ∷ [] → length found ≡ place → id ≡ place → lent ≡ found → AreFaultsBelow place c ts found →
      (AreFaultsBelow id c ts lent → AreFaultsOf c (tree_at ts id) faults) → AreFaultsBelow (place + 1) c ts now
  faults_more ts found lent now faults place id pushed size is same told new =
      let IsSo : ℕ → LocalFaults → Type 0 = λ k fs. AreFaultsOf c (tree_at ts k) fs in
      let before = subst (λ n. AreFaultsBelow n c ts lent) (sym is) (subst (λ (fs : List LocalFaults). AreFaultsBelow place c ts fs) (sym same) told) in
      let here = subst (λ k. AreFaultsOf c (tree_at ts k) faults) (is ∙ sym size) (new before) in
      let all = pushed_at IsSo no_faults found faults (λ k inside. told k (subst (λ n. k < n) size inside)) here in
      λ k inside. subst (λ (fs : List LocalFaults). AreFaultsOf c (tree_at ts k) (faults_of fs k)) (sym pushed) (all k (omega (arith, length_push found faults, size, inside)))
