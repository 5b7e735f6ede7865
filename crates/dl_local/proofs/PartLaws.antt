-- Which faults of trees break a rule in a part.
use Rattle.std.proofs.Common.{◌≡◌, ◌<◌, ◌≤◌, ℕ, Bool, true, List, [], ◌∷◌, drop, length, map, take, None, Some, refl, sym, ap, ◌∙◌, subst, arith}
use Rattle.std.specs.Prelude.{◌↔◌}
use Rattle.std.specs.List.{flat_map, list_any}
use Rattle.std.proofs.lemmas.Bool.{false≢true}
use Rattle.std.proofs.lemmas.Option.{none-some, same_Some}
use Rattle.owl_arena.specs.Held.{AreHeld, tree_at, trees_at}
use Rattle.owl_breaches.specs.Sites.{Ontologies}
use Rattle.owl_breaches.specs.Those.{HoldsOfOne}
use Rattle.owl_doc.specs.Counts.{subtrees, subtrees_of}
use Rattle.owl_doc.specs.Parts.{of_axiom, of_header}
use Rattle.owl_tree.specs.declared.tag.Tag.{Tag}
use Rattle.owl_tree.specs.declared.tag.Tag.TheVariants as tag
use Rattle.owl_tree.specs.Ontologies.{Ontology}
use Rattle.owl_tree.specs.Trees.{Tree, kids_in, kids_of, tag_of}
use Rattle.owl_tree.proofs.TreeLaws.{list_of_kids_of}
use Rattle.dl_rules.specs.declared.rule.DlRule.{DlRule}
use Rattle.dl_rules.specs.declared.rule.DlRule.TheVariants.{Typing, ReservedName, Datatypes, LexicalForms, DataRanges, TopDataProperty, SimpleProperties, NamedIndividuals}
use Rattle.dl_rules.specs.Local.{barred_over}
use Rattle.dl_rules.specs.Rules.{Breaks}
use Rattle.dl_local.specs.declared.faults.Local.{Local}
use Rattle.dl_local.specs.declared.faults.Local.TheVariants as local
use Rattle.dl_local.specs.declared.faults.LocalFaults.{LocalFaults}
use Rattle.dl_local.specs.Faults.{AreLocalFaults, HasFault, IsAtFault, faults_of, has}
use Rattle.dl_local.specs.LocalRules.{is_local, test_of}
use Rattle.dl_local.proofs.CountedLaws.{some_told, subtrees_are}
use Rattle.owl_breaches.proofs.OneLaws.{one_of_flat, one_of_none, through, told_as}

-- where the top data property may not stand
pub barred_other : (t : Tag) (ts : List Tree) → (t ≡ tag.Declaration → ⊥) → (t ≡ tag.SubDataPropertyOf → ⊥) → barred_over t ts ≡ ts
unfolding barred_over
barred_other tag.Declaration ts h k = absurd (h refl)
barred_other tag.SubDataPropertyOf ts h k = absurd (k refl)
barred_other _ ts h k = refl

pub barred_sub : (f : ℕ → Tree) (ids : List ℕ) → 2 ≤ length ids → map f (take 1 (drop 1 ids)) ≡ barred_over tag.SubDataPropertyOf (map f ids)
unfolding barred_over
barred_sub f [] h = absurd (omega arith)
barred_sub f (a ∷ []) h = absurd (omega arith)
barred_sub f (a ∷ b ∷ ids) h = refl

pub barred_few : (f : ℕ → Tree) (ids : List ℕ) → length ids < 2 → map f ids ≡ barred_over tag.SubDataPropertyOf (map f ids)
unfolding barred_over
barred_few f [] h = refl
barred_few f (a ∷ []) h = refl
barred_few f (a ∷ b ∷ ids) h = absurd (omega arith)

not_local : {A : Type 0} (test : Local) → Some test ≡ None → A
not_local test e = absurd (none-some test (sym e))

module _ (c : Ontologies) (o : Ontology) (t : Tree) (test : Local) where
  breaks_as : (rule : DlRule) (other : Local) → Some test ≡ Some other → HasFault c other t ↔ Breaks c rule o (of_axiom t) → HasFault c test t ↔ Breaks c rule o (of_axiom t)
  breaks_as rule other e h = subst (λ (s : Local). HasFault c s t ↔ Breaks c rule o (of_axiom t)) (sym (same_Some test other e)) h

  axiom_breaks : (rule : DlRule) → Some test ≡ test_of rule → (rule ≡ TopDataProperty → ⊥) → HasFault c test t ↔ Breaks c rule o (of_axiom t)
  unfolding Breaks test_of
  axiom_breaks Typing e h = breaks_as Typing local.Undeclared e (λ k. k, λ k. k)
  axiom_breaks ReservedName e h = breaks_as ReservedName local.Misnamed e (λ k. k, λ k. k)
  axiom_breaks Datatypes e h = breaks_as Datatypes local.Datatype e (λ k. k, λ k. k)
  axiom_breaks LexicalForms e h = breaks_as LexicalForms local.Form e (λ k. k, λ k. k)
  axiom_breaks DataRanges e h = breaks_as DataRanges local.Range e (λ k. k, λ k. k)
  axiom_breaks TopDataProperty e h = absurd (h refl)
  axiom_breaks SimpleProperties e h = breaks_as SimpleProperties local.NotSimple e (λ k. k, λ k. k)
  axiom_breaks NamedIndividuals e h = breaks_as NamedIndividuals local.Anonymous e (λ k. k, λ k. k)
  axiom_breaks _ e h = not_local test e

module _ (c : Ontologies) (o : Ontology) (ts : List Tree) (found : List LocalFaults) (each : AreLocalFaults c ts found) where
  pub axiom_told : (id : ℕ) (rule : DlRule) (test : Local) (answer : Bool) → id < length ts → Some test ≡ test_of rule → (rule ≡ TopDataProperty → ⊥) → answer ≡ has (faults_of found id) test → (answer ≡ true) ↔ Breaks c rule o (of_axiom (tree_at ts id))
  axiom_told id rule test answer inside is other e =
      told_as e (through (each.told id inside test) (axiom_breaks c o (tree_at ts id) test rule is other))

  some_has : (test : Local) (ids : List ℕ) → AreHeld ts ids → (list_any (λ k. has (faults_of found k) test) ids ≡ true) ↔ HoldsOfOne (HasFault c test) (trees_at ts ids)
  some_has test ids held = some_told c ts found (length ts) test ids (λ k inside. each.told k inside test) held

  pub barred_told : (id : ℕ) (ids : List ℕ) (answer : Bool) → trees_at ts ids ≡ barred_over (tag_of (tree_at ts id)) (kids_in (tree_at ts id)) → AreHeld ts ids → answer ≡ list_any (λ k. has (faults_of found k) local.TopData) ids → (answer ≡ true) ↔ Breaks c TopDataProperty o (of_axiom (tree_at ts id))
  unfolding Breaks
  barred_told id ids answer barred held e =
      subst (λ (us : List Tree). (answer ≡ true) ↔ HoldsOfOne (HasFault c local.TopData) us) barred (told_as e (some_has local.TopData ids held))

  -- what stands in a header
  within : (us : List Tree) → flat_map subtrees us ≡ subtrees_of (kids_of us)
  within us = sym (subtrees_are (kids_of us) ∙ ap (flat_map subtrees) (list_of_kids_of us))

  header_has : (Holds : Tree → Type 0) (us : List Tree) → HoldsOfOne (λ t. HoldsOfOne Holds (subtrees t)) us ↔ HoldsOfOne Holds (subtrees_of (kids_of us))
  header_has Holds us = subst (λ (vs : List Tree). HoldsOfOne (λ t. HoldsOfOne Holds (subtrees t)) us ↔ HoldsOfOne Holds vs) (within us) (one_of_flat Holds subtrees us)

  pub typing_told : (ids : List ℕ) (answer : Bool) → AreHeld ts ids → answer ≡ list_any (λ k. has (faults_of found k) local.Undeclared) ids → (answer ≡ true) ↔ Breaks c Typing o (of_header (trees_at ts ids))
  unfolding Breaks
  typing_told ids answer held e = through (told_as e (some_has local.Undeclared ids held)) (header_has (IsAtFault c local.Undeclared) (trees_at ts ids))

  pub names_told : (ids : List ℕ) (answer : Bool) → AreHeld ts ids → answer ≡ list_any (λ k. has (faults_of found k) local.Misnamed) ids → (answer ≡ true) ↔ Breaks c ReservedName o (of_header (trees_at ts ids))
  unfolding Breaks
  names_told ids answer held e = through (told_as e (some_has local.Misnamed ids held)) (header_has (IsAtFault c local.Misnamed) (trees_at ts ids))

-- a header breaks no other rule so
pub header_keeps : (c : Ontologies) (o : Ontology) (us : List Tree) (rule : DlRule) → (rule ≡ Typing → ⊥) → (rule ≡ ReservedName → ⊥) → is_local rule ≡ true → Breaks c rule o (of_header us) → ⊥
unfolding Breaks test_of
header_keeps c o us Typing h k e b = h refl
header_keeps c o us ReservedName h k e b = k refl
header_keeps c o us Datatypes h k e b = one_of_none _ b
header_keeps c o us LexicalForms h k e b = one_of_none _ b
header_keeps c o us DataRanges h k e b = one_of_none _ b
header_keeps c o us TopDataProperty h k e b = b
header_keeps c o us SimpleProperties h k e b = one_of_none _ b
header_keeps c o us NamedIndividuals h k e b = one_of_none _ b
header_keeps c o us _ h k e b = false≢true e
