-- What an axiom breaks, rule by rule, and which rules ask for marks of chains.
use Rattle.std.proofs.Common.{◌≡◌, inl, inr, ℕ, Bool, true, false, not, if◌then◌else◌, List, [], ◌∷◌, refl, sym, ap, ◌∙◌, subst}
use Rattle.std.specs.Prelude.{◌↔◌, Contains, IsTrue, slice_index_or}
use Rattle.std.proofs.lemmas.Bool.{false≢true}
use Rattle.owl_breaches.specs.Sites.{Ontologies, axiom_closure}
use Rattle.owl_doc.specs.declared.rule.Rule.{Rule}
use Rattle.owl_doc.specs.Parts.{of_axiom}
use Rattle.owl_list.proofs.AscendingLaws.{in_cases, in_none}
use Rattle.owl_tree.specs.Ontologies.{Ontology}
use Rattle.owl_tree.specs.Trees.{Tree}
use Rattle.profile_sorts.specs.declared.sort.Sort.{Sort as Sorts}
use Rattle.profile_sorts.specs.Sorts.{sorts}
use Rattle.range_restrictions.specs.Restrictions.{LacksRangeBy}
use Rattle.owl_profiles.specs.declared.rules.AxiomRule.{AxiomRule}
use Rattle.owl_profiles.specs.declared.rules.AxiomRule.TheVariants.{Sort, ChainRanges}
use Rattle.owl_profiles.specs.declared.rules.Profile.{Profile}
use Rattle.owl_profiles.specs.declared.rules.Profile.TheVariants.{El, Ql, Rl}
use Rattle.owl_profiles.specs.Rules.{BreaksIt, axiom_rules}

not_so : (x y : Bool) → x ≡ y → IsTrue (not x) ↔ (y ≡ false)
not_so true y e = (λ h. absurd (false≢true h), λ f. absurd (false≢true (sym f ∙ sym e)))
not_so false y e = (λ h. sym e, λ f. refl)

module _ (c : Ontologies) (o : Ontology) (t : Tree) (rule : AxiomRule) (r : Bool) where
  -- an answer about the axiom, by the rule
  abbrev pub TellsOf : Type 0
  TellsOf = IsTrue r ↔ BreaksIt c rule o (of_axiom t)

  pub by_sort : (name : Rule) (s : Sorts) (has : Bool) → rule ≡ Sort name s → has ≡ sorts t s → r ≡ not has → TellsOf
  by_sort name s has is told e =
      subst (λ (rl : AxiomRule). IsTrue r ↔ BreaksIt c rl o (of_axiom t)) (sym is)
      (subst (λ (b : Bool). IsTrue b ↔ (sorts t s ≡ false)) (sym e) (not_so has (sorts t s) told))

  pub by_chain : (marks : List Bool) (place id : ℕ) → rule ≡ ChainRanges → (slice_index_or marks id false ≡ true) ↔ LacksRangeBy (axiom_closure c) t → place ≡ id → r ≡ slice_index_or marks place false → TellsOf
  by_chain marks place id is told at e =
      let same : r ≡ slice_index_or marks id false = e ∙ ap (λ (k : ℕ). slice_index_or marks k false) at in
      subst (λ (rl : AxiomRule). IsTrue r ↔ BreaksIt c rl o (of_axiom t)) (sym is)
      (λ h. told.0 (sym same ∙ h), λ h. same ∙ told.1 h)

-- which kind of rule it is
abbrev is_on_chains : AxiomRule → Bool
is_on_chains (Sort name s) = false
is_on_chains ChainRanges = true

abbrev none_on_chains : List AxiomRule → Bool
none_on_chains [] = true
none_on_chains (rule ∷ rules) = if is_on_chains rule then false else none_on_chains rules

not_among : (rules : List AxiomRule) → none_on_chains rules ≡ true → Contains rules ChainRanges → ⊥
not_among [] none m = in_none ChainRanges m
not_among (Sort name s ∷ rules) none m =
    elim (in_cases (Sort name s) rules ChainRanges m) [
      | inl e ↦ false≢true (ap is_on_chains e)
      | inr n ↦ not_among rules none n
    ]
not_among (ChainRanges ∷ rules) none m = false≢true none

-- of the three only EL has a rule on chains
pub asks_chains : (profile : Profile) → Contains (axiom_rules profile) ChainRanges → profile ≡ El
unfolding axiom_rules
asks_chains El m = refl
asks_chains Ql m = absurd (not_among (axiom_rules Ql) refl m)
asks_chains Rl m = absurd (not_among (axiom_rules Rl) refl m)
