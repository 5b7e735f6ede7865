-- OWL 2 EL, QL and RL (OWL 2 Profiles, sections 2, 3 and 4): what they ask besides OWL 2 DL, and what breaks it.
use Rattle.std.specs.Prelude.{◌≡◌, false, List, [], ◌∷◌, Contains}
use Rattle.dl_rules.specs.Rules.{IsAxiomWith}
use Rattle.owl_breaches.specs.Sites.{Ontologies, Site, axiom_closure, sites}
use Rattle.owl_breaches.specs.Those.{AreThose}
use Rattle.owl_doc.specs.declared.rule.Rule.{Rule}
use Rattle.owl_doc.specs.declared.rule.Rule.TheVariants as name
use Rattle.owl_doc.specs.Parts.{Part, parts_of}
use Rattle.owl_tree.specs.Ontologies.{Ontology}
use Rattle.profile_sorts.specs.declared.sort.Sort.TheVariants as sort
use Rattle.profile_sorts.specs.Sorts.{sorts}
use Rattle.range_restrictions.specs.Restrictions.{LacksRangeBy}
use Rattle.owl_profiles.specs.declared.rules.AxiomRule.{AxiomRule}
use Rattle.owl_profiles.specs.declared.rules.AxiomRule.TheVariants.{Sort, ChainRanges}
use Rattle.owl_profiles.specs.declared.rules.Profile.{Profile}
use Rattle.owl_profiles.specs.declared.rules.Profile.TheVariants.{El, Ql, Rl}

-- the rules of a profile on axioms, in the order of their numbers
unfoldable pub axiom_rules : Profile → List AxiomRule
-- sections 2.2.1 to 2.2.6
axiom_rules El =
    Sort (name.El 1) sort.ElAxiom ∷ Sort (name.El 2) sort.ElClasses ∷ Sort (name.El 3) sort.ElRanges ∷
    Sort (name.El 4) sort.SharedDatatypes ∷ Sort (name.El 5) sort.ElProperties ∷ Sort (name.El 6) sort.Named ∷ ChainRanges ∷ []
-- sections 3.2.1 to 3.2.5
axiom_rules Ql =
    Sort (name.Ql 1) sort.QlAxiom ∷ Sort (name.Ql 2) sort.QlClasses ∷ Sort (name.Ql 3) sort.Ranges ∷
    Sort (name.Ql 4) sort.SharedDatatypes ∷ Sort (name.Ql 5) sort.Named ∷ []
-- sections 4.2.1 to 4.2.5
axiom_rules Rl =
    Sort (name.Rl 1) sort.RlAxiom ∷ Sort (name.Rl 2) sort.RlClasses ∷ Sort (name.Rl 3) sort.Ranges ∷
    Sort (name.Rl 4) sort.RlDatatypes ∷ Sort (name.Rl 5) sort.RlProperties ∷ []

abbrev pub axiom_name : AxiomRule → Rule
axiom_name (Sort rule s) = rule
axiom_name ChainRanges = name.El 7

-- The part breaks the rule: it is an axiom that is not of the sort, or a chain whose last property lacks a range. A header breaks none.
abbrev pub BreaksIt : Ontologies → AxiomRule → Ontology → Part → Type 0
BreaksIt c (Sort rule s) o part = IsAxiomWith (λ t. sorts t s ≡ false) part
BreaksIt c ChainRanges o part = IsAxiomWith (LacksRangeBy (axiom_closure c)) part

-- each rule of the profile on axioms with each part that breaks it, in order
abbrev pub AreAxiomBreaches : Profile → Ontologies → List (Site AxiomRule) → Type 0
AreAxiomBreaches profile c found = AreThose (λ s. BreaksIt c s.rule s.ontology s.part) (sites (axiom_rules profile) c.all) found

-- no part breaks such a rule
abbrev pub KeepsRules : Profile → Ontologies → Type 0
KeepsRules profile c =
    (rule : AxiomRule) (o : Ontology) (part : Part) → Contains (axiom_rules profile) rule → Contains c.all o → Contains (parts_of o) part → BreaksIt c rule o part → ⊥
