-- What becomes of the documents that a main document reaches, where they are checked (Structural Specification, sections 3 and 3.4).
use Rattle.std.specs.Prelude.{◌≡◌, ℕ, List, [], ◌++◌, Option, None, Some, map, slice_get}
use Rattle.std.specs.List.{AllZip}
use Rattle.dl_rules.specs.Rules.{IsInDL, dl_rules}
use Rattle.owl_breaches.specs.Sites.{Ontologies, Site, sites}
use Rattle.owl_breaches.specs.Those.{AreThose}
use Rattle.owl_close.specs.Imports.{AreReached}
use Rattle.owl_command.specs.declared.command.Profile.{Profile}
use Rattle.owl_command.specs.declared.command.Profile.TheVariants.{Dl, El, Ql, Rl}
use Rattle.owl_documents.specs.Documents.{Parsed, Said}
use Rattle.owl_kind.specs.Kinds.{Entity}
use Rattle.owl_messages.specs.Outcome.{IsLimited, Outcome}
use Rattle.owl_messages.specs.Verdicts.{verdict}
use Rattle.owl_profiles.specs.declared.rules.Profile.{Profile as Further}
use Rattle.owl_profiles.specs.declared.rules.Profile.TheVariants as further
use Rattle.owl_profiles.specs.Profiles.{Breaks, ProfileRule, of_dl, on_axioms}
use Rattle.owl_profiles.specs.Rules.{KeepsRules, axiom_rules}
use Rattle.owl_tree.specs.Ontologies.{Ontology, canonical_ontology}
use Rattle.owl_answer.specs.KindsAt.{AreClosureKinds}
use Rattle.owl_answer.specs.Outcome.{heads_in}
use Rattle.owl_answer.specs.UnderKinds.{SaysUnder}

-- this is the canonical form of what the document at this place says under these kinds
pub record HasFormAt (documents : List Parsed) (kinds : List Entity) (place : ℕ) (o : Ontology) : Type 0 where
  pub parsed : Parsed
  pub there : slice_get documents place ≡ Some parsed
  pub said : Said
  pub says : SaysUnder kinds parsed said
  pub form : canonical_ontology said.ontology ≡ o

-- The import closure of the main document, whose documents stand at these places: what each says, under what they declare together.
pub record IsImportClosure (documents : List Parsed) (places : List ℕ) (closure : Ontologies) : Type 0 where
  pub reached : AreReached (heads_in documents) places
  pub declared : AreClosureKinds documents closure.kinds
  pub say : AllZip (HasFormAt documents closure.kinds) places closure.all

-- the profile besides OWL 2 DL
abbrev pub further_of : Profile → Option Further
further_of Dl = None
further_of El = Some further.El
further_of Ql = Some further.Ql
further_of Rl = Some further.Rl

abbrev pub further_rules : Option Further → List ProfileRule
further_rules None = []
further_rules (Some profile) = map on_axioms (axiom_rules profile)

-- the rules of a profile: those of OWL 2 DL in front
abbrev pub rules_of : Profile → List ProfileRule
rules_of profile = map of_dl dl_rules ++ further_rules (further_of profile)

-- each rule of the profile with each part that breaks it, in order
abbrev pub AreBreaches : Profile → Ontologies → List (Site ProfileRule) → Type 0
AreBreaches profile closure found = AreThose (λ s. Breaks closure s.rule s.ontology s.part) (sites (rules_of profile) closure.all) found

-- What a check tells of the import closure.
pub record IsChecked (profile : Profile) (documents : List Parsed) (outcome : Outcome) : Type 0 where
  pub places : List ℕ
  pub closure : Ontologies
  pub is : IsImportClosure documents places closure
  pub breaches : List (Site ProfileRule)
  pub are : AreBreaches profile closure breaches
  pub told : IsLimited (λ wanted. wanted ≡ verdict profile places breaches) outcome

abbrev pub KeepsFurther : Option Further → Ontologies → Type 0
KeepsFurther None closure = Unit {0}
KeepsFurther (Some profile) closure = KeepsRules profile closure

-- The ontologies of a closure are in the profile: they are in OWL 2 DL, and keep what the profile asks besides.
abbrev pub IsIn : Profile → Ontologies → Type 0
IsIn profile closure = IsInDL closure × KeepsFurther (further_of profile) closure
