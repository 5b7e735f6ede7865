-- What becomes of a trial: its document is read, translated to Turtle and to Manchester Syntax, and checked for each profile.
use Rattle.std.specs.Prelude.{◌≡◌, ◌≢◌, ◌↔◌, ℕ, IsTrue, List, [], ◌∷◌, None, Some, codes, length}
use Rattle.owl_breaches.specs.Sites.{Ontologies, Site}
use Rattle.owl_command.specs.Commands.{Source}
use Rattle.owl_command.specs.declared.command.Layout.TheVariants.{Flat}
use Rattle.owl_command.specs.declared.command.Profile.{Profile}
use Rattle.owl_command.specs.declared.command.Profile.TheVariants.{Dl, El, Ql, Rl}
use Rattle.owl_command.specs.declared.status.Status.TheVariants.{Done}
use Rattle.owl_doc.specs.Counts.{axiom_count, distinct_count}
use Rattle.owl_documents.specs.Documents.{AreRead, Contents, IsFirstRefused, IsProperRefusal, Said, an_ontology, in_functional}
use Rattle.owl_documents.specs.declared.trouble.Refusal.{Refusal}
use Rattle.owl_kind.specs.Kinds.{Entity}
use Rattle.owl_messages.specs.Outcome.{IsLimited, Outcome, refusal_outcome}
use Rattle.owl_messages.specs.Trial.{tried}
use Rattle.owl_messages.specs.declared.trial.BreachCounts.{BreachCounts}
use Rattle.owl_messages.specs.declared.trial.Findings.{Findings}
use Rattle.owl_profiles.specs.Profiles.{ProfileRule}
use Rattle.owl_tree.specs.Ontologies.{IsSameOntology, Ontology}
use Rattle.rdf_mapping.specs.Graphs.{graph_of}
use Rattle.owl_answer.specs.Checks.{AreBreaches}
use Rattle.owl_answer.specs.KindsAt.{AreOwnKinds}
use Rattle.owl_answer.specs.ManchesterOutcome.{IsToldInManchester, manchester_form}
use Rattle.owl_answer.specs.TrialDocument.{trial_document}
use Rattle.owl_answer.specs.TurtleOutcome.{IsTold, canonical_said, turtle_form}

-- the closure breaks rules of the profile so often
pub record HasBreaches (profile : Profile) (closure : Ontologies) (count : ℕ) : Type 0 where
  pub breaches : List (Site ProfileRule)
  pub are : AreBreaches profile closure breaches
  pub counted : count ≡ length breaches

-- the ontology alone, under these kinds
abbrev pub alone : List Entity → Ontology → Ontologies
alone kinds o = record { all = o ∷ []; kinds = kinds }

-- so often of each profile
pub record AreBreachCounts (closure : Ontologies) (counts : BreachCounts) : Type 0 where
  pub dl : HasBreaches Dl closure counts.dl
  pub el : HasBreaches El closure counts.el
  pub ql : HasBreaches Ql closure counts.ql
  pub rl : HasBreaches Rl closure counts.rl

-- What is found out of an ontology in canonical form: what it counts, whether its normal forms say the same, and how often it breaks
-- rules.
pub record AreFindings (kinds : List Entity) (main : Said) (f : Findings) : Type 0 where
  pub axioms : f.axioms ≡ axiom_count main.ontology
  pub distinct : f.distinct ≡ distinct_count main.ontology
  pub triples : f.triples ≡ length (graph_of (turtle_form main).ontology)
  pub turtle : IsTrue f.turtle ↔ IsSameOntology (turtle_form main).ontology main.ontology
  pub manchester : IsTrue f.manchester ↔ IsSameOntology (manchester_form kinds main).ontology main.ontology
  pub breaches : AreBreachCounts (alone kinds main.ontology) f.breaches

-- What becomes of a document in canonical form: the first translation that is refused, or what is found out.
pub data IsTried (kinds : List Entity) (main : Said) (outcome : Outcome) : Type 0 where
  no_turtle : IsTold Flat kinds main outcome → outcome.status ≢ Done → IsTried kinds main outcome
  no_manchester : (turtle : Outcome) → IsTold Flat kinds main turtle → turtle.status ≡ Done → IsToldInManchester kinds main outcome → outcome.status ≢ Done → IsTried kinds main outcome
  both : (turtle manchester : Outcome) → IsTold Flat kinds main turtle → turtle.status ≡ Done → IsToldInManchester kinds main manchester → manchester.status ≡ Done → (f : Findings) → AreFindings kinds main f → IsLimited (λ wanted. wanted ≡ tried f) outcome → IsTried kinds main outcome

-- the contents that a trial has: its document, under the name `trial`
abbrev pub trial_name : List ℕ
trial_name = codes "trial"

-- which is read without a base
abbrev pub trial_source : Source
trial_source = record { name = trial_name; base = None }

abbrev pub trial_contents : ℕ → Contents
trial_contents size name = Some (trial_document size)

-- What becomes of a trial with so many classes.
pub data IsTrialOutcome (size : ℕ) (outcome : Outcome) : Type 0 where
  not_read : (refusal : Refusal) → IsProperRefusal refusal → IsFirstRefused (trial_contents size) (trial_source ∷ []) trial_source refusal → outcome ≡ refusal_outcome trial_name refusal → IsTrialOutcome size outcome
  read : (said : Said) → AreRead (trial_contents size) (trial_source ∷ []) (an_ontology in_functional said ∷ []) → (kinds : List Entity) → AreOwnKinds (an_ontology in_functional said) kinds → IsTried kinds (canonical_said said) outcome → IsTrialOutcome size outcome
