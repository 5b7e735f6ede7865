-- What becomes of a document is a proper answer, and neither a device failed nor memory ran out.
use Rattle.std.proofs.Common.{◌≡◌, ℕ, List, refl, sym, subst}
use Rattle.owl_command.specs.declared.command.Layout.{Layout}
use Rattle.owl_command.specs.declared.command.Layout.TheVariants.{Flat}
use Rattle.owl_kind.specs.Kinds.{Entity}
use Rattle.owl_reader.specs.declared.fault.ReadFault.TheVariants as read
use Rattle.owl_documents.specs.Documents.{IsProperRefusal, Said}
use Rattle.owl_documents.specs.declared.trouble.Refusal.{Refusal}
use Rattle.owl_documents.specs.declared.trouble.Refusal.TheVariants.{DocumentBytes, AllBytes, Unreadable, Headless, NotCanon}
use Rattle.owl_messages.specs.Outcome.{IsLimited, Outcome, fits, passes, refusal_outcome}
use Rattle.owl_tree.specs.Ontologies.{Ontology}
use Rattle.rdf_scans.specs.declared.fault.OutlineFault.TheVariants as outline
use Rattle.owl_answer.specs.Answers.{IsProper}
use Rattle.owl_answer.specs.ManchesterOutcome.{IsToldInManchester}
use Rattle.owl_answer.specs.Outcome.{IsSettled}
use Rattle.owl_answer.specs.Trials.{IsTrialOutcome, IsTried, both, no_manchester, no_turtle, trial_name}
use Rattle.owl_answer.specs.Trials as trial
use Rattle.owl_answer.specs.TurtleOutcome.{IsTold, IsTypingRefusal, clashes, few, heavy, light, many, not_typed, ready, unsaid, untyped}

pub record IsSettledWell (outcome : Outcome) : Type 0 where
  pub proper : IsProper outcome
  pub settled : IsSettled outcome.status

is_so : (o wanted : Outcome) → o ≡ wanted → IsSettledWell wanted → IsSettledWell o
is_so o wanted e h = subst IsSettledWell (sym e) h

refused_well : (name : List ℕ) (refusal : Refusal) → IsProperRefusal refusal → IsSettledWell (refusal_outcome name refusal)
refused_well name DocumentBytes n = record { proper = record { found = tt; no_text = refl }; settled = tt }
refused_well name AllBytes n = record { proper = record { found = tt; no_text = refl }; settled = tt }
refused_well name (Unreadable (read.Refused item at reason)) n = record { proper = record { found = tt; no_text = refl }; settled = tt }
refused_well name (Unreadable read.TooLong) n = record { proper = record { found = tt; no_text = refl }; settled = tt }
refused_well name (Unreadable read.TooDeep) n = record { proper = record { found = tt; no_text = refl }; settled = tt }
refused_well name (Unreadable read.TooHeavy) n = record { proper = record { found = tt; no_text = refl }; settled = tt }
refused_well name (Unreadable read.NumberTooLarge) n = record { proper = record { found = tt; no_text = refl }; settled = tt }
refused_well name (Unreadable read.TooMany) n = record { proper = record { found = tt; no_text = refl }; settled = tt }
refused_well name (Unreadable read.Memory) n = absurd (n refl)
refused_well name (Headless outline.NoHeader) n = record { proper = record { found = tt; no_text = refl }; settled = tt }
refused_well name (Headless outline.TwoHeaders) n = record { proper = record { found = tt; no_text = refl }; settled = tt }
refused_well name (Headless (outline.BadHeader node)) n = record { proper = record { found = tt; no_text = refl }; settled = tt }
refused_well name (Headless outline.Memory) n = absurd (n refl)
refused_well name NotCanon n = record { proper = record { found = tt; no_text = refl }; settled = tt }

pub refused_proper : (name : List ℕ) (refusal : Refusal) → IsProperRefusal refusal → IsProper (refusal_outcome name refusal)
refused_proper name refusal n = (refused_well name refusal n).proper

limited_well : (IsWanted : Outcome → Type 0) → ((o : Outcome) → IsWanted o → IsSettledWell o) → (outcome : Outcome) → IsLimited IsWanted outcome → IsSettledWell outcome
limited_well IsWanted well outcome (fits w l) = well outcome w
limited_well IsWanted well outcome (passes wanted w l e) =
    is_so outcome _ e (record { proper = record { found = tt; no_text = refl }; settled = tt })

typing_well : (kinds : List Entity) (o : Ontology) (outcome : Outcome) → IsTypingRefusal kinds o outcome → IsSettledWell outcome
typing_well kinds o outcome (clashes iri h e) = is_so outcome _ e (record { proper = record { found = tt; no_text = refl }; settled = tt })
typing_well kinds o outcome (untyped apart part x h e) = is_so outcome _ e (record { proper = record { found = tt; no_text = refl }; settled = tt })

turtle_well : (layout : Layout) (kinds : List Entity) (main : Said) (outcome : Outcome) → IsTold layout kinds main outcome → IsSettledWell outcome
turtle_well layout kinds main outcome (not_typed h) = typing_well kinds main.ontology outcome h
turtle_well layout kinds main outcome (unsaid t part why h e) = is_so outcome _ e (record { proper = record { found = tt; no_text = refl }; settled = tt })
turtle_well layout kinds main outcome (ready r (heavy l e)) = is_so outcome _ e (record { proper = record { found = tt; no_text = refl }; settled = tt })
turtle_well layout kinds main outcome (ready r (light l (many m e))) = is_so outcome _ e (record { proper = record { found = tt; no_text = refl }; settled = tt })
turtle_well layout kinds main outcome (ready r (light l (few m w))) =
    limited_well _ (λ o e. is_so o _ e.told (record { proper = record { found = tt; no_text = tt }; settled = tt })) outcome w

manchester_well : (kinds : List Entity) (main : Said) (outcome : Outcome) → IsToldInManchester kinds main outcome → IsSettledWell outcome
manchester_well kinds main outcome (IsToldInManchester.not_typed h) = typing_well kinds main.ontology outcome h
manchester_well kinds main outcome (IsToldInManchester.unsaid t part why h e) = is_so outcome _ e (record { proper = record { found = tt; no_text = refl }; settled = tt })
manchester_well kinds main outcome (IsToldInManchester.heavy r l e) = is_so outcome _ e (record { proper = record { found = tt; no_text = refl }; settled = tt })
manchester_well kinds main outcome (IsToldInManchester.light r l w) =
    limited_well _ (λ o e. is_so o _ e (record { proper = record { found = tt; no_text = tt }; settled = tt })) outcome w

tried_well : (kinds : List Entity) (main : Said) (outcome : Outcome) → IsTried kinds main outcome → IsSettledWell outcome
tried_well kinds main outcome (no_turtle h n) = turtle_well Flat kinds main outcome h
tried_well kinds main outcome (no_manchester t h d k n) = manchester_well kinds main outcome k
tried_well kinds main outcome (both t u h d k e f g w) =
    limited_well _ (λ o e. is_so o _ e (record { proper = record { found = tt; no_text = tt }; settled = tt })) outcome w

pub trial_well : (size : ℕ) (outcome : Outcome) → IsTrialOutcome size outcome → IsSettledWell outcome
trial_well size outcome (trial.not_read refusal n f e) = is_so outcome _ e (refused_well trial_name refusal n)
trial_well size outcome (trial.read said r kinds own t) = tried_well kinds _ outcome t
