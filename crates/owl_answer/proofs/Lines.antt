-- What is concluded, and what is told of troubles, is proper, and has its line.
use Rattle.std.proofs.Common.{◌≡◌, ◌++◌, ℕ, Bool, zero, suc, Some, List, [], ◌∷◌, length, slice_get, inl, inr, refl, sym, subst}
use Rattle.owl_reader.specs.declared.fault.ReadFault.TheVariants as read
use Rattle.owl_command.specs.declared.command.Options.{Options}
use Rattle.owl_command.specs.Commands.{IsAmong, Request, compares, names_of, of_main, tries}
use Rattle.owl_command.specs.declared.command.Action.{Action}
use Rattle.owl_command.specs.declared.command.Action.TheVariants.{Translate, Check, Show, Declare, Canon, Digest}
use Rattle.owl_command.specs.declared.command.Profile.{Profile}
use Rattle.owl_breaches.specs.Sites.{Site}
use Rattle.owl_kind.specs.Kinds.{Entity}
use Rattle.owl_command.specs.declared.command.Layout.{Layout}
use Rattle.owl_command.specs.declared.command.Target.{Target}
use Rattle.owl_command.specs.declared.command.Target.TheVariants.{Fss, Ttl, Omn}
use Rattle.owl_command.specs.declared.status.Status.TheVariants.{Done}
use Rattle.owl_documents.specs.Documents.{Parsed, Said, a_graph, an_ontology, in_bytes, in_functional, the_frames, IsProperRefusal}
use Rattle.owl_documents.specs.declared.trouble.Refusal.{Refusal}
use Rattle.owl_documents.specs.declared.trouble.Refusal.TheVariants.{DocumentBytes, AllBytes, Unreadable, Headless, NotCanon}
use Rattle.owl_profiles.specs.Profiles.{ProfileRule}
use Rattle.owl_answer.specs.Outcome.{IsComparison, IsSuccess, agree, differ}
use Rattle.owl_answer.specs.Checks.{IsChecked}
use Rattle.owl_messages.specs.Refusals.{two_kinds, undeclared, unsayable}
use Rattle.owl_messages.specs.Verdicts.{verdict}
use Rattle.owl_answer.specs.Runs.{AnswersWith, AsksOtherSyntax, AsksTranslation, AsksTurtle, IsDeclaration, IsToldWith, declared_whole, of_clash, of_declarations, AnswersBy, Concludes, IsActionOutcome, IsIllTyped, IsTranslation, IsUnsayable, LineFor, SuccessLine, all_say, misses_import, misses_none, of_bytes, of_import, of_output, of_part, of_refusal, of_saying, of_success, of_trial, of_triples, of_two_kinds, of_typing, of_undeclared, of_unsayable, of_weight, says_nothing}
use Rattle.owl_answer.specs.ManchesterOutcome.{IsToldInManchester, manchester_form, manchester_translation}
use Rattle.owl_answer.specs.TurtleOutcome.{IsFormTold, IsGraphTold, IsTold as IsOfTurtle, IsTypingRefusal, canonical_said, clashes, few, heavy, ill_typed, light, many, not_typed, ready, unsaid, untyped, well_typed}
use Rattle.owl_answer.specs.Answers.{IsProper}
use Rattle.owl_tree.proofs.OntologyLaws.{canonical_ontology_again, canonical_same_ontology, same_ontology_refl}
use Rattle.owl_tree.specs.Ontologies.{IsSameOntology, Ontology, canonical_ontology}
use Rattle.owl_answer.proofs.KnownTypes.{known_typed}
use Rattle.owl_answer.proofs.TurtleOnce.{refusal_or_typed, typed_same}
use Rattle.owl_answer.specs.WithNeeds.{declared_said}
use Rattle.owl_messages.specs.declared.unsaid.UnsaidFault.{UnsaidFault}
use Rattle.rdf_scans.specs.declared.fault.OutlineFault.TheVariants as outline
use Rattle.owl_answer.proofs.Proper.{refused_proper, trial_well}
use Rattle.owl_answer.proofs.Same.{is_proper}
use Rattle.owl_messages.proofs.UnsaidLaws.{IsRefusal, unsaid_is_refused}
use Rattle.owl_messages.specs.Unsaid.{IsProperFault, unsaid_outcome}
use Rattle.owl_messages.specs.Outcome.{IsLimited, Outcome, agreement, canonical, counts_line, declared, difference, digested, fits, missing_import, passes, refusal_outcome, shown, too_heavy_output, too_long_output, too_many_triples, told_with, translated, translation}

pub at_among : (names : List (List ℕ)) (place : ℕ) (name : List ℕ) → slice_get names place ≡ Some name → IsAmong names name
at_among [] place name e = absurd (cc)
at_among (first ∷ names) zero name e = inl cc
at_among (first ∷ names) (suc place) name e = inr (at_among names place name e)

-- what every conclusion is
pub record IsTold (request : Request) (outcome : Outcome) : Type 1 where
  pub proper : IsProper outcome
  pub line : (IsCause : List ℕ → Type 0) → LineFor request IsCause outcome.status outcome.line

-- a refusal of a translation
ill_typed_told : (request : Request) → AsksTranslation request → (refusal : Outcome) → IsIllTyped refusal → IsTold request refusal
ill_typed_told request asks refusal h = record { proper = proper refusal h; line = λ IsCause. of_typing asks refusal h refl refl }
  where
    proper : (refusal : Outcome) → IsIllTyped refusal → IsProper refusal
    proper _ (of_two_kinds iri) = record { found = tt; no_text = refl }
    proper _ (of_undeclared part e) = record { found = tt; no_text = refl }

unsayable_told : (request : Request) → AsksOtherSyntax request → (refusal : Outcome) → IsUnsayable refusal → IsTold request refusal
unsayable_told request asks refusal h = record { proper = proper refusal h; line = λ IsCause. of_unsayable asks refusal h refl refl }
  where
    proper : (refusal : Outcome) → IsUnsayable refusal → IsProper refusal
    proper _ (of_part part why) = record { found = tt; no_text = refl }
    proper _ of_weight = record { found = tt; no_text = refl }

typing_told : (request : Request) → AsksTranslation request → (front : List ℕ → List ℕ) (kinds : List Entity) (o : Ontology) (outcome : Outcome) → IsTypingRefusal kinds o outcome → IsTold request (told_with front outcome)
typing_told request asks front kinds o outcome (clashes iri h e) =
    subst (λ (x : Outcome). IsTold request (told_with front x)) (sym e) (ill_typed_told request asks (two_kinds iri) (of_two_kinds iri))
typing_told request asks front kinds o outcome (untyped apart part x h e) =
    subst (λ (y : Outcome). IsTold request (told_with front y)) (sym e) (ill_typed_told request asks (undeclared part x) (of_undeclared part x))

too_long_told : (request : Request) → IsTold request too_long_output
too_long_told request = record { proper = record { found = tt; no_text = refl }; line = λ IsCause. of_output refl refl }

-- what fits is told, if all that is wanted is
limited_told : (request : Request) (IsWanted : Outcome → Type 0) → ((o : Outcome) → IsWanted o → IsTold request o) → (outcome : Outcome) → IsLimited IsWanted outcome → IsTold request outcome
limited_told request IsWanted told outcome (fits w l) = told outcome w
limited_told request IsWanted told outcome (passes wanted w l e) = subst (IsTold request) (sym e) (too_long_told request)

-- ---- what may become of a translation

abbrev IsOther : Target → Type 0
IsOther Fss = ⊥
IsOther (Ttl layout) = Unit {0}
IsOther Omn = Unit {0}

-- The text is written, or it is refused: it is not well typed, the syntax can't say it, its graph is too large, or the text too long.
data Comes (target : Target) (kinds : List Entity) (o : Ontology) (outcome : Outcome) : Type 0 where
  written : (text : List ℕ) (axioms absorbed : ℕ) → outcome ≡ record { status = Done; text = text; line = counts_line axioms absorbed } → Comes target kinds o outcome
  ill : (p : Ontology) → IsSameOntology o p → IsTypingRefusal kinds p outcome → Comes target kinds o outcome
  beyond : IsOther target → (refusal : Outcome) → IsUnsayable refusal → outcome ≡ refusal → Comes target kinds o outcome
  large : (layout : Layout) → target ≡ Ttl layout → outcome ≡ too_many_triples → Comes target kinds o outcome
  long : outcome ≡ too_long_output → Comes target kinds o outcome

-- what fits is so, if all that is wanted is
limited_comes : (target : Target) (kinds : List Entity) (o : Ontology) (wanted : Outcome) → Comes target kinds o wanted → (outcome : Outcome) → IsLimited (λ x. x ≡ wanted) outcome → Comes target kinds o outcome
limited_comes target kinds o wanted comes outcome (fits w l) = subst (Comes target kinds o) (sym w) comes
limited_comes target kinds o wanted comes outcome (passes other w l e) = long e

module _ (kinds : List Entity) (o : Ontology) where
  form_comes : (layout : Layout) (form : Said) (absorbed : ℕ) (outcome : Outcome) → IsFormTold layout form absorbed outcome → Comes (Ttl layout) kinds o outcome
  form_comes layout form absorbed outcome (many l e) = large layout refl e
  form_comes layout form absorbed outcome (few l (fits w m)) = written _ _ _ w.told
  form_comes layout form absorbed outcome (few l (passes wanted w m e)) = long e

  graph_comes : (layout : Layout) (main : Said) (outcome : Outcome) → IsGraphTold layout main outcome → Comes (Ttl layout) kinds o outcome
  graph_comes layout main outcome (heavy l e) = beyond tt too_heavy_output of_weight e
  graph_comes layout main outcome (light l w) = form_comes layout _ _ outcome w

  turtle_comes : (layout : Layout) (main : Said) (outcome : Outcome) → IsSameOntology o main.ontology → IsOfTurtle layout kinds main outcome → Comes (Ttl layout) kinds o outcome
  turtle_comes layout main outcome s (not_typed h) = ill main.ontology s h
  turtle_comes layout main outcome s (unsaid t part why h e) = beyond tt (unsayable part why) (of_part part why) e
  turtle_comes layout main outcome s (ready r w) = graph_comes layout main outcome w

  manchester_comes : (main : Said) (outcome : Outcome) → IsSameOntology o main.ontology → IsToldInManchester kinds main outcome → Comes Omn kinds o outcome
  manchester_comes main outcome s (IsToldInManchester.not_typed h) = ill main.ontology s h
  manchester_comes main outcome s (IsToldInManchester.unsaid t part why h e) = beyond tt (unsayable part why) (of_part part why) e
  manchester_comes main outcome s (IsToldInManchester.heavy r l e) = beyond tt too_heavy_output of_weight e
  manchester_comes main outcome s (IsToldInManchester.light r l w) = limited_comes Omn kinds o (manchester_translation kinds (manchester_form kinds main)) (written _ _ _ refl) outcome w

  written_comes : (main : Said) (outcome : Outcome) → IsLimited (λ (x : Outcome). x ≡ translation main) outcome → Comes Fss kinds o outcome
  written_comes main outcome w = limited_comes Fss kinds o (translation main) (written _ _ _ refl) outcome w

translation_comes : (target : Target) (parsed : Parsed) (kinds : List Entity) (main : Said) (outcome : Outcome) → IsTranslation target parsed kinds main outcome → Comes target kinds main.ontology outcome
translation_comes Fss (an_ontology in_functional said) kinds main outcome w = written_comes kinds main.ontology main outcome w
translation_comes Fss (an_ontology in_bytes said) kinds main outcome (ill_typed h) = ill main.ontology (same_ontology_refl main.ontology) h
translation_comes Fss (an_ontology in_bytes said) kinds main outcome (well_typed t w) = written_comes kinds main.ontology main outcome w
translation_comes Fss (a_graph read) kinds main outcome (ill_typed h) = ill main.ontology (same_ontology_refl main.ontology) h
translation_comes Fss (a_graph read) kinds main outcome (well_typed t w) = written_comes kinds main.ontology main outcome w
translation_comes Fss (the_frames read) kinds main outcome (ill_typed h) = ill main.ontology (same_ontology_refl main.ontology) h
translation_comes Fss (the_frames read) kinds main outcome (well_typed t w) = written_comes kinds main.ontology main outcome w
translation_comes (Ttl layout) parsed kinds main outcome w = turtle_comes kinds main.ontology layout (canonical_said main) outcome (canonical_same_ontology main.ontology) w
translation_comes Omn parsed kinds main outcome w = manchester_comes kinds main.ontology (canonical_said main) outcome (canonical_same_ontology main.ontology) w

-- a refusal is told as it is
unsayable_kept : (front : List ℕ → List ℕ) (refusal : Outcome) → IsUnsayable refusal → told_with front refusal ≡ refusal
unsayable_kept front _ (of_part part why) = refl
unsayable_kept front _ of_weight = refl

-- what comes of it is told so
module _ (request : Request) (target : Target) (front : List ℕ → List ℕ) (other : IsOther target → AsksOtherSyntax request) (turtle : (layout : Layout) → target ≡ Ttl layout → AsksTurtle request)
    (done : (axioms absorbed : ℕ) → SuccessLine request Done (front (counts_line axioms absorbed))) (kinds : List Entity) (o : Ontology)
    (refused : (p : Ontology) (inner : Outcome) → IsSameOntology o p → IsTypingRefusal kinds p inner → IsTold request (told_with front inner)) where
  comes_told : (inner : Outcome) → Comes target kinds o inner → IsTold request (told_with front inner)
  comes_told inner (written text axioms absorbed e) =
      subst (λ (x : Outcome). IsTold request (told_with front x)) (sym e) (record { proper = record { found = tt; no_text = tt }; line = λ IsCause. of_success (done axioms absorbed) })
  comes_told inner (ill p s h) = refused p inner s h
  comes_told inner (beyond b refusal h e) =
      subst (λ (x : Outcome). IsTold request (told_with front x)) (sym e) (subst (IsTold request) (sym (unsayable_kept front refusal h)) (unsayable_told request (other b) refusal h))
  comes_told inner (large layout t e) =
      subst (λ (x : Outcome). IsTold request (told_with front x)) (sym e) (record { proper = record { found = tt; no_text = refl }; line = λ IsCause. of_triples (turtle layout t) refl refl })
  comes_told inner (long e) = subst (λ (x : Outcome). IsTold request (told_with front x)) (sym e) (too_long_told request)

module _ (options : Options) (names : List (List ℕ)) where
  other_asked : (target : Target) → IsOther target → AsksOtherSyntax (of_main (Translate target) options names)
  other_asked Fss b = absurd b
  other_asked (Ttl layout) b = tt
  other_asked Omn b = tt

  other_declared : (target : Target) → IsOther target → AsksOtherSyntax (of_main (Declare target) options names)
  other_declared Fss b = absurd b
  other_declared (Ttl layout) b = tt
  other_declared Omn b = tt

  translation_told : (target : Target) (parsed : Parsed) (kinds : List Entity) (main : Said) (outcome : Outcome) → IsToldWith translated (IsTranslation target parsed kinds main) outcome → IsTold (of_main (Translate target) options names) outcome
  translation_told target parsed kinds main outcome h =
      let request = of_main (Translate target) options names in
      subst (IsTold request) (sym h.told)
      (comes_told request target translated (other_asked target) (λ layout t. subst (λ (u : Target). AsksTurtle (of_main (Translate u) options names)) (sym t) tt)
      (λ axioms absorbed. (axioms, absorbed, refl)) kinds main.ontology (λ p inner s k. typing_told request tt translated kinds p inner k) h.wanted (translation_comes target parsed kinds main h.wanted h.is))

  -- a document that has all that it needs declared is well typed
  module _ (target : Target) (kinds : List Entity) (main : Said) (canon : canonical_ontology main.ontology ≡ main.ontology) where
    declaration_told : (outcome : Outcome) → IsDeclaration target kinds main outcome → IsTold (of_main (Declare target) options names) outcome
    declaration_told outcome (IsDeclaration.clashes needs h iri c e) =
        subst (IsTold (of_main (Declare target) options names)) (sym e) (record { proper = record { found = tt; no_text = refl }; line = λ IsCause. of_clash tt iri refl refl })
    declaration_told outcome (IsDeclaration.heavy needs h apart l e) =
        subst (IsTold (of_main (Declare target) options names)) (sym e) (record { proper = record { found = tt; no_text = refl }; line = λ IsCause. of_declarations tt refl refl })
    declaration_told outcome (declared_whole needs known h apart l w) =
        let request = of_main (Declare target) options names in
        let whole = declared_said needs main in
        let typed = known_typed kinds main canon needs known h apart in
        subst (IsTold request) (sym w.told)
        (comes_told request target (declared (length needs)) (other_declared target) (λ layout t. subst (λ (u : Target). AsksTurtle (of_main (Declare u) options names)) (sym t) tt)
        (λ axioms absorbed. (length needs, axioms, absorbed, refl)) known whole.ontology
        (λ p inner s k. absurd (refusal_or_typed known p inner k (typed_same known whole.ontology p s typed))) w.wanted (translation_comes target (an_ontology in_functional whole) known whole w.wanted w.is))

-- the text and the line of a success
done_told : (request : Request) (wanted : Outcome) → IsProper wanted → SuccessLine request wanted.status wanted.line → (outcome : Outcome) → outcome ≡ wanted → IsTold request outcome
done_told request wanted proper line outcome e = subst (IsTold request) (sym e) (record { proper = proper; line = λ IsCause. of_success line })

compared_told : (first second : List ℕ) (a b : Said) (outcome : Outcome) → IsComparison a b outcome → IsTold (compares first second) outcome
compared_told first second a b outcome (agree h e) = done_told (compares first second) agreement (record { found = tt; no_text = tt }) refl outcome e
compared_told first second a b outcome (differ h e) = done_told (compares first second) difference (record { found = tt; no_text = tt }) refl outcome e

verdict_told : (profile : Profile) (options : Options) (names : List (List ℕ)) (places : List ℕ) (found : List (Site ProfileRule)) → IsTold (of_main (Check profile) options names) (verdict profile places found)
verdict_told profile options names places [] = record { proper = record { found = tt; no_text = tt }; line = λ IsCause. of_success refl }
verdict_told profile options names places (breach ∷ more) =
    record { proper = record { found = tt; no_text = tt }; line = λ IsCause. of_success (suc (length more), refl) }

checked_told : (profile : Profile) (options : Options) (names : List (List ℕ)) (documents : List Parsed) (outcome : Outcome) → IsChecked profile documents outcome → IsTold (of_main (Check profile) options names) outcome
checked_told profile options names documents outcome h =
    limited_told (of_main (Check profile) options names) (λ o. o ≡ verdict profile h.places h.breaches)
    (λ o e. subst (IsTold (of_main (Check profile) options names)) (sym e) (verdict_told profile options names h.places h.breaches)) outcome h.told

acted_told : (action : Action) (options : Options) (names : List (List ℕ)) (documents : List Parsed) (parsed : Parsed) (kinds : List Entity) (main : Said) (outcome : Outcome) → IsActionOutcome action documents parsed kinds main outcome → IsTold (of_main action options names) outcome
acted_told (Translate target) options names documents parsed kinds main outcome h = translation_told options names target parsed kinds main outcome h
acted_told (Check profile) options names documents parsed kinds main outcome h = checked_told profile options names documents outcome h
acted_told Show options names documents parsed kinds main outcome h =
    limited_told (of_main Show options names) (λ o. o ≡ shown main) (done_told (of_main Show options names) (shown main) (record { found = tt; no_text = tt }) refl) outcome h
acted_told (Declare target) options names documents parsed kinds main outcome h =
    declaration_told options names target kinds (canonical_said main) (canonical_ontology_again main.ontology) outcome h
acted_told Canon options names documents parsed kinds main outcome h =
    limited_told (of_main Canon options names) (λ o. o ≡ canonical main) (done_told (of_main Canon options names) (canonical main) (record { found = tt; no_text = tt }) refl) outcome h
acted_told Digest options names documents parsed kinds main outcome h =
    done_told (of_main Digest options names) (digested main) (record { found = tt; no_text = tt }) refl outcome h

answers_told : (request : Request) (documents : List Parsed) (outcome : Outcome) → AnswersWith request documents outcome → IsTold request outcome
answers_told (of_main action options names) documents outcome w =
    acted_told action options names documents w.main.parsed w.main.kinds w.said outcome w.holds
answers_told (compares first second) documents outcome w =
    limited_told (compares first second) (IsComparison w.first w.second) (compared_told first second w.first w.second) outcome w.holds
answers_told (tries size) documents outcome w =
    let well = trial_well size outcome w in
    record { proper = well.proper; line = λ IsCause. of_trial size refl outcome w well.settled refl refl }

missing_told : (request : Request) (name iri : List ℕ) → IsAmong (names_of request) name → IsTold request (missing_import name iri)
missing_told request name iri among = record {
  proper = record { found = tt; no_text = refl };
  line = λ IsCause. of_refusal name among (of_import iri refl refl);
}

-- a document that says nothing
refusal_proper : (o : Outcome) → IsRefusal o → IsProper o
refusal_proper o (inl e) = subst IsProper (sym e) (record { found = tt; no_text = refl })
refusal_proper o (inr e) = subst IsProper (sym e) (record { found = tt; no_text = refl })

unsaid_told : (request : Request) (name : List ℕ) (fault : UnsaidFault) → IsAmong (names_of request) name → IsProperFault fault → IsTold request (unsaid_outcome name fault)
unsaid_told request name fault among n = record {
  proper = refusal_proper (unsaid_outcome name fault) (unsaid_is_refused name fault n);
  line = λ IsCause. of_refusal name among (of_saying fault n refl refl);
}

answer_told : (request : Request) (documents : List Parsed) (outcome : Outcome) → AnswersBy request documents outcome → IsTold request outcome
answer_told request documents outcome (says_nothing place fault name u at e) =
    subst (IsTold request) (sym e) (unsaid_told request name fault (at_among (names_of request) place name at) (is_proper u.unsaid.kinds u.unsaid.parsed fault u.unsaid.unsaid))
answer_told request documents outcome (all_say all w) = answers_told request documents outcome w

pub concluded_told : (request : Request) (documents : List Parsed) (outcome : Outcome) → Concludes request documents outcome → IsTold request outcome
concluded_told request documents outcome (misses_import asked place iri name m at e) =
    subst (IsTold request) (sym e) (missing_told request name iri (at_among (names_of request) place name at))
concluded_told request documents outcome (misses_none imports guessed are answer) = answer_told request guessed outcome answer

-- a refusal is told as one
pub refused_told : (request : Request) (name : List ℕ) (refusal : Refusal) → IsAmong (names_of request) name → IsProperRefusal refusal → IsTold request (refusal_outcome name refusal)
refused_told request name refusal among n = record {
  proper = refused_proper name refusal n;
  line = λ IsCause. of_refusal name among (of_bytes refusal n refl refl);
}

pub refused_fails : (name : List ℕ) (refusal : Refusal) → IsSuccess (refusal_outcome name refusal).status → ⊥
refused_fails name DocumentBytes h = h
refused_fails name AllBytes h = h
refused_fails name (Unreadable (read.Refused item at reason)) h = h
refused_fails name (Unreadable read.TooLong) h = h
refused_fails name (Unreadable read.TooDeep) h = h
refused_fails name (Unreadable read.TooHeavy) h = h
refused_fails name (Unreadable read.NumberTooLarge) h = h
refused_fails name (Unreadable read.TooMany) h = h
refused_fails name (Unreadable read.Memory) h = h
refused_fails name (Headless outline.NoHeader) h = h
refused_fails name (Headless outline.TwoHeaders) h = h
refused_fails name (Headless (outline.BadHeader node)) h = h
refused_fails name (Headless outline.Memory) h = h
refused_fails name NotCanon h = h

refusal_fails : (o : Outcome) → IsRefusal o → IsSuccess o.status → ⊥
refusal_fails o (inl e) h = subst (λ (x : Outcome). IsSuccess x.status) e h
refusal_fails o (inr e) h = subst (λ (x : Outcome). IsSuccess x.status) e h

pub unsaid_fails : (name : List ℕ) (fault : UnsaidFault) → IsProperFault fault → IsSuccess (unsaid_outcome name fault).status → ⊥
unsaid_fails name fault n h = refusal_fails (unsaid_outcome name fault) (unsaid_is_refused name fault n) h
