-- What an action tells is what becomes of documents.
use Rattle.std.proofs.Common.{◌≡◌, Bool, true, false, ℕ, List, map, sym, ap, ◌∙◌, subst}
use Rattle.std.proofs.lemmas.Option.{same_Some}
use Rattle.std.specs.List.{AllZip}
use Rattle.owl_command.specs.declared.command.Action.{Action}
use Rattle.owl_command.specs.declared.command.Action.TheVariants.{Translate}
use Rattle.owl_command.specs.declared.command.Profile.{Profile}
use Rattle.owl_command.specs.declared.command.Target.{Target}
use Rattle.owl_command.specs.declared.command.Target.TheVariants.{Fss}
use Rattle.owl_breaches.specs.Sites.{Site}
use Rattle.breach_lists.specs.Telling.{ontologies_of}
use Rattle.owl_doc.specs.Closures.{ImportClosure}
use Rattle.owl_doc.specs.declared.item.Breach.{Breach}
use Rattle.owl_doc.specs.Documents as doc
use Rattle.owl_doc.specs.Documents.{ontology_of}
use Rattle.owl_documents.specs.Documents.{Parsed, Said, a_graph, an_ontology, in_bytes, in_functional, said_of, the_frames}
use Rattle.owl_kind.specs.Kinds.{Entity}
use Rattle.owl_messages.specs.Outcome.{IsLimited, Outcome, translation, told_with, translated}
use Rattle.owl_messages.specs.Verdicts.{verdict}
use Rattle.owl_profiles.specs.Profiles.{ProfileRule}
use Rattle.owl_answer.specs.Answers.{IsToldOf, IsToldOfMain, IsTranslated}
use Rattle.owl_answer.specs.Checking.{TellBreaches}
use Rattle.owl_answer.specs.Checks.{HasFormAt, IsChecked}
use Rattle.owl_answer.specs.KindsAt.{AreClosureKinds, IsClosure}
use Rattle.owl_answer.specs.Outcome.{IsSuccess}
use Rattle.owl_answer.specs.Reading.{AllSayAt, IsReadAs, IsSaidAt, asks_types}
use Rattle.owl_answer.specs.Runs.{ReadsIn, normal_form}
use Rattle.owl_answer.specs.TurtleOutcome.{IsFunctionalTranslation}
use Rattle.owl_answer.specs.declared.closure.Closure.{Closure}
use Rattle.owl_answer.proofs.Readings.{all_forms}

-- a translation to Functional-Style Syntax, of another document and of what is written in it
pub functional_told : (parsed : Parsed) (kinds : List Entity) (main : Said) (outcome : Outcome) → asks_types parsed ≡ true → IsFunctionalTranslation kinds main outcome → (IsSuccess outcome.status → ReadsIn Fss kinds outcome.text (normal_form Fss kinds main)) → IsTranslated Fss parsed kinds main outcome
functional_told (an_ontology in_functional said) kinds main outcome e h back = absurd (cc)
functional_told (an_ontology in_bytes said) kinds main outcome e h back = record { is = h; back = back }
functional_told (a_graph read) kinds main outcome e h back = record { is = h; back = back }
functional_told (the_frames d) kinds main outcome e h back = record { is = h; back = back }

pub written_told : (parsed : Parsed) (kinds : List Entity) (main : Said) (outcome : Outcome) → asks_types parsed ≡ false → IsLimited (λ wanted. wanted ≡ translation main) outcome → (IsSuccess outcome.status → ReadsIn Fss kinds outcome.text (normal_form Fss kinds main)) → IsTranslated Fss parsed kinds main outcome
written_told (an_ontology in_functional said) kinds main outcome e h back = record { is = h; back = back }
written_told (an_ontology in_bytes said) kinds main outcome e h back = absurd (cc)
written_told (a_graph read) kinds main outcome e h back = absurd (cc)
written_told (the_frames d) kinds main outcome e h back = absurd (cc)

-- a translation that is told as one
pub translated_told : (target : Target) (documents : List Parsed) (parsed : Parsed) (kinds : List Entity) (main : Said) (wanted outcome : Outcome) → outcome ≡ told_with translated wanted → IsTranslated target parsed kinds main wanted → IsToldOfMain (Translate target) documents parsed kinds main outcome
translated_told target documents parsed kinds main wanted outcome e h = record {
  is = record { wanted = wanted; is = h.is; told = e };
  back = subst (λ (o : Outcome). IsSuccess o.status → ReadsIn target kinds o.text (normal_form target kinds main)) (sym e) h.back;
}

-- what is told of the main document, which says what is read first
module _ (action : Action) (documents : List Parsed) (closure : Closure) (ds : List doc.Document) (asks : Bool) (read : IsReadAs documents closure ds asks) (d : doc.Document) (first : IsSaidAt documents closure.kinds 0 d) (outcome : Outcome) where
  pub told_of_main : ((parsed : Parsed) → asks_types parsed ≡ asks → IsToldOfMain action documents parsed closure.kinds (said_of d) outcome) → IsToldOf action documents outcome
  told_of_main told =
      let same : first.parsed ≡ read.main = same_Some first.parsed read.main (sym first.there ∙ read.there) in
      record {
        parsed = first.parsed;
        there = first.there;
        kinds = closure.kinds;
        declared = read.closed.declared;
        main = said_of d;
        says = first.said.says;
        told = told first.parsed (ap asks_types same ∙ read.asks);
      }

-- the same places are told alike
pub limited_by : (profile : Profile) (places others : List ℕ) (breaches : List (Site ProfileRule)) → others ≡ places → (outcome : Outcome) → IsLimited (λ wanted. wanted ≡ verdict profile others breaches) outcome → IsLimited (λ wanted. wanted ≡ verdict profile places breaches) outcome
limited_by profile places others breaches same outcome h = subst (λ (ps : List ℕ). IsLimited (λ wanted. wanted ≡ verdict profile ps breaches) outcome) same h

-- what a check tells of what was read
pub checked : (profile : Profile) (documents : List Parsed) (closure : Closure) (ds : List doc.Document) → IsClosure documents closure → AllSayAt documents closure.kinds closure.places.items ds → (c : ImportClosure) → c.documents ≡ ds → c.kinds ≡ closure.kinds → (found : List Breach) (t : TellBreaches profile c found) (outcome : Outcome) → IsLimited (λ wanted. wanted ≡ verdict profile closure.places.items t.breaches) outcome → IsChecked profile documents outcome
checked profile documents closure ds closed all c same kinds found t outcome limited =
    let say : AllZip (HasFormAt documents c.kinds) closure.places.items (map ontology_of c.documents) =
    subst (λ (ks : List Entity). AllZip (HasFormAt documents ks) closure.places.items (map ontology_of c.documents)) (sym kinds)
    (subst (λ (xs : List doc.Document). AllZip (HasFormAt documents closure.kinds) closure.places.items (map ontology_of xs)) (sym same) (all_forms documents closure.kinds closure.places.items ds all)) in
    record {
      places = closure.places.items;
      closure = ontologies_of c;
      is = record { reached = closed.reached; declared = subst (AreClosureKinds documents) (sym kinds) closed.declared; say = say };
      breaches = t.breaches;
      are = t.are;
      told = limited;
    }
