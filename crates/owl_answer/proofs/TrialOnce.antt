-- What becomes of a trial is one.
use Rattle.std.proofs.Common.{◌≡◌, ◌↔◌, ℕ, Bool, true, false, IsTrue, List, [], ◌∷◌, length, refl, sym, ap, ◌∙◌, subst}
use Rattle.owl_breaches.specs.Sites.{Ontologies, Site, sites}
use Rattle.owl_breaches.proofs.ThoseLaws.{those_once}
use Rattle.owl_command.specs.declared.command.Profile.{Profile}
use Rattle.owl_command.specs.declared.status.Status.TheVariants.{Done}
use Rattle.owl_documents.specs.Documents.{IsSame, Said, an_ontology, in_functional}
use Rattle.owl_documents.specs.OneWay.{NeverBoth, ReadOneWay, RefusedOneWay}
use Rattle.owl_kind.specs.Kinds.{Entity}
use Rattle.owl_messages.specs.Outcome.{Outcome, refusal_outcome}
use Rattle.owl_messages.specs.Trial.{tried}
use Rattle.owl_messages.specs.declared.trial.BreachCounts.{BreachCounts}
use Rattle.owl_messages.specs.declared.trial.Findings.{Findings}
use Rattle.owl_profiles.specs.Profiles.{Breaks, ProfileRule}
use Rattle.owl_answer.specs.Checks.{rules_of}
use Rattle.owl_answer.specs.Trials.{AreBreachCounts, AreFindings, HasBreaches, IsTrialOutcome, IsTried, both, no_manchester, no_turtle, not_read, read, trial_contents, trial_name, trial_source}
use Rattle.owl_command.specs.declared.command.Layout.TheVariants.{Flat}
use Rattle.owl_answer.specs.TurtleOutcome.{IsTold, canonical_said}
use Rattle.owl_answer.proofs.Closures.{own_alike, own_once}
use Rattle.owl_answer.proofs.ManchesterOnce as manchester
use Rattle.owl_answer.proofs.TurtleOnce.{same_said, told_once}
use Rattle.owl_answer.proofs.Wanting.{limited_once}

-- what holds of the same is told by one flag
flag_once : {P : Type 0} (a b : Bool) → IsTrue a ↔ P → IsTrue b ↔ P → a ≡ b
flag_once true true h k = refl
flag_once true false h k = sym (k.1 (h.0 refl))
flag_once false true h k = h.1 (k.0 refl)
flag_once false false h k = refl

count_once : (profile : Profile) (c : Ontologies) (m n : ℕ) → HasBreaches profile c m → HasBreaches profile c n → m ≡ n
count_once profile c m n h k =
    let found : h.breaches ≡ k.breaches = those_once (λ (s : Site ProfileRule). Breaks c s.rule s.ontology s.part) (sites (rules_of profile) c.all) h.breaches k.breaches h.are k.are in
    h.counted ∙ ap (λ (ss : List (Site ProfileRule)). length ss) found ∙ sym k.counted

counts_once : (c : Ontologies) (a b : BreachCounts) → AreBreachCounts c a → AreBreachCounts c b → a ≡ b
counts_once c a b h k = λ i. record {
  dl = count_once _ c a.dl b.dl h.dl k.dl i;
  el = count_once _ c a.el b.el h.el k.el i;
  ql = count_once _ c a.ql b.ql h.ql k.ql i;
  rl = count_once _ c a.rl b.rl h.rl k.rl i;
}

findings_once : (kinds : List Entity) (main : Said) (a b : Findings) → AreFindings kinds main a → AreFindings kinds main b → a ≡ b
findings_once kinds main a b h k = λ i. record {
  axioms = (h.axioms ∙ sym k.axioms) i;
  distinct = (h.distinct ∙ sym k.distinct) i;
  triples = (h.triples ∙ sym k.triples) i;
  turtle = flag_once a.turtle b.turtle h.turtle k.turtle i;
  manchester = flag_once a.manchester b.manchester h.manchester k.manchester i;
  breaches = counts_once _ a.breaches b.breaches h.breaches k.breaches i;
}

same_status : (a b : Outcome) → a ≡ b → b.status ≡ Done → a.status ≡ Done
same_status a b e d = ap (λ (o : Outcome). o.status) e ∙ d

module _ (kinds : List Entity) (main : Said) where
  turtle_once : (a b : Outcome) → IsTold Flat kinds main a → IsTold Flat kinds main b → a ≡ b
  turtle_once a b h k = told_once Flat kinds main a b h k

  pub tried_once : (a b : Outcome) → IsTried kinds main a → IsTried kinds main b → a ≡ b
  tried_once a b (no_turtle h n) (no_turtle k m) = turtle_once a b h k
  tried_once a b (no_turtle h n) (no_manchester t k d w m) = absurd (n (same_status a t (turtle_once a t h k) d))
  tried_once a b (no_turtle h n) (both t u k d w e f g l) = absurd (n (same_status a t (turtle_once a t h k) d))
  tried_once a b (no_manchester t k d w m) (no_turtle h n) = absurd (n (same_status b t (turtle_once b t h k) d))
  tried_once a b (no_manchester t k d w m) (no_manchester u h e x n) = manchester.told_once kinds main a b w x
  tried_once a b (no_manchester t k d w m) (both u v h e x c f g l) = absurd (m (same_status a v (manchester.told_once kinds main a v w x) c))
  tried_once a b (both t u k d w e f g l) (no_turtle h n) = absurd (n (same_status b t (turtle_once b t h k) d))
  tried_once a b (both u v h e x c f g l) (no_manchester t k d w m) = absurd (m (same_status b v (manchester.told_once kinds main b v w x) c))
  tried_once a b (both t u k d w e f g l) (both p q r s x y o z m) =
      let same = ap tried (findings_once kinds main f o g z) in
      limited_once (λ w. w ≡ tried f) (λ w. w ≡ tried o) (λ x y i j. i ∙ same ∙ sym j) a b l m

module _ (read_way : ReadOneWay) (refused_way : RefusedOneWay) (never : NeverBoth) where
  pub trial_once : (size : ℕ) (a b : Outcome) → IsTrialOutcome size a → IsTrialOutcome size b → a ≡ b
  trial_once size a b (not_read refusal n f e) (not_read other m g d) =
      e ∙ ap (refusal_outcome trial_name) (refused_way (trial_contents size) (trial_source ∷ []) trial_source trial_source refusal other f g).1 ∙ sym d
  trial_once size a b (not_read refusal n f e) (read said r kinds own t) =
      absurd (never (trial_contents size) (trial_source ∷ []) (an_ontology in_functional said ∷ []) trial_source refusal r f)
  trial_once size a b (read said r kinds own t) (not_read refusal n f e) =
      absurd (never (trial_contents size) (trial_source ∷ []) (an_ontology in_functional said ∷ []) trial_source refusal r f)
  trial_once size a b (read said r kinds own t) (read other s others theirs u) =
      let same : IsSame said other = (read_way (trial_contents size) (trial_source ∷ []) (an_ontology in_functional said ∷ []) (an_ontology in_functional other ∷ []) r s).0.1 in
      let declared : kinds ≡ others = own_once (an_ontology in_functional other) kinds others (own_alike (an_ontology in_functional said) (an_ontology in_functional other) kinds (refl, same) own) theirs in
      let form : canonical_said said ≡ canonical_said other = same_said said other same in
      let there = subst (λ (main : Said). IsTried others main a) form (subst (λ (k : List Entity). IsTried k (canonical_said said) a) declared t) in
      tried_once others (canonical_said other) a b there u
