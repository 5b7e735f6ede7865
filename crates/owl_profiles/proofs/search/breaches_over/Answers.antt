use Rattle.std.proofs.Common.{List, [], map, sym, subst}
use Rattle.std.proofs.lemmas.Result.{IfOk-weaker}
use Rattle.breach_lists.specs.Adding.{AddsSites}
use Rattle.breach_lists.specs.Telling.{ontologies_of}
use Rattle.owl_breaches.specs.Sites.{sites}
use Rattle.owl_doc.specs.Documents.{ontology_of}
use Rattle.profile_sorts.specs.Sets.{AreSorts}
use Rattle.owl_profiles.specs.declared.rules.AxiomRule.{AxiomRule}
use Rattle.owl_profiles.specs.Lacking.{MarkLacking}
use Rattle.owl_profiles.specs.Rules.{BreaksIt, axiom_name}
use Rattle.owl_profiles.proofs.Assembling.{known_for, tells_all}
use Rattle.owl_profiles.proofs.search.breaches_over.Goals as goal

pub lacking_chains-requires : goal.lacking_chains-requires
lacking_chains-requires c = record { closure = c.args.closure.now; pooled = c.requires }

pub list_breaches-requires : goal.list_breaches-requires
list_breaches-requires c =
    let ts = c.args.arena.now.trees in
    known_for c.args.profile _ c.rules.result.now c.rules.ensures c.requires
    (subst (AreSorts ts) (sym c.deref.ensures.value) c.in_ok-sets.ensures)
    (λ is. subst (MarkLacking ts c.args.pooled.now) (sym c.deref-2.ensures.value) (c.in_ok-lacking.ensures is))

pub returns : goal.returns
returns c =
    IfOk-weaker c.list_breaches.result _ _
    (λ found adds. tells_all c.args.profile c.args.closure.now found.items
    (subst (λ (rules : List AxiomRule). AddsSites axiom_name (BreaksIt (ontologies_of c.args.closure.now)) c.args.closure.now.documents (sites rules (map ontology_of c.args.closure.now.documents)) [] found.items) c.rules.ensures adds))
    c.list_breaches.ensures
