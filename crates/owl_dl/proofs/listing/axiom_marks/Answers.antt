use Rattle.std.proofs.Common.{◌≡◌, ℕ, Bool, List, sym, subst, rules}
use Rattle.std.proofs.lemmas.Result.{IfOk-weaker}
use denote.Enum.Bare.{same_true}
use Rattle.dl_rules.specs.contracts.rule.DlRule.{the_type}
use Rattle.dl_rules.specs.Assertions.{ClosesRing, link_of, links}
use Rattle.dl_rules.specs.declared.rule.DlRule.{DlRule}
use Rattle.dl_rules.specs.declared.rule.DlRule.TheVariants.{Forest}
use Rattle.dl_rules.specs.Rules.{Breaks}
use Rattle.graph_walks.specs.Marks.{MarkEach}
use Rattle.owl_arena.specs.Held.{trees_at}
use Rattle.owl_breaches.specs.Sites.{Ontologies}
use Rattle.owl_breaches.specs.Those.{HoldsOfSome}
use Rattle.owl_doc.specs.Parts.{of_axiom}
use Rattle.owl_tree.specs.Ontologies.{Ontology}
use Rattle.owl_tree.specs.Trees.{Tree}
use Rattle.owl_dl.specs.Facts.{closure_in}
use Rattle.owl_dl.proofs.listing.axiom_marks.Goals as goal

abbrev Marks : Ontologies → DlRule → Ontology → List Tree → List Bool → Type 0
Marks c rule o axioms marks = MarkEach (λ (_ : ℕ) (t : Tree). Breaks c rule o (of_axiom t)) axioms marks

-- where all axioms of the ontology are marked
marks_of_rings : (c : Ontologies) (rule : DlRule) (o : Ontology) (axioms : List Tree) (marks : List Bool) → rule ≡ Forest → axioms ≡ o.axioms →
    MarkEach (λ (_ : ℕ) (t : Tree). HoldsOfSome (ClosesRing (links axioms)) (link_of t)) axioms marks → Marks c rule o o.axioms marks
unfolding Breaks
marks_of_rings c rule o axioms marks is same each =
    subst (λ (r : DlRule). Marks c r o o.axioms marks) (sym is)
    (subst (λ (ts : List Tree). MarkEach (λ (_ : ℕ) (t : Tree). HoldsOfSome (ClosesRing (links ts)) (link_of t)) ts marks) same each)

pub returns-then-eq : goal.returns-then-eq
returns-then-eq c =
    let ts = c.args.facts.now.arena.now.trees in
    let is : c.args.rule ≡ Forest = same_true the_type (search rules) _ _ (sym c.if-eq.ensures) in
    IfOk-weaker c.ring_assertions.result _ _ (λ marks each o same. marks_of_rings (closure_in c.args.facts.now) c.args.rule o (trees_at ts c.args.axioms.now) marks.items is same each) c.ring_assertions.ensures

pub returns : goal.returns
returns c = λ o same.
    subst (λ (ts : List Tree). Marks (closure_in c.args.facts.now) c.args.rule o ts c.in_ok-marks_by_test.field-0.items) same (c.in_ok-marks_by_test.ensures o)
