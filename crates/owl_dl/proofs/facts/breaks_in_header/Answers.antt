use Rattle.std.proofs.Common.{sym, subst}
use Rattle.std.specs.Prelude.{IsTrue, ◌↔◌}
use Rattle.dl_rules.specs.declared.rule.DlRule.{DlRule}
use Rattle.dl_rules.specs.Rules.{Breaks}
use Rattle.owl_arena.specs.Held.{trees_at}
use Rattle.owl_doc.specs.Heads.{head_of}
use Rattle.owl_doc.specs.Parts.{of_header}
use Rattle.owl_dl.specs.Facts.{closure_in}
use Rattle.owl_dl.proofs.Telling.{by_name, by_notes}
use Rattle.owl_dl.proofs.facts.breaks_in_header.Goals as goal

pub returns-in-OntologyIri : goal.returns-in-OntologyIri
returns-in-OntologyIri c =
    λ o is.
    subst (λ (rule : DlRule). IsTrue c.has_reserved_name.result ↔ Breaks (closure_in c.args.facts.now) rule o (of_header (trees_at c.args.facts.now.arena.now.trees c.args.notes.now))) (sym c.in-OntologyIri.is)
    (by_name (closure_in c.args.facts.now) o (trees_at c.args.facts.now.arena.now.trees c.args.notes.now) (head_of c.args.head.now) c.has_reserved_name.result is c.has_reserved_name.ensures)

pub returns-in_default : goal.returns-in_default
returns-in_default c =
    λ o is.
    by_notes (closure_in c.args.facts.now) o (trees_at c.args.facts.now.arena.now.trees c.args.notes.now) c.args.rule c.header_is_at_fault.result
    (c.header_is_at_fault.ensures.local (closure_in c.args.facts.now) c.args.facts.now.arena.now.trees o c.requires.facts.local c.requires.notes)
    c.header_is_at_fault.ensures.other c.in_default.not-OntologyIri
