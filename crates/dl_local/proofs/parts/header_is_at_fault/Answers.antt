use Rattle.std.proofs.Common.{true, ◌≡◌, ◌↔◌, sym, subst}
use Rattle.owl_arena.specs.Held.{trees_at}
use Rattle.owl_doc.specs.Parts.{of_header}
use Rattle.dl_rules.specs.Rules.{Breaks}
use Rattle.owl_breaches.proofs.OneLaws.{never}
use Rattle.dl_local.proofs.PartLaws.{header_keeps, names_told, typing_told}
use Rattle.dl_local.proofs.parts.header_is_at_fault.Goals as goal

pub returns-in-Typing-clause-local : goal.returns-in-Typing-clause-local
returns-in-Typing-clause-local c =
    λ k ts o each held local.
    subst (λ r. (c.some_has.result ≡ true) ↔ Breaks k r o (of_header (trees_at ts c.args.notes.now))) (sym c.in-Typing.is)
    (typing_told k o ts c.args.found.now each c.args.notes.now c.some_has.result held c.some_has.ensures)

pub returns-in-ReservedName-clause-local : goal.returns-in-ReservedName-clause-local
returns-in-ReservedName-clause-local c =
    λ k ts o each held local.
    subst (λ r. (c.some_has-in-ReservedName.result ≡ true) ↔ Breaks k r o (of_header (trees_at ts c.args.notes.now))) (sym c.in-ReservedName.is)
    (names_told k o ts c.args.found.now each c.args.notes.now c.some_has-in-ReservedName.result held c.some_has-in-ReservedName.ensures)

pub returns-in_default-clause-local : goal.returns-in_default-clause-local
returns-in_default-clause-local c = λ k ts o each held local. never (header_keeps k o (trees_at ts c.args.notes.now) c.args.rule c.in_default.not-Typing c.in_default.not-ReservedName local)
