use Rattle.std.proofs.Common.{ap, option_map, sym, ◌∙◌}
use denote.Ref.{Bor}
use Rattle.rdf_graph.specs.declared.term.Term.{Term}
use Rattle.rdf_meaning.specs.Denotation.{select}
use Rattle.rdf_rows.proofs.NodeTripleLaws.{only_is}
use Rattle.rdf_statements.proofs.Finding.{none_given, not_given}
use Rattle.rdf_statements.proofs.Forming.{found_more}
use Rattle.rdf_statements.proofs.forms.kids_at.Goals as goal

pub returns-in-Some-clause-kids : goal.returns-in-Some-clause-kids
returns-in-Some-clause-kids c = λ b at.
    let g = c.args.source.now.graph.now in
    let x = c.in-Some.term.now in
    let only = (only_is (select g b c.args.part.now.place) x).0 (sym (c.term_at.ensures g b at) ∙ ap (option_map (λ (y : Bor Term). y.now)) c.in-Some.is) in
    found_more (λ kids gives. record { object = x; selected = only; gives = gives }) c.kids_of_term.result c.kids_of_term.ensures.kids

pub returns-in-Some-clause-none : goal.returns-in-Some-clause-none
returns-in-Some-clause-none c = λ b at formed.
    let g = c.args.source.now.graph.now in
    let x = c.in-Some.term.now in
    let only = (only_is (select g b c.args.part.now.place) x).0 (sym (c.term_at.ensures g b at) ∙ ap (option_map (λ (y : Bor Term). y.now)) c.in-Some.is) in
    not_given g c.args.source.now.kinds.now b c.args.part.now x only c.kids_of_term.result (c.kids_of_term.ensures.none formed)

pub returns-in-None-clause-none : goal.returns-in-None-clause-none
returns-in-None-clause-none c = λ b at formed _.
    let g = c.args.source.now.graph.now in
    none_given g c.args.source.now.kinds.now b c.args.part.now (sym (ap (option_map (λ (y : Bor Term). y.now)) c.in-None.is) ∙ c.term_at.ensures g b at)
