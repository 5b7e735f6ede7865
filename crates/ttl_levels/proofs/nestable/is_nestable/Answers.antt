use Rattle.std.proofs.Common.{◌∙◌, ap, sym, List, length, nat_eq, rules}
use Rattle.std.specs.List.{list_all}
use Rattle.rdf_graph.specs.declared.term.Term.{Term}
use Rattle.rdf_graph.specs.declared.triple.Triple.{Triple}
use Rattle.rdf_meaning.specs.Nodes.{is_own, role_of}
use Rattle.ttl_levels.specs.Nested.{named_by}
use Rattle.ttl_levels.proofs.NestableLaws.{nestable_by}
use Rattle.ttl_levels.proofs.nestable.is_nestable.Goals as goal

pub returns : goal.returns
returns c =
    let g = c.args.graph.now in
    let x = c.args.term.now in
    nestable_by g x c.role-role.result c.is_part.result c.is_named_once.result c.are_own.result
    (c.role-role.ensures g c.requires.table ∙ ap (role_of g) (sym c.in-Blank.is)) c.is_part.ensures (search rules)
    (c.is_named_once.ensures ∙ ap (λ (y : Term). nat_eq (length (named_by g y)) 1) (sym c.in-Blank.is)) (search rules)
    (c.are_own.ensures ∙ ap (λ (ts : List Triple). list_all (is_own c.role-role.result) ts) c.about.ensures)
