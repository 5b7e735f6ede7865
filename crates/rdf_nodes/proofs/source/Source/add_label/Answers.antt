use Rattle.std.proofs.Common.{◌≡◌, ◌+◌, Some, OnOk, slice_get, length, refl, ap, sym, subst, ◌∙◌}
use Rattle.std.proofs.lemmas.Bool.{ltb-true}
use Rattle.std.proofs.lemmas.Option.{slice_get_read}
use Rattle.rdf_nodes.specs.Nodes.{HoldNumbersUpTo}
use Rattle.rdf_nodes.proofs.Labelling.{none_put, one_more_held}
use Rattle.rdf_nodes.proofs.source.Source.add_label.Goals.{in-Ok, in-Err}
use Rattle.rdf_nodes.proofs.source.Source.add_label.Goals as goal

pub returns-then-not-is_expression : goal.returns-then-not-is_expression
returns-then-not-is_expression c = λ trees are h.
    none_put c.args.self.now.graph.now c.args.self.now.kinds.now c.args.self.now.roles.now trees c.args.number c.args.table.now.entries c.in-Some.label.now c.role.result
    c.in-Some.ensures (c.role.ensures c.args.self.now.graph.now c.requires.table) (sym c.if-not-is_expression.ensures) h

pub returns : goal.returns
returns c = λ trees are h.
    let g = c.args.self.now.graph.now in
    let k = c.args.self.now.kinds.now in
    let roles = c.args.self.now.roles.now in
    let held = HoldNumbersUpTo g k roles trees (c.args.number + 1) c.insert.new.self.entries in
    let found = c.in-Some-Some.ensures.lookup in
    let at : slice_get c.args.ids.now c.args.number ≡ Some (Some c.in-Some-Some.id) =
    slice_get_read c.args.ids.now (length c.args.ids.now) c.args.number c.in-Some-Some.field-0.now refl (ltb-true c.args.number (length c.args.ids.now) (sym found.0)) found.1
    ∙ ap Some c.in-Some-Some.field-0-is in
    elim c.match-insert.branch [
      | in-Ok w ↦
          subst (λ r. OnOk r held) (sym w.result-is)
          (one_more_held g k roles trees c.args.ids.now c.args.number c.args.table.now.entries c.insert.new.self.entries c.in-Some.label.now c.in_ok-copy.field-0 c.in-Some-Some.id are
          c.in-Some.ensures at c.in_ok-copy.ensures w.in-Ok.ensures.updates.0 h)
      | in-Err w ↦ subst (λ r. OnOk r held) (sym w.result-is) tt
    ]
