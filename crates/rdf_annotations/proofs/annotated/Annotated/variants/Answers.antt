use Rattle.std.specs.Prelude.{◌≡◌, length}
use Rattle.std.proofs.Common.{rules, ap, eq-eqb, ◌∙◌}
use Rattle.std.proofs.lemmas.List.{nil_from_length}
use Rattle.std.proofs.lemmas.Result.{IfOk-weaker}
use Rattle.std.proofs.lemmas.Bool.{both_ways}
use Rattle.rdf_meaning.specs.Statements.{noters}
use Rattle.rdf_annotations.specs.Annotations.{HasSet}
use Rattle.rdf_annotations.proofs.Saying.{there}
use Rattle.rdf_annotations.proofs.Setting.{bare_variants, noted_variants, numbers_have}
use Rattle.rdf_annotations.proofs.annotated.Annotated.variants.Goals as goal

pub returns-then-is_empty : goal.returns-then-is_empty
returns-then-is_empty g c = λ t at.
    let r = c.args.self.now.reading in
    let named = c.at-numbers.ensures.noters r.graph.now r.roles.now t c.requires.annotated.noters at in
    let none : length c.at-numbers.result.now ≡ 0 = search rules in
    IfOk-weaker c.only.result _ _
    (λ v e. bare_variants (g.S.TreeStore.stands c.args.store.now) r.graph.now r.kinds.now r.roles.now t c.at-numbers.result.now v.items c.args.sets.now.empty
    (nil_from_length c.at-numbers.result.now none) e named c.requires.sets.empty_set) c.only.ensures

pub sets_of-requires-clause-known : goal.sets_of-requires-clause-known
sets_of-requires-clause-known g c =
    let r = c.args.self.now.reading in
    let t = there r.graph.now c.args.place c.requires.place in
    let named = c.at-numbers.ensures.noters r.graph.now r.roles.now t.0 c.requires.annotated.noters t.1 in
    numbers_have r.roles.now (HasSet c.args.sets.now.of_nodes.items) (noters r.graph.now t.0) c.at-numbers.result.now named (c.requires.known t.0 t.1)

pub returns-else-is_empty : goal.returns-else-is_empty
returns-else-is_empty g c = λ t at.
    let r = c.args.self.now.reading in
    let named = c.at-numbers.ensures.noters r.graph.now r.roles.now t c.requires.annotated.noters at in
    IfOk-weaker c.sets_of.result _ _
    (λ ns sets. noted_variants (g.S.TreeStore.stands c.args.store.now) r.graph.now r.kinds.now r.roles.now t c.at-numbers.result.now ns.items
    (λ e. let none : length c.at-numbers.result.now ≡ 0 = ap length e in both_ways c.is_empty.result c.if-is_empty.false (c.is_empty.ensures ∙ eq-eqb (length c.at-numbers.result.now) 0 none)) named sets) (c.sets_of.ensures (noters r.graph.now t) named)
