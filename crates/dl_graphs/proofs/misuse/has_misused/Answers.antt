use Rattle.std.proofs.Common.{◌≡◌, ◌↔◌, ◌∙◌, Bool, Option, ap, subst, sym, true}
use Rattle.owl_arena.specs.Held.{tree_at}
use Rattle.dl_rules.specs.Local.{HasMisusedDatatype}
use Rattle.dl_graphs.specs.declared.ranges.DefinedRange.{DefinedRange}
use Rattle.dl_graphs.specs.Ranges.{is_misused, used_in}
use Rattle.dl_graphs.proofs.RangeLaws.{misused_by}
use Rattle.dl_graphs.proofs.misuse.has_misused.Goals as goal

pub returns-in-Some : goal.returns-in-Some
returns-in-Some c = λ axs known.
    let ts = c.args.arena.now.trees in
    let t = tree_at ts c.args.id in
    let told = misused_by ts axs c.in-Some.iri.now c.args.table.now.entries (used_in t) known c.in-Some.ensures in
    let is = c.is_misused.ensures ∙ ap (λ (o : Option DefinedRange). is_misused c.in-Some.iri.now o) c.range_of.ensures in
    subst (λ (b : Bool). (b ≡ true) ↔ HasMisusedDatatype axs t) (sym is) told
