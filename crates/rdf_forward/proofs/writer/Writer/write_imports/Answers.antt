use Rattle.std.proofs.Common.{ℕ, List, subst}
use Rattle.rdf_counts.proofs.ArenaLaws.{first_and, none_left}
use Rattle.rdf_forward.proofs.Headers.{ImportsOn, imports_end, imports_next}
use Rattle.rdf_forward.proofs.writer.Writer.write_imports.Goals as goal

pub loop-left-preserved : goal.loop-left-preserved
loop-left-preserved c =
    let e = first_and c.loop-left.left.now c.iri-item.result c.in-len1-up.len_at_least c.iri-item.is in
    imports_next _ _ _ _ _ _ _ c.in_ok-link_iri.ensures (subst (λ (l : List (List ℕ)). ImportsOn c.args.holder.now c.args.self.now c.loop-left.self c.args.imports.now l) e c.loop-left.invariant)

pub returns : goal.returns
returns c =
    let none = none_left c.loop-left.left.now c.in_default.len_below in
    imports_end _ _ _ _ (subst (λ (l : List (List ℕ)). ImportsOn c.args.holder.now c.args.self.now c.loop-left.self c.args.imports.now l) none c.loop-left.invariant)
