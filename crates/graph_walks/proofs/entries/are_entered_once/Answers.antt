use Rattle.std.proofs.Common.{◌∙◌, sym, ap}
use Rattle.std.specs.Prelude.{slice_index}
use Rattle.graph_walks.proofs.entries.are_entered_once.Goals as goal

pub returns : goal.returns
returns c =
    λ yes j k hj hk crosses passes same.
    let entered = c.are_entries.ensures.0 yes in
    sym (entered j hj crosses) ∙ ap (slice_index c.deref.result.now) same ∙ entered k hk passes
