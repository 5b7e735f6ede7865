use Rattle.std.proofs.Common.{◌≡◌, ◌∙◌, ap, ℕ, Bool, false, List, nat_eq, slice_index_or}
use Rattle.std.specs.List.{list_any}
use Rattle.owl_doc.proofs.Collections.{told}
use Rattle.owl_doc.proofs.collected.Collected.has.Goals as goal

pub returns-clause-has : goal.returns-clause-has
returns-clause-has c =
    let marked : c.is_marked.result ≡ list_any (nat_eq c.args.id) c.self.inside.ids.items =
    c.is_marked.ensures
    ∙ ap (λ (marks : List Bool). slice_index_or marks c.place.result false) c.deref.ensures.value
    ∙ ap (λ (place : ℕ). slice_index_or c.self.inside.marks.items place false) c.place.ensures
    ∙ c.self.invariant.marked c.args.id in
    rw (marked, ← c.self.view_is) (told c.self.inside.ids.items c.args.id)
