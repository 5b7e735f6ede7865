use Rattle.std.proofs.Common.{rules, ◌≡◌, ◌∙◌, ◌++◌, ◌∷◌, ◌<◌, [], ℕ, Bool, List, true, false, cond, length, nat_eq, slice_index_or, slice_set, ap, sym, subst}
use Rattle.std.specs.List.{Contains}
use Rattle.owl_doc.proofs.Collections.{known_pushed, mark_put, once_pushed}
use Rattle.owl_doc.proofs.collected.Collected.push.Goals as goal

pub invariant_of-self-2 : goal.invariant_of-self-2
invariant_of-self-2 c =
    let pushed : c.push.new.self.items ≡ c.self.inside.ids.items ++ c.args.id ∷ [] = search rules in
    let old = c.self.inside.marks.items in
    let room = c.make_room.new.marks.items in
    let within : c.args.id < length room = subst (λ (place : ℕ). place < length room) c.place.ensures c.in_ok-make_room.ensures.room in
    let put : (q : ℕ) → slice_index_or (slice_set room c.place-2.result true) q false ≡ cond (nat_eq c.args.id q) true (slice_index_or old q false) = λ q.
    ap (λ (place : ℕ). slice_index_or (slice_set room place true) q false) c.place-2.ensures
    ∙ mark_put room c.args.id q within
    ∙ ap (λ (b : Bool). cond (nat_eq c.args.id q) true b) (c.make_room.ensures.same q) in
    record {
      once = rw pushed (once_pushed c.self.inside.ids.items c.args.id c.self.invariant.once (subst (λ (ids : List ℕ). Contains ids c.args.id → ⊥) (sym c.self.view_is) c.requires));
      marked = rw pushed (known_pushed c.self.inside.ids.items c.args.id (λ q. slice_index_or old q false) (λ q. slice_index_or (slice_set room c.place-2.result true) q false) c.self.invariant.marked put);
    }
