use Rattle.std.proofs.Common.{slice_get, ap, ◌∙◌, rules, arith}
use Rattle.owl_arena.specs.Held.{Held}
use Rattle.owl_arena.proofs.Found.{found, not_found}
use Rattle.owl_arena.proofs.arena.Arena.find.Goals as goal

pub returns-in_err-place-clause-none : goal.returns-in_err-place-clause-none
returns-in_err-place-clause-none c = λ _. not_found _ _ _ (ap (λ (held : Held). held.trees) c.self.view_is) c.self.invariant c.requires.below (c.find.ensures.none (search rules))

pub at-requires : goal.at-requires
at-requires c =
    let at = found _ _ _ _ (ap (λ (held : Held). held.trees) c.self.view_is) c.self.invariant c.in_ok-place.ensures.some c.in_ok-place.ensures.here in
    omega arith

pub returns-clause-some : goal.returns-clause-some
returns-clause-some c =
    let at = found _ _ _ _ (ap (λ (held : Held). held.trees) c.self.view_is) c.self.invariant c.in_ok-place.ensures.some c.in_ok-place.ensures.here in
    ap (slice_get c.args.self.now.trees) c.at.ensures ∙ at.here
