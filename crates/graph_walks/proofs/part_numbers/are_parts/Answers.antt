use Rattle.std.proofs.Common.{◌≡◌, ◌∙◌, List, ℕ, length, subst, sym, rules}
use Rattle.graph_walks.specs.Parts.{AreApart, NoneGoesUp}
use Rattle.graph_walks.proofs.Parting.{level_within, parts_by_joined}
use Rattle.graph_walks.proofs.part_numbers.are_parts.Goals as goal

pub are_joined-requires : goal.are_joined-requires
are_joined-requires c = level_within c.args.nodes c.args.pairs.now c.args.numbers.now c.deref.result.now (c.deref.ensures.value ∙ c.in_ok-level.ensures) c.requires

pub returns : goal.returns
returns c =
    λ yes.
    let numbers = c.args.numbers.now in
    let apart : AreApart numbers c.deref-2.result.now = subst (λ (roots : List ℕ). AreApart numbers roots) (sym c.deref-2.ensures.value) c.in_ok-roots.ensures in
    let size : length numbers ≡ c.args.nodes = search rules in
    let none : NoneGoesUp c.args.pairs.now numbers = search rules in
    parts_by_joined c.args.nodes c.args.pairs.now numbers c.deref-2.result.now c.deref.result.now (c.deref.ensures.value ∙ c.in_ok-level.ensures) apart (c.in_ok-are_joined.ensures.forth yes) (c.in_ok-are_joined.ensures.back yes) size none
