use Rattle.std.proofs.Common.{◌≡◌, true, false, arith, sym, ap, ◌∙◌}
use Rattle.std.specs.Str.{chars}
use Rattle.owl_arena.specs.Held.{tree_at}
use Rattle.owl_tree.specs.declared.atom.Atom.TheVariants as atom
use Rattle.owl_tree.specs.declared.tag.Tag.TheVariants as tag
use Rattle.owl_tree.specs.Trees.{leaf}
use Rattle.property_hierarchy.proofs.Placing.{first_place, none_before_more}
use Rattle.property_hierarchy.proofs.builtin.place_by.Goals as goal

pub places-init : goal.places-init
places-init c = λ k h e. omega (arith, h)

pub places-preserved : goal.places-preserved
places-preserved c =
    none_before_more c.args.arena.now.trees (leaf tag.ObjectProperty (atom.Iri (chars c.args.iri.now))) c.places.place c.places.invariant
    (λ e. let no : false ≡ true = sym c.if-names.false ∙ c.names.ensures.1 (ap (tree_at c.args.arena.now.trees) c.at.ensures ∙ e) in cc)

pub returns-then-names : goal.returns-then-names
returns-then-names c =
    first_place c.args.arena.now.trees (leaf tag.ObjectProperty (atom.Iri (chars c.args.iri.now))) c.places.place (omega arith) c.places.invariant
    (λ _. sym (ap (tree_at c.args.arena.now.trees) c.at.ensures) ∙ c.names.ensures.0 c.if-names.true)

pub returns : goal.returns
returns c =
    let all : c.places.place ≡ c.distinct-count.result = omega arith in
    sym all ∙ first_place c.args.arena.now.trees (leaf tag.ObjectProperty (atom.Iri (chars c.args.iri.now))) c.places.place (omega arith) c.places.invariant (λ within. absurd (omega (arith, within)))
