use Rattle.std.proofs.Common.{arith, rules, ◌≡◌, ◌∷◌, [], subst, sym}
use Rattle.std.proofs.lemmas.Option.{same_Some}
use Rattle.owl_tree.specs.declared.atom.Atom.TheVariants as atom
use Rattle.owl_tree.specs.declared.tag.Tag.TheVariants as tag
use Rattle.owl_tree.specs.Trees.{kids_of, leaf, node}
use Rattle.tree_stores.proofs.StoreLaws.{are_standing, few_are_small, only_memory}
use Rattle.tree_stores.specs.Stores.{StandFor}
use Rattle.rdf_nodes.proofs.build.hold_facet.Goals as goal

pub hold_node-requires : goal.hold_node-requires
hold_node-requires g c =
    let Stands = g.S.TreeStore.stands c.hold_leaf-2.new.self in
    let facet = leaf tag.Facet (atom.Iri c.args.facet) in
    let value = leaf tag.Literal (atom.Literal c.args.value) in
    let items : c.push-2.new.self.items ≡ c.in_ok-facet.facet ∷ c.in_ok-value.value ∷ [] = search rules in
    let kept = c.hold_leaf-2.ensures.kept facet c.in_ok-facet.facet c.in_ok-facet.ensures.held in
    are_standing Stands (facet ∷ value ∷ []) c.push-2.new.self.items (subst (StandFor Stands (facet ∷ value ∷ [])) (sym items) (kept, (c.in_ok-value.ensures.held, tt)))

pub returns-in-Ok-clause-held : goal.returns-in-Ok-clause-held
returns-in-Ok-clause-held g c =
    let Stands = g.S.TreeStore.stands c.hold_leaf-2.new.self in
    let facet = leaf tag.Facet (atom.Iri c.args.facet) in
    let value = leaf tag.Literal (atom.Literal c.args.value) in
    let items : c.push-2.new.self.items ≡ c.in_ok-facet.facet ∷ c.in_ok-value.value ∷ [] = search rules in
    let kept = c.hold_leaf-2.ensures.kept facet c.in_ok-facet.facet c.in_ok-facet.ensures.held in
    let numbers = subst (StandFor Stands (facet ∷ value ∷ [])) (sym items) (kept, (c.in_ok-value.ensures.held, tt)) in
    λ t e. subst (λ u. g.S.TreeStore.stands c.hold_node.new.self u c.in-Ok.number) (same_Some _ t e) (c.in-Ok.ensures.held (facet ∷ value ∷ []) numbers)

pub unreachable-requires : goal.unreachable-requires
unreachable-requires g c =
    let Stands = g.S.TreeStore.stands c.hold_leaf-2.new.self in
    let facet = leaf tag.Facet (atom.Iri c.args.facet) in
    let value = leaf tag.Literal (atom.Literal c.args.value) in
    let pair = node tag.FacetPair (kids_of (facet ∷ value ∷ [])) in
    let items : c.push-2.new.self.items ≡ c.in_ok-facet.facet ∷ c.in_ok-value.value ∷ [] = search rules in
    let kept = c.hold_leaf-2.ensures.kept facet c.in_ok-facet.facet c.in_ok-facet.ensures.held in
    let numbers = subst (StandFor Stands (facet ∷ value ∷ [])) (sym items) (kept, (c.in_ok-value.ensures.held, tt)) in
    let told = c.in-Err-TooDeep.ensures.fault (facet ∷ value ∷ []) numbers in
    let other = only_memory pair (few_are_small pair (omega arith) (omega arith)) _ told in
    cc

pub unreachable-requires-in-Err-TooHeavy : goal.unreachable-requires-in-Err-TooHeavy
unreachable-requires-in-Err-TooHeavy g c =
    let Stands = g.S.TreeStore.stands c.hold_leaf-2.new.self in
    let facet = leaf tag.Facet (atom.Iri c.args.facet) in
    let value = leaf tag.Literal (atom.Literal c.args.value) in
    let pair = node tag.FacetPair (kids_of (facet ∷ value ∷ [])) in
    let items : c.push-2.new.self.items ≡ c.in_ok-facet.facet ∷ c.in_ok-value.value ∷ [] = search rules in
    let kept = c.hold_leaf-2.ensures.kept facet c.in_ok-facet.facet c.in_ok-facet.ensures.held in
    let numbers = subst (StandFor Stands (facet ∷ value ∷ [])) (sym items) (kept, (c.in_ok-value.ensures.held, tt)) in
    let told = c.in-Err-TooHeavy.ensures.fault (facet ∷ value ∷ []) numbers in
    let other = only_memory pair (few_are_small pair (omega arith) (omega arith)) _ told in
    cc
