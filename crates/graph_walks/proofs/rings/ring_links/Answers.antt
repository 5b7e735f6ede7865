use Rattle.std.proofs.Common.{◌≡◌, ◌∙◌, List, ℕ, Bool, map, ap, subst, sym}
use Rattle.graph_walks.specs.Marks.{MarkEach}
use Rattle.graph_walks.specs.Parts.{AreParts, is_level}
use Rattle.graph_walks.specs.Rings.{ClosesRing, EnteredOnce}
use Rattle.graph_walks.specs.Walks.{AreWithin}
use Rattle.graph_walks.proofs.Entering.{turned_within}
use Rattle.graph_walks.proofs.RingLaws.{ring_marks}
use Rattle.graph_walks.proofs.rings.ring_links.Goals as goal

pub parts-requires : goal.parts-requires
parts-requires c =
    subst (λ (pairs : List (ℕ × ℕ)). AreWithin c.args.nodes pairs) (sym c.deref.ensures.value) (turned_within c.args.links.now c.in_ok-turned.turned.items c.in_ok-turned.ensures c.args.nodes c.requires)

pub returns-then-branch : goal.returns-then-branch
returns-then-branch c =
    let nodes = c.args.nodes in
    let links = c.args.links.now in
    let turned = c.in_ok-turned.turned.items in
    let numbers = c.in_ok-numbers.numbers.items in
    let parts : AreParts nodes turned numbers = subst (λ (pairs : List (ℕ × ℕ)). AreParts nodes pairs numbers) c.deref.ensures.value c.in_ok-numbers.ensures in
    let told : EnteredOnce c.deref-3.result.now c.deref-2.result.now = c.in_ok-are_entered_once.ensures c.if-branch.true in
    let once : EnteredOnce numbers turned = subst (λ (ns : List ℕ). EnteredOnce ns turned) c.deref-3.ensures.value (subst (λ (pairs : List (ℕ × ℕ)). EnteredOnce c.deref-3.result.now pairs) c.deref-2.ensures.value told) in
    let pairs_now = c.deref-then-branch.ensures.value in
    let numbers_now = c.deref-then-branch-2.ensures.value in
    let same : c.in_ok-level_marks.field-0.items ≡ map (is_level numbers) turned =
    c.in_ok-level_marks.ensures ∙ ap (λ (pairs : List (ℕ × ℕ)). map (is_level c.deref-then-branch-2.result.now) pairs) pairs_now ∙ ap (λ (ns : List ℕ). map (is_level ns) turned) numbers_now in
    subst (λ (marks : List Bool). MarkEach (ClosesRing links) links marks) (sym same) (ring_marks nodes links turned numbers c.requires c.in_ok-turned.ensures parts once)
