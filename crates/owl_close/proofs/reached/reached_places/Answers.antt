use Rattle.std.proofs.Common.{List, ℕ, ap, ◌∙◌, subst, sym, rules, arith}
use Rattle.std.proofs.lemmas.List.{length-map}
use Rattle.owl_close.specs.Imports.{heads_of}
use Rattle.owl_close.specs.Searches.{AddsImported}
use Rattle.owl_doc.specs.Heads.{head_of}
use Rattle.owl_doc.specs.declared.head.Head as held
use Rattle.owl_close.proofs.Places.{imports_at}
use Rattle.owl_close.proofs.ReachingLaws.{all_reached, at_most, begun, followed_further, place_within}
use Rattle.owl_close.proofs.reached.reached_places.Goals as goal

pub places-init : goal.places-init
places-init c = rw c.in_ok-places.ensures.items (begun (heads_of c.args.heads.now))

pub offset_bounds-heads-from : goal.offset_bounds-heads-from
offset_bounds-heads-from c =
    let within = place_within c.args.heads.now c.places.places.items c.places.next c.index-from.result.now (omega arith) c.places.invariant (omega arith) c.index-from.ensures in
    search rules

pub bounds-heads-from : goal.bounds-heads-from
bounds-heads-from c =
    place_within c.args.heads.now c.places.places.items c.places.next c.index-from.result.now (omega arith) c.places.invariant (omega arith) c.index-from.ensures

pub places-smaller : goal.places-smaller
places-smaller c =
    let long = length-map c.args.heads.now head_of in
    let few = at_most (heads_of c.args.heads.now) c.places.places.items c.places.next (omega arith) c.places.invariant in
    omega arith

pub places-preserved : goal.places-preserved
places-preserved c =
    let heads = heads_of c.args.heads.now in
    let head = c.index-heads-from.result in
    let from = c.index-from.result.now in
    let old = c.places.places.items in
    let new = c.add_imported.new.places.items in
    let within = place_within c.args.heads.now old c.places.next from (omega arith) c.places.invariant (omega arith) c.index-from.ensures in
    let imports = c.deref.ensures.value ∙ ap (λ (h : held.Head). h.imports.items) (sym c.index-heads-from.is) in
    let added : AddsImported heads head.imports.items old new =
    subst (λ (xs : List (List ℕ)). AddsImported heads xs old new) imports c.in_ok-add_imported.ensures in
    let same = imports_at c.args.heads.now from head within c.index-heads-from.is in
    followed_further heads old new c.places.next from head.imports.items c.places.invariant (omega arith) c.index-from.ensures same added

pub returns : goal.returns
returns c =
    rw c.arrange.ensures (all_reached (heads_of c.args.heads.now) c.places.places.items c.places.next c.places.invariant (omega arith))
