use Rattle.std.proofs.Common.{List, ℕ, ◌++◌, ◌∷◌, [], subst, sym, take, rules}
use Rattle.owl_close.specs.Imports.{heads_of}
use Rattle.owl_close.specs.Searches.{AddsImported}
use Rattle.owl_close.proofs.Adding.{adds_none, adds_one, one_further}
use Rattle.owl_close.proofs.reached.add_imported.Goals as goal
use Rattle.owl_close.proofs.reached.add_imported.Goals.{in-Some+in_ok-add, in_default}

pub imports-preserved : goal.imports-preserved
imports-preserved c =
    let heads = heads_of c.args.heads.now in
    let front = take c.imports.iri-index c.args.imports.now in
    let iri = c.iri-item.result in
    let old = c.args.places.now.items in
    let mid = c.imports.places.items in
    let new = c.match-place_named.places.items in
    let added : AddsImported heads (front ++ iri ∷ []) old new =
    elim c.match-place_named.branch [
      | in-Some+in_ok-add w ↦ adds_one heads front iri old mid new w.in-Some.place c.imports.invariant (search rules) (search rules)
      | in_default w ↦ adds_none heads front iri old new (search rules) (search rules)
    ] in
    subst (λ (xs : List (List ℕ)). AddsImported heads xs old new) (sym (one_further c.args.imports.now c.imports.iri-index iri c.imports-test.true c.iri-item.is)) added
