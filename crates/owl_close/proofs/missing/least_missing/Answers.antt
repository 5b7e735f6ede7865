use Rattle.std.proofs.Common.{List, ℕ, Option, Some, ◌++◌, ◌∷◌, [], ap, ◌∙◌, subst, sym, take}
use denote.Ref.{Bor}
use Rattle.std.specs.Option.{option_copied}
use Rattle.std.proofs.lemmas.List.{take_all}
use Rattle.owl_close.specs.Imports.{heads_of}
use Rattle.owl_close.specs.Searches.{FindsLeast}
use Rattle.owl_close.proofs.Adding.{one_further}
use Rattle.owl_close.proofs.Lacking.{finds_lesser, finds_other, names_none, names_one}
use Rattle.owl_close.proofs.missing.least_missing.Goals as goal
use Rattle.owl_close.proofs.missing.least_missing.Goals.{then-is_none, else-is_none}

pub imports-preserved : goal.imports-preserved
imports-preserved c =
    let heads = heads_of c.args.heads.now in
    let front = take c.imports.iri-index c.args.imports.now in
    let iri = c.iri-item.result in
    let old = option_copied c.imports.least in
    let new = option_copied c.if-is_none.least in
    let copied = λ (o : Option (Bor (List ℕ))). option_copied o in
    let found : FindsLeast heads (front ++ iri ∷ []) new =
    elim c.if-is_none.branch [
      | then-is_none w ↦
          let none = names_none heads iri c.place_named.result c.place_named.ensures.none w.if-is_none.ensures in
          finds_lesser heads front iri old new c.imports.invariant none (ap copied w.least-is ∙ ap (λ (x : List ℕ). Some x) w.lesser.ensures)
      | else-is_none w ↦
          let one = names_one heads iri c.place_named.result c.place_named.ensures.some w.if-is_none.ensures in
          finds_other heads front iri old new c.imports.invariant one (ap copied w.least-is)
    ] in
    subst (λ (xs : List (List ℕ)). FindsLeast heads xs new) (sym (one_further c.args.imports.now c.imports.iri-index iri c.imports-test.true c.iri-item.is)) found

pub returns : goal.returns
returns c =
    subst (λ (xs : List (List ℕ)). FindsLeast (heads_of c.args.heads.now) xs (option_copied c.imports.least)) (take_all c.imports.iri-index c.args.imports.now c.imports-test.false) c.imports.invariant
