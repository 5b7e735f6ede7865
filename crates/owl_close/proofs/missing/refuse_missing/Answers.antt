use Rattle.std.proofs.Common.{ℕ, List, None, get_or, ap, sym, subst, ◌∙◌, take, refl, rules}
use Rattle.std.specs.List.{AllByRecursion}
use Rattle.std.proofs.lemmas.List.{take_all, take_more}
use Rattle.owl_list.proofs.AscendingLaws.{all_pushed}
use Rattle.owl_doc.specs.declared.head.Head as held
use Rattle.owl_close.specs.Imports.{IsFirstMissing, heads_of}
use Rattle.owl_close.specs.Searches.{FindsLeast, IsLeastMissing}
use Rattle.owl_close.proofs.Lacking.{IsWhole}
use Rattle.owl_close.proofs.Refusing.{first_missing, misses_none, place_within, whole_at}
use Rattle.owl_close.proofs.missing.refuse_missing.Goals as goal

pub offset_bounds-heads-place : goal.offset_bounds-heads-place
offset_bounds-heads-place c =
    let within = place_within c.args.heads.now c.args.places.now c.requires.reached c.places.place-index c.requires.main c.places-test.true in
    search rules

pub bounds-heads-place : goal.bounds-heads-place
bounds-heads-place c =
    place_within c.args.heads.now c.args.places.now c.requires.reached c.places.place-index c.requires.main c.places-test.true

pub returns-in-Some-clause-some : goal.returns-in-Some-clause-some
returns-in-Some-clause-some c =
    let heads = heads_of c.args.heads.now in
    let place = get_or c.args.places.now c.places.place-index 0 in
    let head = c.index-heads-place.result in
    let imports = c.deref.ensures.value ∙ ap (λ (h : held.Head). h.imports.items) (sym c.index-heads-place.is) in
    let least : IsLeastMissing heads head.imports.items c.in-Some.iri.now =
    subst (λ (xs : List (List ℕ)). IsLeastMissing heads xs c.in-Some.iri.now) imports c.in-Some.ensures.some in
    let first = first_missing c.args.heads.now c.args.places.now c.requires.reached c.places.place-index head c.in-Some.iri.now c.requires.main c.places-test.true c.places.invariant c.index-heads-place.is least in
    (refl, subst (λ (iri : List ℕ). IsFirstMissing heads place iri) (sym c.in_ok-iri.ensures) first)

pub places-preserved : goal.places-preserved
places-preserved c =
    let heads = heads_of c.args.heads.now in
    let index = c.places.place-index in
    let place = get_or c.args.places.now index 0 in
    let head = c.index-heads-place.result in
    let imports = c.deref.ensures.value ∙ ap (λ (h : held.Head). h.imports.items) (sym c.index-heads-place.is) in
    let found : FindsLeast heads head.imports.items None =
    subst (λ (xs : List (List ℕ)). FindsLeast heads xs None) imports c.in_default.ensures in
    let whole = whole_at c.args.heads.now c.args.places.now c.requires.reached index head c.requires.main c.places-test.true c.index-heads-place.is found in
    subst (λ (ps : List ℕ). AllByRecursion (IsWhole heads) ps) (sym (take_more c.args.places.now index 0 c.places-test.true))
    (all_pushed (IsWhole heads) (take index c.args.places.now) place c.places.invariant whole)

pub returns-clause-none : goal.returns-clause-none
returns-clause-none c =
    misses_none c.args.heads.now c.args.places.now c.requires.reached
    (subst (λ (ps : List ℕ). AllByRecursion (IsWhole (heads_of c.args.heads.now)) ps) (take_all c.places.place-index c.args.places.now c.places-test.false) c.places.invariant)
