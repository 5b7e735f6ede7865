use Rattle.std.proofs.Common.{IfSome, IsNone, refl, subst, sym}
use Rattle.rdf_meaning.specs.declared.row.Want.TheVariants.{Keys}
use Rattle.rdf_faults.specs.Asked.{is_key}
use Rattle.rdf_statements.specs.Forms.{AreKeyOperands, GivesKids, keys}
use Rattle.rdf_statements.proofs.Finding.{any_list, without_keys}
use Rattle.rdf_statements.proofs.kids.keys.Goals as goal

pub returns-clause-kids : goal.returns-clause-kids
returns-clause-kids c =
    let g = c.args.source.now.graph.now in
    let k = c.args.source.now.kinds.now in
    let roles = c.args.source.now.roles.now in
    let os = c.in-Some.keys.of_objects in
    let ds = c.in-Some.keys.of_data in
    let found = subst (λ f. IfSome f (λ found. AreKeyOperands g k roles c.args.list.now found.of_objects.items found.of_data.items)) c.in-Some.is c.in_ok-keys.ensures.keys in
    subst (GivesKids g k roles c.args.list.now Keys) (sym c.in_ok-both.ensures) (keys os ds (c.has_key.ensures.0 c.if-not-has_key.false) found)

pub returns-in_default-clause-none : goal.returns-in_default-clause-none
returns-in_default-clause-none c = λ formed _ _ met.
    let g = c.args.source.now.graph.now in
    c.in_ok-keys.ensures.none formed (subst IsNone (sym c.in_default.is) refl) (any_list g (is_key g c.args.source.now.kinds.now) 1 c.args.list.now met)

pub returns-then-not-has_key-clause-none : goal.returns-then-not-has_key-clause-none
returns-then-not-has_key-clause-none c = λ formed _ _ met.
    let g = c.args.source.now.graph.now in
    let k = c.args.source.now.kinds.now in
    let roles = c.args.source.now.roles.now in
    let os = c.in-Some.keys.of_objects in
    let ds = c.in-Some.keys.of_data in
    let found = subst (λ f. IfSome f (λ found. AreKeyOperands g k roles c.args.list.now found.of_objects.items found.of_data.items)) c.in-Some.is c.in_ok-keys.ensures.keys in
    without_keys g k roles c.args.list.now os.items ds.items found (λ some. let has = c.has_key.ensures.1 some in let hasnt = c.if-not-has_key.true in cc) met
