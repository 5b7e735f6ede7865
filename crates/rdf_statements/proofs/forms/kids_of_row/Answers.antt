use Rattle.std.proofs.Common.{refl, subst, sym, IfSome, IsNone}
use Rattle.std.specs.List.{AllByRecursion}
use Rattle.std.proofs.lemmas.List.{nil_from_length}
use Rattle.rdf_statements.specs.Forms.{IsGivenAt, StandAtPart}
use Rattle.rdf_statements.proofs.Forming.{AreKidsUpTo, all_parts, next_part}
use Rattle.rdf_statements.proofs.forms.kids_of_row.Goals as goal

pub loop-part-preserved : goal.loop-part-preserved
loop-part-preserved c = λ b.
    let g = c.args.source.now.graph.now in
    let k = c.args.source.now.kinds.now in
    let roles = c.args.source.now.roles.now in
    let ps = c.args.parts.now in
    let done = c.loop-part.kids.items in (
      λ at.
          let before = subst (λ rest. AreKidsUpTo g k roles b ps done rest) c.in-Some.ensures.cases.0 ((c.loop-part.invariant b).0 at) in
          let found = subst (λ f. IfSome f (λ ks. StandAtPart g k roles b c.in-Some.part.now ks.items)) c.in-Some-2.is (c.in_ok-more.ensures.kids b at) in
          subst (λ ks. AreKidsUpTo g k roles b ps ks c.in-Some.behind.now) (sym c.in_ok-append.ensures.items)
          (next_part g k roles b ps done c.in-Some.part.now c.in-Some.behind.now c.in-Some-2.more.items before found),
      λ given. (subst (AllByRecursion (IsGivenAt g k b)) c.in-Some.ensures.cases.0 ((c.loop-part.invariant b).1 given)).1,
    )

pub returns-clause-kids : goal.returns-clause-kids
returns-clause-kids c = λ b at.
    let g = c.args.source.now.graph.now in
    let k = c.args.source.now.kinds.now in
    let roles = c.args.source.now.roles.now in
    let done = c.loop-part.kids.items in
    all_parts g k roles b c.args.parts.now done
    (subst (λ rest. AreKidsUpTo g k roles b c.args.parts.now done rest) (nil_from_length c.loop-part.rest.now c.in_default.ensures.cases) ((c.loop-part.invariant b).0 at))

pub returns-in_default-2-clause-none : goal.returns-in_default-2-clause-none
returns-in_default-2-clause-none c = λ b at formed _ given.
    let g = c.args.source.now.graph.now in
    let k = c.args.source.now.kinds.now in
    let here = (subst (AllByRecursion (IsGivenAt g k b)) c.in-Some.ensures.cases.0 ((c.loop-part.invariant b).1 given)).0 in
    c.in_ok-more.ensures.none b at formed (subst IsNone (sym c.in_default-2.is) refl) here
