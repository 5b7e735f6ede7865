use Rattle.std.proofs.Common.{◌≡◌, ◌∙◌, sym, true, false}
use Rattle.owl_maker.specs.Kept.{making_of, outlines_in}
use Rattle.owl_maker.specs.Makings.{Making}
use Rattle.owl_maker.specs.Steps.{is_keyless_in}
use Rattle.owl_maker.proofs.Shut.{follows_inside, inside, key_missing, no_key_missing, shut_follows, top_level, top_shaped}
use Rattle.owl_maker.proofs.maker.Maker.shut.Goals as goal

pub returns-then-is_keyless-clause-empty_key : goal.returns-then-is_keyless-clause-empty_key
returns-then-is_keyless-clause-empty_key c =
    let k : is_keyless_in (outlines_in c.self.inside.stack.items) ≡ true = sym c.is_keyless.ensures ∙ c.if-is_keyless.true in
    key_missing c.self.inside c.args.self.now c.self.view_is k

pub shut_top-requires-clause-inside : goal.shut_top-requires-clause-inside
shut_top-requires-clause-inside c =
    let r = c.requires in
    inside c.self.inside r.frame r.outer (follows_inside c.self.inside c.args.self.now r.frame r.outer c.self.view_is r.follows)

pub shut_top-requires-clause-shaped : goal.shut_top-requires-clause-shaped
shut_top-requires-clause-shaped c =
    let r = c.requires in
    let k : is_keyless_in (outlines_in c.self.inside.stack.items) ≡ false = sym c.is_keyless.ensures ∙ c.if-is_keyless.false in
    top_shaped c.self.inside r.frame r.outer (follows_inside c.self.inside c.args.self.now r.frame r.outer c.self.view_is r.follows) r.fits k

pub shut_top-requires-clause-level : goal.shut_top-requires-clause-level
shut_top-requires-clause-level c =
    let r = c.requires in
    top_level c.self.inside r.frame r.outer (follows_inside c.self.inside c.args.self.now r.frame r.outer c.self.view_is r.follows)

pub returns-clause-shut : goal.returns-clause-shut
returns-clause-shut c =
    let i = c.self.inside in
    let n = c.shut_top.new in
    let new : Making = making_of record { alloc = i.alloc; builder = n.builder; stack = n.stack; item = n.item; is_heavy = n.is_heavy } in
    let k : is_keyless_in (outlines_in i.stack.items) ≡ false = sym c.is_keyless.ensures ∙ c.if-is_keyless.false in
    shut_follows c.shut_top.result i c.args.self.now new c.self.view_is c.shut_top.ensures.outlines c.shut_top.ensures.light c.shut_top.ensures.heavy k

pub returns-clause-empty_key : goal.returns-clause-empty_key
returns-clause-empty_key c =
    let k : is_keyless_in (outlines_in c.self.inside.stack.items) ≡ false = sym c.is_keyless.ensures ∙ c.if-is_keyless.false in
    no_key_missing c.shut_top.result c.self.inside c.args.self.now c.shut_top.ensures.memory c.self.view_is k
