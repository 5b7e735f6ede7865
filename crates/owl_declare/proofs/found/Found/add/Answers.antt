use Rattle.std.proofs.Common.{rules, ◌≡◌, ◌⊎◌, ◌∙◌, ◌++◌, ◌∷◌, [], List, refl, subst, sym}
use Rattle.std.specs.Prelude.{◌↔◌, Contains}
use Rattle.owl_kind.specs.Kinds.{Entity}
use Rattle.owl_declare.proofs.FoundLaws.{entity, kept, one_declared, one_more}
use Rattle.owl_declare.proofs.found.Found.add.Goals as goal

pub invariant_of-self : goal.invariant_of-self
invariant_of-self c =
    kept c.self.inside.needs.items c.reserve.new.self.items c.self.inside.met c.self.inside.met c.reserve.ensures.items refl c.self.invariant

pub invariant_of-self-in_err-declare : goal.invariant_of-self-in_err-declare
invariant_of-self-in_err-declare c =
    kept c.self.inside.needs.items c.reserve.new.self.items c.self.inside.met c.declare.new.self c.reserve.ensures.items c.in_err-declare.ensures.err c.self.invariant

pub invariant_of-self-2 : goal.invariant_of-self-2
invariant_of-self-2 c =
    let pushed : c.push.new.self.items ≡ c.self.inside.needs.items ++ record { kind = c.args.kind; iri = c.in_ok-iri.iri } ∷ [] = search rules in
    one_more c.self.inside.needs.items c.push.new.self.items c.self.inside.met c.declare.new.self (record { kind = c.args.kind; iri = c.in_ok-iri.iri }) pushed
    (one_declared c.self.inside.met c.declare.new.self c.args.kind c.in_ok-iri.iri c.in_ok-met.met (c.in_ok-met.ensures ∙ sym c.in_ok-iri.ensures) c.in_ok-declare.ensures.ok)
    c.self.invariant

pub returns : goal.returns
returns c =
    let it = entity c.args.kind c.args.iri.now in
    subst (λ (old : List Entity). (e : Entity) → Contains c.declare.new.self e ↔ (Contains old e ⊎ (e ≡ it))) c.self.view_is
    (one_declared c.self.inside.met c.declare.new.self c.args.kind c.args.iri.now c.in_ok-met.met c.in_ok-met.ensures c.in_ok-declare.ensures.ok)
