-- A character is held, or leads nowhere, or is of a run that is lost.
use Rattle.std.proofs.Common.{arith, refl, reverse, subst, sym, ◌∷◌}
use Rattle.std.specs.List.{All}
use Rattle.owl_lexer.specs.Retaking.{IsLostRun}
use Rattle.std.proofs.lemmas.Result.{on_ok_weaker}
use Rattle.owl_lexer.proofs.Lost.{holds_more, kept_next, lost_next, next_is, room_again}
use Rattle.owl_lexer.proofs.again.hold_again.Goals as goal

pub returns-in_default-leading-clause-lost : goal.returns-in_default-leading-clause-lost
returns-in_default-leading-clause-lost g c =
    on_ok_weaker c.add.result
    (λ added some. lost_next g.L.TokenLanguage.automaton c.loop-c.hand c.loop-c.again c.pop.new.self.items c.add.new.items.items c.in-Some.c c.in-Some.ensures.items added c.loop-c.invariant.kept (λ ended held cs all. c.in_default-leading.ensures.lost refl ended held cs (subst (All (IsLostRun g.L.TokenLanguage.automaton ended held (c.in-Some.c ∷ cs))) (sym c.deref.ensures.value) all)))
    c.add.ensures.ok

pub hold-requires-clause-room : goal.hold-requires-clause-room
hold-requires-clause-room g c =
    omega (arith, room_again g.L.TokenLanguage.automaton c.args.hand.now c.loop-c.hand c.args.again.now c.loop-c.again c.pop.new.self.items c.in-Some.c c.loop-c.invariant c.in-Some.ensures.items, c.requires.room)

pub loop-c-preserved : goal.loop-c-preserved
loop-c-preserved g c =
    holds_more g.L.TokenLanguage.automaton c.args.hand.now c.loop-c.hand c.hold.new.hand c.args.again.now c.loop-c.again _ c.in-Some.c c.loop-c.invariant
    (next_is c.loop-c.again.chars.items c.pop.new.self.items c.in-Some.c c.in-Some.ensures.items) refl c.in_ok-hold.ensures.ready c.in_ok-hold.ensures.at c.in_ok-hold.ensures.held
    (c.lead_on.ensures c.loop-c.again.ended c.loop-c.hand.held.items (reverse c.pop.new.self.items)
    (kept_next g.L.TokenLanguage.automaton c.loop-c.hand c.loop-c.again c.pop.new.self.items c.in-Some.c c.in-Some.ensures.items c.loop-c.invariant.kept))
