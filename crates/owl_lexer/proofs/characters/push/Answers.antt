-- A character is held, or begins a lexeme behind the one that is given.
use Rattle.std.proofs.Common.{rules, refl, sym, ◌∙◌, [], ◌∷◌}
use Rattle.owl_lexer.specs.Hands.{begun_of}
use Rattle.std.proofs.lemmas.Result.{IfErr-weaker}
use Rattle.owl_characters.proofs.ResultLaws.{passed}
use Rattle.owl_lexer.proofs.Feeding.{all_front, gives_all, none_behind, refuses_front, refuses_memory, takes_front, takes_held}
use Rattle.owl_lexer.proofs.characters.push.Goals as goal

pub returns-in-Some-clause-ok : goal.returns-in-Some-clause-ok
returns-in-Some-clause-ok g c is =
    takes_held g.L.TokenLanguage.automaton g.L.TokenLanguage.value_of c.args.hand.now c.hold.new.hand c.args.c c.args.into.now.items c.in_ok-hold.ensures.ready
    (record { at = c.in_ok-hold.ensures.at; held = c.in_ok-hold.ensures.held; end = c.in_ok-hold.ensures.end; scalar = search rules })

pub returns-in_err-hold-clause-err : goal.returns-in_err-hold-clause-err
returns-in_err-hold-clause-err g c =
    IfErr-weaker c.from_residual.result _ _
    (λ fault e. refuses_memory g.L.TokenLanguage.automaton g.L.TokenLanguage.value_of (begun_of c.args.hand.now) (c.args.c ∷ []) c.args.into.now.items c.args.into.now.items fault e refl)
    (search rules)

pub returns-in_err-give_all-in-Some-kind-clause-err : goal.returns-in_err-give_all-in-Some-kind-clause-err
returns-in_err-give_all-in-Some-kind-clause-err g c =
    IfErr-weaker c.from_residual-in_err-give_all-in-Some-kind.result _ _
    (λ fault e. refuses_memory g.L.TokenLanguage.automaton g.L.TokenLanguage.value_of (begun_of c.args.hand.now) (c.args.c ∷ []) c.args.into.now.items c.give_all.new.into.items fault e c.in_err-give_all-in-Some-kind.ensures.err)
    (search rules)

pub returns-in_ok-begin-in-Some-kind-clause-ok : goal.returns-in_ok-begin-in-Some-kind-clause-ok
returns-in_ok-begin-in-Some-kind-clause-ok g c is =
    takes_front g.L.TokenLanguage.automaton g.L.TokenLanguage.value_of c.args.hand.now c.give_all.new.hand c.begin.new.hand (all_front c.args.hand.now c.in-Some-kind.kind) c.args.c (c.args.c ∷ []) c.args.into.now.items c.give_all.new.into.items c.give_all.new.into.items
    (gives_all g.L.TokenLanguage.automaton g.L.TokenLanguage.value_of g.L.TokenLanguage.spells g.met.L.TokenLanguage.is_language c.args.hand.now c.give_all.new.hand c.in-Some-kind.kind c.args.into.now.items c.give_all.new.into.items c.requires.ready (sym c.kind.ensures ∙ c.in-Some-kind.is) c.in_ok-give_all-in-Some-kind.ensures.ready c.in_ok-give_all-in-Some-kind.ensures.begun c.in_ok-give_all-in-Some-kind.ensures.end c.in_ok-give_all-in-Some-kind.ensures.added)
    (search rules) (none_behind c.args.hand.now.held.items c.args.c) (c.in_ok-begin-in-Some-kind.ensures.ok c.give_all.new.into.items)

pub returns-in_err-begin-in-Some-kind-clause-err : goal.returns-in_err-begin-in-Some-kind-clause-err
returns-in_err-begin-in-Some-kind-clause-err g c =
    let fault = c.in_err-begin-in-Some-kind.field-0.0 in
    passed c.from_residual-in_err-begin-in-Some-kind.result fault _ c.from_residual-in_err-begin-in-Some-kind.ensures.1
    (refuses_front g.L.TokenLanguage.automaton g.L.TokenLanguage.value_of c.args.hand.now c.give_all.new.hand (all_front c.args.hand.now c.in-Some-kind.kind) c.args.c (c.args.c ∷ []) c.args.into.now.items c.give_all.new.into.items c.give_all.new.into.items fault
    (gives_all g.L.TokenLanguage.automaton g.L.TokenLanguage.value_of g.L.TokenLanguage.spells g.met.L.TokenLanguage.is_language c.args.hand.now c.give_all.new.hand c.in-Some-kind.kind c.args.into.now.items c.give_all.new.into.items c.requires.ready (sym c.kind.ensures ∙ c.in-Some-kind.is) c.in_ok-give_all-in-Some-kind.ensures.ready c.in_ok-give_all-in-Some-kind.ensures.begun c.in_ok-give_all-in-Some-kind.ensures.end c.in_ok-give_all-in-Some-kind.ensures.added)
    (search rules) (none_behind c.args.hand.now.held.items c.args.c) (c.in_err-begin-in-Some-kind.ensures.err c.give_all.new.into.items))
