use Rattle.std.proofs.Common.{◌≡◌, Option, rules, subst, sym}
use Rattle.std.specs.Prelude.{IfSome}
use Rattle.std.proofs.lemmas.Result.{IfErr-weaker, on_ok_weaker}
use Rattle.owl_reader.proofs.EventLaws.{steps_barred, steps_free, steps_taken}
use Rattle.owl_reader.specs.Following.{MayFollow}
use Rattle.owl_reader.specs.Steps.{token_in}
use Rattle.owl_tokens.specs.Tokens.{IsToken}
use Rattle.owl_tokens.specs.declared.token.Token.{Token}
use Rattle.fss_defects.specs.Faults.{Bars}
use Rattle.fss_defects.specs.Rules.{functional_rules}
use Rattle.fss_grammar.specs.Table.{functional}
use Rattle.fss_acts.specs.Assembling.{Did, Made, May}
use Rattle.fss_acts.specs.Turns.{AreReady}
use Rattle.fss_acts.proofs.Following.{barred, free, is_token, may_take, takes}
use Rattle.fss_acts.proofs.syntax.AssemblerSyntax.take.Goals as goal

pub do_all-requires-clause-ready : goal.do_all-requires-clause-ready
do_all-requires-clause-ready c =
    let same : c.map-next.result ≡ token_in c.args.next = search rules in
    subst (λ (x : Option Token). May (AreReady c.args.acts.now x) c.args.self.now) (sym same) (may_take c.requires.1)

pub do_all-requires-clause-token : goal.do_all-requires-clause-token
do_all-requires-clause-token c =
    let same : c.map-next.result ≡ token_in c.args.next = search rules in
    subst (λ (x : Option Token). IfSome x IsToken) (sym same) (is_token c.requires.1)

pub returns-clause-takes : goal.returns-clause-takes
returns-clause-takes c =
    let same : c.map-next.result ≡ token_in c.args.next = search rules in
    on_ok_weaker c.do_all.result (λ h _. h)
    (steps_taken Made Did (λ events x. MayFollow functional functional_rules events c.args.acts.now x) c.args.acts.now c.args.next c.map-next.result same _ c.do_all.new.self c.do_all.result
    (takes _ c.do_all.new.self c.args.acts.now c.map-next.result c.do_all.result c.do_all.ensures))

pub returns-clause-free : goal.returns-clause-free
returns-clause-free c =
    let same : c.map-next.result ≡ token_in c.args.next = search rules in
    on_ok_weaker c.do_all.result (λ h _. h)
    (steps_free Made Did (λ events x. MayFollow functional functional_rules events c.args.acts.now x) c.args.acts.now c.args.next c.map-next.result same _ Bars c.do_all.result
    (free _ c.do_all.new.self c.args.acts.now c.map-next.result c.do_all.result c.do_all.ensures))

pub returns-clause-barred : goal.returns-clause-barred
returns-clause-barred c =
    let same : c.map-next.result ≡ token_in c.args.next = search rules in
    IfErr-weaker c.do_all.result _ _ (λ e h other _. h other)
    (steps_barred Made Did (λ events x. MayFollow functional functional_rules events c.args.acts.now x) c.args.acts.now c.args.next c.map-next.result same _ Bars c.do_all.result
    (barred _ c.do_all.new.self c.args.acts.now c.map-next.result c.do_all.result c.do_all.ensures))
