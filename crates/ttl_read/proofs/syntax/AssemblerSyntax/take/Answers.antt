use Rattle.std.proofs.Common.{◌≡◌, Option, rules, subst, sym}
use Rattle.std.specs.Prelude.{IfSome}
use Rattle.owl_reader.proofs.EventLaws.{err_in_each, ok_in_each, steps_barred, steps_free, steps_taken}
use Rattle.owl_reader.specs.Following.{MayFollow}
use Rattle.owl_reader.specs.Steps.{token_in}
use Rattle.ttl_grammar.specs.Rules.{Bars, turtle_rules}
use Rattle.ttl_grammar.specs.Table.{turtle}
use Rattle.ttl_tokens.specs.TokenForms.{IsFormed}
use Rattle.ttl_tokens.specs.declared.token.Token.{Token}
use Rattle.ttl_read.specs.Showing.{Made, Whole}
use Rattle.ttl_read.proofs.Turns.{goes_on, is_barred, is_free, next_formed}
use Rattle.ttl_read.proofs.syntax.AssemblerSyntax.take.Goals as goal

pub take_next-requires : goal.take_next-requires
take_next-requires c =
    let same : c.map.result ≡ token_in c.args.next = search rules in
    subst (λ (x : Option Token). IfSome x IsFormed) (sym same) (next_formed c.args.next c.requires.1.spelled)

pub returns-clause-takes : goal.returns-clause-takes
returns-clause-takes c =
    let same : c.map.result ≡ token_in c.args.next = search rules in
    ok_in_each _ c.take_next.result (λ base. steps_taken (Made base) (Whole base) (λ events x. MayFollow turtle (turtle_rules base) events c.args.acts.now x) c.args.acts.now c.args.next c.map.result same _ c.take_next.new.self c.take_next.result
    (goes_on base _ c.args.acts.now c.map.result c.args.self.now c.take_next.new.self c.take_next.result c.take_next.ensures))

pub returns-clause-free : goal.returns-clause-free
returns-clause-free c =
    let same : c.map.result ≡ token_in c.args.next = search rules in
    ok_in_each _ c.take_next.result (λ base. steps_free (Made base) (Whole base) (λ events x. MayFollow turtle (turtle_rules base) events c.args.acts.now x) c.args.acts.now c.args.next c.map.result same _ (Bars base) c.take_next.result
    (is_free base _ c.args.acts.now c.map.result c.args.self.now c.take_next.new.self c.take_next.result c.take_next.ensures))

pub returns-clause-barred : goal.returns-clause-barred
returns-clause-barred c =
    let same : c.map.result ≡ token_in c.args.next = search rules in
    err_in_each _ c.take_next.result (λ base. steps_barred (Made base) (Whole base) (λ events x. MayFollow turtle (turtle_rules base) events c.args.acts.now x) c.args.acts.now c.args.next c.map.result same _ (Bars base) c.take_next.result
    (is_barred base _ c.args.acts.now c.map.result c.args.self.now c.take_next.new.self c.take_next.result c.take_next.ensures))
