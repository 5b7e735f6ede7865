use Rattle.std.proofs.Common.{List, ℕ, Err, ap, sym, subst, refl}
use Rattle.std.proofs.lemmas.Result.{IfOk-weaker}
use Rattle.std.specs.Str.{encode_utf8_all}
use Rattle.owl_characters.specs.declared.text.Text.{Text}
use Rattle.owl_command.specs.declared.command.Layout.{Layout}
use Rattle.owl_writing.specs.Tables.{written_prefixes}
use Rattle.owl_answer.specs.GraphTexts.{IsTooLong}
use Rattle.owl_answer.specs.TurtleOutcome.{IsGraphText, ReadsLaidOut}
use Rattle.owl_answer.proofs.graph_texts.graph_text.Goals as goal

pub returns-in-Flat-clause-text : goal.returns-in-Flat-clause-text
returns-in-Flat-clause-text c =
    IfOk-weaker c.write.result _ _ (λ (t : Text) is. subst (λ (layout : Layout). IsGraphText layout c.args.prefixes.now c.args.graph.now t) (sym c.in-Flat.is) is) c.write.ensures.text

pub returns-in-Flat-clause-too_long : goal.returns-in-Flat-clause-too_long
returns-in-Flat-clause-too_long c = λ e.
    subst (λ (layout : Layout). IsTooLong layout c.args.prefixes.now c.args.graph.now) (sym c.in-Flat.is) (record { text = _; is = refl; long = c.write.ensures.too_long e })

pub returns-in-Flat-clause-reads_back : goal.returns-in-Flat-clause-reads_back
returns-in-Flat-clause-reads_back c =
    IfOk-weaker c.write.result _ _ (λ (t : Text) reads. subst (λ (layout : Layout). ReadsLaidOut layout (encode_utf8_all t) (written_prefixes c.args.prefixes.now) c.args.graph.now) (sym c.in-Flat.is) reads) c.write.ensures.reads_back

pub returns-in-Nested-clause-text : goal.returns-in-Nested-clause-text
returns-in-Nested-clause-text c =
    IfOk-weaker c.nested_text.result _ _ (λ (t : Text) is. subst (λ (layout : Layout). IsGraphText layout c.args.prefixes.now c.args.graph.now t) (sym c.in-Nested.is) is) c.nested_text.ensures.text

pub returns-in-Nested-clause-too_long : goal.returns-in-Nested-clause-too_long
returns-in-Nested-clause-too_long c = λ e.
    subst (λ (layout : Layout). IsTooLong layout c.args.prefixes.now c.args.graph.now) (sym c.in-Nested.is) (c.nested_text.ensures.too_long e)

pub returns-in-Nested-clause-reads_back : goal.returns-in-Nested-clause-reads_back
returns-in-Nested-clause-reads_back c =
    IfOk-weaker c.nested_text.result _ _ (λ (t : Text) reads. subst (λ (layout : Layout). ReadsLaidOut layout (encode_utf8_all t) (written_prefixes c.args.prefixes.now) c.args.graph.now) (sym c.in-Nested.is) reads) c.nested_text.ensures.reads_back
