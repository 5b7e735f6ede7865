use Rattle.std.proofs.Common.{◌∙◌}
use Rattle.fss_grammar.specs.declared.acts.Act.TheVariants.{Typed}
use Rattle.fss_acts.proofs.Exits.{leaves_early}
use Rattle.fss_acts.proofs.Keeping.{typed_made, untold, untyped}
use Rattle.fss_acts.proofs.assembler.Assembler.typed.Goals as goal

pub iri_behind-requires-clause-stands : goal.iri_behind-requires-clause-stands
iri_behind-requires-clause-stands c = c.requires.coming.stands c.requires.may.ready.1

pub returns-in_err-literal : goal.returns-in_err-literal
returns-in_err-literal c = λ m h ready.
    leaves_early Typed c.args.next.now m c.from_residual-in_err-literal.result _ _ c.from_residual-in_err-literal.ensures.1 (λ f is ne.
    untyped c.args.self.now m h c.take_text-tag.result.0 c.take_text-tag.result.1 c.take_text-tag.ensures.was ready.0 c.args.next.now c.in_ok-datatype.datatype c.in_ok-datatype.ensures.comes f (untold f _ is (c.in_err-literal.ensures.bad (λ e. ne (is ∙ e)))))

pub returns : goal.returns
returns c = λ m h ready.
    typed_made c.args.self.now m h c.take_text-tag.result.0 c.take_text-tag.result.1 c.take_text-tag.ensures.was ready.0 c.args.next.now c.in_ok-datatype.datatype c.in_ok-datatype.ensures.comes c.take_text-tag.new.kept c.in_ok-literal.literal c.put_leaf.new.maker c.put_leaf.result c.take_text-tag.ensures.now c.in_ok-literal.ensures.ok c.put_leaf.ensures
