use Rattle.std.proofs.Common.{◌∙◌, ap, subst, Err, List, ℕ}
use Rattle.owl_atom.specs.declared.fault.DeclareFault.TheVariants as declares
use Rattle.fss_acts.proofs.Declared.{Declaring, prefix_declared, prefix_refused, refusals_at}
use Rattle.fss_acts.proofs.Exits.{not_refused}
use Rattle.fss_acts.proofs.assembler.Assembler.declare.Goals as goal

pub returns-in-Ok : goal.returns-in-Ok
returns-in-Ok c = λ m h ready.
    let old = c.args.self.now.prefixes in
    let one : Declaring old c.declare.new.self c.take_prefix-name.result c.in_ok-iri.iri =
    subst (λ (x : List ℕ). Declaring old c.declare.new.self x c.in_ok-iri.iri) c.as_str.ensures.chars record {
      fixed = not_refused c.declare.result c.in-Ok.field-0 declares.PrefixFixed c.in-Ok.is c.declare.ensures.fixed;
      here = c.in-Ok.ensures.here;
      others = c.in-Ok.ensures.others;
    } in
    prefix_declared c.args.self.now m h c.args.next.now ready c.take_prefix-name.result c.in_ok-iri.iri c.take_prefix-name.ensures.was c.in_ok-iri.ensures.comes c.in_ok-iri.ensures.iri c.declare.new.self c.take_prefix-name.new.kept c.take_prefix-name.ensures.now c.len.ensures.table one

pub returns : goal.returns
returns c = λ m h ready ne.
    let told = refusals_at c.args.self.now.prefixes _ c.take_prefix-name.result c.in_ok-iri.iri c.in-Err.fault c.as_str.ensures.chars (λ e. c.declare.ensures.twice.0 (c.in-Err.is ∙ ap Err e)) (λ e. c.declare.ensures.fixed.0 (c.in-Err.is ∙ ap Err e)) in
    prefix_refused c.args.self.now m h c.args.next.now ready c.take_prefix-name.result c.in_ok-iri.iri c.take_prefix-name.ensures.was c.in_ok-iri.ensures.comes c.in_ok-iri.ensures.iri c.of_declaring.result c.in-Err.fault c.of_declaring.ensures ne told.twice told.fixed
