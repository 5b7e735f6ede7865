use Rattle.std.proofs.Common.{◌≡◌, ◌≤◌, ◌∙◌, Err, List, ℕ, ap, arith, length, subst, sym}
use Rattle.std.specs.Str.{all_scalars, encode_utf8_all}
use Rattle.owl_characters.specs.Limit.{most_bytes}
use Rattle.owl_writing.proofs.DraftLaws.{passed_on}
use Rattle.owl_writing.specs.Tables.{HaveIris, written_prefixes}
use Rattle.owl_writing.specs.declared.fault.WriteFault.TheVariants.{TooLong}
use Rattle.rdf_graph.specs.declared.term.Term.TheVariants.{Blank}
use Rattle.ttl_levels.specs.Nested.{IsNested, most_levels}
use Rattle.ttl_nested.specs.NestedText.{nested_text}
use Rattle.ttl_nested.specs.Renaming.{ReadsRenamed}
use Rattle.ttl_nested.proofs.RenameLaws.{lines_read_renamed}
use Rattle.ttl_nest.proofs.ExistLaws.{graphs_have_a_form}
use Rattle.ttl_nest.proofs.WholeLaws.{form_is_of, lines_too_long, prefixes_too_long, text_is}
use Rattle.ttl_nest.proofs.writer.write.Goals as goal

pub returns-in_err-add_prefixes-clause-too_long : goal.returns-in_err-add_prefixes-clause-too_long
returns-in_err-add_prefixes-clause-too_long c = λ e.
    let found = passed_on c.from_residual-in_err-add_prefixes.result c.in_err-add_prefixes.field-0.0 TooLong c.from_residual-in_err-add_prefixes.ensures.1 e in
    prefixes_too_long c.args.graph.now c.args.roles.now c.requires c.in_ok-nests.nests c.in_ok-nests.ensures c.args.prefixes.now c.in_ok-written.written c.in_ok-written.ensures c.new-draft.result c.new-draft.ensures
    (c.in_err-add_prefixes.ensures.too_long (ap Err found))

pub returns-in_err-add_lines-clause-too_long : goal.returns-in_err-add_lines-clause-too_long
returns-in_err-add_lines-clause-too_long c = λ e.
    let found = passed_on c.from_residual-in_err-add_lines.result c.in_err-add_lines.field-0.0 TooLong c.from_residual-in_err-add_lines.ensures.1 e in
    lines_too_long c.args.graph.now c.args.roles.now c.requires c.in_ok-nests.nests c.in_ok-nests.ensures c.args.prefixes.now c.in_ok-written.written c.in_ok-written.ensures c.new-draft.result c.new-draft.ensures
    c.add_prefixes.new.draft c.in_ok-add_prefixes.ensures.ok (c.in_err-add_lines.ensures.too_long (ap Err found))

pub returns-clause-text : goal.returns-clause-text
returns-clause-text c =
    let form = graphs_have_a_form c.args.graph.now c.args.roles.now c.requires c.in_ok-nests.nests c.in_ok-nests.ensures in
    record {
      lines = form.0;
      form = form.1;
      text_is = c.into_text-text.ensures.text
          ∙ text_is c.args.prefixes.now c.in_ok-written.written form.0 c.new-draft.result c.add_prefixes.new.draft c.add_lines.new.draft c.in_ok-written.ensures c.new-draft.ensures c.in_ok-add_prefixes.ensures.ok (c.in_ok-add_lines.ensures.ok form.0 form.1);
    }

pub returns-clause-reads_back : goal.returns-clause-reads_back
returns-clause-reads_back c =
    let g = c.args.graph.now in
    let prefixes = c.args.prefixes.now in
    let form = graphs_have_a_form g c.args.roles.now c.requires c.in_ok-nests.nests c.in_ok-nests.ensures in
    let text : c.into_text-text.result ≡ nested_text prefixes form.0 =
    c.into_text-text.ensures.text
    ∙ text_is prefixes c.in_ok-written.written form.0 c.new-draft.result c.add_prefixes.new.draft c.add_lines.new.draft c.in_ok-written.ensures c.new-draft.ensures c.in_ok-add_prefixes.ensures.ok (c.in_ok-add_lines.ensures.ok form.0 form.1) in
    let iris = subst HaveIris c.in_ok-written.ensures c.in_ok-add_prefixes.ensures.iris in
    let scalars = ap all_scalars (sym text) ∙ c.as_str.ensures.scalars in
    let few = subst (λ (t : List ℕ). length (encode_utf8_all t) ≤ most_bytes) text c.into_text-text.ensures.within in
    subst (λ (t : List ℕ). ReadsRenamed (λ label. IsNested g (Blank label)) (encode_utf8_all t) (written_prefixes prefixes) g) (sym text)
    (lines_read_renamed (λ label. IsNested g (Blank label)) most_levels prefixes form.0 g c.len-2.ensures.table iris c.len.ensures.graph (omega arith)
    (form_is_of g form.0 form.1 c.len.ensures.graph c.in_ok-add_lines.ensures.formed) scalars few)
