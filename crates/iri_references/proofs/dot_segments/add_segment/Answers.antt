use Rattle.std.proofs.Common.{string_bytes, ◌∙◌, sym}
use Rattle.std.proofs.lemmas.Str.{IsUtf8-string_bytes}
use Rattle.iri_references.proofs.Outputs.{added}
use Rattle.iri_references.proofs.dot_segments.add_segment.Goals as goal

pub returns : goal.returns
returns c =
    added c.push_str.result (string_bytes c.args.output.now) (string_bytes c.push.new.self) (string_bytes c.push_str.new.self) c.args.segment.now c.args.is_last
    (IsUtf8-string_bytes c.args.output.now) (IsUtf8-string_bytes c.push.new.self) c.in_ok-push.ensures.bytes c.push_str.ensures.bytes
    (sym c.is_single_dot.ensures ∙ c.if-is_single_dot.false) (sym c.is_double_dot.ensures ∙ c.if-is_double_dot.false)
