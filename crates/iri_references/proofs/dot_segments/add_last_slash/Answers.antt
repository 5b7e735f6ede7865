use Rattle.std.proofs.Common.{string_bytes}
use Rattle.std.proofs.lemmas.Str.{IsUtf8-string_bytes}
use Rattle.iri_references.proofs.Outputs.{pushed}
use Rattle.iri_references.proofs.dot_segments.add_last_slash.Goals as goal

pub returns-then-is_last : goal.returns-then-is_last
returns-then-is_last c =
    rw c.if-is_last.true (pushed c.push.result (string_bytes c.args.output.now) (string_bytes c.push.new.self) (IsUtf8-string_bytes c.args.output.now) c.push.ensures.bytes)
