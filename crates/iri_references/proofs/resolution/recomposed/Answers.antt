use Rattle.std.specs.Str.{chars}
use Rattle.iri_references.specs.Views.{parts_seen}
use Rattle.iri_references.proofs.Targets.{recomposed_by}
use Rattle.iri_references.proofs.resolution.recomposed.Goals as goal

pub returns : goal.returns
returns c =
    recomposed_by (chars c.args.scheme.now) (parts_seen c.args.parts.now) c.in_ok-text.text c.push.new.self c.push_part.new.text c.push_str.new.self c.push_part-2.new.text c.push_part-3.new.text
    c.in_ok-text.ensures c.in_ok-push.ensures.ok c.in_ok-push_part.ensures c.in_ok-push_str.ensures.ok c.in_ok-push_part-2.ensures c.in_ok-push_part-3.ensures
