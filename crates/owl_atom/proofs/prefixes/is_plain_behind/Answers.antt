use Rattle.std.proofs.Common.{sym, ◌∙◌}
use Rattle.std.specs.Str.{chars}
use Rattle.std.proofs.lemmas.Bool.{both_ways}
use Rattle.owl_atom.proofs.LocalParts.{plain_behind_start, plain_begins}
use Rattle.owl_atom.proofs.prefixes.is_plain_behind.Goals as goal

pub returns-then-begins_plain : goal.returns-then-begins_plain
returns-then-begins_plain c =
    let plain = plain_behind_start (chars c.args.text.now) (sym c.begins_plain.ensures ∙ c.if-begins_plain.true) in
    (λ t. plain.0 (c.requires.0 t), λ p. c.requires.1 (plain.1 p))

pub returns-else-begins_plain : goal.returns-else-begins_plain
returns-else-begins_plain c = (
  λ t. absurd (both_ways c.begins_plain.result c.if-begins_plain.false t),
  λ p. absurd (plain_begins (chars c.args.text.now) (sym c.begins_plain.ensures ∙ c.if-begins_plain.false) p),
)
