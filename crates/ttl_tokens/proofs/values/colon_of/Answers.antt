use Rattle.std.proofs.Common.{Option, ℕ, length, unwrap_or, ap, ◌∙◌}
use Rattle.ttl_tokens.specs.TurtleValues.{is_colon}
use Rattle.ttl_tokens.proofs.Places.{unwrap_or-position}
use Rattle.ttl_tokens.proofs.values.colon_of.Goals as goal

pub returns-clause-place : goal.returns-clause-place
returns-clause-place c =
    c.unwrap_or.ensures ∙ ap (λ (place : Option ℕ). unwrap_or place (length c.args.chars.now)) c.first_colon.ensures ∙ unwrap_or-position is_colon c.args.chars.now
