use Rattle.ttl_tokens.proofs.Unescaping.{behind_first}
use Rattle.ttl_tokens.proofs.escapes.unescaped.Goals as goal

pub loop-first-preserved : goal.loop-first-preserved
loop-first-preserved c =
    behind_first c.loop-first.text _ _ _ _ _ _ _ _ c.in-Some.ensures.cases.0 c.in-Some-first_character.ensures c.in_ok-push.ensures.ok c.length_behind.ensures c.past-rest.ensures c.loop-first.invariant
