use Rattle.std.proofs.Common.{inr, ap, subst, ◌<◌, length}
use Rattle.owl_characters.specs.Feeding.{Feeding, IsUnfinished}
use Rattle.owl_characters.proofs.Utf8Bytes.{held_unfinished, held_some}
use Rattle.owl_characters.proofs.utf8.Utf8Feed.finish.Goals as goal

pub returns-in_default : goal.returns-in_default
returns-in_default c =
    let unfinished = held_unfinished c.self.inside.partial c.in_default.not-Nothing c.self.invariant in
    record {
      ok = tt;
      err = (ap (λ (f : Feeding). f.at) c.self.view_is, inr (subst (λ (f : Feeding). IsUnfinished f.held × (0 < length f.held)) c.self.view_is (unfinished, held_some c.self.inside.partial c.in_default.not-Nothing)));
    }
