use Rattle.std.proofs.Common.{sym, ap, ◌∙◌}
use Rattle.owl_reader.specs.Defects.IsFirstDefect.{within}
use Rattle.owl_reader.specs.Readings.{Reading}
use Rattle.owl_reader.proofs.Reporting.{few_of, moved, now_refused}
use Rattle.std.proofs.lemmas.Result.{IfErr-weaker, IfOk-weaker}
use Rattle.owl_reader.proofs.reader.Reader.finish.Goals as goal

pub returns-in-Some-clause-refuses : goal.returns-in-Some-clause-refuses
returns-in-Some-clause-refuses g c = λ other context bytes h.
    now_refused bytes c.in-Some.fault (h.refuses c.in-Some.fault (ap (λ (r : Reading _). r.refused) (sym c.self.view_is) ∙ c.in-Some.is) other)

pub returns-in-None-clause-read : goal.returns-in-None-clause-read
returns-in-None-clause-read g c = IfOk-weaker c.end.result _ _ (λ made reads context bytes h.
    let here = moved _ c.args.self bytes c.self.view_is h in
    reads context bytes (few_of bytes c.self.inside.fed (here.fed c.in-None.is) (c.self.invariant.1 c.in-None.is).1.few) (here.open_yet c.in-None.is)) c.end.ensures.read

pub returns-in-None-clause-refuses : goal.returns-in-None-clause-refuses
returns-in-None-clause-refuses g c = IfErr-weaker c.end.result _ _ (λ e refuses other context bytes h.
    let here = moved _ c.args.self bytes c.self.view_is h in
    let few = few_of bytes c.self.inside.fed (here.fed c.in-None.is) (c.self.invariant.1 c.in-None.is).1.few in
    within few (refuses other context bytes (here.fed c.in-None.is) (here.open_yet c.in-None.is))) c.end.ensures.refuses
