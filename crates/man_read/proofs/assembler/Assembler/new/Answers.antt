use Rattle.std.proofs.Common.{refl, ap}
use Rattle.std.specs.Prelude.{None}
use Rattle.man_grammar.specs.States.{start}
use Rattle.man_read.proofs.assembler.Assembler.new.Goals as goal

pub returns : goal.returns
returns c = record {
  state = start;
  runs = refl;
  shows = record {
    names = c.in_ok-new.ensures;
    form_at = refl;
    form = c.new-2.ensures;
    opening = c.new-3.ensures;
    head = ap (λ items. record { iri = None; version = None; imports = items }) c.new-4.ensures.items;
    notes = c.new-5.ensures.items;
    listing = c.new-6.ensures;
  };
}
