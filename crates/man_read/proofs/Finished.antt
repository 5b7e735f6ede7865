-- What was made of a whole document is what its bytes say.
use Rattle.std.proofs.Common.{ℕ, List}
use Rattle.grammar.proofs.AlikeLaws.{derives_alike}
use Rattle.owl_reader.specs.Readings.{IsRead}
use Rattle.owl_tokens.specs.ManchesterSpellings.{SpellsManchester}
use Rattle.man_grammar.proofs.PageLaws.{table_to_page}
use Rattle.man_grammar.specs.Documents.{IsReadTo, ReadsManchester}
use Rattle.man_grammar.specs.Rules.{manchester_rules}
use Rattle.man_grammar.specs.States.{State}
use Rattle.man_grammar.specs.Table.{manchester}
use Rattle.man_raw.specs.Documents.{DocumentTree}
use Rattle.man_read.specs.Showing.{Shows, Whole}
use Rattle.man_read.specs.declared.assembler.Assembler.{Assembler}

pub reads : (bytes : List ℕ) (a : Assembler) → IsRead SpellsManchester manchester manchester_rules Whole bytes a → (document : DocumentTree) → ((state : State) → Shows a state → IsReadTo document state) → ReadsManchester bytes document
reads bytes a r document is =
    let it = r.ends.made_by in
    record {
      steps = r.steps;
      few = r.few;
      splits = r.splits;
      spells = record {
        acts = r.ends.acts;
        derives = derives_alike table_to_page r.ends.derives;
        state = it.state;
        says = it.ends;
        is = is it.state it.shows;
      };
    }
