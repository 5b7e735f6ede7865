use Rattle.fss_grammar.proofs.WritingLaws.{undoable_act, undoable_at_end, undoable_is_unwritten, unwritten_is_unspelled}
use Rattle.fss_grammar.proofs.laws.undoable_is_unwritten.Goals as goal

pub returns : goal.returns
returns c = record { token = undoable_is_unwritten; end = undoable_at_end; act = undoable_act; spelled = unwritten_is_unspelled }
