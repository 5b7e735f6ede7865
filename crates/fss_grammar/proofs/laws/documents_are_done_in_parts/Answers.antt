use Rattle.fss_grammar.proofs.WritingLaws.{all_before_act, all_behind_act, all_behind_ontology, cut_where_taken}
use Rattle.fss_grammar.proofs.laws.documents_are_done_in_parts.Goals as goal

pub returns : goal.returns
returns c = record { cut = cut_where_taken; before = all_before_act; behind = all_behind_act; keyword = all_behind_ontology }
