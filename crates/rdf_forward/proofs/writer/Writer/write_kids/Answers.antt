use Rattle.std.proofs.Common.{rules, ◌≡◌, sym, ◌∙◌}
use Rattle.std.proofs.lemmas.Result.{on_ok_weaker}
use Rattle.rdf_meaning.specs.Rows.{axiom_rows}
use Rattle.rdf_mapping.specs.Drawing.{by_kids, row_for, stated_by}
use Rattle.rdf_counts.proofs.ArenaLaws.{more_kids_by_row}
use Rattle.rdf_forward.specs.AxiomWalks.{sets_at}
use Rattle.rdf_mapping.specs.Arenas.{kids_at, tags_at}
use Rattle.rdf_forward.proofs.Placing.{as_said, no_kids_by_row, one_kid_by_row}
use Rattle.rdf_forward.proofs.writer.Writer.write_kids.Goals as goal
use Rattle.rdf_forward.proofs.writer.Writer.write_kids.Goals.{then-kids-lt1, in-len1+else-is_pair, else-kids-lt1+else-kids-lt2}

pub returns : goal.returns
returns c =
    let ks = kids_at c.args.below.now.arena.now.trees c.args.kids.now in
    let e : by_kids c.args.tag ks ≡ stated_by (row_for axiom_rows c.args.tag (tags_at c.args.below.now.arena.now.trees c.args.kids.now)) ks = elim c.if-kids-lt1.branch [
      | then-kids-lt1 w ↦ no_kids_by_row _ _ _ (search rules)
      | in-len1+else-is_pair w ↦ one_kid_by_row _ _ _ w.in-len1.len_at_least w.in-len1.len_below (sym w.is_pair.ensures ∙ w.if-is_pair.false)
      | else-kids-lt1+else-kids-lt2 w ↦ more_kids_by_row _ _ _ (search rules)
    ] in
    on_ok_weaker c.write_row.result (λ row. as_said c.args.self.now c.write_row.new.self _ _ (sets_at c.args.below.now.arena.now.trees c.args.below.now.axioms.now) e row) c.write_row.ensures
