use Rattle.std.proofs.Common.{rules, arith}
use Rattle.profile_sorts.proofs.RowLaws.{form_more, whole_row}
use Rattle.profile_sorts.proofs.rows.tag_row.Goals as goal

pub sorts-preserved : goal.sorts-preserved
sorts-preserved c = record {
  size = search rules;
  told =
      form_more c.args.tag c.sorts.row.items c.push.new.self.items c.form_of.result c.numbered.result c.sorts.number c.sorts.invariant.size c.numbered.ensures (search rules) c.form_of.ensures
      c.sorts.invariant.told;
}

pub returns : goal.returns
returns c = whole_row c.args.tag c.sorts.row.items c.sorts.number (omega (arith, c.sorts-test.false)) c.sorts.invariant.told
