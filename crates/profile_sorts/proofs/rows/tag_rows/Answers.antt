use Rattle.std.proofs.Common.{◌≡◌, ◌++◌, ◌∷◌, [], rules, ap, ◌∙◌, arith}
use Rattle.std.proofs.lemmas.List.{length-map, map-append}
use Rattle.profile_sorts.specs.Rows.{rows_of}
use Rattle.profile_sorts.proofs.RowLaws.{all_rows, row_more}
use Rattle.profile_sorts.proofs.rows.tag_rows.Goals as goal

pub tags-preserved : goal.tags-preserved
tags-preserved c =
    let pushed : c.push.new.self.items ≡ c.tags.rows.items ++ c.in_ok-numbered_row.field-0 ∷ [] = search rules in
    record {
      size = search rules;
      told =
          row_more (rows_of c.tags.rows.items) (rows_of c.push.new.self.items) c.in_ok-numbered_row.field-0.items c.tags.number (length-map c.tags.rows.items (λ row. row.items) ∙ c.tags.invariant.size)
          (ap rows_of pushed ∙ map-append (λ row. row.items) c.tags.rows.items (c.in_ok-numbered_row.field-0 ∷ [])) c.in_ok-numbered_row.ensures c.tags.invariant.told;
    }

pub returns : goal.returns
returns c = all_rows (rows_of c.tags.rows.items) c.tags.number (omega (arith, c.tags-test.false)) c.tags.invariant.told
