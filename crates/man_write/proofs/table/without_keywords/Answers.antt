use Rattle.std.proofs.Common.{◌≡◌, ◌<◌, ◌+◌, List, ℕ, length, take, arith, ap, sym, subst, ◌∙◌}
use Rattle.owl_atom.specs.declared.prefixes.Prefix.{Prefix}
use Rattle.owl_characters.specs.Iri.{IsIri}
use Rattle.owl_writing.specs.Tables.{with_prefix}
use Rattle.owl_writing.proofs.DraftLaws.{all_more, stands_at}
use Rattle.man_text.specs.Text.{is_keyword}
use Rattle.man_write.proofs.TableLaws.{kept_of, kept_one_more, keyword_passed}
use Rattle.man_write.proofs.table.without_keywords.Goals.{then-not-branch+in_ok-copy+in_ok-set_iri, else-not-branch}
use Rattle.man_write.proofs.table.without_keywords.Goals as goal

pub loop-place-preserved : goal.loop-place-preserved
loop-place-preserved c =
    let ps = c.args.prefixes.now in
    let place = c.loop-place.place in
    let inside : place < length ps = omega (arith, c.len-place-end.ensures.len) in
    let prefix = c.at.ensures.0 in
    let at = c.at.ensures.1 in
    let is = stands_at ps place prefix at in
    let keyword : c.in_ok-is_keyword.field-0 ≡ is_keyword prefix.name = c.in_ok-is_keyword.ensures ∙ ap is_keyword c.at.ensures.2 in
    let table : c.if-not-branch.table ≡ kept_of (take (place + 1) ps) = elim c.if-not-branch.branch [
      | then-not-branch+in_ok-copy+in_ok-set_iri w ↦
          kept_one_more ps place prefix c.len-place-end.ensures.table inside at is c.loop-place.table c.if-not-branch.table c.loop-place.invariant.table
          (sym keyword ∙ w.if-not-branch.true)
          (w.table-is ∙ w.in_ok-set_iri.ensures
          ∙ ap (λ (name : List ℕ). with_prefix name w.in_ok-copy.field-0 c.loop-place.table) c.at.ensures.2
          ∙ ap (λ (iri : List ℕ). with_prefix prefix.name iri c.loop-place.table) (w.in_ok-copy.ensures ∙ c.at.ensures.4))
      | else-not-branch w ↦
          w.table-is ∙ keyword_passed ps place prefix c.len-place-end.ensures.table inside at is c.loop-place.table c.loop-place.invariant.table (sym keyword ∙ w.if-not-branch.false)
    ] in
    record {
      table = table;
      iris = all_more (λ (p : Prefix). IsIri p.iri) ps place prefix c.loop-place.invariant.iris inside is (subst IsIri c.at.ensures.4 c.text.ensures.iri);
    }
