use Rattle.std.proofs.Common.{◌≡◌, ◌<◌, List, ℕ, length, arith, ap, ◌∙◌, subst}
use Rattle.std.specs.Prelude.{slice_get, Some}
use Rattle.owl_atom.specs.declared.prefixes.Prefix.{Prefix}
use Rattle.owl_atom.specs.Prefixes.{fixed_prefixes}
use Rattle.owl_writing.specs.Tables.{with_prefix}
use Rattle.owl_writing.proofs.DraftLaws.{stands_at}
use Rattle.owl_writing.proofs.SetTables.{one_set}
use Rattle.owl_writing.proofs.prefixes.written_prefixes.Goals as goal

pub loop-place-preserved : goal.loop-place-preserved
loop-place-preserved c =
    let fixed : List Prefix = fixed_prefixes in
    let same = c.loop-place.invariant.fixed in
    let inside : c.loop-place.place < length fixed = omega (arith, c.len-place-end.ensures.len, ap (λ (ps : List Prefix). length ps) same) in
    let prefix = c.at.ensures.0 in
    let is = stands_at fixed c.loop-place.place prefix (subst (λ (ps : List Prefix). slice_get ps c.loop-place.place ≡ Some prefix) same c.at.ensures.1) in
    let set = c.in_ok-set_iri.ensures ∙ ap (λ (name : List ℕ). with_prefix name c.in_ok-copy.field-0 c.loop-place.written) c.at.ensures.2 ∙ ap (λ (iri : List ℕ). with_prefix prefix.name iri c.loop-place.written) (c.in_ok-copy.ensures ∙ c.at.ensures.4) in
    record {
      written = one_set fixed c.args.prefixes.now c.loop-place.written c.loop-place.place prefix c.set_iri.new.prefixes c.loop-place.invariant.written inside is set;
      fixed = same;
    }
