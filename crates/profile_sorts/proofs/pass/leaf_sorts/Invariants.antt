use Rattle.std.proofs.Common.{◌≡◌, ◌<◌, ◌≤◌, false}
use Rattle.owl_tree.specs.declared.tag.Tag.{Tag}
use Rattle.profile_sorts.specs.declared.sort.Sort.{Sort}
use Rattle.profile_sorts.specs.Rows.{IsRowOf}
use Rattle.profile_sorts.specs.Sets.{has, number_of}
use Rattle.profile_sorts.specs.Sorts.{form_of, leaf_fits}
use Rattle.profile_sorts.proofs.pass.leaf_sorts.Given as goal

abbrev pub invariant-sorts : goal.invariant-sorts
invariant-sorts l = record {
  done : (t : Tag) → IsRowOf t l.row → (s : Sort) → number_of s < l.number → has l.set s ≡ leaf_fits (form_of s t) l.atom;
  left : (s : Sort) → l.number ≤ number_of s → has l.set s ≡ false;
}
