use Rattle.std.proofs.Common.{◌≡◌, ◌<◌, ◌≤◌, false, map}
use Rattle.owl_tree.specs.declared.tag.Tag.{Tag}
use Rattle.profile_sorts.specs.declared.sort.Sort.{Sort}
use Rattle.profile_sorts.specs.Rows.{IsRowOf}
use Rattle.profile_sorts.specs.Sets.{has, known_at, number_of}
use Rattle.profile_sorts.specs.Sorts.{form_of, kids_fit}
use Rattle.profile_sorts.proofs.pass.node_sorts.Given as goal

abbrev pub invariant-sorts : goal.invariant-sorts
invariant-sorts l = record {
  done : (t : Tag) → IsRowOf t l.row → (s : Sort) → number_of s < l.number → has l.set s ≡ kids_fit (form_of s t) (map (known_at l.sets) l.kids);
  left : (s : Sort) → l.number ≤ number_of s → has l.set s ≡ false;
}
