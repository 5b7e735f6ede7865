-- A class expression that names a number of 2^64 or more has this number among its kids.
use Rattle.std.specs.Prelude.{◌≡◌, ◌≤◌, ◌^◌, ◌||◌, ℕ, Bool, true, false, not, List, cond, Contains, Some, length, nat_lt}
use Rattle.std.specs.List.{AllByRecursion, list_all}
use Rattle.std.proofs.Common.{arith, inl, inr, refl, sym, ap, ◌∙◌, subst}
use Rattle.std.proofs.lemmas.Bool.{both_ways, ltb-false, not-true, or_cases}
use Rattle.owl_kind.specs.Kinds.{Entity}
use Rattle.owl_list.proofs.AscendingLaws.{all_from, all_in}
use Rattle.owl_tree.specs.declared.atom.Atom.TheVariants as atom
use Rattle.owl_tree.specs.declared.row.Sort.TheVariants as sort
use Rattle.owl_tree.specs.declared.tag.Tag.{Tag}
use Rattle.owl_tree.specs.Rows.{admits}
use Rattle.owl_tree.specs.Tags as tags
use Rattle.owl_tree.specs.Trees.{Tree, leaf, node}
use Rattle.rdf_graph.specs.declared.term.Term.{Term}
use Rattle.rdf_graph.specs.declared.triple.Triple.{Triple}
use Rattle.rdf_meaning.specs.declared.role.Role.TheVariants as role
use Rattle.rdf_meaning.specs.declared.row.Part.{Part}
use Rattle.rdf_meaning.specs.declared.row.Place.{Place}
use Rattle.rdf_meaning.specs.declared.row.Place.TheVariants.{At, Subject, Predicate, Object}
use Rattle.rdf_meaning.specs.declared.row.Want.{Want}
use Rattle.rdf_meaning.specs.declared.row.Want.TheVariants.{One}
use Rattle.rdf_meaning.specs.declared.word.Word.{Word}
use Rattle.rdf_meaning.specs.declared.word.Word.TheVariants as word
use Rattle.rdf_meaning.specs.Denotation.{Denotes, Fits, Holds, number_leaf, of_node, select, simple, times}
use Rattle.rdf_meaning.proofs.DenotationLaws.{itself, one_is, with_row}
use Rattle.rdf_meaning.proofs.ListLaws.{one_at_least, only_one, passes}
use Rattle.rdf_meaning.proofs.NodeLaws.{in_chosen}
use Rattle.rdf_meaning.specs.Nodes.{chosen, role_of, words_of}
use Rattle.rdf_meaning.specs.Rows.{Row, node_rows}
use Rattle.rdf_meaning.proofs.SoundLaws.{part_at, same_at}
use Rattle.rdf_faults.specs.Meant.{HasPartOf}
use Rattle.rdf_faults.proofs.MeantLaws.{parts_of}
use Rattle.rdf_rows.specs.Cardinalities.{cardinality_of}
use Rattle.rdf_rows.specs.declared.literals.Cardinality.{Cardinality}
use Rattle.rdf_rows.specs.declared.literals.Cardinality.TheVariants.{Number, TooLarge}
use Rattle.rdf_nodes.specs.Large.{IsLarge, is_counting}

-- the leaf of a number that fits no 64 bits
pub record IsLargeLeaf (u : Tree) : Type 0 where
  pub tag : Tag
  pub number : ℕ
  pub is : u ≡ leaf tag (atom.Number number)
  pub large : 2 ^ 64 ≤ number

is_large : (b : Bool) (n : ℕ) → cond b (Number n) TooLarge ≡ TooLarge → b ≡ false
is_large true n e = cc
is_large false n e = refl

same_some : (c d : Cardinality) → Some c ≡ Some d → c ≡ d
same_some c d e = cc

large_leaf : (u : Tree) → cardinality_of (Some u) ≡ Some TooLarge → IsLargeLeaf u
large_leaf (leaf a (atom.Number n)) e = record {
  tag = a;
  number = n;
  is = refl;
  large = ltb-false n (2 ^ 64) (is_large (nat_lt n (2 ^ 64)) n (same_some _ _ e));
}
large_leaf (leaf a other) e = cc
large_leaf (node a ks) e = cc

-- the words of numbers are those of class expressions, and want numbers there

counting_among : (w : Word) → is_counting w ≡ true → Contains (words_of role.Class) w
unfolding words_of
counting_among word.MinCardinality e = (12, omega arith, refl)
counting_among word.MaxCardinality e = (13, omega arith, refl)
counting_among word.Cardinality e = (14, omega arith, refl)
counting_among word.MinQualifiedCardinality e = (15, omega arith, refl)
counting_among word.MaxQualifiedCardinality e = (16, omega arith, refl)
counting_among word.QualifiedCardinality e = (17, omega arith, refl)
counting_among w e = cc

abbrev pub counts_at : Place → Bool
counts_at (At w) = is_counting w
counts_at Subject = false
counts_at Predicate = false
counts_at Object = false

abbrev wants_number : Want → Bool
wants_number (One sort.Number) = true
wants_number w = false

number_wanted : (w : Want) → wants_number w ≡ true → w ≡ One sort.Number
number_wanted (One sort.Number) e = refl
number_wanted w e = cc

abbrev count_numbers : Part → Bool
count_numbers p = not (counts_at p.place) || wants_number p.want

rows_count_numbers : list_all (λ row. list_all count_numbers row.parts) node_rows ≡ true
unfolding node_rows
rows_count_numbers = refl

rows_are_no_numbers : list_all (λ row. not (admits sort.Number row.tag)) node_rows ≡ true
unfolding node_rows admits tags.number_of
rows_are_no_numbers = refl

module _ (g : List Triple) (k : List Entity) where
  -- the kid is such a leaf
  pub record HasLargeKid (ts : List Tree) : Type 0 where
    pub kid : Tree
    pub inside : Contains ts kid
    pub large : IsLargeLeaf kid

  number_kid : (x : Term) (ts us : List Tree) → Denotes g k x (One sort.Number) us → AllByRecursion (Contains ts) us → cardinality_of (number_leaf x) ≡ Some TooLarge → HasLargeKid ts
  unfolding simple
  number_kid x ts us d all large =
      elim (one_is g k sort.Number x us d) [
        | itself u e whole ↦
            record { kid = u; inside = (subst (AllByRecursion (Contains ts)) whole all).0; large = large_leaf u (ap cardinality_of (sym e) ∙ large) }
        | with_row row vs m a f held whole ↦
            absurd (both_ways _ (not-true _ (passes (λ r. not (admits sort.Number r.tag)) node_rows row rows_are_no_numbers m)) a)
      ]

  pub large_kid : (x : Term) (row : Row) (ts : List Tree) → role_of g x ≡ role.Class → Contains node_rows row → Fits g (of_node x) row → Holds g k (of_node x) row.parts ts → (t : Triple) → Contains g t → t.subject ≡ x → IsLarge g t → HasLargeKid ts
  large_kid x row ts class n f h t m e is =
      let there = in_chosen g x is.word t m e is.carried in
      let among = subst (λ r. Contains (words_of r) is.word) (sym class) (counting_among is.word is.counting) in
      let count = same_at (λ w. length (chosen g x w)) (λ w. times w row.parts) (words_of (role_of g x)) is.word f.1 among in
      let at = part_at is.word row.parts (subst (λ i. 1 ≤ i) count (one_at_least (chosen g x is.word) t.object there)) in
      let tests = passes count_numbers row.parts at.p (passes (λ r. list_all count_numbers r.parts) node_rows row rows_count_numbers n) at.inside in
      let wanted : at.p.want ≡ One sort.Number =
      number_wanted at.p.want (elim (or_cases (not (counts_at at.p.place)) (wants_number at.p.want) tests) [
        | inl no_count ↦ absurd (both_ways _ (not-true _ no_count) (subst (λ q. counts_at q ≡ true) (sym at.place) is.counting))
        | inr wants ↦ wants
      ]) in
      let of = all_in (HasPartOf g k (Contains ts) (of_node x)) row.parts at.p (parts_of g k (Contains ts) (of_node x) row.parts ts h (all_from (Contains ts) ts (λ v i. i))) at.inside in
      let same : of.part.z ≡ t.object =
      only_one (select g (of_node x) at.p.place) of.part.z t.object of.part.one (subst (λ q. Contains (select g (of_node x) q) t.object) (sym at.place) there) in
      number_kid of.part.z ts of.part.ts (subst (λ w. Denotes g k of.part.z w of.part.ts) wanted of.part.denotes) of.all
      (ap (λ z. cardinality_of (number_leaf z)) same ∙ is.large)
