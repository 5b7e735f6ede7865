-- The laws of what can be said in RDF.
use Rattle.std.proofs.Common.{◌∙◌, ap, refl, subst, sym}
use Rattle.std.specs.Prelude.{◌≡◌, ◌↔◌, ◌++◌, List, [], ◌∷◌, Contains, Option, None, map}
use Rattle.std.specs.List.{AllByRecursion}
use Rattle.std.specs.Option.{option_or}
use Rattle.std.proofs.lemmas.List.Elements.{Contains-append_left, Contains-append_right}
use Rattle.owl_list.proofs.AscendingLaws.{all_before_map, all_from, all_in, all_later, all_map}
use Rattle.owl_tree.specs.Equivalence.{IsEquivalent}
use Rattle.owl_tree.specs.Ontologies.{IsSameOntology, Ontology, canonical_list}
use Rattle.owl_tree.specs.Trees.{Tree, kids_of}
use Rattle.owl_doc.specs.Parts.{Leaf, Part, leaves, leaves_in, leaves_of, of_axiom, of_header, ontology_leaves}
use Rattle.sayable_parts.proofs.PartLaws.{canonical_list_leaves, equivalent_leaves, from_leaf, leaf_in, leaves_both}
use Rattle.sayable_parts.specs.Reasons.{Objection}
use Rattle.sayable_parts.proofs.UnsaidLaws as parts
use Rattle.sayable_parts.proofs.WalkLaws.{neither}
use Rattle.sayable_parts.proofs.UnsaidLaws.{unsaid_once}
use Rattle.rdf_sayable.specs.Sayable.{AreSayable, CanSay, CanSayAll, IsFirstUnsayable, first_objection, objection, part_objection}

-- leaves among those that can be said can be said
pub said_among : (ls ks : List Leaf) → ((l : Leaf) → Contains ks l → Contains ls l) → AreSayable ls → AreSayable ks
said_among ls ks h said = all_from (λ l. objection l ≡ None) ks (λ l m. all_in (λ l. objection l ≡ None) ls l said (h l m))

-- there is no first objection exactly where there is none
pub no_objection : (ls : List Leaf) → first_objection ls ≡ None → AreSayable ls
no_objection [] e = tt
no_objection (l ∷ ls) e =
    let parts = neither (objection l) (first_objection ls) e in
    (parts.0, no_objection ls parts.1)

pub sayable_none : (ls : List Leaf) → AreSayable ls → first_objection ls ≡ None
sayable_none [] h = refl
sayable_none (l ∷ ls) h = ap (λ (o : Option Objection). option_or o (first_objection ls)) h.0 ∙ sayable_none ls h.1

-- the leaves of trees can be said where those of each tree can
trees_said : (ts : List Tree) → AllByRecursion (λ t. AreSayable (leaves t)) ts → AreSayable (leaves_of (kids_of ts))
trees_said ts h =
    all_from (λ l. objection l ≡ None) (leaves_of (kids_of ts)) (λ l m.
    let found = leaf_in ts l m in
    all_in (λ l. objection l ≡ None) (leaves found.tree) l (all_in (λ t. AreSayable (leaves t)) ts found.tree h found.inside) found.leaf)

each_said : (ts : List Tree) → AreSayable (leaves_of (kids_of ts)) → AllByRecursion (λ t. AreSayable (leaves t)) ts
each_said ts h =
    all_from (λ t. AreSayable (leaves t)) ts (λ t m. said_among (leaves_of (kids_of ts)) (leaves t) (λ l n. from_leaf ts t l m n) h)

-- a part can be said exactly where its leaves can
said_leaves : (part : Part) → CanSay part → AreSayable (leaves_in part)
said_leaves part said = no_objection (leaves_in part) said

leaves_said : (part : Part) → AreSayable (leaves_in part) → CanSay part
leaves_said part h = sayable_none (leaves_in part) h

axioms_said : (ts : List Tree) → AllByRecursion CanSay (map of_axiom ts) → AreSayable (leaves_of (kids_of ts))
axioms_said ts h = trees_said ts (all_later (λ t. CanSay (of_axiom t)) (λ t. AreSayable (leaves t)) (λ t. said_leaves (of_axiom t)) ts (all_before_map of_axiom CanSay ts h))

said_axioms : (ts : List Tree) → AreSayable (leaves_of (kids_of ts)) → AllByRecursion CanSay (map of_axiom ts)
said_axioms ts h = all_map of_axiom CanSay ts (all_later (λ t. AreSayable (leaves t)) (λ t. CanSay (of_axiom t)) (λ t. leaves_said (of_axiom t)) ts (each_said ts h))

lists_said : (ts : List Tree) → AreSayable (leaves_of (kids_of (canonical_list ts))) ↔ AreSayable (leaves_of (kids_of ts))
lists_said ts =
    let same = canonical_list_leaves ts in (
      said_among (leaves_of (kids_of (canonical_list ts))) (leaves_of (kids_of ts)) (λ l. (same l).1),
      said_among (leaves_of (kids_of ts)) (leaves_of (kids_of (canonical_list ts))) (λ l. (same l).0),
    )

both_said : (ls ks : List Leaf) → AreSayable ls → AreSayable ks → AreSayable (ls ++ ks)
both_said [] ks h k = k
both_said (l ∷ ls) ks h k = (h.0, both_said ls ks h.1 k)

-- an ontology can be said exactly where its leaves can
pub said_by_leaves : (o : Ontology) → CanSayAll o ↔ AreSayable (ontology_leaves o)
said_by_leaves o =
    let notes = leaves_of (kids_of o.annotations) in
    let axioms = leaves_of (kids_of o.axioms) in
    let both = leaves_both o.annotations o.axioms in (
      λ h.
          subst AreSayable (sym both)
          (both_said notes axioms ((lists_said o.annotations).0 (said_leaves (of_header (canonical_list o.annotations)) h.0)) ((lists_said o.axioms).0 (axioms_said (canonical_list o.axioms) h.1))),
      λ h.
          let all = subst AreSayable both h in (
            leaves_said (of_header (canonical_list o.annotations)) ((lists_said o.annotations).1 (said_among (notes ++ axioms) notes (λ l m. Contains-append_left notes axioms l m) all)),
            said_axioms (canonical_list o.axioms) ((lists_said o.axioms).1 (said_among (notes ++ axioms) axioms (λ l m. Contains-append_right notes axioms l m) all)),
          ),
    )

-- a part whose leaves are among those of an ontology that can be said can be said
pub said_of_leaves : (o : Ontology) (part : Part) → ((l : Leaf) → Contains (leaves_in part) l → Contains (ontology_leaves o) l) → CanSayAll o → CanSay part
said_of_leaves o part h said = leaves_said part (said_among (ontology_leaves o) (leaves_in part) h ((said_by_leaves o).0 said))

pub equivalent_said : (t u : Tree) → IsEquivalent t u → CanSay (of_axiom t) ↔ CanSay (of_axiom u)
equivalent_said t u h =
    let same = equivalent_leaves t u h in (
      λ said. leaves_said (of_axiom u) (said_among (leaves t) (leaves u) (λ l. (same l).1) (said_leaves (of_axiom t) said)),
      λ said. leaves_said (of_axiom t) (said_among (leaves u) (leaves t) (λ l. (same l).0) (said_leaves (of_axiom u) said)),
    )

pub same_ontology_said : (o p : Ontology) → IsSameOntology o p → CanSayAll o ↔ CanSayAll p
same_ontology_said = parts.same_ontology_said part_objection

pub same_ontology_first : (o p : Ontology) (part : Part) (why : Objection) → IsSameOntology o p → IsFirstUnsayable o part why → IsFirstUnsayable p part why
same_ontology_first = parts.same_ontology_first part_objection

-- there is one first objection at most, and none where all can be said
pub unsayable_once : (o : Ontology) (part other : Part) (why because : Objection) → IsFirstUnsayable o part why → IsFirstUnsayable o other because → (part ≡ other) × (why ≡ because)
unsayable_once = unsaid_once part_objection

pub not_all_said : (o : Ontology) (part : Part) (why : Objection) → IsFirstUnsayable o part why → CanSayAll o → ⊥
not_all_said = parts.not_all_said part_objection
