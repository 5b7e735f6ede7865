-- An order of datatypes exists exactly where no definition is cyclic.
use Rattle.std.proofs.Common.{◌≡◌, ℕ, List, ap, subst, sym}
use Rattle.std.specs.Prelude.{◌↔◌, Contains}
use Rattle.std.proofs.lemmas.Slice.Eq.{bytes_eq-Decides}
use Rattle.owl_characters.specs.Order.{text_eq}
use Rattle.owl_kind.proofs.Found.{from_joined, joined_from}
use Rattle.owl_list.proofs.AscendingLaws.{from_map, in_map}
use Rattle.owl_tree.specs.Trees.{Tree}
use Rattle.graph_walks.specs.Walks.{Walks, backwards}
use Rattle.graph_walks.proofs.WalkLaws.{from_backwards, to_backwards, walk_back, walk_keeps}
use Rattle.dl_rules.specs.Definitions.{DatatypeOrderExists, Definition, IsCyclic, IsDatatypeOrder, definitions, used_by, uses, uses_of}
use Rattle.dl_rules.proofs.Closing.{closed, closed_on, from_closed, pair_closed}

-- a definition that says that the one uses the other
pub record IsUse (axioms : List Tree) (defined used : List ℕ) : Type 0 where
  pub definition : Definition
  pub inside : Contains (definitions axioms) definition
  pub same : definition.datatype ≡ defined
  pub among : Contains (used_by definition) used

-- a use comes from a definition, and each definition gives its uses
pub from_uses : (axioms : List Tree) (defined used : List ℕ) → Contains (uses axioms) (defined, used) → IsUse axioms defined used
from_uses axioms defined used m =
    let f = from_joined uses_of (definitions axioms) (defined, used) m in
    let v = from_map {X = List ℕ} {Y = List ℕ × List ℕ} (λ (u : List ℕ). (f.0.datatype, u)) (used_by f.0) (defined, used) f.2 in
    record {
      definition = f.0;
      inside = f.1;
      same = ap (λ (p : List ℕ × List ℕ). p.0) v.value;
      among = subst (λ (p : List ℕ × List ℕ). Contains (used_by f.0) p.1) v.value v.inside;
    }

pub in_uses : (axioms : List Tree) (d : Definition) (used : List ℕ) → Contains (definitions axioms) d → Contains (used_by d) used →
    Contains (uses axioms) (d.datatype, used)
in_uses axioms d used m n =
    joined_from uses_of (definitions axioms) (d.datatype, used) d m
    (in_map {X = List ℕ} {Y = List ℕ × List ℕ} (λ (u : List ℕ). (d.datatype, u)) (used_by d) used n)

module _ (axioms : List Tree) where
  -- from what a definition uses to what it defines
  abbrev order : List (List ℕ × List ℕ)
  order = closed text_eq bytes_eq-Decides (backwards (uses axioms))

  order_from : ((d : Definition) → Contains (definitions axioms) d → IsCyclic axioms d → ⊥) → IsDatatypeOrder axioms order
  order_from none = record {
    irreflexive = λ d m.
        let w = from_closed text_eq bytes_eq-Decides (backwards (uses axioms)) d d m in
        let u = from_uses axioms w.next d (from_backwards (uses axioms) d w.next w.step) in
        let way : Walks (uses axioms) d w.next =
        walk_back (backwards (uses axioms)) (uses axioms) (λ x y k. from_backwards (uses axioms) x y k) w.next d w.rest in
        none u.definition u.inside (record { one = d; among = u.among; holds = subst (λ (x : List ℕ). Walks (uses axioms) d x) (sym u.same) way });
    passes_on = closed_on text_eq bytes_eq-Decides (backwards (uses axioms));
    defined = λ d used m. pair_closed text_eq bytes_eq-Decides (backwards (uses axioms)) used d (to_backwards (uses axioms) d used m);
  }

  none_from : (o : List (List ℕ × List ℕ)) → IsDatatypeOrder axioms o →
      (d : Definition) → Contains (definitions axioms) d → IsCyclic axioms d → ⊥
  none_from o is d m cyclic =
      let below : Contains o (cyclic.one, d.datatype) = is.defined d.datatype cyclic.one (in_uses axioms d cyclic.one m cyclic.among) in
      let keeps : (x y : List ℕ) → Contains (uses axioms) (x, y) → Contains o (x, d.datatype) → Contains o (y, d.datatype) =
      λ x y step k. is.passes_on y x d.datatype (is.defined x y step) k in
      is.irreflexive d.datatype (walk_keeps (uses axioms) (λ x. Contains o (x, d.datatype)) keeps cyclic.one d.datatype cyclic.holds below)

pub datatype_orders : (axioms : List Tree) →
    ((d : Definition) → Contains (definitions axioms) d → IsCyclic axioms d → ⊥) ↔ DatatypeOrderExists axioms
datatype_orders axioms = (
  λ none. record { order = order axioms; is = order_from axioms none },
  λ exists. none_from axioms exists.order exists.is,
)
