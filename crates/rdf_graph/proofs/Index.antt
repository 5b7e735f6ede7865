-- The index of a graph: how it is made, and what it tells.
use Rattle.std.proofs.Common.{◌≡◌, ◌≢◌, ◌<◌, ◌≤◌, ◌+◌, ◌++◌, ◌∷◌, ◌↔◌, inl, inr, ℕ, List, [], length, Some, get_or, sym, ap, subst, arith}
use Rattle.std.specs.Prelude.{Contains, option_map}
use Rattle.std.specs.List.Sorted.{IsPermutation, IsSorted}
use Rattle.std.specs.Option.{option_cmp}
use Rattle.std.specs.Cmp.Lexicographic.{options_total}
use Rattle.std.proofs.lemmas.Bool.Decides.{leb_tells}
use Rattle.std.proofs.lemmas.List.Elements.{Contains-append_left, Contains-push, Contains-push_cases}
use Rattle.std.proofs.lemmas.List.Sorted.{Contains-permutation, IsPermutation-sym}
use Rattle.std.proofs.lemmas.Option.{slice_get_past}
use Rattle.rdf_graph.specs.declared.term.Term.{Term}
use Rattle.rdf_graph.specs.declared.triple.Triple.{Triple}
use Rattle.rdf_graph.specs.ByObject.{IsCountBefore, IsIndex, place_cmp}
use Rattle.rdf_graph.specs.Graphs.{HasNoneWith, IsGraph, IsNextWith, most_triples, object_at, set_of}
use Rattle.rdf_graph.proofs.GraphLaws.{set_is_graph}
use Rattle.rdf_graph.specs.Terms.{HaveSubjects, term_cmp}
use Rattle.rdf_graph.proofs.TermLaws.{only_equal_options_tie, only_equal_terms_tie, terms_total}
use Rattle.rdf_graph.proofs.Places.{Ends, from_on, is_next, none_left, none_there}

-- the places below a number
abbrev pub AreBelow : ℕ → List ℕ → Type 0
AreBelow n places = (place : ℕ) → Contains places place ↔ (place < n)

pub one_more : (n : ℕ) (old new : List ℕ) → new ≡ old ++ n ∷ [] → AreBelow n old → AreBelow (n + 1) new
one_more n old new is all =
    subst (AreBelow (n + 1)) (sym is) (λ place. (
      λ c. elim (Contains-push_cases old n place c) as (λ _. place < n + 1) [ inl h ↦ let lt = (all place).0 h in omega arith | inr e ↦ omega arith ],
      λ lt. elim (leb_tells n place) as (λ _. Contains (old ++ n ∷ []) place) [
        | inl h ↦ let le = h.1 in let e : n ≡ place = omega arith in subst (Contains (old ++ n ∷ [])) e (Contains-push old n)
        | inr h ↦ Contains-append_left old (n ∷ []) place ((all place).1 h.1)
      ],
    ))

-- in whatever order they stand
pub below_moved : (n : ℕ) (first places : List ℕ) → AreBelow n first → IsPermutation first places → AreBelow n places
below_moved n first places all moved = λ place. (
  λ c. (all place).0 (Contains-permutation places first place (IsPermutation-sym first places moved) c),
  λ lt. Contains-permutation first places place moved ((all place).1 lt),
)

pub index_of : (triples : List Triple) (first places : List ℕ) → AreBelow (length triples) first → IsPermutation first places → IsSorted (place_cmp triples) places → IsIndex triples places
index_of triples first places all moved up = record { sorted = up; of_all = below_moved (length triples) first places all moved }

-- triples that are put in order are a graph
pub is_graph : (triples arranged : List Triple) → HaveSubjects triples → arranged ≡ set_of triples → length (set_of triples) ≤ most_triples → IsGraph arranged
is_graph triples arranged subjects is few = subst IsGraph (sym is) (set_is_graph triples subjects few)

-- a place at which something stands is one of them
within : (triples : List Triple) (object : Term) (place : ℕ) → object_at triples place ≡ Some object → place < length triples
within triples object place e =
    elim (leb_tells (length triples) place) as (λ _. place < length triples) [
      | inl h ↦ let none = ap (option_map (λ (t : Triple). t.object)) (slice_get_past triples place h.1) in cc
      | inr h ↦ h.1
    ]

-- of the places from one on, up to another, none has the object
pub record HasNoneUpTo (triples : List Triple) (object : Term) (from place : ℕ) : Type 0 where
  pub behind : from ≤ place
  pub none : (other : ℕ) → from ≤ other → other < place → object_at triples other ≢ Some object

module _ {triples : List Triple} {places : List ℕ} {object : Term} {from count : ℕ} (index : IsIndex triples places) (counted : IsCountBefore triples places object from count) where
  ends : Ends (object_at triples) (option_cmp term_cmp) places (Some object) from count
  ends = record { total = options_total terms_total; same = only_equal_options_tie only_equal_terms_tie; up = index.sorted; point = counted.parted }

  held : (place : ℕ) → object_at triples place ≡ Some object → Contains places place
  held place e = (index.of_all place).1 (within triples object place e)

  pub none_behind : length places ≤ count → HasNoneWith triples object from
  none_behind out place le e = let lt = none_left ends out place (held place e) e in absurd (omega arith)

  module _ (place : ℕ) (inside : count < length places) (is : get_or places count place ≡ place) where
    pub next_with : object_at triples place ≡ Some object → IsNextWith triples object from place
    next_with e = record { behind = from_on ends place inside is e; stands = e; next = λ other le lt f. is_next ends place inside is e other le lt (held other f) f }

    pub none_with : (object_at triples place ≡ Some object → ⊥) → HasNoneWith triples object from
    none_with differs other le e = none_there ends place inside is differs other le (held other e) e
