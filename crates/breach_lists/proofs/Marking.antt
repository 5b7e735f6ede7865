-- Marks by number.
use Rattle.std.proofs.Common.{◌≡◌, ◌≤◌, ◌<◌, ◌+◌, ◌⊎◌, ◌↔◌, inl, inr, ℕ, Bool, true, false, List, Option, None, Some, get_or, length, refl, sym, ap, ◌∙◌, subst}
use Rattle.std.specs.Prelude.{Contains, slice_get, slice_index_or, unwrap_or}
use Rattle.std.specs.Option.{option_map}
use native.Mathlib.Omega.{arith}
use Rattle.std.proofs.Math.ListN.{replicate}
use Rattle.std.proofs.lemmas.Bool.{cases_lt}
use Rattle.std.proofs.lemmas.List.{get_or-replicate, get_or_past, length-replicate}
use Rattle.std.proofs.lemmas.Option.{get_or_from_slice_get, slice_get-get_or, slice_get-map, slice_get_within, unwrap_or-slice_get}
use Rattle.graph_walks.specs.Marks.{MarkEach}
use Rattle.owl_arena.specs.Held.{tree_at, trees_at}
use Rattle.owl_tree.specs.Trees.{Tree}
use Rattle.breach_lists.specs.Marks.{IsMarkedAmong, IsMarkedBefore}

-- marks at numbers say which of the first have one
abbrev pub AreMarksBefore : ℕ → List ℕ → List Bool → List Bool → Type 0
AreMarksBefore count axioms marks by_number = (id : ℕ) → (slice_index_or by_number id false ≡ true) ↔ IsMarkedBefore count axioms marks id

unwrapped : (o : Option Bool) → unwrap_or o false ≡ true → o ≡ Some true
unwrapped None e = absurd (cc)
unwrapped (Some true) e = refl
unwrapped (Some false) e = absurd (cc)

no_mark : (n i : ℕ) → get_or (replicate n false) i false ≡ false
no_mark n i =
    elim (cases_lt i n) as (λ _. get_or (replicate n false) i false ≡ false) [
      | inl within ↦ get_or-replicate n i false false within
      | inr past ↦ get_or_past (replicate n false) i false (subst (λ (k : ℕ). k ≤ i) (sym (length-replicate n false)) past)
    ]

pub none_yet : (n : ℕ) (marks : List Bool) → marks ≡ replicate n false → (id : ℕ) → slice_index_or marks id false ≡ true → ⊥
none_yet n marks e id h = let no_more : false ≡ true = sym (no_mark n id) ∙ (ap (λ (bs : List Bool). get_or bs id false) (sym e) ∙ h) in cc

pub none_marked : (axioms : List ℕ) (marks by_number : List Bool) → ((id : ℕ) → slice_index_or by_number id false ≡ true → ⊥) → AreMarksBefore 0 axioms marks by_number
none_marked axioms marks by_number none id = (λ h. absurd (none id h), λ m. absurd (let few = m.before in omega (arith, few)))

pub one_more_marked : (axioms : List ℕ) (marks old new : List Bool) (place id : ℕ) (is : Bool) → place < length axioms → id ≡ get_or axioms place id → is ≡ slice_index_or marks place false →
    ((other : ℕ) → (slice_index_or new other false ≡ true) ↔ ((slice_index_or old other false ≡ true) ⊎ ((is ≡ true) × (other ≡ id)))) →
    AreMarksBefore place axioms marks old → AreMarksBefore (place + 1) axioms marks new
one_more_marked axioms marks old new place id is within at mark told before other = (
  λ h. elim ((told other).0 h) as (λ _. IsMarkedBefore (place + 1) axioms marks other) [
    | inl e ↦
        let m = (before other).0 e in
        let few = m.before in
        record { place = m.place; before = omega (arith, few); at = m.at; mark = m.mark }
    | inr e ↦ record {
      place = place;
      before = omega arith;
      at = slice_get-get_or axioms place id within ∙ ap (λ (n : ℕ). Some n) (sym at ∙ sym e.1);
      mark = unwrapped (slice_get marks place) (unwrap_or-slice_get marks place false ∙ (sym mark ∙ e.0));
    }
  ],
  λ m.
      let few = m.before in
      (told other).1
      (elim (cases_lt m.place place) as (λ _. (slice_index_or old other false ≡ true) ⊎ ((is ≡ true) × (other ≡ id))) [
        | inl less ↦ inl ((before other).1 (record { place = m.place; before = less; at = m.at; mark = m.mark }))
        | inr past ↦
            let same : m.place ≡ place = omega (arith, few, past) in inr (
              mark ∙ get_or_from_slice_get marks place true false (subst (λ (k : ℕ). slice_get marks k ≡ Some true) same m.mark),
              sym (get_or_from_slice_get axioms place other id (subst (λ (k : ℕ). slice_get axioms k ≡ Some other) same m.at)) ∙ sym at,
            )
      ]),
)

pub all_marked : (axioms : List ℕ) (marks by_number : List Bool) (place : ℕ) → length axioms ≤ place → AreMarksBefore place axioms marks by_number → (id : ℕ) → (slice_index_or by_number id false ≡ true) ↔ IsMarkedAmong axioms marks id
all_marked axioms marks by_number place past before id = (
  λ h. let m = (before id).0 h in record { place = m.place; before = slice_get_within axioms m.place id m.at; at = m.at; mark = m.mark },
  λ m. let few = m.before in (before id).1 (record { place = m.place; before = omega (arith, few, past); at = m.at; mark = m.mark }),
)

-- marks of each axiom, by the numbers of the axioms
pub marks_of_axioms : (ts : List Tree) (ids : List ℕ) (marks by_number : List Bool) (IsSo : Tree → Type 0) → MarkEach (λ (place : ℕ) (t : Tree). IsSo t) (trees_at ts ids) marks →
    ((id : ℕ) → (slice_index_or by_number id false ≡ true) ↔ IsMarkedAmong ids marks id) → (id : ℕ) → Contains ids id → (slice_index_or by_number id false ≡ true) ↔ IsSo (tree_at ts id)
marks_of_axioms ts ids marks by_number IsSo each told id inside = (
  λ h.
      let m = (told id).0 h in
      (each.told m.place (tree_at ts id) (slice_get-map (tree_at ts) ids m.place ∙ ap (option_map (tree_at ts)) m.at)).0 m.mark,
  λ so.
      let at : slice_get ids inside.0 ≡ Some id = slice_get-get_or ids inside.0 id inside.1 ∙ ap (λ (n : ℕ). Some n) inside.2 in
      (told id).1 (record {
        place = inside.0;
        before = inside.1;
        at = at;
        mark = (each.told inside.0 (tree_at ts id) (slice_get-map (tree_at ts) ids inside.0 ∙ ap (option_map (tree_at ts)) at)).1 so;
      }),
)
