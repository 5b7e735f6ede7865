-- Imposed ranges of things go along with those of their numbers, where no two things that are listed have one number.
use Rattle.std.proofs.Common.{◌≡◌, ◌↔◌, ℕ, Bool, List, sym, ap, subst}
use Rattle.std.specs.Prelude.{Contains}
use Rattle.owl_list.proofs.AscendingLaws.{from_map}
use Rattle.graph_walks.specs.Marks.{MarkEach}
use Rattle.graph_walks.specs.Numbers.{numbered}
use Rattle.graph_walks.specs.Walks.{Walks}
use Rattle.graph_walks.proofs.NumberLaws.{AreListed, marks_of_made, same_walks, to_numbered, walks_numbered}
use Rattle.graph_walks.proofs.WithoutLaws.{in_place}
use Rattle.chain_ranges.specs.Imposed.{IsImposed, LacksRange}

module _ {P : Type 0} (number : P → ℕ) (IsListed : P → Type 0) (apart : (x y : P) → IsListed x → IsListed y → number x ≡ number y → x ≡ y) (steps ranges : List (P × P)) (above : AreListed IsListed steps) (given : AreListed IsListed ranges) where
  abbrev numbers : P × P → ℕ × ℕ
  numbers pair = (number pair.0, number pair.1)

  same_imposed : (class property : P) → IsListed class → IsListed property → IsImposed steps ranges class property ↔ IsImposed (numbered number steps) (numbered number ranges) (number class) (number property)
  same_imposed class property own known = (
    λ h. record { on = number h.on; leads = walks_numbered number steps property h.on h.leads; range = to_numbered number ranges h.on class h.range },
    λ h.
        let v = from_map numbers ranges (h.on, number class) h.range in
        let ends = given v.element.0 v.element.1 v.inside in
        let on : number v.element.0 ≡ h.on = ap (λ (p : ℕ × ℕ). p.0) v.value in
        let same : v.element.1 ≡ class = apart v.element.1 class ends.1 own (ap (λ (p : ℕ × ℕ). p.1) v.value) in
        record {
          on = v.element.0;
          leads = (same_walks number IsListed apart steps above property v.element.0 known ends.0).1 (subst (λ (n : ℕ). Walks (numbered number steps) (number property) n) (sym on) h.leads);
          range = subst (λ (c : P). Contains ranges (v.element.0, c)) same v.inside;
        },
  )

  same_lacks : (last implied : P) → IsListed last → IsListed implied → LacksRange steps ranges last implied ↔ LacksRange (numbered number steps) (numbered number ranges) (number last) (number implied)
  same_lacks last implied first second = (
    λ h.
        let own = (given h.imposed.on h.class h.imposed.range).1 in
        record {
          class = number h.class;
          imposed = (same_imposed h.class implied own second).0 h.imposed;
          lacks = λ i. h.lacks ((same_imposed h.class last own first).1 i);
        },
    λ h.
        let v = from_map numbers ranges (h.imposed.on, h.class) h.imposed.range in
        let own = (given v.element.0 v.element.1 v.inside).1 in
        let is : number v.element.1 ≡ h.class = ap (λ (p : ℕ × ℕ). p.1) v.value in
        record {
          class = v.element.1;
          imposed = (same_imposed v.element.1 implied own second).1 (subst (λ (n : ℕ). IsImposed (numbered number steps) (numbered number ranges) n (number implied)) (sym is) h.imposed);
          lacks = λ i. h.lacks (subst (λ (n : ℕ). IsImposed (numbered number steps) (numbered number ranges) n (number last)) is ((same_imposed v.element.1 last own first).0 i));
        },
  )

  -- marks of numbers mark things
  pub lacking_of_things : (chains : List (P × P)) → AreListed IsListed chains → (marks : List Bool) → MarkEach (λ (place : ℕ) (chain : ℕ × ℕ). LacksRange (numbered number steps) (numbered number ranges) chain.0 chain.1) (numbered number chains) marks →
      MarkEach (λ (place : ℕ) (chain : P × P). LacksRange steps ranges chain.0 chain.1) chains marks
  lacking_of_things chains known marks each =
      marks_of_made numbers (λ (place : ℕ) (chain : P × P). LacksRange steps ranges chain.0 chain.1) (λ (place : ℕ) (chain : ℕ × ℕ). LacksRange (numbered number steps) (numbered number ranges) chain.0 chain.1) chains marks
      (λ place chain is. let ends = known chain.0 chain.1 (in_place chains place chain is) in same_lacks chain.0 chain.1 ends.0 ends.1)
      each
