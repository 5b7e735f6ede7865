-- Of how many of the first triples of a graph nodes are the object.
use Rattle.std.specs.Prelude.{◌≡◌, ◌<◌, ◌≤◌, ◌+◌, ℕ, zero, suc, true, false, List, [], ◌∷◌, ◌++◌, Contains, length, take, slice_get, slice_set, Some, None}
use Rattle.std.proofs.Common.{inl, inr, refl, sym, ap, ◌∙◌, subst, arith}
use Rattle.std.proofs.lemmas.Bool.{cond-false, cond-true, false_from_ne_true}
use Rattle.std.proofs.lemmas.List.{append-nil, length-append, length-set}
use Rattle.std.proofs.lemmas.List.Elements.{filter-append}
use Rattle.std.proofs.lemmas.Option.{same_Some, slice_get_within}
use Rattle.owl_list.proofs.EachOnceLaws.{there}
use Rattle.rdf_graph.proofs.TermLaws.{only_equal_terms_compare_equal}
use Rattle.rdf_graph.specs.declared.term.Term.{Term}
use Rattle.rdf_graph.specs.declared.term.Term.TheVariants.{Blank}
use Rattle.rdf_graph.specs.declared.triple.Triple.{Triple}
use Rattle.rdf_meaning.specs.Nodes.{is_same}
use Rattle.rdf_roles.proofs.Down.{one_number}
use Rattle.rdf_roles.proofs.NodeLaws.{keys_are}
use Rattle.rdf_roles.proofs.NotedUnder.{same_or_not}
use Rattle.rdf_roles.specs.Tables.{HasNumber, IsTableOf, RoleTable, blank_nodes}
use Rattle.ttl_levels.specs.Nested.{named_by}
use Rattle.ttl_levels.specs.NestTables.{AreNamed, IsNamedSo, IsOnceAt}
use Rattle.ttl_levels.specs.declared.named.Named.{Named}
use Rattle.ttl_levels.specs.declared.named.Named.TheVariants.{Never, Once, More}
use Rattle.ttl_levels.proofs.Setting.{set_at, set_other}

pub same_itself : (x : Term) → is_same x x ≡ true
same_itself x = (only_equal_terms_compare_equal x x).1 refl

pub same_is : (x y : Term) → is_same x y ≡ true → x ≡ y
same_is x y h = (only_equal_terms_compare_equal x y).0 h

pub differs : (x y : Term) → (x ≡ y → ⊥) → is_same x y ≡ false
differs x y h = false_from_ne_true (is_same x y) (λ t. h (same_is x y t))

-- one triple more
named_more : (before : List Triple) (t : Triple) → named_by (before ++ t ∷ []) t.object ≡ named_by before t.object ++ t ∷ []
named_more before t =
    filter-append (λ (u : Triple). is_same u.object t.object) before (t ∷ [])
    ∙ ap (λ (ts : List Triple). named_by before t.object ++ ts) (cond-true (is_same t.object t.object) (t ∷ []) [] (same_itself t.object))

other_named : (before : List Triple) (t : Triple) (x : Term) → (t.object ≡ x → ⊥) → named_by (before ++ t ∷ []) x ≡ named_by before x
other_named before t x other =
    filter-append (λ (u : Triple). is_same u.object x) before (t ∷ [])
    ∙ ap (λ (ts : List Triple). named_by before x ++ ts) (cond-false (is_same t.object x) (t ∷ []) [] (differs t.object x other))
    ∙ append-nil (named_by before x)

pub once_of_never : (g before : List Triple) (t : Triple) (place : ℕ) → slice_get g place ≡ Some t → named_by before t.object ≡ [] → IsOnceAt g (before ++ t ∷ []) t.object place
once_of_never g before t place at none = record { triple = t; at = at; only = named_more before t ∙ ap (λ (ts : List Triple). ts ++ t ∷ []) none }

more_behind : (before : List Triple) (t : Triple) → 1 ≤ length (named_by before t.object) → 2 ≤ length (named_by (before ++ t ∷ []) t.object)
more_behind before t some = omega (arith, some, ap length (named_more before t), length-append (named_by before t.object) (t ∷ []))

pub more_of_once : (g before : List Triple) (t : Triple) (place : ℕ) → IsOnceAt g before t.object place → 2 ≤ length (named_by (before ++ t ∷ []) t.object)
more_of_once g before t place h = more_behind before t (omega (arith, ap length h.only))

pub more_of_more : (before : List Triple) (t : Triple) → 2 ≤ length (named_by before t.object) → 2 ≤ length (named_by (before ++ t ∷ []) t.object)
more_of_more before t h = more_behind before t (omega (arith, h))

so_again : (g before : List Triple) (t : Triple) (x : Term) (named : Named) → (t.object ≡ x → ⊥) → IsNamedSo g before x named → IsNamedSo g (before ++ t ∷ []) x named
so_again g before t x Never other h = other_named before t x other ∙ h
so_again g before t x (Once place) other h = record { triple = h.triple; at = h.at; only = other_named before t x other ∙ h.only }
so_again g before t x More other h = omega (arith, h, ap length (other_named before t x other))

pub node_number : (g : List Triple) (table : RoleTable) (label : List ℕ) (number : ℕ) → IsTableOf g table → HasNumber table.nodes label (Some number) → slice_get (blank_nodes g) number ≡ Some label
node_number g table label number is has = ap (λ (ls : List (List ℕ)). slice_get ls number) (sym (keys_are g table.nodes is.nodes)) ∙ has

pub number_within : (g : List Triple) (table : RoleTable) (label : List ℕ) (number : ℕ) → IsTableOf g table → HasNumber table.nodes label (Some number) → number < length (blank_nodes g)
number_within g table label number is has = slice_get_within (blank_nodes g) number label (node_number g table label number is has)

module _ (g before : List Triple) (t : Triple) (names : List Named) (are : AreNamed g before names) where
  -- the object is no node of the table
  pub no_node_named : ((number : ℕ) (label : List ℕ) → slice_get (blank_nodes g) number ≡ Some label → t.object ≡ Blank label → ⊥) → AreNamed g (before ++ t ∷ []) names
  no_node_named none = record {
    size = are.size;
    each = λ number label named at is. so_again g before t (Blank label) named (none number label at) (are.each number label named at is);
  }

  pub node_named : (number : ℕ) (label : List ℕ) (new : Named) → slice_get (blank_nodes g) number ≡ Some label → t.object ≡ Blank label → IsNamedSo g (before ++ t ∷ []) t.object new → AreNamed g (before ++ t ∷ []) (slice_set names number new)
  node_named number label new at object is = record {
    size = length-set names number new ∙ are.size;
    each = λ k other named k_at k_is. elim (same_or_not number k) as (λ _. IsNamedSo g (before ++ t ∷ []) (Blank other) named) [
      | inl e ↦
          let same : label ≡ other = same_Some label other (sym at ∙ ap (slice_get (blank_nodes g)) e ∙ k_at) in
          let found : new ≡ named = set_at names number new named (ap (slice_get (slice_set names number new)) e ∙ k_is) in
          subst (λ (x : Term). IsNamedSo g (before ++ t ∷ []) x named) (object ∙ ap Blank same) (subst (IsNamedSo g (before ++ t ∷ []) t.object) found is)
      | inr o ↦
          so_again g before t (Blank other) named
          (λ e. o (one_number g t.object number k (record { label = label; is = object; at = at }) (record { label = other; is = e; at = k_at })))
          (are.each k other named k_at (sym (set_other names number k new o) ∙ k_is))
    ];
  }

-- the first triples, with one more
taken_suc : (g : List Triple) (place : ℕ) (t : Triple) → slice_get g place ≡ Some t → take (suc place) g ≡ take place g ++ t ∷ []
taken_suc [] place t e = absurd (cc)
taken_suc (u ∷ g) zero t e = ap (λ (v : Triple). v ∷ []) (same_Some u t e)
taken_suc (u ∷ g) (suc place) t e = ap (λ (ts : List Triple). u ∷ ts) (taken_suc g place t e)

pub taken_one : (g : List Triple) (place : ℕ) (t : Triple) → slice_get g place ≡ Some t → take (place + 1) g ≡ take place g ++ t ∷ []
taken_one g place t e = let next : place + 1 ≡ suc place = omega arith in ap (λ (n : ℕ). take n g) next ∙ taken_suc g place t e

pub none_named : (g : List Triple) (names : List Named) → length names ≡ length (blank_nodes g) → ((number : ℕ) (named : Named) → slice_get names number ≡ Some named → named ≡ Never) → AreNamed g [] names
none_named g names size never = record { size = size; each = λ number label named at is. subst (IsNamedSo g [] (Blank label)) (sym (never number named is)) refl }

pub no_number : (g : List Triple) (table : RoleTable) (label : List ℕ) (number : ℕ) (other : List ℕ) → IsTableOf g table → HasNumber table.nodes label None → slice_get (blank_nodes g) number ≡ Some other → other ≡ label → ⊥
no_number g table label number other is none at e =
    none (subst (λ (ls : List (List ℕ)). Contains ls label) (sym (keys_are g table.nodes is.nodes)) (subst (Contains (blank_nodes g)) e (there (blank_nodes g) number other at)))

pub label_is : (a b : List ℕ) → Blank a ≡ Blank b → a ≡ b
label_is a b e = cc
