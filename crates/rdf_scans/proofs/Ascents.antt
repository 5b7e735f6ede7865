-- Triples that are alike but for one of their terms ascend by that term.
use Rattle.std.proofs.Common.{◌≡◌, List, [], ◌∷◌, refl, sym, ap, ◌∙◌}
use Rattle.std.specs.Prelude.{map}
use Rattle.std.specs.List.{AllByRecursion}
use Rattle.std.specs.Ordering.{ordering_then}
use Rattle.std.specs.declared.cmp.Ordering.{Ordering}
use Rattle.std.specs.declared.cmp.Ordering.TheVariants.{Less, Equal, Greater}
use Rattle.std.specs.Cmp.{IsTotalOrder}
use Rattle.std.proofs.lemmas.Cmp.{tied_itself}
use Rattle.owl_characters.specs.Order.{text_cmp}
use Rattle.owl_characters.specs.OrderLaws.{texts_total}
use Rattle.owl_list.specs.Ascending.{IsAscending}
use Rattle.owl_list.proofs.AscendingLaws.{IsBelowAll, ascends, head_below, nothing_ascends, tail_ascends}
use Rattle.rdf_graph.specs.declared.triple.Triple.{Triple}
use Rattle.rdf_graph.proofs.TermLaws.{terms_total}
use Rattle.rdf_graph.specs.Terms.{term_cmp, triple_cmp}

-- a function that keeps what is less keeps a list ascending
module _ {X Y : Type 0} (f : X → Y) (cmp : X → X → Ordering) (other : Y → Y → Ordering) (P : X → Type 0) (keeps : (x y : X) → P x → P y → cmp x y ≡ Less → other (f x) (f y) ≡ Less) where
  map_below : (x : X) (xs : List X) → P x → AllByRecursion P xs → IsBelowAll cmp x xs → IsBelowAll other (f x) (map f xs)
  map_below x [] p h b = tt
  map_below x (y ∷ ys) p h b = (keeps x y p h.0 b.0, map_below x ys p h.1 b.1)

  pub map_ascends : (xs : List X) → AllByRecursion P xs → IsAscending cmp xs → IsAscending other (map f xs)
  map_ascends [] h a = nothing_ascends other
  map_ascends (x ∷ xs) h a =
      ascends other (f x) (map f xs) (map_below x xs h.0 h.1 (head_below cmp x xs a)) (map_ascends xs h.1 (tail_ascends cmp x xs a))

-- what ascends through a function that keeps the order ascends
module _ {X Y : Type 0} (f : X → Y) (cmp : X → X → Ordering) (other : Y → Y → Ordering) (same : (x y : X) → other (f x) (f y) ≡ cmp x y) where
  before_map_below : (x : X) (xs : List X) → IsBelowAll other (f x) (map f xs) → IsBelowAll cmp x xs
  before_map_below x [] b = tt
  before_map_below x (y ∷ ys) b = (sym (same x y) ∙ b.0, before_map_below x ys b.1)

  pub ascends_before_map : (xs : List X) → IsAscending other (map f xs) → IsAscending cmp xs
  ascends_before_map [] a = nothing_ascends cmp
  ascends_before_map (x ∷ xs) a =
      ascends cmp x xs (before_map_below x xs (head_below other (f x) (map f xs) a)) (ascends_before_map xs (tail_ascends other (f x) (map f xs) a))

tied : {K : Type 0} (cmp : K → K → Ordering) → IsTotalOrder cmp → (a b : K) → a ≡ b → cmp a b ≡ Equal
tied cmp total a b e = ap (cmp a) (sym e) ∙ tied_itself total a

then_tied : (o : Ordering) → ordering_then o Equal ≡ Less → o ≡ Less
then_tied Less h = refl
then_tied Equal h = cc
then_tied Greater h = cc

pub less_subject : (s t : Triple) → s.predicate ≡ t.predicate → s.object ≡ t.object → triple_cmp s t ≡ Less → term_cmp s.subject t.subject ≡ Less
less_subject s t e f h =
    let p = tied text_cmp texts_total s.predicate t.predicate e in
    let q = tied term_cmp terms_total s.object t.object f in
    then_tied (term_cmp s.subject t.subject) (ap (λ o. ordering_then (term_cmp s.subject t.subject) o) (sym (ap (λ o. ordering_then o (term_cmp s.object t.object)) p ∙ q)) ∙ h)

pub less_object : (s t : Triple) → s.subject ≡ t.subject → s.predicate ≡ t.predicate → triple_cmp s t ≡ Less → term_cmp s.object t.object ≡ Less
less_object s t e f h =
    let p = tied term_cmp terms_total s.subject t.subject e in
    let q = tied text_cmp texts_total s.predicate t.predicate f in
    sym (ap (λ o. ordering_then o (ordering_then (text_cmp s.predicate t.predicate) (term_cmp s.object t.object))) p ∙ ap (λ o. ordering_then o (term_cmp s.object t.object)) q) ∙ h
