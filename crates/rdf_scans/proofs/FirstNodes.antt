-- The first triple with a fact tells the first blank node with another, where each such node has such a triple.
use Rattle.std.proofs.Common.{◌≡◌, inl, inr, List, [], ◌∷◌, ◌++◌, ℕ, sym, ap, ◌∙◌, subst}
use Rattle.std.specs.Prelude.{Contains, map}
use Rattle.std.specs.Ordering.{ordering_then}
use Rattle.std.specs.declared.cmp.Ordering.{Ordering}
use Rattle.std.specs.declared.cmp.Ordering.TheVariants.{Less}
use Rattle.std.specs.Cmp.{IsTotalOrder}
use Rattle.std.proofs.lemmas.Cmp.{tied_itself}
use Rattle.std.proofs.lemmas.List.Elements.{Contains-append_cases, Contains-append_right}
use Rattle.owl_characters.specs.Order.{text_cmp}
use Rattle.owl_list.specs.Ascending.{IsAscending}
use Rattle.owl_list.proofs.AscendingLaws.{all_from, all_in, ascending_ascends, head_below, in_cases, in_head, in_map, in_none, in_tail, tail_ascends}
use Rattle.rdf_faults.specs.Firsts.{HoldsForNone, IsFirst}
use Rattle.rdf_graph.specs.declared.term.Term.{Term}
use Rattle.rdf_graph.specs.declared.term.Term.TheVariants.{Iri, Blank, Literal}
use Rattle.rdf_graph.specs.declared.triple.Triple.{Triple}
use Rattle.rdf_graph.proofs.TermLaws.{terms_total, triples_total}
use Rattle.rdf_graph.specs.Terms.{term_cmp, triple_cmp}
use Rattle.rdf_meaning.proofs.NodeLaws.{subjects_are}
use Rattle.rdf_meaning.specs.Nodes.{subjects_of}
use Rattle.rdf_roles.proofs.NodeLaws.{same_label}
use Rattle.rdf_roles.specs.Tables.{blank_nodes, labels_in}

not_itself : {X : Type 0} (cmp : X → X → Ordering) → IsTotalOrder cmp → (x : X) → cmp x x ≡ Less → ⊥
not_itself cmp total x e = let t = tied_itself total x in cc

module _ {X : Type 0} (cmp : X → X → Ordering) where
  behind : (before after : List X) (x y : X) → IsAscending cmp (before ++ x ∷ after) → Contains after y → cmp x y ≡ Less
  behind [] after x y a m = all_in (λ z. cmp x z ≡ Less) after y (head_below cmp x after a) m
  behind (b ∷ before) after x y a m = behind before after x y (tail_ascends cmp b (before ++ x ∷ after) a) m

module _ (P : List ℕ → Type 0) (label : List ℕ) (holds : P label) where
  abbrev AreNoneBelow : List Term → Type 0
  AreNoneBelow xs = (l : List ℕ) → Contains xs (Blank l) → term_cmp (Blank l) (Blank label) ≡ Less → P l → ⊥

  first_label : (xs : List Term) → IsAscending term_cmp xs → Contains xs (Blank label) → AreNoneBelow xs → IsFirst P (labels_in xs) label
  first_label [] a m none = absurd (in_none (Blank label) m)
  first_label (Iri iri ∷ xs) a m none =
      elim (in_cases (Iri iri) xs (Blank label) m) [
        | inl e ↦ cc
        | inr k ↦ first_label xs (tail_ascends term_cmp (Iri iri) xs a) k (λ l n. none l (in_tail (Iri iri) xs (Blank l) n))
      ]
  first_label (Literal literal ∷ xs) a m none =
      elim (in_cases (Literal literal) xs (Blank label) m) [
        | inl e ↦ cc
        | inr k ↦ first_label xs (tail_ascends term_cmp (Literal literal) xs a) k (λ l n. none l (in_tail (Literal literal) xs (Blank l) n))
      ]
  first_label (Blank l ∷ xs) a m none =
      elim (in_cases (Blank l) xs (Blank label) m) [
        | inl e ↦
            record { before = []; after = labels_in xs; split = ap (λ z. z ∷ labels_in xs) (same_label l label e); none = tt; holds = holds }
        | inr k ↦
            let rest = first_label xs (tail_ascends term_cmp (Blank l) xs a) k (λ o n. none o (in_tail (Blank l) xs (Blank o) n)) in
            let below = all_in (λ z. term_cmp (Blank l) z ≡ Less) xs (Blank label) (head_below term_cmp (Blank l) xs a) k in record {
              before = l ∷ rest.before;
              after = rest.after;
              split = ap (λ ls. l ∷ ls) rest.split;
              none = (none l (in_head (Blank l) xs) below, rest.none);
              holds = holds;
            }
      ]

-- a triple of the node with the fact
pub record HasMark (g : List Triple) (R : Triple → Type 0) (label : List ℕ) : Type 0 where
  pub triple : Triple
  pub inside : Contains g triple
  pub subject : triple.subject ≡ Blank label
  pub mark : R triple

module _ (g : List Triple) (R : Triple → Type 0) (P : List ℕ → Type 0) (marked : (label : List ℕ) → P label → HasMark g R label) where
  pub no_node : HoldsForNone R g → HoldsForNone P (blank_nodes g)
  no_node none =
      all_from (λ l. P l → ⊥) (blank_nodes g)
      (λ l m p. let k = marked l p in all_in (λ t. R t → ⊥) g k.triple none k.inside k.mark)

  module _ (ascends : IsAscending triple_cmp g) (t : Triple) (label : List ℕ) (is : t.subject ≡ Blank label) (first : IsFirst R g t) where
    within : Contains g t
    within =
        subst (λ (ts : List Triple). Contains ts t) (sym first.split)
        (Contains-append_right first.before (t ∷ first.after) t (in_head t first.after))

    none_below : (u : Triple) → Contains g u → R u → term_cmp u.subject t.subject ≡ Less → ⊥
    none_below u m r less =
        elim (Contains-append_cases first.before (t ∷ first.after) u (subst (λ (ts : List Triple). Contains ts u) first.split m)) [
          | inl before ↦ all_in (λ v. R v → ⊥) first.before u first.none before r
          | inr k ↦ elim (in_cases t first.after u k) [
            | inl e ↦ not_itself term_cmp terms_total t.subject (ap (λ (v : Triple). term_cmp v.subject t.subject) e ∙ less)
            | inr after ↦
                let over = behind triple_cmp first.before first.after t u (subst (IsAscending triple_cmp) first.split ascends) after in
                let under : triple_cmp u t ≡ Less = ap (λ o. ordering_then o (ordering_then (text_cmp u.predicate t.predicate) (term_cmp u.object t.object))) less in
                not_itself triple_cmp triples_total t (triples_total.trans t u t over under)
          ]
        ]

    pub first_node : P label → IsFirst P (blank_nodes g) label
    unfolding blank_nodes
    first_node holds =
        first_label P label holds (subjects_of g) (ascending_ascends term_cmp terms_total (map (λ u. u.subject) g))
        ((subjects_are g (Blank label)).1 (subst (Contains (map (λ u. u.subject) g)) is (in_map (λ u. u.subject) g t within)))
        (λ l m less p.
        let k = marked l p in
        none_below k.triple k.inside k.mark (ap (λ x. term_cmp x t.subject) k.subject ∙ ap (term_cmp (Blank l)) is ∙ less))
