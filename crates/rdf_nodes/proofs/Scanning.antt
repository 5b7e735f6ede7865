-- The search for a cardinality that is too large.
use Rattle.std.specs.Prelude.{◌≡◌, List, [], ◌∷◌, Contains}
use Rattle.std.proofs.Common.{inl, inr, sym, subst}
use Rattle.owl_list.proofs.AscendingLaws.{in_cases, in_head, in_none, in_tail}
use Rattle.rdf_graph.specs.declared.triple.Triple.{Triple}
use Rattle.rdf_nodes.specs.Large.{IsLarge, SomeIsLarge}

-- what is large is in the rest, and the rest is of the graph
pub record IsScanned (g rest : List Triple) : Type 0 where
  pub ahead : SomeIsLarge g g → SomeIsLarge g rest
  pub within : (t : Triple) → Contains rest t → Contains g t

pub not_scanned : (g ts : List Triple) → ts ≡ g → IsScanned g ts
not_scanned g ts e = subst (IsScanned g) (sym e) (record { ahead = λ h. h; within = λ t m. m })

behind_first : (g : List Triple) (t : Triple) (behind : List Triple) → (IsLarge g t → ⊥) → SomeIsLarge g (t ∷ behind) → SomeIsLarge g behind
behind_first g t behind never h =
    elim (in_cases t behind h.triple h.inside) [
      | inl e ↦ absurd (never (subst (IsLarge g) (sym e) h.is))
      | inr m ↦ record { triple = h.triple; inside = m; is = h.is }
    ]

pub one_more_scanned : (g rest : List Triple) (t : Triple) (behind : List Triple) → IsScanned g rest → rest ≡ t ∷ behind → (IsLarge g t → ⊥) → IsScanned g behind
one_more_scanned g rest t behind s e never = record {
  ahead = λ h. behind_first g t behind never (subst (SomeIsLarge g) e (s.ahead h));
  within = λ u m. s.within u (subst (λ ts. Contains ts u) (sym e) (in_tail t behind u m));
}

pub found_large : (g rest : List Triple) (t : Triple) (behind : List Triple) → IsScanned g rest → rest ≡ t ∷ behind → IsLarge g t → SomeIsLarge g g
found_large g rest t behind s e is =
    record { triple = t; inside = s.within t (subst (λ ts. Contains ts t) (sym e) (in_head t behind)); is = is }

pub none_large : (g rest : List Triple) → IsScanned g rest → rest ≡ [] → SomeIsLarge g g → ⊥
none_large g rest s e h = let found = subst (SomeIsLarge g) e (s.ahead h) in in_none found.triple found.inside
