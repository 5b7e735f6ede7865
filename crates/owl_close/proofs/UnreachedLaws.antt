-- A document that is not reached changes nothing for those that are.
use Rattle.std.proofs.Common.{◌≢◌, ◌<◌, ℕ, zero, suc, List, [], ◌∷◌, Option, IsSomeAnd, slice_get, inl, inr, refl, sym, ap, subst, arith}
use Rattle.std.proofs.lemmas.Bool.{cases_order}
use Rattle.owl_tree.specs.Ontologies.{Head, IsSameHead, OntologyName}
use Rattle.owl_close.specs.Imports.{HasImport, IsFirstMissing, IsMissing, IsNamedAt, IsNamedBy, MissesNone, Names, Reaches, import, main}
use Rattle.owl_close.proofs.ImportsLaws.{AreAlike, alike_back, at_place}

-- one by one the same heads, but at this place
abbrev pub AreAlikeBut : ℕ → List Head → List Head → Type 0
AreAlikeBut place [] ys = ⊥
AreAlikeBut place (a ∷ xs) [] = ⊥
AreAlikeBut zero (a ∷ xs) (b ∷ ys) = AreAlike xs ys
AreAlikeBut (suc place) (a ∷ xs) (b ∷ ys) = IsSameHead a b × AreAlikeBut place xs ys

-- they differ at a place that neither reaches
pub record DifferUnreached (place : ℕ) (xs ys : List Head) : Type 0 where
  pub alike : AreAlikeBut place xs ys
  pub unreached : Reaches xs place → ⊥
  pub there : Reaches ys place → ⊥

same_back : (a b : Head) → IsSameHead a b → IsSameHead b a
same_back a b s = record { name = sym s.name; imports = λ x. ((s.imports x).1, (s.imports x).0) }

but_back : (place : ℕ) (xs ys : List Head) → AreAlikeBut place xs ys → AreAlikeBut place ys xs
but_back place [] ys s = absurd s
but_back place (a ∷ xs) [] s = absurd s
but_back zero (a ∷ xs) (b ∷ ys) s = alike_back xs ys s
but_back (suc place) (a ∷ xs) (b ∷ ys) s = (same_back a b s.0, but_back place xs ys s.1)

-- what holds at another place of the one holds there of the other
at_other : (P Q : Head → Type 0) → ((a b : Head) → IsSameHead a b → P a → Q b) → (place : ℕ) (xs ys : List Head) → AreAlikeBut place xs ys → (other : ℕ) → other ≢ place → IsSomeAnd (slice_get xs other) P → IsSomeAnd (slice_get ys other) Q
at_other P Q f place [] ys s other n h = absurd s
at_other P Q f place (a ∷ xs) [] s other n h = absurd s
at_other P Q f zero (a ∷ xs) (b ∷ ys) s zero n h = absurd (n refl)
at_other P Q f zero (a ∷ xs) (b ∷ ys) s (suc other) n h = at_place P Q f xs ys s other h
at_other P Q f (suc place) (a ∷ xs) (b ∷ ys) s zero n h = f a b s.0 h
at_other P Q f (suc place) (a ∷ xs) (b ∷ ys) s (suc other) n h =
    at_other P Q f place xs ys s.1 other (λ e. n (ap (λ (p : ℕ). suc p) e)) h

module _ (place : ℕ) (xs ys : List Head) (s : AreAlikeBut place xs ys) where
  named_other : (iri : List ℕ) (other : ℕ) → other ≢ place → IsNamedAt xs iri other → IsNamedAt ys iri other
  named_other iri other n h =
      at_other (λ head. IsNamedBy head iri) (λ head. IsNamedBy head iri) (λ a b e m. subst (λ (name : Option OntologyName). IsNamedBy (record { name = name; imports = [] }) iri) e.name m) place xs ys s other n h

  import_other : (other : ℕ) (iri : List ℕ) → other ≢ place → HasImport xs other iri → HasImport ys other iri
  import_other other iri n h = at_other _ _ (λ a b e m. (e.imports iri).0 m) place xs ys s other n h

module _ (place : ℕ) (xs ys : List Head) (d : DifferUnreached place xs ys) where
  back : AreAlikeBut place ys xs
  back = but_back place xs ys d.alike

  is_other : (other : ℕ) → Reaches xs other → other ≢ place
  is_other other r e = d.unreached (subst (Reaches xs) e r)

  -- Where an import of a reached document named the other document, that would be reached.
  not_named : (from : ℕ) (iri : List ℕ) → Reaches ys from → HasImport ys from iri → ((other : ℕ) → other < place → IsNamedAt xs iri other → ⊥) → IsNamedAt ys iri place → ⊥
  not_named from iri r i none named =
      d.there (import from place r (record { iri = iri; import = i; names = record { named = named; first = λ other l h. none other l (named_other place ys xs back iri other (λ e. let same = e in absurd (omega arith)) h) } }))

  names_unreached : (from to : ℕ) (iri : List ℕ) → Reaches xs to → Reaches ys from → HasImport ys from iri → Names xs iri to → Names ys iri to
  names_unreached from to iri reached r i names = record {
    named = named_other place xs ys d.alike iri to (is_other to reached) names.named;
    first = λ other l h. elim (cases_order other place) [
      | inl e ↦ not_named from iri r i (λ before m k. names.first before (let same = e in omega arith) k) (subst (IsNamedAt ys iri) e h)
      | inr m ↦ names.first other l (named_other place ys xs back iri other (λ e. let same = e in elim m [ inl a ↦ absurd (omega arith) | inr b ↦ absurd (omega arith) ]) h)
    ];
  }

  pub reaches_unreached : (to : ℕ) → Reaches xs to → Reaches ys to
  reaches_unreached to main = main
  reaches_unreached to (import from there r i) =
      let from_there = reaches_unreached from r in
      let has = import_other place xs ys d.alike from i.iri (is_other from r) i.import in
      import from there from_there (record { iri = i.iri; import = has; names = names_unreached from there i.iri (import from there r i) from_there has i.names })

  pub missing_unreached : (other : ℕ) (iri : List ℕ) → IsMissing xs other iri → IsMissing ys other iri
  missing_unreached other iri m =
      let reached = reaches_unreached other m.reached in
      let has = import_other place xs ys d.alike other iri (is_other other m.reached) m.import in
      record {
        reached = reached;
        import = has;
        none = λ at h. elim (cases_order at place) [
          | inl e ↦ not_named other iri reached has (λ before l k. m.none before k) (subst (IsNamedAt ys iri) e h)
          | inr l ↦ m.none at (named_other place ys xs back iri at (λ e. let same = e in elim l [ inl a ↦ absurd (omega arith) | inr b ↦ absurd (omega arith) ]) h)
        ];
      }

pub unreached_back : (place : ℕ) (xs ys : List Head) → DifferUnreached place xs ys → DifferUnreached place ys xs
unreached_back place xs ys d = record { alike = but_back place xs ys d.alike; unreached = d.there; there = d.unreached }

-- the first missing import is the same
pub first_missing_unreached : (place : ℕ) (xs ys : List Head) → DifferUnreached place xs ys → (other : ℕ) (iri : List ℕ) → IsFirstMissing xs other iri → IsFirstMissing ys other iri
first_missing_unreached place xs ys d other iri m =
    let t = unreached_back place xs ys d in
    record {
      missing = missing_unreached place xs ys d other iri m.missing;
      first = λ another theirs k. m.first another theirs (missing_unreached place ys xs t another theirs k);
      least = λ theirs k. m.least theirs (missing_unreached place ys xs t other theirs k);
    }

pub none_missing_unreached : (place : ℕ) (xs ys : List Head) → DifferUnreached place xs ys → MissesNone xs → MissesNone ys
none_missing_unreached place xs ys d none = λ other iri m. none other iri (missing_unreached place ys xs (unreached_back place xs ys d) other iri m)
