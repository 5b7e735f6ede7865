-- What the reached documents declare depends on what is read of them, and on no other document.
use Rattle.std.proofs.Common.{◌≡◌, ◌≢◌, ℕ, zero, suc, Some, List, [], ◌∷◌, slice_get, refl, ap, subst}
use Rattle.owl_kind.specs.declared.kind.Kind.{Kind}
use Rattle.owl_kind.specs.Kinds.{Entity}
use Rattle.owl_kind.proofs.OrderLaws.{one_order}
use Rattle.owl_close.specs.Imports.{Reaches}
use Rattle.owl_close.proofs.ImportsLaws.{reaches_alike}
use Rattle.owl_close.proofs.UnreachedLaws.{DifferUnreached, reaches_unreached, unreached_back}
use Rattle.owl_documents.specs.Documents.{DeclaresAs, Parsed}
use Rattle.owl_documents.specs.OneWay.{AreSame, IsSameParsed}
use Rattle.owl_answer.specs.KindsAt.{AreClosureKinds, AreOwnKinds, DeclaresAt, IsDeclaredInClosure}
use Rattle.owl_answer.specs.Outcome.{heads_in}
use Rattle.owl_answer.specs.Unreached.{AreSameBut}
use Rattle.owl_answer.proofs.Heads.{alike, but_back, same_back}
use Rattle.owl_answer.proofs.Same.{declares_same_as, parsed_back}

-- a document that is read as the same stands at this place
pub record StandsAlike (others : List Parsed) (place : ℕ) (parsed : Parsed) : Type 0 where
  pub other : Parsed
  pub there : slice_get others place ≡ Some other
  pub same : IsSameParsed parsed other

pub found_alike : (ds es : List Parsed) → AreSame ds es → (place : ℕ) (parsed : Parsed) → slice_get ds place ≡ Some parsed → StandsAlike es place parsed
found_alike [] [] s place parsed e = absurd (cc)
found_alike [] (x ∷ es) s place parsed e = absurd s
found_alike (d ∷ ds) [] s place parsed e = absurd s
found_alike (d ∷ ds) (x ∷ es) s zero parsed e =
    let here : d ≡ parsed = cc in
    record { other = x; there = refl; same = subst (λ (y : Parsed). IsSameParsed y x) here s.0 }
found_alike (d ∷ ds) (x ∷ es) s (suc place) parsed e =
    let found = found_alike ds es s.1 place parsed e in
    record { other = found.other; there = found.there; same = found.same }

pub found_but : (but : ℕ) (ds es : List Parsed) → AreSameBut but ds es → (place : ℕ) → place ≢ but → (parsed : Parsed) → slice_get ds place ≡ Some parsed → StandsAlike es place parsed
found_but but [] es s place n parsed e = absurd s
found_but but (d ∷ ds) [] s place n parsed e = absurd s
found_but zero (d ∷ ds) (x ∷ es) s zero n parsed e = absurd (n refl)
found_but zero (d ∷ ds) (x ∷ es) s (suc place) n parsed e =
    let found = found_alike ds es s place parsed e in
    record { other = found.other; there = found.there; same = found.same }
found_but (suc but) (d ∷ ds) (x ∷ es) s zero n parsed e =
    let here : d ≡ parsed = cc in
    record { other = x; there = refl; same = subst (λ (y : Parsed). IsSameParsed y x) here s.0 }
found_but (suc but) (d ∷ ds) (x ∷ es) s (suc place) n parsed e =
    let found = found_but but ds es s.1 place (λ f. n (ap (λ (p : ℕ). suc p) f)) parsed e in
    record { other = found.other; there = found.there; same = found.same }

declares_alike : (es : List Parsed) (place : ℕ) (parsed : Parsed) (kind : Kind) (iri : List ℕ) → StandsAlike es place parsed → DeclaresAs parsed kind iri → DeclaresAt es place kind iri
declares_alike es place parsed kind iri found h =
    record { parsed = found.other; there = found.there; declares = declares_same_as parsed found.other found.same kind iri h }

closure_alike : (ds es : List Parsed) → AreSame ds es → (kind : Kind) (iri : List ℕ) → IsDeclaredInClosure ds kind iri → IsDeclaredInClosure es kind iri
closure_alike ds es s kind iri d = record {
  place = d.place;
  reached = reaches_alike (heads_in ds) (heads_in es) (alike ds es s) d.place d.reached;
  at = declares_alike es d.place d.at.parsed kind iri (found_alike ds es s d.place d.at.parsed d.at.there) d.at.declares;
}

-- documents that are read as the same have the same kinds
pub kinds_alike : (ds es : List Parsed) (kinds : List Entity) → AreSame ds es → AreClosureKinds ds kinds → AreClosureKinds es kinds
kinds_alike ds es kinds s k = record {
  declared = λ kind iri. (
    λ h. closure_alike ds es s kind iri ((k.declared kind iri).0 h),
    λ h. (k.declared kind iri).1 (closure_alike es ds (same_back ds es s) kind iri h),
  );
  ordered = k.ordered;
}

pub own_alike : (a b : Parsed) (kinds : List Entity) → IsSameParsed a b → AreOwnKinds a kinds → AreOwnKinds b kinds
own_alike a b kinds s k = record {
  declared = λ kind iri. (
    λ h. declares_same_as a b s kind iri ((k.declared kind iri).0 h),
    λ h. (k.declared kind iri).1 (declares_same_as b a (parsed_back a b s) kind iri h),
  );
  ordered = k.ordered;
}

-- and so have documents that differ where neither main one reaches
module _ (place : ℕ) (ds es : List Parsed) (s : AreSameBut place ds es) (u : DifferUnreached place (heads_in ds) (heads_in es)) where
  elsewhere : (other : ℕ) → Reaches (heads_in ds) other → other ≢ place
  elsewhere other r e = u.unreached (subst (Reaches (heads_in ds)) e r)

  closure_but : (kind : Kind) (iri : List ℕ) → IsDeclaredInClosure ds kind iri → IsDeclaredInClosure es kind iri
  closure_but kind iri d = record {
    place = d.place;
    reached = reaches_unreached place (heads_in ds) (heads_in es) u d.place d.reached;
    at = declares_alike es d.place d.at.parsed kind iri (found_but place ds es s d.place (elsewhere d.place d.reached) d.at.parsed d.at.there) d.at.declares;
  }

pub kinds_but : (place : ℕ) (ds es : List Parsed) → AreSameBut place ds es → DifferUnreached place (heads_in ds) (heads_in es) → (kinds : List Entity) → AreClosureKinds ds kinds → AreClosureKinds es kinds
kinds_but place ds es s u kinds k = record {
  declared = λ kind iri. (
    λ h. closure_but place ds es s u kind iri ((k.declared kind iri).0 h),
    λ h. (k.declared kind iri).1 (closure_but place es ds (but_back place ds es s) (unreached_back place (heads_in ds) (heads_in es) u) kind iri h),
  );
  ordered = k.ordered;
}

-- there is one list of them
pub closure_once : (documents : List Parsed) (kinds others : List Entity) → AreClosureKinds documents kinds → AreClosureKinds documents others → kinds ≡ others
closure_once documents kinds others k o =
    one_order kinds others k.ordered o.ordered (λ kind iri. (λ h. (o.declared kind iri).1 ((k.declared kind iri).0 h), λ h. (k.declared kind iri).1 ((o.declared kind iri).0 h)))

pub own_once : (parsed : Parsed) (kinds others : List Entity) → AreOwnKinds parsed kinds → AreOwnKinds parsed others → kinds ≡ others
own_once parsed kinds others k o =
    one_order kinds others k.ordered o.ordered (λ kind iri. (λ h. (o.declared kind iri).1 ((k.declared kind iri).0 h), λ h. (k.declared kind iri).1 ((o.declared kind iri).0 h)))
