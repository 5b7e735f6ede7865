-- The best of the prefixes that cut an IRI.
use Rattle.std.proofs.Common.{◌≡◌, ◌<◌, ◌≤◌, ◌+◌, ◌⊎◌, ◌↔◌, inl, inr, ℕ, zero, suc, Bool, true, false, List, [], ◌∷◌, ◌++◌, length, Option, Some, None, IsNone, IfSome, refl, sym, ap, ◌∙◌, subst, length-append, arith}
use Rattle.std.specs.Prelude.{slice_get, Contains, if◌then◌else◌, nat_lt}
use Rattle.std.specs.Option.{option_map}
use Rattle.std.specs.Char.{encode_utf8}
use Rattle.std.specs.Str.{IsCharBoundary, encode_utf8_all}
use Rattle.std.proofs.lemmas.Bool.{ltb-true, ltb-false, true≢false}
use Rattle.std.proofs.lemmas.Option.{same_Some, get_or_from_slice_get}
use Rattle.std.proofs.lemmas.Str.{length-le-encodes}
use Rattle.owl_atom.specs.declared.by_iri.ByIri.{ByIri}
use Rattle.owl_atom.specs.declared.prefixes.Prefix.{Prefix}
use Rattle.owl_atom.specs.Prefixes.{AreAscending, IsBetter, IsTable, Cuts, Shortens}
use Rattle.owl_atom.specs.ByIri.{IsIndex}
use Rattle.owl_atom.specs.Places.{CutsAt, CutsNowhere, IsBestOf, IsBest, first, longer}
use Rattle.owl_atom.specs.PrefixLaws.{contained, earlier_better, found, stands}
use Rattle.owl_atom.proofs.PrefixTables.{ascends}

-- of two fronts of one text, the one with fewer bytes has fewer characters

same_head : (x y : ℕ) (xs ys : List ℕ) → x ∷ xs ≡ y ∷ ys → (x ≡ y) × (xs ≡ ys)
same_head x y xs ys e = (cc, cc)

rest_less : (x y : ℕ) (xs ys : List ℕ) → x ≡ y → length (encode_utf8_all (x ∷ xs)) < length (encode_utf8_all (y ∷ ys)) → length (encode_utf8_all xs) < length (encode_utf8_all ys)
rest_less x y xs ys e h = omega (arith, length-append (encode_utf8 x) (encode_utf8_all xs), length-append (encode_utf8 y) (encode_utf8_all ys), ap (λ c. length (encode_utf8 c)) e)

rest_most : (x y : ℕ) (xs ys : List ℕ) → x ≡ y → length (encode_utf8_all (x ∷ xs)) ≤ length (encode_utf8_all (y ∷ ys)) → length (encode_utf8_all xs) ≤ length (encode_utf8_all ys)
rest_most x y xs ys e h = omega (arith, length-append (encode_utf8 x) (encode_utf8_all xs), length-append (encode_utf8 y) (encode_utf8_all ys), ap (λ c. length (encode_utf8 c)) e)

pub fewer : (a b c d : List ℕ) → a ++ c ≡ b ++ d → length (encode_utf8_all a) < length (encode_utf8_all b) → length a < length b
fewer [] [] c d e h = absurd (omega arith)
fewer [] (y ∷ b) c d e h = omega arith
fewer (x ∷ a) [] c d e h = absurd (omega arith)
fewer (x ∷ a) (y ∷ b) c d e h =
    let both = same_head x y (a ++ c) (b ++ d) e in
    let less = fewer a b c d both.1 (rest_less x y a b both.0 h) in
    omega arith

no_more : (a b c d : List ℕ) → a ++ c ≡ b ++ d → length (encode_utf8_all a) ≤ length (encode_utf8_all b) → length a ≤ length b
no_more [] b c d e h = omega arith
no_more (x ∷ a) [] c d e h = absurd (omega (arith, length-le-encodes (x ∷ a)))
no_more (x ∷ a) (y ∷ b) c d e h =
    let both = same_head x y (a ++ c) (b ++ d) e in
    let most = no_more a b c d both.1 (rest_most x y a b both.0 h) in
    omega arith

pub same_fronts : (a b c d : List ℕ) → a ++ c ≡ b ++ d → length a ≡ length b → a ≡ b
same_fronts [] [] c d e h = refl
same_fronts [] (y ∷ b) c d e h = absurd (omega arith)
same_fronts (x ∷ a) [] c d e h = absurd (omega arith)
same_fronts (x ∷ a) (y ∷ b) c d e h =
    let both = same_head x y (a ++ c) (b ++ d) e in
    let rest = same_fronts a b c d both.1 (omega arith) in
    let first = both.0 in
    cc

pub same_sizes : (a b c d : List ℕ) → a ++ c ≡ b ++ d → length (encode_utf8_all a) ≡ length (encode_utf8_all b) → a ≡ b
same_sizes a b c d e h =
    let le = no_more a b c d e (omega arith) in
    let ge = no_more b a d c (sym e) (omega arith) in
    same_fronts a b c d e (omega arith)

-- two cuts of one IRI

longer_iri : (p q : Prefix) (iri : List ℕ) (i j : ℕ) → CutsAt p iri i → CutsAt q iri j → i < j → length p.iri < length q.iri
longer_iri p q iri i j at_p at_q lt =
    fewer p.iri q.iri at_p.local at_q.local (sym at_p.cuts.parts ∙ at_q.cuts.parts) (omega (arith, at_p.begins, at_q.begins))

no_longer_iri : (p q : Prefix) (iri : List ℕ) (i j : ℕ) → CutsAt p iri i → CutsAt q iri j → i ≤ j → length p.iri ≤ length q.iri
no_longer_iri p q iri i j at_p at_q le =
    no_more p.iri q.iri at_p.local at_q.local (sym at_p.cuts.parts ∙ at_q.cuts.parts) (omega (arith, at_p.begins, at_q.begins))

-- what was no better than the old best one is worse than a longer one
worse : (new old other : Prefix) → length old.iri < length new.iri → (other ≡ old) ⊎ IsBetter old other → IsBetter new other
worse new old other lt (inl e) = inl (subst (λ (q : Prefix). length q.iri < length new.iri) (sym e) lt)
worse new old other lt (inr (inl h)) = inl (omega arith)
worse new old other lt (inr (inr h)) = let same = h.0 in inl (omega arith)

-- The best of two groups of prefixes, of which the second has none that is as long as the best of the first one, and
-- better.

module _ (prefixes : List Prefix) (A B C : ℕ → Prefix → Type 0) (iri : List ℕ) (split : (k : ℕ) (p : Prefix) → C k p → A k p ⊎ B k p) (left : (k : ℕ) (p : Prefix) → A k p → C k p) (right : (k : ℕ) (p : Prefix) → B k p → C k p) where
  -- no prefix of the second group is better than the best one of the first, where it is no longer
  abbrev pub Keeps : Type 0
  Keeps =
      (place begin : ℕ) (old : IsBestOf prefixes A iri place begin) (k : ℕ) (other : Prefix) (rest : List ℕ) → B k other → slice_get prefixes k ≡ Some other → Cuts other iri rest
      → length other.iri ≤ length old.prefix.iri → (other ≡ old.prefix) ⊎ IsBetter old.prefix other

  no_longer : (best other : Prefix) → (other ≡ best) ⊎ IsBetter best other → length other.iri ≤ length best.iri
  no_longer best other (inl e) = let same = ap (λ (q : Prefix). length q.iri) e in omega arith
  no_longer best other (inr (inl h)) = omega arith
  no_longer best other (inr (inr h)) = let same = h.0 in omega arith

  in_either : (X : Type 0) (k : ℕ) (p : Prefix) → (A k p → X) → (B k p → X) → C k p → X
  in_either X k p a b c = elim (split k p c) as (λ _. X) [ inl h ↦ a h | inr h ↦ b h ]

  compared : Keeps → (b : Bool) (place begin found other : ℕ) → b ≡ nat_lt begin other → IsBestOf prefixes A iri place begin → IsBestOf prefixes B iri found other → IsBest prefixes C iri (if b then Some (found, other) else Some (place, begin))
  compared keeps true place begin found other test old new =
      let lt : begin < other = ltb-true begin other (sym test) in
      let more = longer_iri old.prefix new.prefix iri begin other old.cuts new.cuts lt in
      record {
        prefix = new.prefix;
        within = right found new.prefix new.within;
        stands = new.stands;
        cuts = new.cuts;
        best = λ k q rest c e h. in_either ((q ≡ new.prefix) ⊎ IsBetter new.prefix q) k q (λ a. inr (worse new.prefix old.prefix q more (old.best k q rest a e h))) (λ b. new.best k q rest b e h) c;
      }
  compared keeps false place begin found other test old new =
      let le : other ≤ begin = ltb-false begin other (sym test) in
      let most = no_longer_iri new.prefix old.prefix iri other begin new.cuts old.cuts le in
      record {
        prefix = old.prefix;
        within = left place old.prefix old.within;
        stands = old.stands;
        cuts = old.cuts;
        best = λ k q rest c e h. in_either ((q ≡ old.prefix) ⊎ IsBetter old.prefix q) k q (λ a. old.best k q rest a e h)
            (λ b. let less = no_longer new.prefix q (new.best k q rest b e h) in keeps place begin old k q rest b e h (omega arith)) c;
      }

  pub best_of_both : Keeps → (best cut : Option (ℕ × ℕ)) → IsBest prefixes A iri best → IsBest prefixes B iri cut → IsBest prefixes C iri (longer best cut)
  best_of_both keeps None None old new = λ k q c e local cut. in_either ⊥ k q (λ a. old k q a e local cut) (λ b. new k q b e local cut) c
  best_of_both keeps (Some (place, begin)) None old new = record {
    prefix = old.prefix;
    within = left place old.prefix old.within;
    stands = old.stands;
    cuts = old.cuts;
    best = λ k q rest c e h. in_either ((q ≡ old.prefix) ⊎ IsBetter old.prefix q) k q (λ a. old.best k q rest a e h) (λ b. absurd (new k q b e rest h)) c;
  }
  best_of_both keeps None (Some (place, begin)) old new = record {
    prefix = new.prefix;
    within = right place new.prefix new.within;
    stands = new.stands;
    cuts = new.cuts;
    best = λ k q rest c e h. in_either ((q ≡ new.prefix) ⊎ IsBetter new.prefix q) k q (λ a. absurd (old k q a e rest h)) (λ b. new.best k q rest b e h) c;
  }
  best_of_both keeps (Some (place, begin)) (Some (found, other)) old new = compared keeps (nat_lt begin other) place begin found other refl old new

-- one more prefix

pub at_or_before : (n k : ℕ) → k < n + 1 → (k < n) ⊎ (k ≡ n)
at_or_before zero zero h = inr refl
at_or_before zero (suc k) h = absurd (omega arith)
at_or_before (suc n) zero h = inl (omega arith)
at_or_before (suc n) (suc k) h = elim (at_or_before n k (omega arith)) as (λ _. (suc k < suc n) ⊎ (suc k ≡ suc n)) [ inl lt ↦ inl (omega arith) | inr e ↦ inr (ap suc e) ]

pub one_more : (prefixes : List Prefix) (n : ℕ) (iri : List ℕ) (best cut : Option (ℕ × ℕ)) → AreAscending prefixes → IsBest prefixes (first n) iri best → IsBest prefixes (λ k p. k ≡ n) iri cut → IsBest prefixes (first (n + 1)) iri (longer best cut)
one_more prefixes n iri best cut up =
    best_of_both prefixes (first n) (λ k p. k ≡ n) (first (n + 1)) iri
    (λ k p lt. at_or_before n k lt)
    (λ k p lt. omega arith)
    (λ k p e. omega arith)
    (λ place begin old k other rest e stands cuts le. inr (earlier_better old.prefix other le (ascends prefixes place k old.prefix other up (let w = old.within in omega arith) old.stands stands)))
    best cut

-- what the prefix at one place gives
pub one : (prefixes : List Prefix) (n : ℕ) (iri : List ℕ) (p : Prefix) (cut : Option ℕ) → slice_get prefixes n ≡ Some p → IfSome cut (λ begin. CutsAt p iri begin) → (IsNone cut → CutsNowhere p iri) → IsBest prefixes (λ k q. k ≡ n) iri (option_map (λ begin. (n, begin)) cut)
one prefixes n iri p None at_n cuts nowhere = λ k q e stands. subst (λ x. CutsNowhere x iri) (same_Some p q (sym at_n ∙ ap (slice_get prefixes) (sym e) ∙ stands)) (nowhere refl)
one prefixes n iri p (Some begin) at_n cuts nowhere = record {
  prefix = p;
  within = refl;
  stands = at_n;
  cuts = cuts;
  best = λ k q rest e stands h. inl (same_Some q p (sym stands ∙ ap (slice_get prefixes) e ∙ at_n));
}

-- the best of all

shortens : (prefixes : List Prefix) (iri : List ℕ) (place begin : ℕ) → AreAscending prefixes → IsBestOf prefixes (first (length prefixes)) iri place begin → Shortens prefixes iri place begin
shortens prefixes iri place begin up h = record {
  prefix = h.prefix;
  local = h.cuts.local;
  stands = h.stands;
  cuts = h.cuts.cuts;
  begins = h.cuts.begins;
  best = λ other rest c cut. h.best c.0 other rest c.1 (contained prefixes other c) cut;
  back =
      ap (λ o. option_map (λ front. front ++ h.cuts.local) (option_map (λ (q : Prefix). q.iri) o)) (found prefixes h.prefix.name place h.prefix (stands prefixes place h.prefix up h.stands) h.stands).looked_up
      ∙ ap Some (sym h.cuts.cuts.parts);
}

pub best_shortens : (prefixes : List Prefix) (iri : List ℕ) (r : Option (ℕ × ℕ)) → AreAscending prefixes → IsBest prefixes (first (length prefixes)) iri r → IfSome r (λ cut. Shortens prefixes iri cut.0 cut.1)
best_shortens prefixes iri None up h = tt
best_shortens prefixes iri (Some (place, begin)) up h = shortens prefixes iri place begin up h

pub none_cuts : (prefixes : List Prefix) (iri : List ℕ) (r : Option (ℕ × ℕ)) → IsBest prefixes (first (length prefixes)) iri r → IsNone r ↔ ((prefix : Prefix) (local : List ℕ) → Contains prefixes prefix → Cuts prefix iri local → ⊥)
none_cuts prefixes iri None h = (λ _ prefix local c cut. h c.0 prefix c.1 (contained prefixes prefix c) local cut, λ _. refl)
none_cuts prefixes iri (Some (place, begin)) h = (
  λ t. absurd (true≢false t),
  λ none. absurd (none h.prefix h.cuts.local (place, h.within, get_or_from_slice_get prefixes place h.prefix h.prefix h.stands) h.cuts.cuts),
)

pub at_boundary : (prefixes : List Prefix) (among : ℕ → Prefix → Type 0) (iri : List ℕ) (r : Option (ℕ × ℕ)) → IsBest prefixes among iri r → IfSome r (λ cut. IsCharBoundary (encode_utf8_all iri) cut.1)
at_boundary prefixes among iri None h = tt
at_boundary prefixes among iri (Some (place, begin)) h = h.cuts.boundary

-- a table with an index, as it is seen
pub indexed : (o : Option ByIri) (index : ByIri) (held table : List Prefix) → o ≡ Some index → held ≡ table → IsTable held × IfSome o (λ i. IsIndex held i) → AreAscending table × IsIndex table index
indexed o index held table e same it = (
  subst AreAscending same it.0.ascending,
  subst (λ t. IsIndex t index) same (subst (λ i. IfSome i (λ j. IsIndex held j)) e it.1),
)
