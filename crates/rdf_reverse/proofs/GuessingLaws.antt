-- What is guessed of a graph is found by one pass over it, redundant triples or not.
use lib.Utf8.{encode}
use Rattle.std.specs.Prelude.{◌≡◌, ◌<◌, ◌+◌, ℕ, Bool, true, false, not, ◌&&◌, List, [], ◌∷◌, ◌++◌, cond, filter, length, map, take}
use Rattle.std.specs.List.{list_any}
use Rattle.std.specs.Str.{bytes_eq}
use Rattle.std.proofs.Common.{get_or, inl, inr, refl, sym, ap, ◌∙◌, subst}
use Rattle.std.proofs.lemmas.Bool.{and_parts, cases_Bool}
use Rattle.std.proofs.lemmas.List.{append-nil, map-append, take_more}
use Rattle.std.proofs.lemmas.List.Elements.{filter-append}
use Rattle.std.proofs.lemmas.Slice.Eq.{bytes_eq-Decides}
use Rattle.owl_characters.specs.Order.{text_cmp}
use Rattle.owl_kind.specs.Kinds.{Entity}
use Rattle.owl_list.specs.Ascending.{ascending}
use Rattle.rdf_faults.specs.Faults.{is_property}
use Rattle.rdf_graph.specs.declared.triple.Triple.{Triple}
use Rattle.rdf_meaning.specs.Nodes.{carries_some, of_subject, type_iri}
use Rattle.rdf_terms.specs.Vocabulary.{is_reserved}
use Rattle.rdf_thin.specs.Thinned.{is_redundant, thinned, words_beside_type}
use Rattle.rdf_reverse.specs.Guesses.{guessed, may_be_guessed}

abbrev predicates : List Triple → List (List ℕ)
predicates = map (λ (t : Triple). t.predicate)

-- of these triples, in their order
abbrev pub found : List Entity → List Triple → List (List ℕ)
found k ts = filter (may_be_guessed k) (predicates ts)

one_by : (b : Bool) (k : List Entity) (iri : List ℕ) → may_be_guessed k iri ≡ b → filter (may_be_guessed k) (iri ∷ []) ≡ cond b (iri ∷ []) []
one_by b k iri e = ap (λ (c : Bool). cond c (iri ∷ []) []) e

module _ (k : List Entity) (ts : List Triple) (i : ℕ) (t : Triple) (l : i < length ts) (at : t ≡ get_or ts i t) where
  one_more : found k (take (i + 1) ts) ≡ found k (take i ts) ++ filter (may_be_guessed k) (t.predicate ∷ [])
  one_more =
      ap (found k) (take_more ts i t l ∙ ap (λ (u : Triple). take i ts ++ u ∷ []) (sym at))
      ∙ ap (filter (may_be_guessed k)) (map-append (λ (u : Triple). u.predicate) (take i ts) (t ∷ []))
      ∙ filter-append (may_be_guessed k) (predicates (take i ts)) (t.predicate ∷ [])

  pub guess_more : (names more : List (List ℕ)) (copy : List ℕ) → names ≡ found k (take i ts) → may_be_guessed k t.predicate ≡ true → copy ≡ t.predicate →
      more ≡ names ++ copy ∷ [] → more ≡ found k (take (i + 1) ts)
  guess_more names more copy h passes same e =
      e ∙ ap (λ (xs : List (List ℕ)). xs ++ copy ∷ []) h ∙ ap (λ (x : List ℕ). found k (take i ts) ++ x ∷ []) same
      ∙ ap (λ (xs : List (List ℕ)). found k (take i ts) ++ xs) (sym (one_by true k t.predicate passes)) ∙ sym one_more

  pub guess_none : (names : List (List ℕ)) → names ≡ found k (take i ts) → may_be_guessed k t.predicate ≡ false → names ≡ found k (take (i + 1) ts)
  guess_none names h fails =
      h ∙ sym (append-nil (found k (take i ts))) ∙ ap (λ (xs : List (List ℕ)). found k (take i ts) ++ xs) (sym (one_by false k t.predicate fails)) ∙ sym one_more

-- ---- redundant triples are types, whose predicate is reserved

type_reserved : is_reserved type_iri ≡ true
unfolding is_reserved encode
type_reserved = refl

redundant_reserved : (k : List Entity) (g : List Triple) (t : Triple) → is_redundant g t ≡ true → may_be_guessed k t.predicate ≡ false
unfolding is_redundant
redundant_reserved k g t h =
    let type = and_parts (bytes_eq t.predicate type_iri) (list_any (carries_some (words_beside_type t.subject t.object)) (of_subject g t.subject)) h in
    let same : t.predicate ≡ type_iri = (bytes_eq-Decides t.predicate type_iri).0 type.0 in
    let reserved : is_reserved t.predicate ≡ true = ap is_reserved same ∙ type_reserved in
    ap (λ (b : Bool). not b && not (is_property k t.predicate)) reserved

module _ (k : List Entity) (g : List Triple) where
  abbrev keep : Triple → Bool
  keep t = not (is_redundant g t)

  kept : (b : Bool) (t : Triple) (ts : List Triple) → is_redundant g t ≡ b → filter keep (t ∷ ts) ≡ cond (not b) (t ∷ filter keep ts) (filter keep ts)
  kept b t ts e = ap (λ (c : Bool). cond (not c) (t ∷ filter keep ts) (filter keep ts)) e

  first_by : (b : Bool) (iri : List ℕ) (iris : List (List ℕ)) → may_be_guessed k iri ≡ b →
      filter (may_be_guessed k) (iri ∷ iris) ≡ cond b (iri ∷ filter (may_be_guessed k) iris) (filter (may_be_guessed k) iris)
  first_by b iri iris e = ap (λ (c : Bool). cond c (iri ∷ filter (may_be_guessed k) iris) (filter (may_be_guessed k) iris)) e

  with_first : (b : Bool) (u : Triple) (us : List Triple) → may_be_guessed k u.predicate ≡ b → found k (filter keep us) ≡ found k us →
      found k (u ∷ filter keep us) ≡ found k (u ∷ us)
  with_first true u us e h =
      first_by true u.predicate (predicates (filter keep us)) e ∙ ap (λ (xs : List (List ℕ)). u.predicate ∷ xs) h
      ∙ sym (first_by true u.predicate (predicates us) e)
  with_first false u us e h = first_by false u.predicate (predicates (filter keep us)) e ∙ h ∙ sym (first_by false u.predicate (predicates us) e)

  found_kept : (ts : List Triple) → found k (filter keep ts) ≡ found k ts
  found_kept [] = refl
  found_kept (t ∷ ts) =
      elim (cases_Bool (is_redundant g t)) as (λ _. found k (filter keep (t ∷ ts)) ≡ found k (t ∷ ts)) [
        | inl r ↦ ap (found k) (kept true t ts r) ∙ found_kept ts ∙ sym (first_by false t.predicate (predicates ts) (redundant_reserved k g t r))
        | inr r ↦ ap (found k) (kept false t ts r) ∙ with_first (may_be_guessed k t.predicate) t ts refl (found_kept ts)
      ]

  pub guessed_thinned : guessed (thinned g) k ≡ guessed g k
  unfolding thinned
  guessed_thinned = ap (ascending text_cmp) (found_kept g)
