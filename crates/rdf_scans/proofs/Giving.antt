-- Whether a node gives a head, by the IRIs of its versions and imports.
use Rattle.std.proofs.Common.{◌≡◌, ◌<◌, ◌≤◌, ◌-◌, ℕ, true, false, List, [], ◌∷◌, Option, None, Some, arith, length, refl, suc, sym, ap, ◌∙◌, subst}
use Rattle.std.specs.Prelude.{IsSome, map, nat_eq, nat_le, option_map, slice_index_or}
use Rattle.std.proofs.lemmas.Bool.{both_ways, eqb-true, leb-true}
use Rattle.owl_doc.specs.Heads.{StandsBeside, name_of}
use Rattle.owl_tree.specs.Ontologies.{Head}
use Rattle.rdf_graph.specs.declared.term.Term.{Term}
use Rattle.rdf_graph.specs.declared.term.Term.TheVariants.{Iri, Blank, Literal}
use Rattle.rdf_graph.specs.declared.triple.Triple.{Triple}
use Rattle.rdf_meaning.specs.declared.word.Word.{Word}
use Rattle.rdf_meaning.specs.declared.word.Word.TheVariants as word
use Rattle.rdf_meaning.proofs.ListLaws.{same_front}
use Rattle.rdf_meaning.specs.Nodes.{chosen, of_subject}
use Rattle.rdf_meaning.specs.Statements.{IsHeadOf, named, only, unnamed}
use Rattle.rdf_rows.specs.Chosen.{objects_with}
use Rattle.rdf_rows.proofs.NodeTripleLaws.{chosen_is}
use Rattle.rdf_scans.specs.Headers.{FindsIris, iri_in, may_have}

-- nothing was found
pub none_found : {V : Type 0} (items : V → List (List ℕ)) (xs : List Term) (found : Option V) → FindsIris xs (option_map items found) → ((v : V) → found ≡ Some v → ⊥) → (iris : List (List ℕ)) → xs ≡ map Iri iris → ⊥
none_found items xs None h n = h
none_found items xs (Some v) h n = absurd (n v refl)

pub some_found : {V : Type 0} (items : V → List (List ℕ)) (xs : List Term) (found : Option V) (v : V) → FindsIris xs (option_map items found) → found ≡ Some v → xs ≡ map Iri (items v)
some_found items xs found v h e = subst (λ o. FindsIris xs (option_map items o)) e h

imports_of : (g : List Triple) (x : Term) (h : Head) → IsHeadOf g x h → chosen g x word.Imports ≡ map Iri h.imports
imports_of g _ _ (unnamed label imports v e) = e
imports_of g _ _ (named iri version imports versions e o f) = f

record HasVersions (g : List Triple) (x : Term) : Type 0 where
  versions : List (List ℕ)
  are : chosen g x word.VersionIri ≡ map Iri versions
  fit : may_have x (length versions) ≡ true

one_at_most : (versions : List (List ℕ)) (version : Option (List ℕ)) → only versions version → nat_le (length versions) 1 ≡ true
one_at_most [] version o = refl
one_at_most (a ∷ []) version o = refl
one_at_most (a ∷ b ∷ more) version o = absurd o

versions_of : (g : List Triple) (x : Term) (h : Head) → IsHeadOf g x h → HasVersions g x
versions_of g _ _ (unnamed label imports v e) = record { versions = []; are = v; fit = refl }
versions_of g _ _ (named iri version imports versions e o f) = record { versions = versions; are = e; fit = one_at_most versions version o }

same_length : (xs ys : List (List ℕ)) → map Iri xs ≡ map Iri ys → length xs ≡ length ys
same_length [] [] e = refl
same_length [] (y ∷ ys) e = cc
same_length (x ∷ xs) [] e = cc
same_length (x ∷ xs) (y ∷ ys) e = ap suc (same_length xs ys (same_front (Iri x) (Iri y) (map Iri xs) (map Iri ys) e).1)

-- the last of one at most is the only one
pub last_only : (iris : List (List ℕ)) (last : Option (List ℕ)) (n : ℕ) → n ≡ length iris → length iris ≤ 1 → (IsSome last → 0 < n) → ((other : List ℕ) → 0 < n → last ≡ Some (slice_index_or iris (n - 1) other)) → only iris last
last_only [] None n e few some value = tt
last_only [] (Some a) n e few some value = let there = some refl in omega arith
last_only (a ∷ []) last n e few some value =
    let is : last ≡ Some a = value a (omega arith) ∙ ap (λ m. Some (slice_index_or (a ∷ []) (m - 1) a)) e in
    subst (only (a ∷ [])) (sym is) refl
last_only (a ∷ b ∷ more) last n e few some value = omega arith

pub few : (n : ℕ) (x : Term) → may_have x n ≡ true → n ≤ 1
few n (Iri iri) h = leb-true n 1 h
few n (Blank label) h = let none = eqb-true n 0 h in omega arith
few n (Literal literal) h = cc

not_none : (a : List ℕ) (more : List (List ℕ)) → nat_eq (length (a ∷ more)) 0 ≡ true → ⊥
not_none a more h = let none = eqb-true (length (a ∷ more)) 0 h in omega arith

none_at_all : (versions : List (List ℕ)) → nat_eq (length versions) 0 ≡ true → map Iri versions ≡ []
none_at_all [] h = refl
none_at_all (a ∷ more) h = absurd (not_none a more h)

abbrev head_with : Option (List ℕ) → Option (List ℕ) → List (List ℕ) → Head
head_with iri version imports = record { name = name_of iri version; imports = imports }

gives_only : (g : List Triple) (x : Term) (versions imports : List (List ℕ)) (version : Option (List ℕ)) → chosen g x word.VersionIri ≡ map Iri versions → chosen g x word.Imports ≡ map Iri imports → may_have x (length versions) ≡ true → only versions version → IsHeadOf g x (head_with (iri_in x) version imports)
gives_only g (Iri iri) versions imports version e f h o = named iri version imports versions e o f
gives_only g (Blank label) versions imports version e f h o = unnamed label imports (e ∙ none_at_all versions h) f
gives_only g (Literal literal) versions imports version e f h o = cc

no_version : (versions : List (List ℕ)) (version : Option (List ℕ)) → nat_eq (length versions) 0 ≡ true → only versions version → IsSome version → ⊥
no_version [] None h o s = cc
no_version [] (Some version) h o s = o
no_version (a ∷ more) version h o s = not_none a more h

beside_only : (x : Term) (versions : List (List ℕ)) (version : Option (List ℕ)) → may_have x (length versions) ≡ true → only versions version → StandsBeside version (iri_in x)
beside_only (Iri iri) versions version h o s = refl
beside_only (Blank label) versions version h o s = absurd (no_version versions version h o s)
beside_only (Literal literal) versions version h o s = cc

module _ (g : List Triple) (x : Term) (ts : List Triple) (about : ts ≡ of_subject g x) where
  at : (w : Word) → objects_with w ts ≡ chosen g x w
  at w = ap (objects_with w) about ∙ sym (chosen_is g x w)

  pub no_imports : ((iris : List (List ℕ)) → objects_with word.Imports ts ≡ map Iri iris → ⊥) → (h : Head) → IsHeadOf g x h → ⊥
  no_imports n h is = n h.imports (at word.Imports ∙ imports_of g x h is)

  pub no_versions : ((iris : List (List ℕ)) → objects_with word.VersionIri ts ≡ map Iri iris → ⊥) → (h : Head) → IsHeadOf g x h → ⊥
  no_versions n h is = let v = versions_of g x h is in n v.versions (at word.VersionIri ∙ v.are)

  module _ (versions : List (List ℕ)) (are : objects_with word.VersionIri ts ≡ map Iri versions) where
    pub too_many_versions : may_have x (length versions) ≡ false → (h : Head) → IsHeadOf g x h → ⊥
    too_many_versions many h is =
        let v = versions_of g x h is in
        let same = same_length versions v.versions (sym are ∙ at word.VersionIri ∙ v.are) in
        both_ways (may_have x (length versions)) many (ap (may_have x) same ∙ v.fit)

    module _ (iri version : Option (List ℕ)) (is_iri : iri ≡ iri_in x) (fit : may_have x (length versions) ≡ true) (one : only versions version) where
      pub gives : (imports : List (List ℕ)) → objects_with word.Imports ts ≡ map Iri imports → IsHeadOf g x (head_with iri version imports)
      gives imports e =
          subst (λ i. IsHeadOf g x (head_with i version imports)) (sym is_iri)
          (gives_only g x versions imports version (sym (at word.VersionIri) ∙ are) (sym (at word.Imports) ∙ e) fit one)

      pub beside : StandsBeside version iri
      beside = subst (λ i. StandsBeside version i) (sym is_iri) (beside_only x versions version fit one)
