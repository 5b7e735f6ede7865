-- Places that imports name, one import after the other.
use Rattle.std.proofs.Common.{◌≡◌, ◌<◌, ◌+◌, ◌⊎◌, inl, inr, ℕ, Bool, true, false, List, [], ◌∷◌, ◌++◌, cond, length, get_or, take, nat_eq, refl, sym, ap, ◌∙◌, subst, append_assoc}
use Rattle.std.specs.Prelude.{Contains}
use Rattle.std.specs.Cmp.{nat_eq_equiv}
use Rattle.std.specs.List.{IsDistinct, list_any}
use Rattle.std.proofs.lemmas.Bool.{eqb-true}
use Rattle.std.proofs.lemmas.List.{take_more}
use Rattle.std.proofs.lemmas.List.Elements.{Contains-append_left, Contains-push, Contains-push_cases}
use Rattle.std.proofs.lemmas.Map.Keys.{IsDistinct-push}
use Rattle.std.proofs.lemmas.Map.Views.{Contains-from_any}
use Rattle.owl_close.specs.Imports.{Names, NamesNone}
use Rattle.owl_close.proofs.ImportsLaws.{named_once}
use Rattle.owl_close.specs.Searches.{AddsImported, IsImported, with_place}
use Rattle.owl_list.proofs.AscendingLaws.{all_later, all_pushed}
use Rattle.owl_tree.specs.Ontologies.{Head}

-- one turn of a loop over a list
pub one_further : {X : Type 0} (xs : List X) (index : ℕ) (x : X) → index < length xs → x ≡ get_or xs index x → take (index + 1) xs ≡ take index xs ++ x ∷ []
one_further {X} xs index x h e = take_more xs index x h ∙ ap (λ (y : X). take index xs ++ y ∷ []) (sym e)

module _ (heads : List Head) where
  module _ (imports : List (List ℕ)) (iri : List ℕ) where
    with_import : (place : ℕ) → IsImported heads imports place → IsImported heads (imports ++ iri ∷ []) place
    with_import place i = record { iri = i.iri; inside = Contains-append_left imports (iri ∷ []) i.iri i.inside; names = i.names }

    by_last : (place : ℕ) → IsImported heads (imports ++ iri ∷ []) place → IsImported heads imports place ⊎ Names heads iri place
    by_last place i =
        elim (Contains-push_cases imports iri i.iri i.inside) [
          | inl m ↦ inl (record { iri = i.iri; inside = m; names = i.names })
          | inr e ↦ inr (subst (λ (x : List ℕ). Names heads x place) (sym e) i.names)
        ]

    -- an import that names none adds none
    pub adds_none : (old new : List ℕ) → AddsImported heads imports old new → NamesNone heads iri → AddsImported heads (imports ++ iri ∷ []) old new
    adds_none old new h none = record {
      more = h.more;
      grown = h.grown;
      imported = all_later (IsImported heads imports) (IsImported heads (imports ++ iri ∷ [])) with_import h.more h.imported;
      all = λ place i. elim (by_last place i) [ inl j ↦ h.all place j | inr n ↦ absurd (none place n.named) ];
      apart = h.apart;
    }

    -- an import that names a document adds its place, unless it is there
    adds_at : (old mid new : List ℕ) (place : ℕ) (there : Bool) → AddsImported heads imports old mid → Names heads iri place → list_any (nat_eq place) mid ≡ there → new ≡ cond there mid (mid ++ place ∷ []) → AddsImported heads (imports ++ iri ∷ []) old new
    adds_at old mid new place true h names test e = record {
      more = h.more;
      grown = e ∙ h.grown;
      imported = all_later (IsImported heads imports) (IsImported heads (imports ++ iri ∷ [])) with_import h.more h.imported;
      all = λ other i. subst (λ (ps : List ℕ). Contains ps other) (sym e) (elim (by_last other i) [
        | inl j ↦ h.all other j
        | inr n ↦ subst (λ (p : ℕ). Contains mid p) (named_once heads iri place other names n) (Contains-from_any eqb-true place mid test)
      ]);
      apart = λ d. subst (λ (ps : List ℕ). IsDistinct nat_eq ps) (sym e) (h.apart d);
    }
    adds_at old mid new place false h names test e = record {
      more = h.more ++ place ∷ [];
      grown = e ∙ ap (λ (ps : List ℕ). ps ++ place ∷ []) h.grown ∙ append_assoc old h.more (place ∷ []);
      imported =
          all_pushed (IsImported heads (imports ++ iri ∷ [])) h.more place
          (all_later (IsImported heads imports) (IsImported heads (imports ++ iri ∷ [])) with_import h.more h.imported)
          (record { iri = iri; inside = Contains-push imports iri; names = names });
      all = λ other i. subst (λ (ps : List ℕ). Contains ps other) (sym e) (elim (by_last other i) [
        | inl j ↦ Contains-append_left mid (place ∷ []) other (h.all other j)
        | inr n ↦ subst (λ (p : ℕ). Contains (mid ++ place ∷ []) p) (named_once heads iri place other names n) (Contains-push mid place)
      ]);
      apart = λ d. subst (λ (ps : List ℕ). IsDistinct nat_eq ps) (sym e) (IsDistinct-push nat_eq_equiv mid place (h.apart d) test);
    }

    pub adds_one : (old mid new : List ℕ) (place : ℕ) → AddsImported heads imports old mid → Names heads iri place → new ≡ with_place mid place → AddsImported heads (imports ++ iri ∷ []) old new
    adds_one old mid new place h names e = adds_at old mid new place (list_any (nat_eq place) mid) h names refl e
