-- The IRIs that are gathered one by one.
use Rattle.std.proofs.Common.{◌≡◌, ℕ, List, [], ◌∷◌, ◌++◌, None, sym, ap, ◌∙◌}
use Rattle.std.specs.Prelude.{map}
use Rattle.rdf_graph.specs.declared.term.Term.{Term}
use Rattle.rdf_graph.specs.declared.term.Term.TheVariants.{Iri}
use Rattle.rdf_graph.specs.declared.triple.Triple.{Triple}
use Rattle.rdf_meaning.specs.declared.word.Word.{Word}
use Rattle.rdf_meaning.proofs.ListLaws.{same_front}
use Rattle.rdf_scans.specs.Headers.{iri_in}
use Rattle.rdf_scans.proofs.Passed.{left}
use Rattle.rdf_rows.specs.Chosen.{objects_with}

abbrev objects : List Triple → List Term
objects ts = map (λ t. t.object) ts

-- these IRIs, and what is left, are the objects
abbrev pub HasGathered : Word → List Triple → List (List ℕ) → ℕ → Type 0
HasGathered w ts iris index = objects_with w ts ≡ map Iri iris ++ objects (left w ts index)

no_iri : (x : Term) (iri : List ℕ) → None ≡ iri_in x → x ≡ Iri iri → ⊥
no_iri x iri n e = let f = ap iri_in e in cc

no_iris : (before : List (List ℕ)) (x : Term) (after : List Term) (iris : List (List ℕ)) → None ≡ iri_in x → map Iri before ++ x ∷ after ≡ map Iri iris → ⊥
no_iris [] x after [] n e = cc
no_iris [] x after (y ∷ ys) n e = no_iri x y n (same_front x (Iri y) after (map Iri ys) e).0
no_iris (z ∷ zs) x after [] n e = cc
no_iris (z ∷ zs) x after (y ∷ ys) n e = no_iris zs x after ys n (same_front (Iri z) (Iri y) (map Iri zs ++ x ∷ after) (map Iri ys) e).1

-- an object that is no IRI
pub none_gathered : (w : Word) (ts : List Triple) (before : List (List ℕ)) (index : ℕ) (t : Triple) (after : List Triple) → HasGathered w ts before index → left w ts index ≡ t ∷ after → None ≡ iri_in t.object → (iris : List (List ℕ)) → objects_with w ts ≡ map Iri iris → ⊥
none_gathered w ts before index t after has here n iris e =
    no_iris before t.object (objects after) iris n (sym (has ∙ ap (λ us. map Iri before ++ objects us) here) ∙ e)
