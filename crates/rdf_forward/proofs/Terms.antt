-- The terms of lists.
use Rattle.std.proofs.Common.{◌≡◌, ℕ, List, [], ◌∷◌, refl}
use Rattle.std.specs.Prelude.{nat_le}
use Rattle.std.proofs.lemmas.Bool.{cond_both}
use Rattle.owl_arena.specs.Held.{tree_at}
use Rattle.owl_tree.specs.Trees.{Tree}
use Rattle.rdf_mapping.specs.Forms.{Form, blank, list_form, term_of, twice}
use Rattle.rdf_mapping.specs.Drawing.{form_of, listed}
use Rattle.rdf_mapping.specs.Arenas.{forms_at}
use Rattle.rdf_forward.specs.Walks.{list_term}

pub listed_term : (name : ℕ → List ℕ) (least : ℕ) (trees : List Tree) (ids : List ℕ) (n : ℕ) → term_of name (listed least (forms_at trees ids)) n ≡ list_term name ids n
listed_term name least trees [] n = refl
listed_term name least trees (i ∷ []) n =
    let f = form_of (tree_at trees i) in
    cond_both (nat_le 2 least) (twice f) (list_form (f ∷ [])) (λ (g : Form). term_of name g n ≡ blank name n) (λ _. refl) (λ _. refl)
listed_term name least trees (i ∷ j ∷ ids) n = refl
