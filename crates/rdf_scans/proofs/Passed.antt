-- A loop over triples that looks for those which carry a word: what is left of these.
use Rattle.std.proofs.Common.{◌≡◌, ◌<◌, ◌≤◌, ℕ, suc, true, List, [], ◌∷◌, drop, drop-cons, get_or, length, sym, ap, ◌∙◌}
use Rattle.std.specs.Prelude.{cond}
use Rattle.std.proofs.lemmas.List.{at_drop_all}
use Rattle.rdf_graph.specs.declared.triple.Triple.{Triple}
use Rattle.rdf_meaning.specs.declared.word.Word.{Word}
use Rattle.rdf_meaning.specs.Nodes.{carries}
use Rattle.rdf_rows.specs.Chosen.{carriers}

-- those from a place on
abbrev pub left : Word → List Triple → ℕ → List Triple
left w ts index = carriers w (drop index ts)

pub one_left : (w : Word) (ts : List Triple) (index : ℕ) (t : Triple) → index < length ts → t ≡ get_or ts index t → true ≡ carries w t → left w ts index ≡ t ∷ left w ts (suc index)
one_left w ts index t within is h =
    let next = drop-cons ts index t within ∙ ap (λ (u : Triple). u ∷ drop (suc index) ts) (sym is) in
    ap (carriers w) next ∙ ap (λ b. cond b (t ∷ left w ts (suc index)) (left w ts (suc index))) (sym h)

pub none_left : (w : Word) (ts : List Triple) (index : ℕ) → length ts ≤ index → left w ts index ≡ []
none_left w ts = at_drop_all (carriers w) ts
