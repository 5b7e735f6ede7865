-- The word that a triple carries by its predicate.
use Rattle.std.proofs.Common.{◌≡◌, ◌↔◌, true, false, Option, Some, sym, ◌∙◌}
use Rattle.std.specs.Str.{bytes_eq}
use Rattle.std.proofs.lemmas.Bool.{and_from, and_parts}
use Rattle.std.proofs.lemmas.Slice.Eq.{bytes_eq-Decides}
use Rattle.rdf_graph.specs.declared.triple.Triple.{Triple}
use Rattle.rdf_meaning.specs.declared.word.Word.{Word}
use Rattle.rdf_meaning.specs.Nodes.{carries}
use Rattle.rdf_meaning.specs.Words.{is_type, word_iri}
use Rattle.rdf_rows.specs.Carrying.{may_have}
use Rattle.rdf_rows.proofs.CarryingLaws.{by_link}
use Rattle.rdf_meaning.specs.WordIris.{IsWordOf}

pub by_name : (t : Triple) (o : Option Word) → IsWordOf false t.predicate o → (w : Word) →
    ((is_type w ≡ false) × (carries w t ≡ true)) ↔ ((o ≡ Some w) × (may_have w t.object ≡ true))
by_name t o named w = (
  λ h.
      let both = and_parts (bytes_eq t.predicate (word_iri w)) (may_have w t.object) (sym (by_link w t h.0) ∙ h.1) in
      ((named w).0 (h.0, sym ((bytes_eq-Decides t.predicate (word_iri w)).0 both.0)), both.1),
  λ h.
      let is = (named w).1 h.0 in (
        is.0,
        by_link w t is.0
            ∙ and_from (bytes_eq t.predicate (word_iri w)) (may_have w t.object) ((bytes_eq-Decides t.predicate (word_iri w)).1 (sym is.1)) h.1,
      ),
)
