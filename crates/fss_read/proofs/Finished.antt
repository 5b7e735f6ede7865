-- What was assembled of a whole document is what its bytes say.
use Rattle.std.proofs.Common.{◌≡◌, ℕ, List, [], ◌∷◌, refl, ap, subst}
use Rattle.owl_doc.specs.Documents.{Document, ontology_of}
use Rattle.owl_reader.specs.Events.{WholeByEvents}
use Rattle.owl_reader.specs.Readings.{IsRead}
use Rattle.owl_reader.specs.Steps.{Step, plain, tokens_in}
use Rattle.owl_tokens.specs.Tokens.{Spells}
use Rattle.owl_tokens.specs.declared.token.Token.{Token}
use Rattle.owl_tree.specs.Ontologies.{IsSameOntology}
use Rattle.fss_terms.specs.Functional.{IsTableOf, IsWithinLimits, ReadsFunctional, SpellsFunctional}
use Rattle.fss_terms.specs.Terms.{tokens_of}
use Rattle.fss_grammar.specs.Making.{Maker}
use Rattle.fss_grammar.specs.Table.{functional}
use Rattle.fss_grammar.proofs.WritingLaws.{what_is_done_is_written}
use Rattle.fss_defects.specs.Rules.{functional_rules}
use Rattle.fss_acts.specs.Assembling.{Assembles, Did}
use Rattle.fss_acts.specs.declared.assembler.Assembler.{Assembler}

plain_tokens : (steps : List (Step Token)) → plain steps ≡ tokens_of (tokens_in steps)
plain_tokens [] = refl
plain_tokens (s ∷ steps) = ap (λ (l : List Token). s.token.token ∷ l) (plain_tokens steps)

-- what a document says of an assembler whose document it is
pub record Finishes (a : Assembler) (d : Document) : Type 0 where
  pub table : (m : Maker) → Assembles a m → IsTableOf m.document.declarations d.prefixes
  pub same : (m : Maker) → Assembles a m → IsSameOntology m.document.ontology (ontology_of d)
  pub within : IsWithinLimits (ontology_of d)

pub reads : (bytes : List ℕ) (a : Assembler) (d : Document) → IsRead Spells functional functional_rules (WholeByEvents Did) bytes a → Finishes a d → ReadsFunctional bytes d.prefixes (ontology_of d)
reads bytes a d r f =
    let it = r.ends.made_by in
    let table = f.table it.maker it.assembles in
    let written = what_is_done_is_written d.prefixes (plain r.steps) _ it.maker r.ends.derives it.does table in
    let spells : SpellsFunctional d.prefixes (ontology_of d) (plain r.steps) = record {
      declarations = it.maker.document.declarations;
      body = written.body;
      written = it.maker.document.ontology;
      parts = written.parts;
      declarable = it.assembles.declarable;
      table = table;
      terms = written.terms;
      is_written = written.written;
      same = f.same it.maker it.assembles;
    } in
    record {
      placed = tokens_in r.steps;
      few = r.few;
      splits = r.splits;
      spells = subst (λ (l : List Token). SpellsFunctional d.prefixes (ontology_of d) l) (plain_tokens r.steps) spells;
      within = f.within;
    }
