-- An IRI that is written is one token, which stands for the IRI.
use Rattle.std.proofs.Common.{◌≡◌, ℕ, List, ◌++◌, Option, Some, None, refl, sym, ap, ◌∙◌}
use Rattle.std.specs.Option.{option_map}
use Rattle.owl_characters.specs.Iri.{IsIri}
use Rattle.owl_characters.specs.Names.{IsPrefixName}
use Rattle.owl_tokens.specs.Tokens.{Spells}
use Rattle.owl_tokens.specs.declared.token.Token.{Token}
use Rattle.owl_tokens.specs.declared.token.Token.TheVariants as token
use Rattle.owl_list.proofs.AscendingLaws.{all_in}
use Rattle.owl_atom.specs.declared.prefixes.Prefix.{Prefix}
use Rattle.owl_writing.proofs.AbbreviationLaws.{IsAnswer, best_answer, cuts_fact}
use Rattle.owl_writing.specs.Abbreviations.{best_prefix, local_behind}
use Rattle.owl_writing.proofs.PlainLocalLaws.{spells_plain}
use Rattle.owl_writing.specs.Terms.{full_iri, iri_text, shortened_by}
use Rattle.owl_writing.proofs.WrittenTableLaws.{AreKnown}
use Rattle.fss_terms.specs.Terms.{iri_of_token}

-- one token stands for the IRI, where no token goes on behind it
pub record IsIriToken (read : List Prefix) (iri spelling : List ℕ) : Type 0 where
  pub token : Token
  pub spells : Spells token spelling
  pub stands : iri_of_token read token ≡ Some iri

pub full_token : (read : List Prefix) (iri : List ℕ) → IsIri iri → IsIriToken read iri (full_iri iri)
full_token read iri h = record { token = token.Iri iri; spells = (h, refl); stands = refl }

named_token : (written read : List Prefix) (iri : List ℕ) → AreKnown written read → IsIri iri → (best : Option Prefix) → IsAnswer iri written best → IsIriToken read iri (shortened_by best iri)
named_token written read iri known h None answer = full_token read iri h
named_token written read iri known h (Some prefix) answer =
    let cut = cuts_fact iri prefix answer.cut in
    let local = local_behind prefix iri in
    record {
      token = token.Name prefix.name local;
      spells = (local, all_in (λ (q : Prefix). IsPrefixName q.name) written prefix known.names answer.inside, spells_plain local cut.plain, refl);
      stands = ap (λ (o : Option (List ℕ)). option_map (λ (front : List ℕ). front ++ local) o) (known.each prefix answer.inside) ∙ ap Some (sym cut.parts);
    }

pub iri_token : (written read : List Prefix) (iri : List ℕ) → AreKnown written read → IsIri iri → IsIriToken read iri (iri_text written iri)
iri_token written read iri known h = named_token written read iri known h (best_prefix iri written) (best_answer iri written known.ascending)
