-- What is wanted of documents is answered.
use Rattle.std.proofs.Common.{Result, Ok, Err, IfOk, ◌≡◌, ◌<◌, ◌+◌, ℕ, Some, List, [], ◌∷◌, ◌++◌, get_or, length, map, take, slice_get, refl, sym, ap, ◌∙◌, subst, arith}
use Rattle.std.specs.Str.{encode_utf8_all}
use Rattle.std.proofs.lemmas.List.{map-append}
use Rattle.std.proofs.lemmas.Option.{slice_get-map, slice_get_read}
use Rattle.std.specs.Option.{option_map}
use Rattle.owl_characters.specs.Limit.{most_bytes}
use Rattle.owl_tree.specs.Ontologies.{Head, Ontology, canonical_ontology}
use Rattle.owl_doc.specs.Documents as held_doc
use Rattle.owl_doc.specs.Documents.{ontology_of}
use Rattle.owl_doc.specs.Heads.{head_of}
use Rattle.owl_doc.specs.declared.head.Head as held
use Rattle.fss_write.specs.Text.{text_of}
use Rattle.owl_command.specs.Commands.{Request, names_of}
use Rattle.owl_documents.specs.Documents.{Parsed, head_in, parsed_of, said_of}
use Rattle.owl_documents.specs.declared.document.Document.{Document}
use Rattle.owl_answer.specs.Answers.{IsConclusion, IsMissingFor}
use Rattle.owl_answer.specs.declared.imports.Missing.{Missing}
use Rattle.owl_answer.specs.Outcome.{IsSuccess, heads_in}
use Rattle.owl_answer.specs.Runs.{misses_import}
use Rattle.owl_messages.specs.Outcome.{IsLimited, Outcome, fits, missing_import, passes, too_long_output, translation}

pub limited_more : (V W : Outcome → Type 0) → ((o : Outcome) → V o → W o) → (outcome : Outcome) → IsLimited V outcome → IsLimited W outcome
limited_more V W f outcome (fits v l) = fits (f outcome v) l
limited_more V W f outcome (passes wanted v l e) = passes wanted (f wanted v) l e

pub passed : (wanted outcome : Outcome) → most_bytes < length wanted.text → outcome ≡ too_long_output → IsLimited (λ (w : Outcome). w ≡ wanted) outcome
passed wanted outcome l e = passes wanted refl l e

-- of two that are one both are told as one
pub limited_once : (V W : Outcome → Type 0) → ((a b : Outcome) → V a → W b → a ≡ b) → (a b : Outcome) → IsLimited V a → IsLimited W b → a ≡ b
limited_once V W once a b (fits v l) (fits w m) = once a b v w
limited_once V W once a b (fits v l) (passes wanted w m e) =
    let same = ap (λ (o : Outcome). length o.text) (once a wanted v w) in
    absurd (omega arith)
limited_once V W once a b (passes wanted v l e) (fits w m) =
    let same = ap (λ (o : Outcome). length o.text) (once wanted b v w) in
    absurd (omega arith)
limited_once V W once a b (passes wanted v l e) (passes other w m f) = e ∙ sym f

-- a document's ontology is its own canonical form
pub translation_text : (doc : held_doc.Document) → canonical_ontology (ontology_of doc) ≡ ontology_of doc → (translation (said_of doc)).text ≡ encode_utf8_all (text_of doc.prefixes (ontology_of doc))
translation_text doc e = ap (λ (o : Ontology). encode_utf8_all (text_of doc.prefixes o)) e

-- two facts of an answer
pub from_both : {T E : Type 0} (r : Result T E) (P Q R : T → Type 0) → ((x : T) → P x → Q x → R x) → IfOk r P → IfOk r Q → IfOk r R
from_both (Ok x) P Q R f p q = f x p q
from_both (Err y) P Q R f p q = tt

-- of two documents
pub first_within : (docs : List Document) → length docs ≡ 2 → 0 < length docs
first_within docs two = omega arith

pub one_within : (docs : List Document) → length docs ≡ 2 → 1 < length docs
one_within docs two = omega arith

-- a document that stands at a place
pub stands_at : (docs : List Document) (place : ℕ) (d e : Document) → place < length docs → d ≡ get_or docs place d → d ≡ e → slice_get docs place ≡ Some e
stands_at docs place d e l is same = slice_get_read docs (length docs) place d refl l is ∙ ap Some same

pub parsed_at : (docs : List Document) (place : ℕ) (d : Document) → slice_get docs place ≡ Some d → slice_get (map parsed_of docs) place ≡ Some (parsed_of d)
parsed_at docs place d there = slice_get-map parsed_of docs place ∙ ap (option_map parsed_of) there

-- where an import is missing
pub import_conclusion : (request : Request) (documents : List Parsed) (missing : Missing) (name : List ℕ) (outcome : Outcome) → IsMissingFor request (heads_in documents) missing → slice_get (names_of request) missing.document ≡ Some name → outcome ≡ missing_import name missing.iri → IsConclusion request documents outcome
import_conclusion request documents missing name outcome m at e = record {
  concludes = misses_import m.asked missing.document missing.iri name m.first at e;
  back = λ s. absurd (subst (λ (o : Outcome). IsSuccess o.status) e s);
}

-- one more head
pub headed : (docs : List Document) (place : ℕ) (doc : Document) (heads new : List held.Head) (copy : held.Head) → map head_of heads ≡ heads_in (map parsed_of (take place docs)) → new ≡ heads ++ copy ∷ [] → head_of copy ≡ head_in (parsed_of doc) → take (place + 1) docs ≡ take place docs ++ doc ∷ [] → map head_of new ≡ heads_in (map parsed_of (take (place + 1) docs))
headed docs place doc heads new copy h e f g =
    ap (map head_of) e ∙ map-append head_of heads (copy ∷ []) ∙ ap (λ (hs : List Head). hs ++ head_of copy ∷ []) h ∙ ap (λ (x : Head). heads_in (map parsed_of (take place docs)) ++ x ∷ []) f ∙ sym (map-append _ (map parsed_of (take place docs)) (parsed_of doc ∷ [])) ∙ ap heads_in (sym (map-append parsed_of (take place docs) (doc ∷ []))) ∙ ap (λ (ds : List Document). heads_in (map parsed_of ds)) (sym g)
