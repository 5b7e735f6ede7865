-- What is told of canonical bytes, and of their digest. They are one for documents that say the same.
use Rattle.std.proofs.Common.{◌≡◌, ◌≤◌, ℕ, List, ◌++◌, codes, length, ap, sym, ◌∙◌, subst}
use Rattle.std.specs.Str.{encode_utf8_all}
use Rattle.hex.specs.Hex.{encode_lower}
use Rattle.sha2.specs.Sha256.{sha256}
use Rattle.owl_canon.proofs.OntologyBytes.{same_bytes}
use Rattle.owl_canon.specs.Bytes.{canonical_bytes}
use Rattle.owl_canon.specs.Limits.{ReadsCanonical}
use Rattle.owl_characters.specs.Limit.{most_bytes}
use Rattle.owl_command.specs.declared.status.Status.TheVariants.{Done}
use Rattle.owl_documents.specs.Documents.{IsSame, Said}
use Rattle.owl_messages.specs.Outcome.{IsLimited, Outcome, canonical, digested, fits}
use Rattle.owl_tree.specs.Ontologies.{Ontology}

pub canonical_same : (a b : Said) → IsSame a b → canonical a ≡ canonical b
canonical_same a b s = ap of_bytes (same_bytes a.ontology b.ontology s.ontology)
  where
    of_bytes : List ℕ → Outcome
    of_bytes bytes = record { status = Done; text = bytes; line = codes "canonical\n" }

pub digested_same : (a b : Said) → IsSame a b → digested a ≡ digested b
digested_same a b s = ap of_bytes (same_bytes a.ontology b.ontology s.ontology)
  where
    of_bytes : List ℕ → Outcome
    of_bytes bytes = record { status = Done; text = encode_utf8_all (encode_lower (sha256 bytes) ++ codes "\n"); line = codes "digested\n" }

-- canonical bytes that are told
pub bytes_told : (said : Said) (bytes : List ℕ) (outcome : Outcome) → outcome ≡ record { status = Done; text = bytes; line = codes "canonical\n" } → bytes ≡ canonical_bytes said.ontology → length (canonical_bytes said.ontology) ≤ most_bytes → IsLimited (λ wanted. wanted ≡ canonical said) outcome
bytes_told said bytes outcome e is short =
    let same : outcome ≡ canonical said = e ∙ ap (λ (bs : List ℕ). record { status = Done; text = bs; line = codes "canonical\n" }) is in
    fits same (subst (λ (o : Outcome). length o.text ≤ most_bytes) (sym same) short)

pub bytes_back : (o : Ontology) (bytes : List ℕ) (outcome : Outcome) → outcome ≡ record { status = Done; text = bytes; line = codes "canonical\n" } → ReadsCanonical bytes o → ReadsCanonical outcome.text o
bytes_back o bytes outcome e reads = subst (λ (x : Outcome). ReadsCanonical x.text o) (sym e) reads

-- and their digest
pub digest_told : (said : Said) (digits text : List ℕ) (outcome : Outcome) → digits ≡ encode_lower (sha256 (canonical_bytes said.ontology)) → text ≡ digits ++ codes "\n" → outcome ≡ record { status = Done; text = encode_utf8_all text; line = codes "digested\n" } → outcome ≡ digested said
digest_told said digits text outcome d t e =
    e ∙ ap (λ (cs : List ℕ). record { status = Done; text = encode_utf8_all cs; line = codes "digested\n" }) (t ∙ ap (λ (ds : List ℕ). ds ++ codes "\n") d)
