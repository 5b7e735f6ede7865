-- What is held of IRIs behind a directive.
use Rattle.std.proofs.Common.{◌≡◌, ◌≢◌, inl, inr, ℕ, Bool, List, ◌∷◌, Option, Some, Result, Ok, refl, sym, ap, ◌∙◌, subst}
use Rattle.std.specs.Prelude.{false, if◌then◌else◌, unwrap_or}
use Rattle.std.specs.Option.{option_map}
use Rattle.std.proofs.lemmas.Bool.{both_ways, cases_Bool}
use Rattle.std.proofs.lemmas.Slice.Eq.{bytes_eq-Decides}
use Rattle.owl_atom.specs.Prefixes.{is_declared, is_fixed, iri_of, prefix_in}
use Rattle.owl_atom.specs.declared.prefixes.Prefix.{Prefix}
use Rattle.owl_characters.specs.Order.{text_eq}
use Rattle.owl_characters.specs.OrderLaws.{equal}
use Rattle.owl_reader.specs.declared.fault.TokenFault.{TokenFault}
use Rattle.ttl_grammar.specs.Documents.{AreNamespaces}
use Rattle.ttl_grammar.specs.States.{Names, Namespace, namespace_in, with_base, with_namespace, with_prefix}
use Rattle.owl_reader.specs.Computing.{TurnsTo}
use Rattle.ttl_read.specs.NameTables.{AreNames, ArePlain, IsPlain, NameTable}

-- the prefix that is declared was named
pub prefix_named : (old new : NameTable) (names : Names) (next : Option (List ℕ)) (prefix : List ℕ) → next ≡ Some prefix → AreNames old names → new.base ≡ old.base → new.prefixes ≡ old.prefixes → new.declaring ≡ prefix → TurnsTo AreNames (Ok tt) new (with_prefix names next)
prefix_named old new names next prefix e h b p d = (
  record names { declaring = prefix },
  ap (with_prefix names) e,
  record { base = b ∙ h.base; declaring = d; namespaces = subst (λ t. AreNamespaces t names.namespaces) (sym p) h.namespaces; plain = subst ArePlain (sym p) h.plain },
)

-- the base IRI was declared
pub base_declared : (old new : NameTable) (names : Names) (wanted : Result (List ℕ) TokenFault) (iri : List ℕ) → wanted ≡ Ok iri → AreNames old names → new.base ≡ Some iri → new.prefixes ≡ old.prefixes → new.declaring ≡ old.declaring → TurnsTo AreNames (Ok tt) new (with_base names wanted)
base_declared old new names wanted iri e h b p d = (
  record names { base = Some iri },
  ap (with_base names) e,
  record { base = b; declaring = d ∙ h.declaring; namespaces = subst (λ t. AreNamespaces t names.namespaces) (sym p) h.namespaces; plain = subst ArePlain (sym p) h.plain },
)

-- a prefix has a new IRI, and the others have theirs
set_namespaces : (old new : List Prefix) (namespaces : List Namespace) (name iri : List ℕ) (prefix : Prefix) → prefix.iri ≡ iri → AreNamespaces old namespaces → prefix_in new name ≡ Some prefix → ((other : List ℕ) → other ≢ name → prefix_in new other ≡ prefix_in old other) → AreNamespaces new (record { prefix = name; iri = iri } ∷ namespaces)
set_namespaces old new namespaces name iri prefix is h here others = λ other.
    elim (cases_Bool (text_eq name other)) as (λ _. iri_of new other ≡ namespace_in (record { prefix = name; iri = iri } ∷ namespaces) other) [
      | inl t ↦
          let same : name ≡ other = (bytes_eq-Decides name other).0 t in
          ap (λ n. iri_of new n) (sym same) ∙ ap (option_map (λ (p : Prefix). p.iri)) here ∙ ap Some is
          ∙ sym (ap (λ (b : Bool). if b then Some iri else namespace_in namespaces other) t)
      | inr f ↦
          let differs : other ≢ name = λ same. both_ways (text_eq name other) f (equal name other (sym same)) in
          ap (option_map (λ (p : Prefix). p.iri)) (others other differs) ∙ h other
          ∙ sym (ap (λ (b : Bool). if b then Some iri else namespace_in namespaces other) f)
    ]

-- its marks are those that it had
marks_kept : (old new : List Prefix) (name : List ℕ) (prefix : Prefix) → prefix.fixed ≡ is_fixed old name → prefix.declared ≡ is_declared old name → ArePlain old → prefix_in new name ≡ Some prefix → ((other : List ℕ) → other ≢ name → prefix_in new other ≡ prefix_in old other) → ArePlain new
marks_kept old new name prefix fixed declared h here others = λ other.
    elim (cases_Bool (text_eq name other)) as (λ _. IsPlain new other) [
      | inl t ↦
          subst (IsPlain new) ((bytes_eq-Decides name other).0 t) (record {
            not_fixed = ap (λ (p : Option Prefix). unwrap_or (option_map (λ (q : Prefix). q.fixed) p) false) here ∙ fixed ∙ (h name).not_fixed;
            not_declared = ap (λ (p : Option Prefix). unwrap_or (option_map (λ (q : Prefix). q.declared) p) false) here ∙ declared ∙ (h name).not_declared;
          })
      | inr f ↦
          let same = others other (λ e. both_ways (text_eq name other) f (equal name other (sym e))) in
          record {
            not_fixed = ap (λ (p : Option Prefix). unwrap_or (option_map (λ (q : Prefix). q.fixed) p) false) same ∙ (h other).not_fixed;
            not_declared = ap (λ (p : Option Prefix). unwrap_or (option_map (λ (q : Prefix). q.declared) p) false) same ∙ (h other).not_declared;
          }
    ]

-- the prefix was declared
pub prefix_declared : (old new : NameTable) (names : Names) (wanted : Result (List ℕ) TokenFault) (iri : List ℕ) → wanted ≡ Ok iri → AreNames old names → new.base ≡ old.base → new.declaring ≡ old.declaring → {written : List ℕ} → written ≡ old.declaring → prefix_in new.prefixes written ≡ Some (record { name = written; iri = iri; fixed = is_fixed old.prefixes written; declared = is_declared old.prefixes written }) → ((other : List ℕ) → other ≢ written → prefix_in new.prefixes other ≡ prefix_in old.prefixes other) → TurnsTo AreNames (Ok tt) new (with_namespace names wanted)
prefix_declared old new names wanted iri e h b d {written} w here others = (
  record names { namespaces = record { prefix = names.declaring; iri = iri } ∷ names.namespaces },
  ap (with_namespace names) e,
  record {
    base = b ∙ h.base;
    declaring = d ∙ h.declaring;
    namespaces =
        subst (λ name. AreNamespaces new.prefixes (record { prefix = name; iri = iri } ∷ names.namespaces)) (w ∙ h.declaring)
        (set_namespaces old.prefixes new.prefixes names.namespaces written iri _ refl h.namespaces here others);
    plain = marks_kept old.prefixes new.prefixes written _ refl refl h.plain here others;
  },
)
