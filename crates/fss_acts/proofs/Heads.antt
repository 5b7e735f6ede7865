-- The name of an ontology, and what it imports.
use Rattle.std.proofs.Common.{◌≡◌, ℕ, List, [], ◌∷◌, ◌++◌, Option, None, Some, refl, sym, ap, ◌∙◌, subst}
use Rattle.owl_characters.specs.Iri.{IsIri}
use Rattle.owl_doc.specs.Documents.{with_import, with_name}
use Rattle.owl_doc.specs.Heads.{name_of}
use Rattle.owl_maker.specs.Constructs.{Constructs}
use Rattle.owl_maker.proofs.MakerLaws.{follows_beside}
use Rattle.owl_maker.specs.Makings.{Follows, Making, with_document}
use Rattle.owl_tokens.specs.declared.token.Token.{Token}
use Rattle.owl_tree.specs.Ontologies.{Head, OntologyName}
use Rattle.fss_grammar.specs.ActingLaws.{acts_by_table}
use Rattle.fss_grammar.specs.Making.{Comes, Maker, Versions, import_iri, name_ontology}
use Rattle.fss_grammar.specs.Ready.{ComesName, HasIri, IsBetween}
use Rattle.fss_grammar.specs.declared.acts.Act.TheVariants.{ImportIri, OntologyIri, VersionIri}
use Rattle.fss_acts.specs.declared.assembler.Assembler.{Assembler}
use Rattle.fss_acts.specs.Assembling.{Assembles, Performed, IsBuiltAs, bare_name, kept_of}
use Rattle.fss_acts.proofs.Put.{constructs, work_of_nothing}

module _ (old : Assembler) (m : Maker) (h : Assembles old m) (ready : IsBetween m) where
  work : Follows old.maker (Constructs m.frames)
  work = constructs old m h (work_of_nothing m ready.nothing_kept)

  named : (new : Making) (held : Option (List ℕ)) (name : OntologyName) → new ≡ with_document (with_name (Some name) old.maker.document) old.maker → held ≡ bare_name (Some name) → Assembles (record old { maker = new; name = held }) (name_ontology name m)
  named new held name e k = record {
    table = h.table;
    declarable = h.declarable;
    kept = h.kept ∙ ap kept_of ready.nothing_kept;
    fit = tt;
    name = k;
    work = subst (λ (w : Making). Follows w (Constructs m.frames)) (sym e) (follows_beside (with_name (Some name) old.maker.document) old.maker (Constructs m.frames) work);
    says = subst (λ (w : Making). IsBuiltAs w.document (name_ontology name m).document.ontology) (sym e) record {
      head = ap (λ (x : Head). record { name = Some name; imports = x.imports }) h.says.head;
      annotations = h.says.annotations;
      axioms = h.says.axioms;
    };
  }

  imported : (new : Making) (i : List ℕ) → new ≡ with_document (with_import i old.maker.document) old.maker → Assembles (record old { maker = new }) (import_iri i m)
  imported new i e = record {
    table = h.table;
    declarable = h.declarable;
    kept = h.kept ∙ ap kept_of ready.nothing_kept;
    fit = tt;
    name = h.name;
    work = subst (λ (w : Making). Follows w (Constructs m.frames)) (sym e) (follows_beside (with_import i old.maker.document) old.maker (Constructs m.frames) work);
    says = subst (λ (w : Making). IsBuiltAs w.document (import_iri i m).document.ontology) (sym e) record {
      head = ap (λ (x : Head). record { name = x.name; imports = x.imports ++ i ∷ [] }) h.says.head;
      annotations = h.says.annotations;
      axioms = h.says.axioms;
    };
  }

pub ontology_named : (old : Assembler) (new : Making) (copy : List ℕ) (next : Option Token) (i : List ℕ) → Comes old.prefixes next i → IsIri i → copy ≡ i → new ≡ with_document (with_name (name_of (Some i) None) old.maker.document) old.maker → (m : Maker) → Assembles old m → IsBetween m × ComesName next → Performed OntologyIri next m (record old { maker = new; name = Some copy })
ontology_named old new copy next i c is same e m h ready =
    let name : OntologyName = record { iri = i; version = None } in
    record {
      maker = name_ontology name m;
      acts = (acts_by_table old.prefixes OntologyIri next m (name_ontology name m) h.table).1 (i, c, is, refl);
      assembles = named old m h ready.0 new (Some copy) name e (ap Some same);
      free = λ f k. k;
    }

pub version_named : (old : Assembler) (new : Making) (was : Option (List ℕ)) (left : Option (List ℕ)) (next : Option Token) (i : List ℕ) → Comes old.prefixes next i → IsIri i → was ≡ old.name → left ≡ None → new ≡ with_document (with_name (name_of was (Some i)) old.maker.document) old.maker → (m : Maker) → Assembles old m → IsBetween m × HasIri m × ComesName next → Performed VersionIri next m (record old { maker = new; name = left })
version_named old new was left next i c is taken gone e m h ready =
    let bare = ready.1 in
    let name : OntologyName = record { iri = bare.iri; version = Some i } in
    let was_is : was ≡ Some bare.iri = taken ∙ h.name ∙ ap bare_name bare.named in
    let versions : Versions m.document.ontology.head.name i m (name_ontology name m) = subst (λ (x : Option OntologyName). Versions x i m (name_ontology name m)) (sym bare.named) refl in
    record {
      maker = name_ontology name m;
      acts = (acts_by_table old.prefixes VersionIri next m (name_ontology name m) h.table).1 (i, c, is, versions);
      assembles = named old m h ready.0 new left name (e ∙ ap (λ (x : Option (List ℕ)). with_document (with_name (name_of x (Some i)) old.maker.document) old.maker) was_is) gone;
      free = λ f k. k;
    }

pub import_named : (old : Assembler) (new : Making) (next : Option Token) (i : List ℕ) → Comes old.prefixes next i → IsIri i → new ≡ with_document (with_import i old.maker.document) old.maker → (m : Maker) → Assembles old m → IsBetween m × ComesName next → Performed ImportIri next m (record old { maker = new })
import_named old new next i c is e m h ready = record {
  maker = import_iri i m;
  acts = (acts_by_table old.prefixes ImportIri next m (import_iri i m) h.table).1 (i, c, is, refl);
  assembles = imported old m h ready.0 new i e;
  free = λ f k. k;
}
