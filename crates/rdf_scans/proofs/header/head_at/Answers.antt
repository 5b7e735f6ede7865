use Rattle.std.proofs.Common.{◌∙◌, ap, sym}
use Rattle.rdf_meaning.specs.declared.word.Word.TheVariants as word
use Rattle.rdf_rows.specs.Chosen.{objects_with}
use Rattle.rdf_scans.specs.Headers.{may_have}
use Rattle.rdf_scans.proofs.Giving.{beside, few, gives, no_imports, no_versions, none_found, some_found, too_many_versions}
use Rattle.rdf_scans.proofs.Imports.{imports_ascend}
use Rattle.rdf_scans.proofs.header.head_at.Goals as goal

pub returns-in_default : goal.returns-in_default
returns-in_default c =
    let ts = c.about-triples.result.now in
    no_imports c.args.graph.now c.args.node.now ts c.about-triples.ensures
    (none_found (λ v. v.items) (objects_with word.Imports ts) c.in_ok-imports.field-0 c.in_ok-imports.ensures c.in_default.not-Some)

pub returns-in_default-2 : goal.returns-in_default-2
returns-in_default-2 c =
    let ts = c.about-triples.result.now in
    no_versions c.args.graph.now c.args.node.now ts c.about-triples.ensures
    (none_found (λ v. v.items) (objects_with word.VersionIri ts) c.in_ok-versions.field-0 c.in_ok-versions.ensures c.in_default-2.not-Some)

pub returns-then-not-may_have : goal.returns-then-not-may_have
returns-then-not-may_have c =
    let ts = c.about-triples.result.now in
    let versions = c.in-Some-2.versions in
    let are = some_found (λ v. v.items) (objects_with word.VersionIri ts) c.in_ok-versions.field-0 versions c.in_ok-versions.ensures c.in-Some-2.is in
    too_many_versions c.args.graph.now c.args.node.now ts c.about-triples.ensures versions.items are (ap (may_have c.args.node.now) (sym (c.len.ensures ∙ versions.ok.0)) ∙ sym c.if-not-may_have.ensures)

pub returns : goal.returns
returns c =
    let g = c.args.graph.now in
    let x = c.args.node.now in
    let ts = c.about-triples.result.now in
    let versions = c.in-Some-2.versions in
    let imports = c.in-Some.imports in
    let versions_are = some_found (λ v. v.items) (objects_with word.VersionIri ts) c.in_ok-versions.field-0 versions c.in_ok-versions.ensures c.in-Some-2.is in
    let imports_are = some_found (λ v. v.items) (objects_with word.Imports ts) c.in_ok-imports.field-0 imports c.in_ok-imports.ensures c.in-Some.is in
    let fit = ap (may_have x) (sym (c.len.ensures ∙ versions.ok.0)) ∙ sym c.if-not-may_have.ensures in
    record {
      is_head = gives g x ts c.about-triples.ensures versions.items versions_are c.in_ok-iri_of.field-0 c.only.result c.in_ok-iri_of.ensures fit c.only.ensures imports.items imports_are;
      version = beside g x ts c.about-triples.ensures versions.items versions_are c.in_ok-iri_of.field-0 c.only.result c.in_ok-iri_of.ensures fit c.only.ensures;
      imports = imports_ascend g x c.requires.ascending imports.items (ap (objects_with word.Imports) (sym c.about-triples.ensures) ∙ imports_are);
    }

pub only-requires : goal.only-requires
only-requires c = few _ c.args.node.now (ap (may_have c.args.node.now) (sym (c.len.ensures ∙ c.in-Some-2.versions.ok.0)) ∙ sym c.if-not-may_have.ensures)
