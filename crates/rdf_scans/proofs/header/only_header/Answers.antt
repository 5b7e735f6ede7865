use Rattle.std.proofs.Common.{◌≡◌, ◌∷◌, [], subst, sym}
use Rattle.std.specs.Prelude.{IfErr, IfOk}
use Rattle.rdf_meaning.specs.declared.word.Word.TheVariants as word
use Rattle.rdf_meaning.specs.Statements.{headers}
use Rattle.rdf_scans.specs.Outlines.{IsOutlineFault}
use Rattle.rdf_scans.proofs.OneHeader.{none, one, two}
use Rattle.rdf_scans.proofs.Passed.{none_left, one_left}
use Rattle.rdf_scans.proofs.Subjects.{headers_are}
use Rattle.rdf_scans.proofs.header.only_header.Goals as goal

pub triples-init : goal.triples-init
triples-init c = headers_are c.args.triples.now c.requires.ascending

pub returns-then-is_some-clause-fault : goal.returns-then-is_some-clause-fault
returns-then-is_some-clause-fault c =
    let ts = c.args.triples.now in
    let index = c.triples.triple-index in
    let t = c.triple-item.result in
    let here = one_left word.Ontology ts index t c.triples-test.true c.triple-item.is c.if-carries.ensures in
    two ts index c.triples.found t _ (sym c.if-is_some.ensures) here c.triples.invariant

pub returns-clause-ok : goal.returns-clause-ok
returns-clause-ok c =
    let ts = c.args.triples.now in
    let index = c.triples.triple-index in
    subst (λ r. IfOk r (λ x. headers ts ≡ x.now ∷ [])) (sym c.ok_or.ensures.value)
    (one ts index (none_left word.Ontology ts index c.triples-test.false) c.triples.found c.triples.invariant)

pub returns-clause-fault : goal.returns-clause-fault
returns-clause-fault c =
    let ts = c.args.triples.now in
    let index = c.triples.triple-index in
    subst (λ r. IfErr r (IsOutlineFault ts)) (sym c.ok_or.ensures.value)
    (none ts index (none_left word.Ontology ts index c.triples-test.false) c.triples.found c.triples.invariant)
