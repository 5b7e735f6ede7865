use Rattle.std.proofs.Common.{sym, ap, ◌∙◌, ◌++◌, Some}
use Rattle.std.specs.Prelude.{codes}
use Rattle.std.specs.Str.{chars}
use Rattle.iri_references.proofs.Authorities.{authority_at, lacks_slashes, no_authority, path_at, slashes_chars, whole_path}
use Rattle.iri_references.proofs.cuts.cut_authority.Goals as goal

pub returns-in-Some-clause-authority : goal.returns-in-Some-clause-authority
returns-in-Some-clause-authority c =
    let cases = c.in-Some.ensures.cases in
    let parts = slashes_chars c.args.hierarchy.now c.in-Some.rest.now (cases.1.1 ∙ ap (λ x. codes "//" ++ x) (sym cases.2)) in
    ap (λ x. Some x) c.cut_at_slash.ensures.before ∙ sym (authority_at (chars c.args.hierarchy.now) (chars c.in-Some.rest.now) parts)

pub returns-in-Some-clause-path : goal.returns-in-Some-clause-path
returns-in-Some-clause-path c =
    let cases = c.in-Some.ensures.cases in
    let parts = slashes_chars c.args.hierarchy.now c.in-Some.rest.now (cases.1.1 ∙ ap (λ x. codes "//" ++ x) (sym cases.2)) in
    c.cut_at_slash.ensures.from ∙ sym (path_at (chars c.args.hierarchy.now) (chars c.in-Some.rest.now) parts)

pub returns-in-None-clause-authority : goal.returns-in-None-clause-authority
returns-in-None-clause-authority c =
    sym (no_authority (chars c.args.hierarchy.now) (lacks_slashes c.args.hierarchy.now c.utf8.hierarchy c.in-None.ensures.cases))

pub returns-in-None-clause-path : goal.returns-in-None-clause-path
returns-in-None-clause-path c =
    sym (whole_path (chars c.args.hierarchy.now) (lacks_slashes c.args.hierarchy.now c.utf8.hierarchy c.in-None.ensures.cases))
