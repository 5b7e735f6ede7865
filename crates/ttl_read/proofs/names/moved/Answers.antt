use Rattle.std.proofs.Common.{Bool, Err, sym, ap, subst}
use Rattle.std.specs.Prelude.{if◌then◌else◌}
use Rattle.std.specs.Str.{chars}
use Rattle.owl_reader.specs.declared.fault.Reason.TheVariants.{BadIri}
use Rattle.owl_reader.specs.declared.fault.TokenFault.TheVariants.{Defect}
use Rattle.ttl_grammar.specs.States.{against}
use Rattle.owl_reader.specs.Computing.{Computes}
use Rattle.ttl_read.proofs.Characters.{all_told, none_told}
use Rattle.ttl_read.proofs.names.moved.Goals as goal

pub returns-then-are_iri_characters : goal.returns-then-are_iri_characters
returns-then-are_iri_characters c =
    let reference = chars c.args.reference.now in
    subst (λ (b : Bool). Computes c.moved_against.result (if b then against c.args.base reference else Err (Defect BadIri)))
    (sym (all_told reference (c.are_iri_characters.ensures.0 c.if-are_iri_characters.true))) c.moved_against.ensures

pub returns-else-are_iri_characters : goal.returns-else-are_iri_characters
returns-else-are_iri_characters c =
    let reference = chars c.args.reference.now in
    λ other. ap (λ (b : Bool). if b then against c.args.base reference else Err (Defect BadIri)) (none_told reference c.are_iri_characters.result c.are_iri_characters.ensures.1 c.if-are_iri_characters.false)
