use Rattle.std.proofs.Common.{◌≡◌, ℕ, List, ◌++◌, Option, OnOk, IsErrOf, sym, ap, subst, refl}
use Rattle.owl_atom.specs.declared.prefixes.Prefix.{Prefix}
use Rattle.owl_writing.specs.Limits.{IsTooLong}
use Rattle.owl_writing.specs.Terms.{full_iri, iri_text, shortened_by}
use Rattle.owl_writing.specs.declared.fault.WriteFault.TheVariants.{TooLong}
use Rattle.owl_writing.proofs.AbbreviationLaws.{none_is_best}
use Rattle.owl_writing.proofs.draft.Draft.add_iri.Goals as goal

is_full : (c : goal.After-add_full_iri) → full_iri c.args.iri.now ≡ iri_text c.args.prefixes.now c.args.iri.now
is_full c =
    sym (ap (λ (best : Option Prefix). shortened_by best c.args.iri.now) (none_is_best c.args.prefixes.now c.args.iri.now c.len.ensures.table.ascending (c.in-None.ensures.none.0 refl)))

pub returns-in-None-clause-ok : goal.returns-in-None-clause-ok
returns-in-None-clause-ok c =
    subst (λ (text : List ℕ). OnOk c.add_full_iri.result (c.add_full_iri.new.self ≡ c.args.self.now ++ text)) (is_full c) c.add_full_iri.ensures.ok

pub returns-in-None-clause-too_long : goal.returns-in-None-clause-too_long
returns-in-None-clause-too_long c =
    subst (λ (text : List ℕ). IsErrOf c.add_full_iri.result TooLong → IsTooLong (c.args.self.now ++ text)) (is_full c) c.add_full_iri.ensures.too_long
