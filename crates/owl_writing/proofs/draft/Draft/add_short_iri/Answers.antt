use Rattle.std.proofs.Common.{◌≡◌, ℕ, List, ◌++◌, OnOk, IsErrOf, codes, sym, ap, ◌∙◌, subst}
use Rattle.std.specs.Str.{chars}
use Rattle.owl_writing.specs.Limits.{IsTooLong}
use Rattle.owl_writing.specs.Terms.{iri_text}
use Rattle.owl_writing.specs.declared.fault.WriteFault.TheVariants.{TooLong}
use Rattle.owl_writing.proofs.ShortIris.{short_name, short_text}
use Rattle.owl_writing.proofs.draft.Draft.add_short_iri.Goals as goal

-- what is added is the IRI's text
is_text : (c : goal.After-add_name) → chars c.at.result.0.now ++ (codes ":" ++ chars c.local_part.result.now) ≡ iri_text c.args.prefixes.now c.args.iri.now
is_text c =
    let s = c.requires.shortens in
    let ascending = c.len.ensures.table.ascending in
    let name = c.at.ensures.2 ∙ short_name c.args.prefixes.now c.args.iri.now c.args.place c.args.begin s c.at.ensures.0 c.at.ensures.1 in
    let local = c.local_part.ensures s.prefix.iri s.local s.cuts.parts s.begins in
    ap (λ (x : List ℕ). x ++ (codes ":" ++ chars c.local_part.result.now)) name
    ∙ ap (λ (x : List ℕ). s.prefix.name ++ (codes ":" ++ x)) local
    ∙ sym (short_text c.args.prefixes.now c.args.iri.now c.args.place c.args.begin ascending s)

pub returns-clause-ok : goal.returns-clause-ok
returns-clause-ok c =
    subst (λ (text : List ℕ). OnOk c.add_name.result (c.add_name.new.self ≡ c.args.self.now ++ text)) (is_text c) c.add_name.ensures.ok

pub returns-clause-too_long : goal.returns-clause-too_long
returns-clause-too_long c =
    subst (λ (text : List ℕ). IsErrOf c.add_name.result TooLong → IsTooLong (c.args.self.now ++ text)) (is_text c) c.add_name.ensures.too_long
