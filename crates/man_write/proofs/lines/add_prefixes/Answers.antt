use Rattle.std.proofs.Common.{◌≡◌, ◌<◌, ◌++◌, Err, List, ℕ, length, arith, ap, subst, ◌∙◌, codes}
use Rattle.std.specs.Str.{chars}
use Rattle.man_grammar.specs.declared.class.Class.TheVariants as class
use Rattle.man_text.specs.Words.{colon}
use Rattle.owl_atom.specs.declared.prefixes.Prefix.{Prefix}
use Rattle.owl_writing.specs.Limits.{IsTooLong}
use Rattle.owl_writing.specs.Terms.{full_iri}
use Rattle.man_write.specs.Plans.{prefix_text}
use Rattle.owl_writing.specs.declared.fault.WriteFault.TheVariants.{TooLong}
use Rattle.owl_writing.proofs.DraftLaws.{line_more, passed_on, stands_at, too_long_at}
use Rattle.man_write.proofs.lines.add_prefixes.Goals as goal

-- what is added for a prefix is its line
is_line : (prefix : Prefix) (name iri : List ℕ) → name ≡ prefix.name → iri ≡ prefix.iri → colon class.Prefix ++ (codes " " ++ (name ++ (codes ": " ++ (full_iri iri ++ codes "\n")))) ≡ prefix_text prefix
is_line prefix name iri e f =
    ap (λ (n : List ℕ). colon class.Prefix ++ (codes " " ++ (n ++ (codes ": " ++ (full_iri iri ++ codes "\n"))))) e
    ∙ ap (λ (i : List ℕ). colon class.Prefix ++ (codes " " ++ (prefix.name ++ (codes ": " ++ (full_iri i ++ codes "\n"))))) f

pub returns-in_err-add_prefix-clause-too_long : goal.returns-in_err-add_prefix-clause-too_long
returns-in_err-add_prefix-clause-too_long c = λ e.
    let inside : c.loop-place.place < length c.args.prefixes.now = omega (arith, c.len-place-end.ensures.len) in
    let found = passed_on c.from_residual.result c.in_err-add_prefix.field-0.0 TooLong c.from_residual.ensures.1 e in
    let line = is_line c.at.ensures.0 (chars c.at.result.0.now) c.at.result.1.now c.at.ensures.2 c.at.ensures.4 in
    let long = subst (λ (text : List ℕ). IsTooLong (c.loop-place.draft ++ text)) line (c.in_err-add_prefix.ensures.too_long (ap Err found)) in
    too_long_at prefix_text c.args.draft.now c.loop-place.draft c.args.prefixes.now c.loop-place.place c.at.ensures.0 c.loop-place.invariant inside (stands_at c.args.prefixes.now c.loop-place.place c.at.ensures.0 c.at.ensures.1) long

pub loop-place-preserved : goal.loop-place-preserved
loop-place-preserved c =
    let inside : c.loop-place.place < length c.args.prefixes.now = omega (arith, c.len-place-end.ensures.len) in
    let line = is_line c.at.ensures.0 (chars c.at.result.0.now) c.at.result.1.now c.at.ensures.2 c.at.ensures.4 in
    let is = stands_at c.args.prefixes.now c.loop-place.place c.at.ensures.0 c.at.ensures.1 in
    line_more prefix_text c.args.draft.now c.loop-place.draft c.add_prefix.new.draft c.args.prefixes.now c.loop-place.place c.at.ensures.0 c.loop-place.invariant inside is (c.in_ok-add_prefix.ensures.ok ∙ ap (λ (text : List ℕ). c.loop-place.draft ++ text) line)
