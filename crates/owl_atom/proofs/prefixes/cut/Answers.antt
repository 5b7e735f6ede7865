use Rattle.std.proofs.Common.{◌∙◌, ◌++◌, sym, ap, subst, length}
use Rattle.std.specs.Str.{IsCharBoundary, chars}
use Rattle.std.proofs.lemmas.Bool.{both_ways}
use Rattle.std.proofs.lemmas.Option.{MatchOption-at_none}
use Rattle.owl_atom.proofs.LocalParts.{cut_characters, no_other_rest, no_front}
use Rattle.owl_atom.proofs.prefixes.cut.Goals as goal

pub returns-in-Some-clause-cuts : goal.returns-in-Some-clause-cuts
returns-in-Some-clause-cuts c =
    let cases = c.in-Some.ensures.cases in
    record {
      local = chars c.in-Some.local.now;
      cuts = record {
        parts = cut_characters c.text.result.now c.text-front.result.now c.in-Some.local.now _ _ c.text-front.utf8 (cases.1.1 ∙ ap (λ x. c.text-front.result.now ++ x) (sym cases.2)) c.text.ensures.chars c.text-front.ensures.chars;
        plain = c.is_plain_local.ensures.0 c.if-is_plain_local.true;
      };
      begins = ap length c.text-front.ensures.bytes;
      boundary = subst (λ bs. IsCharBoundary bs (length c.text-front.result.now)) c.text.ensures.bytes cases.1.2;
    }

pub returns-in_default-clause-none : goal.returns-in_default-clause-none
returns-in_default-clause-none c none =
    let cases = c.in-Some.ensures.cases in
    no_other_rest c.args.prefix.now c.args.iri.now (chars c.in-Some.local.now)
    (cut_characters c.text.result.now c.text-front.result.now c.in-Some.local.now _ _ c.text-front.utf8 (cases.1.1 ∙ ap (λ x. c.text-front.result.now ++ x) (sym cases.2)) c.text.ensures.chars c.text-front.ensures.chars)
    (λ plain. both_ways c.is_plain_local.result c.if-is_plain_local.false (c.is_plain_local.ensures.1 plain))

pub returns-in_default-2-clause-none : goal.returns-in_default-2-clause-none
returns-in_default-2-clause-none c none =
    no_front c.args.prefix.now c.args.iri.now c.text.result.now c.text-front.result.now c.text.ensures.bytes c.text-front.ensures.bytes
    (MatchOption-at_none _ _ c.in_default.is c.strip_prefix.ensures.cases)
