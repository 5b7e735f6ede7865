use Rattle.std.proofs.Common.{rules, refl, sym, subst}
use Rattle.std.specs.Prelude.{Contains}
use Rattle.std.specs.Str.{chars}
use Rattle.std.specs.List.Sorted.{IsStrictlySortedBy}
use Rattle.std.proofs.lemmas.Bool.{both_ways, le-leb, leb-true, true≢false}
use Rattle.owl_atom.specs.ByIri.{IsFirst, front_cmp, of_size}
use Rattle.owl_atom.specs.Places.{IsBest}
use Rattle.owl_atom.specs.ByIri.{IsPlainFrom}
use Rattle.owl_atom.proofs.LocalParts.{plain_behind_byte}
use Rattle.owl_atom.proofs.ByIri.{cut_of, no_boundary, no_such, not_plain, the_first}
use Rattle.owl_atom.proofs.by_iri.ByIri.cut_at.Goals as goal

pub returns-in_err-front : goal.returns-in_err-front
returns-in_err-front c = λ held up is.
    subst (IsBest held (of_size c.args.length) c.args.iri.now) (sym c.from_residual.ensures)
    (no_boundary held c.args.self.now c.args.iri.now c.args.length up is c.text.result.now c.text.ensures.scalars c.text.ensures.bytes (λ b. true≢false (sym (c.in_err-front.ensures.variant.1 b))))

pub returns-then-not-is_plain_behind : goal.returns-then-not-is_plain_behind
returns-then-not-is_plain_behind c = λ held up is.
    let cut = cut_of c.text.result.now c.in_ok-front.front.now c.in_ok-front.local.now c.args.iri.now c.args.length c.text.utf8 c.text.ensures.chars c.text.ensures.bytes (c.in_ok-front.ensures.variant.0 refl) c.in_ok-front.ensures.front c.in_ok-front.ensures.back c.in_ok-front.ensures.front_len in
    not_plain held c.args.self.now c.args.iri.now c.args.length up is _ _ cut (λ plain. both_ways c.is_plain_behind.result c.if-not-is_plain_behind.true (c.is_plain_behind.ensures.1 plain))

pub is_plain_behind-requires : goal.is_plain_behind-requires
is_plain_behind-requires c =
    let at_local = plain_behind_byte c.text.result.now c.in_ok-front.local.now c.args.plain_from c.args.length (subst (λ bytes. IsPlainFrom bytes c.args.plain_from) (sym c.text.ensures.bytes) c.requires.plain) (search rules) (search rules) c.in_ok-front.ensures.back in
    (λ t. at_local.0 (leb-true c.args.plain_from c.args.length t), λ all. le-leb c.args.plain_from c.args.length (at_local.1 all))

pub first_of-requires : goal.first_of-requires
first_of-requires c = subst (IsStrictlySortedBy front_cmp) (sym c.deref.ensures.value) c.requires.sorted

pub returns-in_err-place : goal.returns-in_err-place
returns-in_err-place c = λ held up is.
    let cut = cut_of c.text.result.now c.in_ok-front.front.now c.in_ok-front.local.now c.args.iri.now c.args.length c.text.utf8 c.text.ensures.chars c.text.ensures.bytes (c.in_ok-front.ensures.variant.0 refl) c.in_ok-front.ensures.front c.in_ok-front.ensures.back c.in_ok-front.ensures.front_len in
    subst (IsBest held (of_size c.args.length) c.args.iri.now) (sym c.from_residual-in_err-place.ensures)
    (no_such held c.args.self.now c.args.iri.now c.args.length up is _ _ cut (λ place has. c.in_err-place.ensures.none refl place (subst (λ fronts. Contains fronts (record { iri = chars c.in_ok-front.front.now; place = place })) (sym c.deref.ensures.value) has)))

pub returns : goal.returns
returns c = λ held up is.
    let cut = cut_of c.text.result.now c.in_ok-front.front.now c.in_ok-front.local.now c.args.iri.now c.args.length c.text.utf8 c.text.ensures.chars c.text.ensures.bytes (c.in_ok-front.ensures.variant.0 refl) c.in_ok-front.ensures.front c.in_ok-front.ensures.back c.in_ok-front.ensures.front_len in
    the_first held c.args.self.now c.args.iri.now c.args.length up is _ _ cut c.in_ok-place.place (c.is_plain_behind.ensures.0 c.if-not-is_plain_behind.false)
    (subst (λ fronts. IsFirst fronts (chars c.in_ok-front.front.now) c.in_ok-place.place) c.deref.ensures.value c.in_ok-place.ensures.some)
