use Rattle.std.proofs.Common.{◌<◌, length, refl, sym, ◌∙◌, subst}
use Rattle.std.specs.Str.{chars}
use Rattle.std.proofs.lemmas.Bool.{ltb-false}
use Rattle.std.proofs.lemmas.Option.{slice_get_read}
use Rattle.owl_atom.specs.Prefixes.{AreAscending}
use Rattle.owl_atom.specs.Places.{IsGapFor, IsPlaceOf}
use Rattle.owl_atom.specs.PrefixLaws.{absent}
use Rattle.owl_atom.proofs.PrefixBlocks.{block_ascends, found_in_block, looked_up_in, nowhere}
use Rattle.owl_atom.proofs.blocks.find.Goals as goal

pub returns-in_err-block-clause-none : goal.returns-in_err-block-clause-none
returns-in_err-block-clause-none c = λ x.
    nowhere c.args.blocks.now (chars c.args.name.now) c.block_of.result c.block_of.ensures (ltb-false c.block_of.result (length c.args.blocks.now) (sym c.in_err-block.ensures.lookup.0))

pub place_of-requires : goal.place_of-requires
place_of-requires c =
    let stands = slice_get_read c.args.blocks.now _ c.block_of.result c.in_ok-block.block.now refl c.in_ok-block.ensures.lookup.3.0 c.in_ok-block.ensures.lookup.1 in
    subst AreAscending (sym c.deref.ensures.value) (block_ascends c.args.blocks.now c.block_of.result c.in_ok-block.block.now c.requires.ascending stands)

pub returns-in-Ok-clause-some : goal.returns-in-Ok-clause-some
returns-in-Ok-clause-some c =
    let stands = slice_get_read c.args.blocks.now _ c.block_of.result c.in_ok-block.block.now refl c.in_ok-block.ensures.lookup.3.0 c.in_ok-block.ensures.lookup.1 in
    let within = subst (λ us. c.in-Ok.place < length us) c.deref.ensures.value c.in-Ok.ensures.bound.0 in
    found_in_block c.args.blocks.now (chars c.args.name.now) c.block_of.result c.in-Ok.place c.in_ok-block.block.now c.index.result.now c.block_of.ensures stands
    (subst (λ us. IsPlaceOf us (chars c.args.name.now) c.in-Ok.place) c.deref.ensures.value c.in-Ok.ensures.found) (slice_get_read c.in_ok-block.block.now.items _ c.in-Ok.place c.index.result.now refl within c.index.ensures)

pub returns-in-Err-clause-none : goal.returns-in-Err-clause-none
returns-in-Err-clause-none c = λ x.
    let stands = slice_get_read c.args.blocks.now _ c.block_of.result c.in_ok-block.block.now refl c.in_ok-block.ensures.lookup.3.0 c.in_ok-block.ensures.lookup.1 in
    looked_up_in c.args.blocks.now (chars c.args.name.now) c.block_of.result c.in_ok-block.block.now c.block_of.ensures stands
    ∙ absent c.in_ok-block.block.now.items (chars c.args.name.now) c.in-Err.field-0 (block_ascends c.args.blocks.now c.block_of.result c.in_ok-block.block.now c.requires.ascending stands)
    (subst (λ us. IsGapFor us (chars c.args.name.now) c.in-Err.field-0) c.deref.ensures.value c.in-Err.ensures.absent)
