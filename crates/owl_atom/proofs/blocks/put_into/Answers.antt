use Rattle.std.proofs.Common.{length, ◌≤◌, ◌++◌, [], ◌∷◌, true, arith, sym, ap, ◌∙◌, subst}
use Rattle.std.proofs.lemmas.Option.{slice_get_read}
use Rattle.owl_atom.specs.Blocks.{Puts, flat}
use Rattle.owl_atom.proofs.PrefixBlocks.{block_ascends, puts_last, puts_where_ok, same_where_err}
use Rattle.owl_atom.proofs.blocks.put_into.Goals as goal

pub put_among-requires : goal.put_among-requires
put_among-requires c =
    block_ascends c.args.blocks.now.items c.args.block c.index_mut.result.now c.requires.blocks.1
    (slice_get_read c.args.blocks.now.items c.len.result c.args.block c.index_mut.result.now (c.len.ensures ∙ c.args.blocks.now.ok.0) c.if-block-len.true c.index_mut.ensures.value)

pub returns-then-block-len-clause-puts : goal.returns-then-block-len-clause-puts
returns-then-block-len-clause-puts c =
    puts_where_ok c.put_among.result c.args.blocks.now.items c.args.block c.index_mut.result.now c.put_among.new.held c.args.prefix c.requires.block
    (slice_get_read c.args.blocks.now.items c.len.result c.args.block c.index_mut.result.now (c.len.ensures ∙ c.args.blocks.now.ok.0) c.if-block-len.true c.index_mut.ensures.value) c.put_among.ensures.puts

pub returns-then-block-len-clause-err : goal.returns-then-block-len-clause-err
returns-then-block-len-clause-err c =
    same_where_err c.put_among.result c.args.blocks.now.items c.args.block c.index_mut.result.now c.put_among.new.held
    (slice_get_read c.args.blocks.now.items c.len.result c.args.block c.index_mut.result.now (c.len.ensures ∙ c.args.blocks.now.ok.0) c.if-block-len.true c.index_mut.ensures.value) c.put_among.ensures.err

pub returns-clause-puts : goal.returns-clause-puts
returns-clause-puts c =
    let within : length c.args.blocks.now.items ≤ c.args.block = omega (arith, c.if-block-len.false, c.len.ensures, c.args.blocks.now.ok.0) in
    subst (λ after. Puts (flat c.args.blocks.now.items) (flat after) c.args.prefix true) (sym c.in_ok-push-2.ensures)
    (puts_last c.args.blocks.now.items c.args.block c.push.new.items c.args.prefix c.requires.block within (c.in_ok-push.ensures ∙ ap (λ us. us ++ c.args.prefix ∷ []) c.new-held.ensures.items))
