use Rattle.std.specs.Str.{chars}
use Rattle.owl_writing.proofs.SetTables.{set_is_with_prefix}
use Rattle.man_write.proofs.table.set_iri.Goals as goal

pub returns : goal.returns
returns c =
    set_is_with_prefix (chars c.args.name.now) c.args.iri c.args.prefixes.now c.set.new.self c.len.ensures.table
    (record { table = c.len-2.ensures.table; here = c.in_ok-set.ensures.here; others = c.in_ok-set.ensures.others })
