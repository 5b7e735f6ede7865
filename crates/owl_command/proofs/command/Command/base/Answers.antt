use Rattle.std.proofs.Common.{map}
use Rattle.std.specs.Str.{encode_utf8_all}
use Rattle.owl_command.proofs.SourceLaws.{base_of_other}
use Rattle.owl_command.proofs.command.Command.base.Goals as goal

pub returns-else-place-eq0 : goal.returns-else-place-eq0
returns-else-place-eq0 c =
    let is = c.in-OfMain.is in
    let bound = rw is at c.requires in
    rw is (base_of_other c.in-OfMain.options.base (map encode_utf8_all c.in-OfMain.names.items) c.args.place c.if-place-eq0.false bound)
