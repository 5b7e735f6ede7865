use Rattle.std.proofs.lemmas.Result.{on_ok_weaker}
use Rattle.owl_assembly.proofs.Filling.{is_headed, whole, whole_is_heavy}
use Rattle.owl_assembly.proofs.assembling.fill.Goals as goal

pub returns-clause-filled : goal.returns-clause-filled
returns-clause-filled c =
    let headed = is_headed c.args.builder.now c.head.new.self c.import_all.new.builder c.args.head c.requires.empty c.head.ensures c.in_ok-import_all.ensures.imports in
    on_ok_weaker c.add_all.result (whole c.args.builder.now c.args.head c.args.annotations.now c.args.axioms.now c.import_all.new.builder c.annotate_all.new.builder headed c.in_ok-annotate_all.ensures.added c.add_all.new.builder) c.add_all.ensures.added

pub returns-clause-heavy : goal.returns-clause-heavy
returns-clause-heavy c = λ e.
    let headed = is_headed c.args.builder.now c.head.new.self c.import_all.new.builder c.args.head c.requires.empty c.head.ensures c.in_ok-import_all.ensures.imports in
    whole_is_heavy c.args.builder.now c.args.head c.args.annotations.now c.args.axioms.now c.import_all.new.builder c.annotate_all.new.builder headed c.in_ok-annotate_all.ensures.added (c.add_all.ensures.heavy e)
