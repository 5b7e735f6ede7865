use Rattle.std.proofs.lemmas.Result.{IfErr-weaker, on_ok_weaker}
use Rattle.man_read.proofs.FormLaws.{next_formed}
use Rattle.man_read.proofs.Taking.{goes_on, is_barred, is_free}
use Rattle.man_read.proofs.syntax.AssemblerSyntax.take.Goals as goal

pub do_all-requires : goal.do_all-requires
do_all-requires c = next_formed c.args.next c.requires.1.spelled

pub returns-clause-takes : goal.returns-clause-takes
returns-clause-takes c = on_ok_weaker c.do_all.result (λ h _. h) (goes_on _ c.args.acts.now c.args.next c.args.self.now c.do_all.new.self c.do_all.result c.do_all.ensures)

pub returns-clause-free : goal.returns-clause-free
returns-clause-free c = on_ok_weaker c.do_all.result (λ h _. h) (is_free _ c.args.acts.now c.args.next c.args.self.now c.do_all.new.self c.do_all.result c.do_all.ensures)

pub returns-clause-barred : goal.returns-clause-barred
returns-clause-barred c = IfErr-weaker c.do_all.result _ _ (λ e h other _. h other) (is_barred _ c.args.acts.now c.args.next c.args.self.now c.do_all.new.self c.do_all.result c.do_all.ensures)
