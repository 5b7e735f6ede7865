use Rattle.std.proofs.Common.{◌≤◌, Err, length, ap, arith}
use Rattle.owl_writing.proofs.DraftLaws.{passed_on}
use Rattle.owl_writing.specs.declared.fault.WriteFault.TheVariants.{TooLong}
use Rattle.man_write.specs.Parts.{said_at, words_seen}
use Rattle.man_write.specs.Plans.{members_in}
use Rattle.man_write.proofs.JoinedLaws.{joined_all, joined_more, joined_too_long}
use Rattle.man_write.proofs.block.add_members.Goals as goal

pub loop-place-preserved : goal.loop-place-preserved
loop-place-preserved c =
    joined_more (words_seen c.args.words) (said_at c.args.prefixes.now c.args.arena.now.trees) c.args.draft.now (members_in c.args.members.now) c.loop-place.place c.at.result c.loop-place.draft c.add_member.new.draft c.loop-place.invariant c.at.ensures c.in_ok-add_member.ensures.ok

pub returns-in_err-add_member-clause-too_long : goal.returns-in_err-add_member-clause-too_long
returns-in_err-add_member-clause-too_long c = λ e.
    let found = passed_on c.from_residual.result c.in_err-add_member.field-0.0 TooLong c.from_residual.ensures.1 e in
    joined_too_long (words_seen c.args.words) (said_at c.args.prefixes.now c.args.arena.now.trees) c.args.draft.now (members_in c.args.members.now) c.loop-place.place c.at.result c.loop-place.draft c.loop-place.invariant c.at.ensures (c.in_err-add_member.ensures.too_long (ap Err found))

pub returns-clause-ok : goal.returns-clause-ok
returns-clause-ok c =
    let past : length (members_in c.args.members.now) ≤ c.loop-place.place = omega (arith, c.len-place-end.ensures, c.loop-place-test.false) in
    joined_all (words_seen c.args.words) (said_at c.args.prefixes.now c.args.arena.now.trees) c.args.draft.now (members_in c.args.members.now) c.loop-place.place c.loop-place.draft c.loop-place.invariant past
