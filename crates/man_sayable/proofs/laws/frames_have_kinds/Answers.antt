use Rattle.man_sayable.proofs.FrameKindLaws.{frame_found, frame_known}
use Rattle.man_sayable.proofs.laws.frames_have_kinds.Goals as goal

pub returns-clause-found : goal.returns-clause-found
returns-clause-found c = frame_known

pub returns-clause-some : goal.returns-clause-some
returns-clause-some c = frame_found
