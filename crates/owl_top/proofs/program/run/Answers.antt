use Rattle.std.proofs.Common.{Err, inl, map, string_bytes, codes, refl, ap}
use Rattle.owl_port.specs.Outside.{Rose}
use Rattle.owl_command.specs.Commands.{HasNoCommand, request_of}
use Rattle.owl_answer.specs.Answers.{IsFirstFaultyName}
use Rattle.owl_documents.specs.Shelves.{IsFaulty}
use Rattle.owl_command.specs.declared.status.Status.TheVariants.{Words}
use Rattle.owl_top.proofs.Delivering.{asked_ended, asked_fault, asked_front, asked_note, asked_note_alone, asked_note_front, asked_note_front_alone, asked_outcome, asked_taken, asked_written, completes_by, no_command_front, no_command_note}
use Rattle.owl_top.proofs.Requests.{check_done, no_command_the}
use Rattle.owl_top.proofs.program.run.Goals as goal
use Rattle.owl_messages.specs.Outcome.{refused}

pub returns-in-Ok-clause-outcome : goal.returns-in-Ok-clause-outcome
returns-in-Ok-clause-outcome g c = λ shelf settled.
    asked_outcome (map string_bytes c.args.words.now) (request_of c.in-Ok.command) c.in-Ok.ensures.command (g.S.Shelf.left c.args.shelf.now) c.obey.result (c.obey.ensures.outcome shelf settled)

pub returns-in-Ok-clause-verdict : goal.returns-in-Ok-clause-verdict
returns-in-Ok-clause-verdict g c = λ shelf settled.
    check_done (map string_bytes c.args.words.now) (g.S.Shelf.left c.args.shelf.now) (request_of c.in-Ok.command) c.in-Ok.ensures.command c.obey.result (c.obey.ensures.outcome shelf settled)

pub returns-in-Ok-clause-written : goal.returns-in-Ok-clause-written
returns-in-Ok-clause-written g c = λ shelf out success.
    asked_written (map string_bytes c.args.words.now) (request_of c.in-Ok.command) c.in-Ok.ensures.command (g.S.Shelf.left c.args.shelf.now) c.obey.result _ _ (c.obey.ensures.written shelf out success)

pub returns-in-Ok-clause-ended : goal.returns-in-Ok-clause-ended
returns-in-Ok-clause-ended g c = λ shelf success.
    asked_ended (map string_bytes c.args.words.now) (request_of c.in-Ok.command) c.in-Ok.ensures.command (g.S.Shelf.left c.args.shelf.now) (g.S.Shelf.left c.obey.new.shelf) (c.obey.ensures.ended shelf success)

pub returns-in-Ok-clause-taken : goal.returns-in-Ok-clause-taken
returns-in-Ok-clause-taken g c = λ shelf.
    asked_taken (map string_bytes c.args.words.now) (request_of c.in-Ok.command) c.in-Ok.ensures.command (g.S.Shelf.left c.args.shelf.now) (g.S.Shelf.left c.obey.new.shelf) (c.obey.ensures.taken shelf)

pub returns-in-Ok-clause-in_order : goal.returns-in-Ok-clause-in_order
returns-in-Ok-clause-in_order g c = λ shelf failed.
    let first = c.obey.ensures.in_order shelf failed in (request_of c.in-Ok.command, first.0, c.in-Ok.ensures.command, first.1)

pub returns-in-Ok-clause-front : goal.returns-in-Ok-clause-front
returns-in-Ok-clause-front g c = λ shelf out failed.
    asked_front (map string_bytes c.args.words.now) (request_of c.in-Ok.command) c.in-Ok.ensures.command (g.S.Shelf.left c.args.shelf.now) _ _ (c.obey.ensures.front shelf out failed)

pub returns-in-Ok-clause-note : goal.returns-in-Ok-clause-note
returns-in-Ok-clause-note g c = λ shelf note quiet.
    asked_note (map string_bytes c.args.words.now) (request_of c.in-Ok.command) c.in-Ok.ensures.command (g.S.Shelf.left c.args.shelf.now) (IsFirstFaultyName (g.S.Shelf.left c.args.shelf.now) (λ other. Rose (g.S.Shelf.faults c.args.shelf.now other) (g.S.Shelf.faults c.obey.new.shelf other))) c.obey.result _ _ (c.obey.ensures.note shelf note quiet)

pub returns-in-Ok-clause-note_alone : goal.returns-in-Ok-clause-note_alone
returns-in-Ok-clause-note_alone g c = λ note quiet.
    asked_note_alone (map string_bytes c.args.words.now) (request_of c.in-Ok.command) c.in-Ok.ensures.command (g.S.Shelf.left c.args.shelf.now) (IsFaulty (λ other. Rose (g.S.Shelf.faults c.args.shelf.now other) (g.S.Shelf.faults c.obey.new.shelf other))) c.obey.result _ _ (c.obey.ensures.note_alone note quiet)

pub returns-in-Ok-clause-note_front : goal.returns-in-Ok-clause-note_front
returns-in-Ok-clause-note_front g c = λ shelf note.
    asked_note_front (map string_bytes c.args.words.now) (request_of c.in-Ok.command) c.in-Ok.ensures.command (g.S.Shelf.left c.args.shelf.now) (IsFirstFaultyName (g.S.Shelf.left c.args.shelf.now) (λ other. Rose (g.S.Shelf.faults c.args.shelf.now other) (g.S.Shelf.faults c.obey.new.shelf other))) c.obey.result _ _ (c.obey.ensures.note_front shelf note)

pub returns-in-Ok-clause-note_front_alone : goal.returns-in-Ok-clause-note_front_alone
returns-in-Ok-clause-note_front_alone g c = λ note.
    asked_note_front_alone (map string_bytes c.args.words.now) (request_of c.in-Ok.command) c.in-Ok.ensures.command (g.S.Shelf.left c.args.shelf.now) (IsFaulty (λ other. Rose (g.S.Shelf.faults c.args.shelf.now other) (g.S.Shelf.faults c.obey.new.shelf other))) c.obey.result _ _ (c.obey.ensures.note_front_alone note)

pub returns-in-Ok-clause-completes : goal.returns-in-Ok-clause-completes
returns-in-Ok-clause-completes g c = λ shelf reads writes.
    let ws = map string_bytes c.args.words.now in
    let contents = g.S.Shelf.left c.args.shelf.now in
    completes_by _ c.obey.result (λ settled. asked_outcome ws (request_of c.in-Ok.command) c.in-Ok.ensures.command contents c.obey.result (c.obey.ensures.outcome shelf settled)) (λ e. let h = asked_fault ws (request_of c.in-Ok.command) c.in-Ok.ensures.command contents (λ other. Rose (g.S.Shelf.faults c.args.shelf.now other) (g.S.Shelf.faults c.obey.new.shelf other)) (c.obey.ensures.read_fault e) in reads h.0 h.1 h.2) (λ e. writes (c.obey.ensures.write_fault e))

pub returns-in-Err-Words-clause-outcome : goal.returns-in-Err-Words-clause-outcome
returns-in-Err-Words-clause-outcome g c = λ _ _.
    let ws = map string_bytes c.args.words.now in
    let none : HasNoCommand ws = c.in-Err-Words.ensures.none (ap Err c.in-Err-Words.field-0-is) in
    (refused Words (codes "words\n"), no_command_the ws (g.S.Shelf.left c.args.shelf.now) none, refl)

pub returns-in-Err-Words-clause-verdict : goal.returns-in-Err-Words-clause-verdict
returns-in-Err-Words-clause-verdict g c = λ _ _ profile options names asks.
    let none : HasNoCommand (map string_bytes c.args.words.now) = c.in-Err-Words.ensures.none (ap Err c.in-Err-Words.field-0-is) in
    absurd (none _ asks)

pub returns-in-Err-Words-clause-note : goal.returns-in-Err-Words-clause-note
returns-in-Err-Words-clause-note g c = λ _ note quiet.
    let ws = map string_bytes c.args.words.now in
    let none : HasNoCommand ws = c.in-Err-Words.ensures.none (ap Err c.in-Err-Words.field-0-is) in
    no_command_note ws (g.S.Shelf.left c.args.shelf.now) _ none _ _ (c.tell.ensures.whole note quiet)

pub returns-in-Err-Words-clause-note_front : goal.returns-in-Err-Words-clause-note_front
returns-in-Err-Words-clause-note_front g c = λ _ note.
    let ws = map string_bytes c.args.words.now in
    let none : HasNoCommand ws = c.in-Err-Words.ensures.none (ap Err c.in-Err-Words.field-0-is) in
    no_command_front ws (g.S.Shelf.left c.args.shelf.now) _ none _ _ (c.tell.ensures.front note)

pub returns-in-Err-Words-clause-completes : goal.returns-in-Err-Words-clause-completes
returns-in-Err-Words-clause-completes g c = λ _ _ _.
    let ws = map string_bytes c.args.words.now in
    let none : HasNoCommand ws = c.in-Err-Words.ensures.none (ap Err c.in-Err-Words.field-0-is) in
    inl (refused Words (codes "words\n"), no_command_the ws (g.S.Shelf.left c.args.shelf.now) none, refl)
