use Rattle.std.proofs.Common.{◌≡◌, ◌≤◌, Err, length, ap, arith}
use Rattle.std.specs.Option.{option_copied}
use Rattle.owl_characters.proofs.ResultLaws.{passed}
use Rattle.owl_command.specs.Commands.{Source}
use Rattle.owl_documents.specs.declared.trouble.Trouble.TheVariants.{ReadFailed}
use Rattle.owl_documents.proofs.Refusing.{defect_trouble, few_fed, shelf_failed, shelf_trouble}
use Rattle.owl_documents.proofs.reading.read_in.Goals as goal

pub feed_document-fed-requires : goal.feed_document-fed-requires
feed_document-fed-requires g c =
    let most : c.room_behind.result ≤ c.room_behind.result = omega arith in
    ((c.room_behind.ensures c.room_behind.result).0 most).own

pub returns-in_err-document-in-Ok-fed-clause-trouble : goal.returns-in_err-document-in-Ok-fed-clause-trouble
returns-in_err-document-in-Ok-fed-clause-trouble g c = λ tells.
    let base = option_copied c.args.base in
    let source : Source = record { name = c.args.name.now; base = base } in
    let fed = c.in-Ok-fed.ensures.fed base c.in-Ok.ensures tells in
    passed c.from_residual.result c.in_err-document-in-Ok-fed.field-0.0 _ c.from_residual.ensures.1
    (defect_trouble _ c.args.before g.R.DocumentReader.syntax source fed.bytes c.in_err-document-in-Ok-fed.field-0.0 c.requires.syntax fed.are (few_fed c.args.before c.in-Ok-fed.size (length fed.bytes) fed.count ((c.room_behind.ensures c.in-Ok-fed.size).0 c.in-Ok-fed.ensures.within)) (c.in_err-document-in-Ok-fed.ensures.refuses base fed.bytes fed.read))

pub returns-in_ok-document-in-Ok-fed-clause-read : goal.returns-in_ok-document-in-Ok-fed-clause-read
returns-in_ok-document-in-Ok-fed-clause-read g c = λ tells.
    let base = option_copied c.args.base in
    let fed = c.in-Ok-fed.ensures.fed base c.in-Ok.ensures tells in
    record {
      bytes = fed.bytes;
      is = record { there = fed.are; few = few_fed c.args.before c.in-Ok-fed.size (length fed.bytes) fed.count ((c.room_behind.ensures c.in-Ok-fed.size).0 c.in-Ok-fed.ensures.within); reads = c.in_ok-document-in-Ok-fed.ensures.reads base fed.bytes fed.read c.args.name.now c.requires.syntax };
      size = fed.count;
    }

pub returns-in_ok-document-in-Ok-fed-clause-within : goal.returns-in_ok-document-in-Ok-fed-clause-within
returns-in_ok-document-in-Ok-fed-clause-within g c = ((c.room_behind.ensures c.in-Ok-fed.size).0 c.in-Ok-fed.ensures.within).all

pub returns-in-Err-clause-trouble : goal.returns-in-Err-clause-trouble
returns-in-Err-clause-trouble g c = λ tells.
    shelf_trouble c.args.before c.in-Err.fault c.trouble_of_shelf.result c.trouble_of_shelf.ensures _ (record { name = c.args.name.now; base = option_copied c.args.base }) c.room_behind.result (λ size few. (c.room_behind.ensures size).1 few) (λ e. c.in-Err.ensures.longer tells (ap Err e))

pub returns-in-Err-clause-failed : goal.returns-in-Err-clause-failed
returns-in-Err-clause-failed g c = λ e.
    let failed : c.trouble_of_shelf.result ≡ ReadFailed = cc in
    c.in-Err.ensures.failed (ap Err (shelf_failed c.args.before c.in-Err.fault c.trouble_of_shelf.result c.trouble_of_shelf.ensures failed))
