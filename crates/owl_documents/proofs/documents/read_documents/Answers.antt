use Rattle.std.proofs.Common.{◌≡◌, ℕ, Some, Err, List, [], ◌∷◌, length, map, slice_get, ap, ◌∙◌, subst, arith}
use Rattle.std.specs.Option.{option_copied}
use Rattle.std.proofs.lemmas.List.{length-append}
use Rattle.owl_documents.specs.declared.document.Document.{Document}
use Rattle.owl_command.specs.Commands.{Source, names_of, request_of, sources_of}
use Rattle.owl_command.proofs.SourceLaws.{source_at}
use Rattle.owl_documents.specs.Documents.{parsed_of}
use Rattle.owl_documents.proofs.Following.{all_by_names}
use Rattle.owl_documents.proofs.Taking.{all_of, count_of, ended_by_names, kept, next, stops, taken_at, taken_whole}
use Rattle.owl_documents.proofs.documents.read_documents.Goals as goal

pub loop-alloc-preserved : goal.loop-alloc-preserved
loop-alloc-preserved g c =
    let request = request_of c.args.command.now in
    let docs = c.loop-alloc.docs.items in
    let place : c.len-place.result ≡ length docs = let e = c.len-place.ensures in let f = c.loop-alloc.docs.ok in omega arith in
    let source : Source = record { name = c.name.result.now; base = option_copied c.base.result } in
    let at : slice_get (sources_of request) (length docs) ≡ Some source = subst (λ (n : ℕ). slice_get (sources_of request) n ≡ Some source) place (source_at request c.len-place.result c.name.result.now (option_copied c.base.result) c.name.ensures c.base.ensures) in
    record {
      within = c.in-Ok.ensures.within;
      few = let one = ap (λ (ds : List Document). length ds) c.in_ok-keep-in-Ok.ensures.kept ∙ length-append docs (c.in-Ok.read.document ∷ []) in let t = c.loop-alloc-test.true in let l = c.len.ensures in let n = c.count.ensures in let f = c.loop-alloc.docs.ok in omega arith;
      told = c.in-Ok.ensures.told ∙ c.loop-alloc.invariant.told;
      taken = kept _ (sources_of request) docs c.keep.new.docs.items c.in-Ok.read.document _ c.in_ok-keep-in-Ok.ensures.kept (next c.loop-alloc.invariant.told request c.requires (length docs) source at (map parsed_of docs) c.loop-alloc.size c.loop-alloc.invariant.taken c.in-Ok.ensures.alone c.in-Ok.read c.in-Ok.ensures.read c.in-Ok.ensures.ended);
    }

pub returns-in_err-keep-in-Ok-clause-taken : goal.returns-in_err-keep-in-Ok-clause-taken
returns-in_err-keep-in-Ok-clause-taken g c =
    let request = request_of c.args.command.now in
    let docs = c.loop-alloc.docs.items in
    let place : c.len-place.result ≡ length docs = let e = c.len-place.ensures in let f = c.loop-alloc.docs.ok in omega arith in
    let source : Source = record { name = c.name.result.now; base = option_copied c.base.result } in
    let at : slice_get (sources_of request) (length docs) ≡ Some source = subst (λ (n : ℕ). slice_get (sources_of request) n ≡ Some source) place (source_at request c.len-place.result c.name.result.now (option_copied c.base.result) c.name.ensures c.base.ensures) in
    taken_at c.loop-alloc.invariant.told request c.requires (length docs) source at (map parsed_of docs) c.loop-alloc.size c.loop-alloc.invariant.taken c.in-Ok.ensures.alone

pub returns-in-Err-clause-stop : goal.returns-in-Err-clause-stop
returns-in-Err-clause-stop g c =
    let request = request_of c.args.command.now in
    let docs = c.loop-alloc.docs.items in
    let place : c.len-place.result ≡ length docs = let e = c.len-place.ensures in let f = c.loop-alloc.docs.ok in omega arith in
    let source : Source = record { name = c.name.result.now; base = option_copied c.base.result } in
    let at : slice_get (sources_of request) (length docs) ≡ Some source = subst (λ (n : ℕ). slice_get (sources_of request) n ≡ Some source) place (source_at request c.len-place.result c.name.result.now (option_copied c.base.result) c.name.ensures c.base.ensures) in
    stops c.loop-alloc.invariant.told request c.requires (length docs) source at (map parsed_of docs) c.loop-alloc.size c.loop-alloc.invariant.taken c.in-Err.ensures.alone c.len-place.result c.in-Err.trouble (let e = c.len-place.ensures in let f = c.loop-alloc.docs.ok in omega arith) (let t = c.loop-alloc-test.true in let l = c.len.ensures in let n = c.count.ensures in let f = c.loop-alloc.docs.ok in omega arith) c.in-Err.ensures.proper c.in-Err.ensures.trouble (λ e. c.in-Err.ensures.failed (ap Err e))

pub returns-in-Err-clause-taken : goal.returns-in-Err-clause-taken
returns-in-Err-clause-taken g c =
    let request = request_of c.args.command.now in
    let docs = c.loop-alloc.docs.items in
    let place : c.len-place.result ≡ length docs = let e = c.len-place.ensures in let f = c.loop-alloc.docs.ok in omega arith in
    let source : Source = record { name = c.name.result.now; base = option_copied c.base.result } in
    let at : slice_get (sources_of request) (length docs) ≡ Some source = subst (λ (n : ℕ). slice_get (sources_of request) n ≡ Some source) place (source_at request c.len-place.result c.name.result.now (option_copied c.base.result) c.name.ensures c.base.ensures) in
    taken_at c.loop-alloc.invariant.told request c.requires (length docs) source at (map parsed_of docs) c.loop-alloc.size c.loop-alloc.invariant.taken c.in-Err.ensures.alone

pub returns-clause-taken : goal.returns-clause-taken
returns-clause-taken g c = λ tells.
    let request = request_of c.args.command.now in
    taken_whole _ request _ c.loop-alloc.size (all_of _ (sources_of request) (length c.loop-alloc.docs.items) _ c.loop-alloc.size (let t = c.loop-alloc-test.false in let l = c.len.ensures in let n = c.count.ensures in let f = c.loop-alloc.docs.ok in let k = count_of request in omega arith) c.loop-alloc.invariant.taken) tells

pub returns-clause-read : goal.returns-clause-read
returns-clause-read g c = λ tells.
    let request = request_of c.args.command.now in
    let all = all_of _ (sources_of request) (length c.loop-alloc.docs.items) _ c.loop-alloc.size (let t = c.loop-alloc-test.false in let l = c.len.ensures in let n = c.count.ensures in let f = c.loop-alloc.docs.ok in let k = count_of request in omega arith) c.loop-alloc.invariant.taken in
    (c.loop-alloc.size, all.read tells)

pub returns-clause-ended : goal.returns-clause-ended
returns-clause-ended g c = λ tells.
    let request = request_of c.args.command.now in
    let all = all_of _ (sources_of request) (length c.loop-alloc.docs.items) _ c.loop-alloc.size (let t = c.loop-alloc-test.false in let l = c.len.ensures in let n = c.count.ensures in let f = c.loop-alloc.docs.ok in let k = count_of request in omega arith) c.loop-alloc.invariant.taken in
    all_by_names _ (names_of request) (λ name among. ended_by_names _ request _ c.loop-alloc.size all tells name among)
