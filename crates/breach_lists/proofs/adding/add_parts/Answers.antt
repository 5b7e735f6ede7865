-- What was there before the header stays in front of the axioms.
use Rattle.std.proofs.Common.{◌≡◌, List, ◌++◌, length, take, drop, sym, ap, ◌∙◌}
use Rattle.std.proofs.Math.Seq.{take-append_seam}
use Rattle.std.proofs.lemmas.List.{append_assoc, take-append-drop}
use Rattle.breach_lists.proofs.adding.add_parts.Goals as goal

still_kept : {X : Type 0} (old now after more : List X) → now ≡ old ++ more → take (length now) after ≡ now → take (length old) after ≡ old
still_kept {X} old now after more e k =
    let rest = drop (length now) after in
    let whole : old ++ (more ++ rest) ≡ after =
    sym (append_assoc old more rest) ∙ ap (λ (x : List X). x ++ rest) (sym e) ∙ ap (λ (x : List X). x ++ rest) (sym k) ∙ take-append-drop (length now) after in
    ap (take (length old)) (sym whole) ∙ take-append_seam old (more ++ rest)

pub returns-in_err-add_axioms-clause-kept : goal.returns-in_err-add_axioms-clause-kept
returns-in_err-add_axioms-clause-kept c = still_kept c.args.found.now.items c.push_if.new.found.items c.add_axioms.new.found.items _ c.in_ok-push_if.ensures.ok c.add_axioms.ensures.kept
