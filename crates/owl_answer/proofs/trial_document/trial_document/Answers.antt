use Rattle.owl_answer.proofs.TrialSizes.{document_is}
use Rattle.owl_answer.proofs.trial_document.trial_document.Goals as goal

pub returns : goal.returns
returns c =
    document_is c.args.size _ _ _ _ c.in_ok-text.ensures.ok c.in_ok-add_classes.ensures c.in_ok-add_links.ensures c.in_ok-push_str.ensures.bytes
