use Rattle.std.proofs.Common.{ap, sym, ◌∙◌, ◌++◌, ◌∷◌, [], Bool, if◌then◌else◌, take}
use Rattle.std.specs.Str.{encode_utf8_all}
use Rattle.std.proofs.lemmas.List.{take_more}
use Rattle.std.proofs.lemmas.Str.{encodes-chars}
use Rattle.owl_command.proofs.Asking.{one_more}
use Rattle.owl_command.proofs.names.texts_of.Goals as goal

pub words-preserved : goal.words-preserved
words-preserved c =
    let words = c.args.words.now in
    let place = c.words.word-index in
    one_more _ words place c.word-item.result c.words.texts.items c.push.new.self.items c.in_ok-of.field-0 c.words.invariant (c.push.ensures.items ∙ ap (λ (b : Bool). if b then c.words.texts.items ++ c.in_ok-of.field-0 ∷ [] else c.words.texts.items) (sym c.in_ok-map_err.ensures.variant)) (ap encode_utf8_all c.in_ok-of.ensures ∙ encodes-chars c.as_str.result.now c.as_str.utf8 ∙ c.as_str.ensures.value) (take_more words place c.word-item.result c.words-test.true ∙ ap (λ word. take place words ++ word ∷ []) (sym c.word-item.is))
