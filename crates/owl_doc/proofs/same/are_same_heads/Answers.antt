use Rattle.std.proofs.Common.{sym, ◌∙◌}
use Rattle.owl_doc.proofs.SameHeads.{heads_same, optional_texts_same, same_heads, texts_same}
use Rattle.owl_doc.proofs.same.are_same_heads.Goals.{then-eq, else-eq}
use Rattle.owl_doc.proofs.same.are_same_heads.Goals as goal

pub returns-then-eq-2 : goal.returns-then-eq-2
returns-then-eq-2 c =
    let one = c.args.one.now in
    let other = c.args.other.now in
    elim c.if-eq.branch [
      | then-eq w ↦
          let iri = (optional_texts_same one.iri other.iri).0 (sym c.eq.ensures ∙ w.if-eq.true) in
          let version = (optional_texts_same one.version other.version).0 (sym w.eq-then-eq.ensures ∙ sym w.value-is ∙ c.if-eq-2.true) in
          let imports = texts_same one.imports.items other.imports.items in (
            λ h. same_heads one other iri version (imports.0 (sym c.eq-then-eq-2.ensures ∙ h)),
            λ e. c.eq-then-eq-2.ensures ∙ imports.1 ((heads_same one other c.requires.one c.requires.other e).2),
          )
      | else-eq w ↦ absurd (let v = w.value-is in let t = c.if-eq-2.true in cc)
    ]
