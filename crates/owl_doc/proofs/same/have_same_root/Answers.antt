use Rattle.std.proofs.Common.{sym, ◌∙◌}
use Rattle.owl_tree.specs.contracts.atom.AtomPartialEq.TheImpl as derived
use Rattle.owl_tree.specs.OrderLaws.{same_atom, same_tag}
use Rattle.owl_doc.proofs.SameTrees.{options_same}
use Rattle.owl_doc.proofs.same.have_same_root.Goals as goal

pub returns-then-eq : goal.returns-then-eq
returns-then-eq c =
    let atoms = options_same (λ atom. atom.now) derived.ghosts.eq same_atom c.atom.result c.atom-then-eq.result in
    let tags = (same_tag c.tag.result c.tag-2.result).0 (sym c.eq.ensures ∙ c.if-eq.true) in (
      λ h. record {
        tag = sym c.tag.ensures ∙ tags ∙ c.tag-2.ensures;
        atom = sym c.atom.ensures.atom ∙ atoms.0 (sym c.eq-then-eq.ensures ∙ h) ∙ c.atom-then-eq.ensures.atom;
      },
      λ root. c.eq-then-eq.ensures ∙ atoms.1 (c.atom.ensures.atom ∙ root.atom ∙ sym c.atom-then-eq.ensures.atom),
    )
