use Rattle.std.proofs.Common.{sym, ◌∙◌}
use Rattle.owl_doc.proofs.SameDocuments.{heads_of, lists_of, parts_of_same, same_from_parts}
use Rattle.owl_doc.proofs.document.Doc.same.Goals.{then-are_same_heads, else-are_same_heads}
use Rattle.owl_doc.proofs.document.Doc.same.Goals as goal

pub returns-then-are_same_trees : goal.returns-then-are_same_trees
returns-then-are_same_trees c =
    let d = c.args.self.now in
    let e = c.args.other.now in
    let heads = heads_of c.are_same_heads.result _ _ d.head e.head c.head.ensures.head c.head-2.ensures.head c.are_same_heads.ensures in
    let axioms =
    lists_of c.are_same_trees-then-are_same_trees.result _ _ d.arena e.arena _ _ d.axioms e.axioms c.arena-then-are_same_trees.ensures c.arena-then-are_same_trees-2.ensures c.axioms.ensures.axioms c.axioms-then-are_same_trees.ensures.axioms c.are_same_trees-then-are_same_trees.ensures in
    elim c.if-are_same_heads.branch [
      | then-are_same_heads w ↦
          let notes =
          lists_of w.are_same_trees.result _ _ d.arena e.arena _ _ d.notes e.notes w.arena.ensures w.arena-then-are_same_heads.ensures w.notes.ensures.notes w.notes-then-are_same_heads.ensures.notes w.are_same_trees.ensures in (
            λ h. same_from_parts d e c.head.ensures.document c.head-2.ensures.document (record {
              head = heads.0 w.if-are_same_heads.true;
              notes = notes.0 (sym w.value-is ∙ c.if-are_same_trees.true);
              axioms = axioms.0 h;
            }),
            λ same. axioms.1 (parts_of_same d e c.head.ensures.document c.head-2.ensures.document same).axioms,
          )
      | else-are_same_heads w ↦ absurd (let v = w.value-is in let t = c.if-are_same_trees.true in cc)
    ]

pub returns-else-are_same_trees : goal.returns-else-are_same_trees
returns-else-are_same_trees c =
    let d = c.args.self.now in
    let e = c.args.other.now in
    let heads = heads_of c.are_same_heads.result _ _ d.head e.head c.head.ensures.head c.head-2.ensures.head c.are_same_heads.ensures in (
      λ h. absurd (let f = c.if-are_same_trees.false in cc),
      λ same.
          let parts = parts_of_same d e c.head.ensures.document c.head-2.ensures.document same in
          elim c.if-are_same_heads.branch [
            | then-are_same_heads w ↦
                let notes =
                lists_of w.are_same_trees.result _ _ d.arena e.arena _ _ d.notes e.notes w.arena.ensures w.arena-then-are_same_heads.ensures w.notes.ensures.notes w.notes-then-are_same_heads.ensures.notes w.are_same_trees.ensures in
                w.value-is ∙ notes.1 parts.notes
            | else-are_same_heads w ↦ absurd (let t = heads.1 parts.head in let f = w.if-are_same_heads.false in cc)
          ],
    )
