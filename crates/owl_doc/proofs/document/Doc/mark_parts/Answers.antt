use Rattle.std.proofs.Common.{◌∙◌, sym, subst, List, ℕ}
use Rattle.owl_doc.specs.Marks.{AddsParts, IsClosedFrom}
use Rattle.owl_arena.specs.Shared.{HaveOneNumber}
use Rattle.owl_arena.specs.Held.{Held}
use Rattle.owl_doc.proofs.MarkedTrees.{IsMarkedToo, distinct_counted}
use Rattle.owl_doc.proofs.document.Doc.mark_parts.Goals as goal

pub returns-clause-count : goal.returns-clause-count
returns-clause-count c =
    let d = c.args.self.now in
    let none = c.args.marks.now in
    let first = c.mark.new.marks in
    let second = c.mark-2.new.marks in
    let last = c.mark_below.new.marks in
    let arena = c.arena.ensures in
    sym (distinct_counted d none first second last (record {
      document = c.notes.ensures.document;
      one_number = subst (λ (a : Held). HaveOneNumber a.trees) arena c.mark_below.ensures.one_number;
      nothing = c.requires.none;
      notes = subst (λ (ids : List ℕ). IsMarkedToo none ids first) c.notes.ensures.notes c.mark.ensures.marked;
      axioms = subst (λ (ids : List ℕ). IsMarkedToo first ids second) c.axioms.ensures.axioms c.mark-2.ensures.marked;
      long = c.mark-2.ensures.long ∙ c.mark.ensures.long ∙ c.requires.long;
      added = subst (λ (a : Held). AddsParts a.trees second last) arena c.mark_below.ensures.added;
      closed = subst (λ (a : Held). IsClosedFrom 0 a.trees last) arena c.mark_below.ensures.closed;
    }))
