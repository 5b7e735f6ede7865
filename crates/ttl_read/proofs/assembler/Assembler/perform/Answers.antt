use Rattle.std.proofs.Common.{Ok, codes, sym, subst}
use Rattle.rdf_terms.specs.Vocabulary.{rdf}
use Rattle.ttl_grammar.specs.States.{acted, bracket_opened, closed, collection_closed, collection_opened, element_added, with_object, with_predicate, with_subject}
use Rattle.ttl_grammar.specs.declared.node.Node.TheVariants as node
use Rattle.ttl_grammar.specs.declared.node.Object.TheVariants as object
use Rattle.owl_reader.specs.Computing.{TurnsTo}
use Rattle.ttl_read.specs.Showing.{Shows}
use Rattle.ttl_read.proofs.SameFacts.{bracket_passes, bracket_plain, collection_passes, collection_turn, element_turn, object_turn, predicate_plain, subject_plain}
use Rattle.ttl_read.proofs.Shown.{cell_turned, exactly_turned, facts_passed, facts_turned}
use Rattle.ttl_read.proofs.assembler.Assembler.perform.Goals as goal

pub returns-in-RdfType : goal.returns-in-RdfType
returns-in-RdfType c = λ state h.
    subst (λ a. TurnsTo Shows c.read-in-RdfType.result c.read-in-RdfType.new.self (acted a c.args.next.now state)) (sym c.in-RdfType.is)
    (c.read-in-RdfType.ensures state (Ok (object.Node (node.Iri (rdf (codes "type"))))) h c.type_term.ensures)

pub returns-in-Plain : goal.returns-in-Plain
returns-in-Plain c = λ state h.
    subst (λ a. TurnsTo Shows c.read_plain.result c.read_plain.new.self (acted a c.args.next.now state)) (sym c.in-Plain.is)
    (c.read_plain.ensures state c.args.next.now h)

pub returns-in-Subject : goal.returns-in-Subject
returns-in-Subject c = λ state h.
    subst (λ a. TurnsTo Shows (Ok tt) (record c.args.self.now { facts = c.name_subject.new.self }) (acted a c.args.next.now state)) (sym c.in-Subject.is)
    (exactly_turned c.args.self.now c.name_subject.new.self state with_subject subject_plain h c.name_subject.ensures)

pub returns-in-Predicate : goal.returns-in-Predicate
returns-in-Predicate c = λ state h.
    subst (λ a. TurnsTo Shows (Ok tt) (record c.args.self.now { facts = c.name_predicate.new.self }) (acted a c.args.next.now state)) (sym c.in-Predicate.is)
    (exactly_turned c.args.self.now c.name_predicate.new.self state with_predicate predicate_plain h c.name_predicate.ensures)

pub returns-in_ok-add_object-in-Object : goal.returns-in_ok-add_object-in-Object
returns-in_ok-add_object-in-Object c = λ state h.
    subst (λ a. TurnsTo Shows (Ok tt) (record c.count.new.self { facts = c.add_object.new.self }) (acted a c.args.next.now state)) (sym c.in-Object.is)
    (facts_turned c.args.self.now c.count.new.self c.add_object.new.self state with_object object_turn h c.in_ok-count-in-Object.ensures.counted c.in_ok-count-in-Object.ensures.few c.in_ok-add_object-in-Object.ensures)

pub returns-in-CloseBracket : goal.returns-in-CloseBracket
returns-in-CloseBracket c = λ state h.
    subst (λ a. TurnsTo Shows (Ok tt) (record c.args.self.now { facts = c.close_bracket.new.self }) (acted a c.args.next.now state)) (sym c.in-CloseBracket.is)
    (exactly_turned c.args.self.now c.close_bracket.new.self state (λ facts. closed facts.nest.whole facts) bracket_plain h c.close_bracket.ensures)

pub returns-in_ok-add_element-in-Element : goal.returns-in_ok-add_element-in-Element
returns-in_ok-add_element-in-Element c = λ state h.
    subst (λ a. TurnsTo Shows (Ok tt) (record c.count-in-Element.new.self { facts = c.add_element.new.self }) (acted a c.args.next.now state)) (sym c.in-Element.is)
    (facts_turned c.args.self.now c.count-in-Element.new.self c.add_element.new.self state element_added element_turn h c.in_ok-count-in-Element.ensures.counted c.in_ok-count-in-Element.ensures.few c.in_ok-add_element-in-Element.ensures)

pub returns-in_ok-close_collection-in-CloseCollection : goal.returns-in_ok-close_collection-in-CloseCollection
returns-in_ok-close_collection-in-CloseCollection c = λ state h.
    subst (λ a. TurnsTo Shows (Ok tt) (record c.count-in-CloseCollection.new.self { facts = c.close_collection.new.self }) (acted a c.args.next.now state)) (sym c.in-CloseCollection.is)
    (facts_turned c.args.self.now c.count-in-CloseCollection.new.self c.close_collection.new.self state collection_closed collection_turn h c.in_ok-count-in-CloseCollection.ensures.counted c.in_ok-count-in-CloseCollection.ensures.few c.in_ok-close_collection-in-CloseCollection.ensures)

pub returns-in-OpenBracket : goal.returns-in-OpenBracket
returns-in-OpenBracket c = λ state h.
    subst (λ a. TurnsTo Shows c.open_bracket.result (record c.args.self.now { facts = c.open_bracket.new.self }) (acted a c.args.next.now state)) (sym c.in-OpenBracket.is)
    (facts_passed c.args.self.now c.open_bracket.new.self state bracket_opened c.open_bracket.result bracket_passes h c.open_bracket.ensures)

pub returns-in-OpenCollection : goal.returns-in-OpenCollection
returns-in-OpenCollection c = λ state h.
    subst (λ a. TurnsTo Shows c.open_collection.result (record c.args.self.now { facts = c.open_collection.new.self }) (acted a c.args.next.now state)) (sym c.in-OpenCollection.is)
    (facts_passed c.args.self.now c.open_collection.new.self state collection_opened c.open_collection.result collection_passes h c.open_collection.ensures)

pub returns-in_ok-count-in-Item : goal.returns-in_ok-count-in-Item
returns-in_ok-count-in-Item c = λ state h.
    subst (λ a. TurnsTo Shows c.add_cell.result (record c.count-in-Item.new.self { facts = c.add_cell.new.self }) (acted a c.args.next.now state)) (sym c.in-Item.is)
    (cell_turned c.args.self.now c.count-in-Item.new.self c.add_cell.new.self state c.add_cell.result h c.in_ok-count-in-Item.ensures.counted c.in_ok-count-in-Item.ensures.few c.add_cell.ensures)
