use Rattle.std.proofs.Common.{rules, ◌≡◌, ◌++◌, ◌∷◌, [], map}
use Rattle.blank_labels.specs.LabelNumbers.{names_beside}
use Rattle.owl_list.proofs.AscendingLaws.{same_from_equal}
use Rattle.ttl_grammar.specs.Labels.{named_triple}
use Rattle.ttl_read.proofs.Gathering.{gathers_one, none_left, puts_aside}
use Rattle.ttl_read.proofs.labels.gather_of_iris.Goals as goal

pub loop-triple-init : goal.loop-triple-init
loop-triple-init c =
    let f = named_triple (names_beside c.args.labels.now) in
    same_from_equal _ _ (λ i. c.args.gather.now ++ (map f (c.new-others.ensures.items i) ++ map f (c.into_iter-triple-iterator.ensures.into_iter_gives.0 i)))

pub loop-triple-preserved-in_ok-add : goal.loop-triple-preserved-in_ok-add
loop-triple-preserved-in_ok-add c =
    let f = named_triple (names_beside c.args.labels.now) in
    let left : c.loop-triple.triple-iterator ≡ c.in-Some.triple ∷ c.next.new.self = search rules in
    let now : c.add.new.self ≡ c.loop-triple.gather ++ f c.in-Some.triple ∷ [] = search rules in
    gathers_one f (c.args.gather.now ++ map f c.args.triples.keys) c.loop-triple.gather c.add.new.self c.loop-triple.others.items _ _ c.in-Some.triple c.loop-triple.invariant left now

pub loop-triple-preserved : goal.loop-triple-preserved
loop-triple-preserved c =
    let f = named_triple (names_beside c.args.labels.now) in
    let left : c.loop-triple.triple-iterator ≡ c.in-Some.triple ∷ c.next.new.self = search rules in
    let now : c.push.new.self.items ≡ c.loop-triple.others.items ++ c.in-Some.triple ∷ [] = search rules in
    puts_aside f (c.args.gather.now ++ map f c.args.triples.keys) c.loop-triple.gather c.loop-triple.others.items c.push.new.self.items _ _ c.in-Some.triple c.loop-triple.invariant left now

pub returns : goal.returns
returns c =
    let f = named_triple (names_beside c.args.labels.now) in
    let none : c.loop-triple.triple-iterator ≡ [] = search rules in
    none_left f (c.args.gather.now ++ map f c.args.triples.keys) c.loop-triple.gather c.loop-triple.others.items _ c.loop-triple.invariant none
