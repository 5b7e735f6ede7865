use Rattle.std.proofs.Common.{◌≡◌, ◌<◌, ℕ, sym, subst, ap, ◌∙◌, refl, Ok, Err, None, IsTrue, length, Option, Some, []}
use Rattle.owl_arena.specs.Held.{Held}
use Rattle.owl_arena.specs.Shared.{AreShared}
use Rattle.owl_doc.specs.Documents.{Document, IsAxiomAt}
use Rattle.owl_tree.specs.declared.tag.Tag.{Tag}
use Rattle.owl_tree.specs.Tags.{is_axiom}
use Rattle.owl_maker.specs.Kept.{IsHeldIn, making_of, outlines_in}
use Rattle.owl_maker.specs.Makings.{Making}
use Rattle.owl_maker.proofs.Ended.{is_ok_left, axiom_done, axiom_limit, axiom_too_heavy, nothing_left, on_ok, tag_is}
use Rattle.owl_maker.proofs.maker.Maker.add_axiom.Goals as goal

pub returns-then-self-clause-too_heavy : goal.returns-then-self-clause-too_heavy
returns-then-self-clause-too_heavy c =
    let i = c.self.inside in
    let shared : AreShared i.builder.arena.trees = subst (λ (a : Held). AreShared a.trees) c.arena.ensures.arena c.distinct-trees.ensures.shared in
    axiom_too_heavy i c.args.self.now c.self.view_is c.if-self.true shared c.arena.ensures.begun

pub returns-in-Ok-clause-added : goal.returns-in-Ok-clause-added
returns-in-Ok-clause-added c =
    let i = c.self.inside in
    let shared : AreShared i.builder.arena.trees = subst (λ (a : Held). AreShared a.trees) c.arena.ensures.arena c.distinct-trees.ensures.shared in
    let is : i.item ≡ Some c.unwrap-id.result = c.unwrap-id.ensures in
    let here : c.unwrap-id.result < length i.builder.arena.trees = subst (λ (o : Option ℕ). IsHeldIn i.builder.arena.trees o) is c.self.invariant.item in
    axiom_done i c.args.self.now c.self.view_is c.if-self.false c.unwrap-id.result is shared c.arena.ensures.begun here (Ok tt) c.add-added.result c.add-added.new.self c.in-Ok.ensures.ok c.add-added.ensures.new c.add-added.ensures.added

pub returns-in-Ok-clause-done : goal.returns-in-Ok-clause-done
returns-in-Ok-clause-done c =
    let i = c.self.inside in
    let new : Making = making_of record { alloc = i.alloc; builder = c.add-added.new.self; stack = i.stack; item = None; is_heavy = i.is_heavy } in
    let none : outlines_in i.stack.items ≡ [] = ap (λ (m : Making). m.outlines) c.self.view_is ∙ c.requires.follows.outlines in
    let trees = c.add-added.new.self.arena.trees in
    on_ok (Ok tt) (nothing_left new i.stack.items trees none refl refl refl c.if-self.false)

pub returns-in-Ok-clause-too_heavy : goal.returns-in-Ok-clause-too_heavy
returns-in-Ok-clause-too_heavy c =
    let i = c.self.inside in
    let shared : AreShared i.builder.arena.trees = subst (λ (a : Held). AreShared a.trees) c.arena.ensures.arena c.distinct-trees.ensures.shared in
    let is : i.item ≡ Some c.unwrap-id.result = c.unwrap-id.ensures in
    let here : c.unwrap-id.result < length i.builder.arena.trees = subst (λ (o : Option ℕ). IsHeldIn i.builder.arena.trees o) is c.self.invariant.item in
    let same = tag_is i c.args.self.now c.self.view_is c.if-self.false c.unwrap-id.result is c.requires.item c.requires.follows in
    let tagged : IsAxiomAt i.builder c.unwrap-id.result = subst (λ (u : Tag). IsTrue (is_axiom u)) (sym same) c.requires.tag in
    axiom_limit i c.args.self.now c.self.view_is c.if-self.false c.unwrap-id.result is shared c.arena.ensures.begun here (Ok tt) c.add-added.result c.in-Ok.ensures.too_heavy c.add-added.ensures.too_heavy tagged

pub returns-in-Err-clause-too_heavy : goal.returns-in-Err-clause-too_heavy
returns-in-Err-clause-too_heavy c =
    let i = c.self.inside in
    let shared : AreShared i.builder.arena.trees = subst (λ (a : Held). AreShared a.trees) c.arena.ensures.arena c.distinct-trees.ensures.shared in
    let is : i.item ≡ Some c.unwrap-id.result = c.unwrap-id.ensures in
    let here : c.unwrap-id.result < length i.builder.arena.trees = subst (λ (o : Option ℕ). IsHeldIn i.builder.arena.trees o) is c.self.invariant.item in
    let same = tag_is i c.args.self.now c.self.view_is c.if-self.false c.unwrap-id.result is c.requires.item c.requires.follows in
    let tagged : IsAxiomAt i.builder c.unwrap-id.result = subst (λ (u : Tag). IsTrue (is_axiom u)) (sym same) c.requires.tag in
    axiom_limit i c.args.self.now c.self.view_is c.if-self.false c.unwrap-id.result is shared c.arena.ensures.begun here (Err c.in-Err.fault) c.add-added.result c.in-Err.ensures.too_heavy c.add-added.ensures.too_heavy tagged

pub returns-in-Err-clause-err : goal.returns-in-Err-clause-err
returns-in-Err-clause-err c =
    let i = c.self.inside in
    let same : c.add-added.new.self ≡ i.builder = is_ok_left (Err c.in-Err.fault) c.add-added.result (c.add-added.new.self ≡ i.builder) c.in-Err.ensures.ok c.add-added.ensures.err in
    ap (λ (d : Document). making_of record { alloc = i.alloc; builder = d; stack = i.stack; item = i.item; is_heavy = i.is_heavy }) same ∙ c.self.view_is
