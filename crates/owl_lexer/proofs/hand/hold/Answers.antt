-- What is held leads on; where it is no lexeme, the longest in front of it is remembered.
use Rattle.std.proofs.Common.{rules, ℕ, ◌+◌, List, [], ◌∷◌, ◌++◌, ap, sym, ◌∙◌, ◌≡◌, subst, true, false}
use Rattle.std.specs.Option.{is_some}
use Rattle.owl_lexer.specs.Hands.{IsFrontOf}
use Rattle.owl_lexer.specs.declared.hand.Hand.{Hand}
use Rattle.owl_lexer.proofs.Hands.{Remembers, ready_grown}
use Rattle.owl_lexer.proofs.hand.hold.Goals as goal
use Rattle.owl_lexer.proofs.hand.hold.Goals.{then-is_none, else-is_none}

pub returns-clause-ready : goal.returns-clause-ready
returns-clause-ready g c =
    let keeps : Remembers g.L.TokenLanguage.automaton c.args.hand.now c.if-is_none.hand c.args.state = elim c.if-is_none.branch [
      | then-is_none w ↦
          let is = w.hand-is ∙ w.remember.ensures.rest in
          record {
            at = ap (λ (h : Hand). h.at) is;
            end = ap (λ (h : Hand). h.end) is;
            held = ap (λ (h : Hand). h.held.items) is;
            front = λ none. subst (IsFrontOf g.L.TokenLanguage.automaton c.args.hand.now.at c.args.hand.now.held.items) (sym (ap (λ (h : Hand). h.front) w.hand-is)) w.remember.ensures.front;
          }
      | else-is_none w ↦ record {
        at = ap (λ (h : Hand). h.at) w.hand-is;
        end = ap (λ (h : Hand). h.end) w.hand-is;
        held = ap (λ (h : Hand). h.held.items) w.hand-is;
        front = λ none. let no : true ≡ false = sym (w.if-is_none.ensures) ∙ ap is_some (c.kind.ensures ∙ none) in cc;
      }
    ] in
    ready_grown g.L.TokenLanguage.automaton c.args.hand.now _ c.args.c c.requires.ready
    (record {
      at = keeps.at;
      held = c.in_ok-add.ensures.ok ∙ ap (λ (l : List ℕ). l ++ c.args.c ∷ []) keeps.held;
      end = ap (λ (n : ℕ). n + c.width.result) keeps.end ∙ ap (λ (n : ℕ). c.args.hand.now.end + n) c.width.ensures;
      scalar = search rules;
    })
    c.requires.step keeps.front
