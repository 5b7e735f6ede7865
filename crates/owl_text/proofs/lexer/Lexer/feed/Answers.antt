-- Both languages are prompt.
use Rattle.std.proofs.Common.{◌≡◌, Result, [], rules, sym, subst}
use Rattle.std.specs.Prelude.{OnOk}
use Rattle.owl_lexer.specs.Lexing.{Begun, HoldsNoEnd}
use Rattle.owl_tokens.specs.FunctionalSpellingLaws.{functional_is_prompt}
use Rattle.owl_tokens.specs.ManchesterSpellingLaws.{manchester_is_prompt}
use Rattle.owl_text.specs.Cutters.{lexing_of}
use Rattle.owl_text.specs.Dialects.{Lexing, SpellsIn}
use Rattle.owl_text.specs.declared.dialect.Dialect.{Dialect}
use Rattle.owl_text.specs.declared.dialect.Dialect.TheVariants.{Functional, Manchester}
use Rattle.owl_text.proofs.lexer.Lexer.feed.Goals as goal
use Rattle.owl_text.proofs.lexer.Lexer.feed.Goals.{in-Functional, in-Manchester}

told : {A E : Type 0} (old new : Lexing) (d : Dialect) (begun : Begun) (r s : Result A E) → old.dialect ≡ d → new.begun ≡ begun → r ≡ s → OnOk s (HoldsNoEnd (SpellsIn d) [] begun) → OnOk r (HoldsNoEnd (SpellsIn old.dialect) [] new.begun)
told {A = A} {E = E} old new d begun r s x y z h =
    subst (λ (d : Dialect). OnOk r (HoldsNoEnd (SpellsIn d) [] new.begun)) (sym x)
    (subst (λ (b : Begun). OnOk r (HoldsNoEnd (SpellsIn d) [] b)) (sym y)
    (subst (λ (r : Result A E). OnOk r (HoldsNoEnd (SpellsIn d) [] begun)) (sym z) h))

pub returns-clause-prompt : goal.returns-clause-prompt
returns-clause-prompt c = elim c.match-self.branch [
  | in-Functional w ↦ told c.args.self.now (lexing_of c.match-self.self-inside.cutter) Functional w.feed.new.self.begun c.match-self.result w.feed.result (search rules) (search rules) (search rules) (w.feed.ensures.prompt [] functional_is_prompt)
  | in-Manchester w ↦ told c.args.self.now (lexing_of c.match-self.self-inside.cutter) Manchester w.feed-in-Manchester.new.self.begun c.match-self.result w.feed-in-Manchester.result (search rules) (search rules) (search rules) (w.feed-in-Manchester.ensures.prompt [] manchester_is_prompt)
]
