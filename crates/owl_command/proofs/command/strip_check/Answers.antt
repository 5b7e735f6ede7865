use Rattle.std.proofs.Common.{◌≡◌, ◌≢◌, ◌∷◌, ◌++◌, ◌∙◌, sym, List, ℕ, codes, map, string_bytes}
use Rattle.owl_command.specs.Commands.{action_words, profile_word}
use Rattle.owl_command.specs.declared.command.Action.TheVariants.{Check}
use Rattle.owl_command.specs.declared.command.Profile.{Profile}
use Rattle.owl_command.proofs.Asking.{if_none}
use Rattle.owl_command.proofs.command.strip_check.Goals as goal

pub returns-in_err-strip-clause-none : goal.returns-in_err-strip-clause-none
returns-in_err-strip-clause-none c =
    let none : (profile : Profile) (others : List (List ℕ)) → map string_bytes c.args.words.now ≢ action_words (Check profile) ++ others = λ profile others e. c.in_err-strip.ensures.none _ e in
    if_none _ _ none

pub returns-in_err-others-clause-none : goal.returns-in_err-others-clause-none
returns-in_err-others-clause-none c =
    let none : (profile : Profile) (others : List (List ℕ)) → map string_bytes c.args.words.now ≢ action_words (Check profile) ++ others = λ profile others e.
    let behind : map string_bytes c.in_ok-strip.field-0.now ≡ codes "--profile" ∷ profile_word profile ∷ others = let whole = sym c.in_ok-strip.ensures.some ∙ e in cc in
    c.in_err-others.ensures.none _ behind in
    if_none _ _ none
