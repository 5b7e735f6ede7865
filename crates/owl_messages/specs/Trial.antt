-- What a trial tells of its document.
use Rattle.std.specs.Prelude.{ℕ, zero, suc, Bool, true, false, List, ◌++◌, codes}
use Rattle.std.specs.Fmt.{decimal}
use Rattle.owl_command.specs.Commands.{profile_word}
use Rattle.owl_command.specs.declared.command.Profile.{Profile}
use Rattle.owl_command.specs.declared.command.Profile.TheVariants.{Dl, El, Ql, Rl}
use Rattle.owl_command.specs.declared.status.Status.TheVariants.{Done}
use Rattle.owl_messages.specs.Outcome.{Outcome}
use Rattle.owl_messages.specs.Summary.{count_line}
use Rattle.owl_messages.specs.declared.trial.BreachCounts.{BreachCounts}
use Rattle.owl_messages.specs.declared.trial.Findings.{Findings}

-- a translation says the same, or not
abbrev pub compared_line : List ℕ → Bool → List ℕ
compared_line label true = label ++ codes " same\n"
compared_line label false = label ++ codes " different\n"

-- rules of the profile are broken so often
abbrev pub profile_line : Profile → ℕ → List ℕ
profile_line profile zero = profile_word profile ++ codes " yes\n"
profile_line profile (suc n) = profile_word profile ++ (codes " no " ++ (decimal (suc n) ++ codes "\n"))

abbrev pub counted_lines : Findings → List ℕ
counted_lines f =
    count_line (codes "axioms") f.axioms ++ (count_line (codes "distinct") f.distinct ++ count_line (codes "triples") f.triples)

abbrev pub compared_lines : Findings → List ℕ
compared_lines f = compared_line (codes "ttl") f.turtle ++ compared_line (codes "omn") f.manchester

abbrev pub profile_lines : BreachCounts → List ℕ
profile_lines b = profile_line Dl b.dl ++ (profile_line El b.el ++ (profile_line Ql b.ql ++ profile_line Rl b.rl))

-- nine lines
abbrev pub trial_text : Findings → List ℕ
trial_text f = counted_lines f ++ (compared_lines f ++ profile_lines f.breaches)

-- a trial that was done
abbrev pub tried : Findings → Outcome
tried f = record { status = Done; text = trial_text f; line = codes "trial done\n" }
