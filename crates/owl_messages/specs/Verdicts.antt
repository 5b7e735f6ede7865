-- What a check of an import closure tells: whether it is in the profile, and which parts break which rules.
use Rattle.std.specs.Prelude.{ℕ, List, [], ◌∷◌, ◌++◌, ◌+◌, codes, get_or, length}
use Rattle.std.specs.Fmt.{decimal}
use Rattle.std.specs.List.{flat_map}
use Rattle.std.specs.Str.{encode_utf8_all}
use Rattle.fss_write.specs.Text.{axiom_text}
use Rattle.owl_breaches.specs.Sites.{Site}
use Rattle.owl_command.specs.Commands.{profile_word}
use Rattle.owl_command.specs.declared.command.Profile.{Profile}
use Rattle.owl_command.specs.declared.status.Status.TheVariants.{Done, No}
use Rattle.owl_doc.specs.Parts.{Part, of_axiom, of_header}
use Rattle.owl_doc.specs.Rules.{rule_name}
use Rattle.owl_messages.specs.Outcome.{Outcome}
use Rattle.owl_profiles.specs.Profiles.{ProfileRule, name_of}

-- a part, in characters: an axiom has its IRIs in full
abbrev pub part_text : Part → List ℕ
part_text (of_header annotations) = codes "header"
part_text (of_axiom t) = axiom_text t

-- The line of a breach: the rule, the document's number, and the part. The documents of the closure stand at these places
-- among all that are named, and numbers are from 1.
abbrev pub breach_line : List ℕ → Site ProfileRule → List ℕ
breach_line places breach =
    rule_name (name_of breach.rule) ++ (codes " " ++ (decimal (get_or places breach.place 0 + 1) ++ (codes " " ++ (part_text breach.part ++ codes "\n"))))

abbrev pub breach_lines : List ℕ → List (Site ProfileRule) → List ℕ
breach_lines places breaches = flat_map (breach_line places) breaches

-- the line of the note
abbrev pub yes_line : Profile → List ℕ
yes_line profile = codes "profile " ++ (profile_word profile ++ codes ": yes\n")

abbrev pub no_line : Profile → ℕ → List ℕ
no_line profile count = codes "profile " ++ (profile_word profile ++ (codes ": no; breaches " ++ (decimal count ++ codes "\n")))

-- Yes where nothing breaks a rule of the profile, and else each breach in a line.
abbrev pub verdict : Profile → List ℕ → List (Site ProfileRule) → Outcome
verdict profile places [] = record { status = Done; text = codes "yes\n"; line = yes_line profile }
verdict profile places (breach ∷ more) = record {
  status = No;
  text = encode_utf8_all (codes "no\n" ++ breach_lines places (breach ∷ more));
  line = no_line profile (length (breach ∷ more));
}
