-- What an answer says, apart from where it lies in memory.
use Rattle.std.specs.Prelude.{◌++◌, ℕ, List, codes, string_bytes}
use Rattle.std.specs.Str.{encode_utf8_all}
use Rattle.owl_command.specs.declared.status.Status.TheVariants.{ReadFailed, Memory}
use Rattle.owl_documents.specs.declared.trouble.Trouble.{Trouble}
use Rattle.owl_documents.specs.declared.trouble.Trouble.TheVariants as t
use Rattle.owl_messages.specs.declared.answer.Answer.{Answer}
use Rattle.owl_messages.specs.declared.answer.Output.{Output}
use Rattle.owl_messages.specs.declared.answer.Output.TheVariants.{Text, Bytes}
use Rattle.owl_messages.specs.Outcome.{Outcome, refusal_outcome, refused}

-- the bytes that are written
abbrev pub output_bytes : Output → List ℕ
output_bytes (Text text) = encode_utf8_all text
output_bytes (Bytes bytes) = bytes.items

abbrev pub outcome_of : Answer → Outcome
outcome_of answer = record { status = answer.status; text = output_bytes answer.output; line = string_bytes answer.line }

-- what is told of a trouble with the document under this name
abbrev pub trouble_outcome : List ℕ → Trouble → Outcome
trouble_outcome name t.ReadFailed = refused ReadFailed (codes "read: " ++ (name ++ codes "\n"))
trouble_outcome name (t.Refused refusal) = refusal_outcome name refusal
trouble_outcome name t.Memory = refused Memory (codes "memory\n")
