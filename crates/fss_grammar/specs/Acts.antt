-- The numbers of acts.
use Rattle.std.specs.Prelude.{ℕ}
use Rattle.owl_tree.specs.Tags.{number_of}
use Rattle.fss_grammar.specs.declared.acts.Act.{Act}
use Rattle.fss_grammar.specs.declared.acts.Act.TheVariants.{AddAnnotation, AddAxiom, Begin, DeclareIri, DeclareName, EndItem, HeldDatatype, HeldProperty, Hold, ImportIri, OntologyIri, Plain, Shut, Tagged, Typed, VersionIri}

abbrev pub act_number : Act → ℕ
act_number (Begin t) = number_of t
act_number Shut = 78
act_number Plain = 79
act_number Tagged = 80
act_number Typed = 81
act_number Hold = 82
act_number HeldProperty = 83
act_number HeldDatatype = 84
act_number DeclareName = 85
act_number DeclareIri = 86
act_number OntologyIri = 87
act_number VersionIri = 88
act_number ImportIri = 89
act_number AddAnnotation = 90
act_number AddAxiom = 91
act_number EndItem = 92
