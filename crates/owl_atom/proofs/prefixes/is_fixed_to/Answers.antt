use Rattle.std.proofs.Common.{refl}
use Rattle.std.specs.Prelude.{codes, []}
use Rattle.rdf_terms.specs.Vocabulary.{owl, rdf, rdfs, xsd}
use Rattle.owl_atom.proofs.FixedPrefixes.{fixed_here, fixed_nowhere}
use Rattle.owl_atom.proofs.prefixes.is_fixed_to.Goals as goal

pub returns-in-owl : goal.returns-in-owl
returns-in-owl c = fixed_here c.args.name.now (codes "owl") _ c.text.result.now (owl []) _ c.in-owl.is refl refl refl c.eq.ensures c.text.utf8 c.text.ensures.chars

pub returns-in-rdf : goal.returns-in-rdf
returns-in-rdf c = fixed_here c.args.name.now (codes "rdf") _ c.text-in-rdf.result.now (rdf []) _ c.in-rdf.is refl refl refl c.eq-in-rdf.ensures c.text-in-rdf.utf8 c.text-in-rdf.ensures.chars

pub returns-in-rdfs : goal.returns-in-rdfs
returns-in-rdfs c = fixed_here c.args.name.now (codes "rdfs") _ c.text-in-rdfs.result.now (rdfs []) _ c.in-rdfs.is refl refl refl c.eq-in-rdfs.ensures c.text-in-rdfs.utf8 c.text-in-rdfs.ensures.chars

pub returns-in-xsd : goal.returns-in-xsd
returns-in-xsd c = fixed_here c.args.name.now (codes "xsd") _ c.text-in-xsd.result.now (xsd []) _ c.in-xsd.is refl refl refl c.eq-in-xsd.ensures c.text-in-xsd.utf8 c.text-in-xsd.ensures.chars

pub returns-in_default : goal.returns-in_default
returns-in_default c = fixed_nowhere _ _ c.utf8.name c.in_default.not-owl c.in_default.not-rdf c.in_default.not-rdfs c.in_default.not-xsd
