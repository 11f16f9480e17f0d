use Rattle.std.proofs.Common.{ap, ◌∙◌}
use Rattle.clap.specs.Simple.{app_of_fields}
use Rattle.dom_options.specs.CommandLine.{with_version}
use Rattle.dom_options.proofs.options.program.Goals as goal

pub returns : goal.returns
returns c = ap app_of_fields c.version.ensures ∙ ap with_version (ap app_of_fields c.after_help.ensures ∙ (ap app_of_fields c.about.ensures ∙ c.new.ensures.app))
