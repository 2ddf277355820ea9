use Rattle.std.proofs.Common.{◌∙◌, ap, Some, option_map}
use Rattle.std.specs.String.{string_bytes}
use Rattle.pg_stream.proofs.ParameterLaws.{lookup_texts}
use Rattle.pg_stream.proofs.parameters.Parameters.get.Goals as goal

pub returns-in-Some : goal.returns-in-Some
returns-in-Some c = rw (← c.self.view_is, lookup_texts c.args.name.now c.self.inside.values.entries) (ap Some c.as_str.ensures.value ∙ ap (option_map string_bytes) c.in-Some.ensures.value)

pub returns-in-None : goal.returns-in-None
returns-in-None c = rw (← c.self.view_is, lookup_texts c.args.name.now c.self.inside.values.entries) (ap (option_map string_bytes) c.in-None.ensures.value)
