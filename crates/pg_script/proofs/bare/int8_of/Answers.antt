use Rattle.std.proofs.Common.{◌^◌, refl, sym, ◌∙◌}
use Rattle.std.specs.Int.{w64}
use Rattle.pg_script.proofs.BareLaws.{parse_is}
use Rattle.pg_script.proofs.bare.int8_of.Goals as goal

pub returns : goal.returns
returns c = c.ok.ensures.value ∙ parse_is w64 (2 ^ 63) c.args.bytes.now _ c.parse.result refl (sym c.in_ok-text.ensures) c.parse.ensures.value.0
