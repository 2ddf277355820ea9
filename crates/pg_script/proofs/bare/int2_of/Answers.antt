use Rattle.std.proofs.Common.{◌^◌, refl, sym, ◌∙◌}
use Rattle.std.specs.Int.{w16}
use Rattle.pg_script.proofs.BareLaws.{parse_is}
use Rattle.pg_script.proofs.bare.int2_of.Goals as goal

pub returns : goal.returns
returns c = c.ok.ensures.value ∙ parse_is w16 (2 ^ 15) c.args.bytes.now _ c.parse.result refl (sym c.in_ok-text.ensures) c.parse.ensures.value.0
