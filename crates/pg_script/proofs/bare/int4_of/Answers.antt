use Rattle.std.proofs.Common.{◌^◌, refl, sym, ◌∙◌}
use Rattle.std.specs.Int.{w32}
use Rattle.pg_script.proofs.BareLaws.{parse_is}
use Rattle.pg_script.proofs.bare.int4_of.Goals as goal

pub returns : goal.returns
returns c = c.ok.ensures.value ∙ parse_is w32 (2 ^ 31) c.args.bytes.now _ c.parse.result refl (sym c.in_ok-text.ensures) c.parse.ensures.value.0
