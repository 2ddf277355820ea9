use Rattle.std.proofs.Common.{Some, sym, ap, ◌∙◌, refl}
use Rattle.pg_wire.specs.Backend.{ParseComplete}
use Rattle.pg_call.specs.declared.judging.Part.{Part}
use Rattle.pg_call.proofs.PlaceLaws.{parses_at, plainly}
use Rattle.pg_call.proofs.judging.parse.Goals as goal

pub returns : goal.returns
returns c = plainly c.args.part c.after_parse.result 49 c.args.body.now ParseComplete c.go_on.result c.go_on.ensures c.in_ok-decode_parse_complete.ensures.exact (parses_at c.args.part c.requires ∙ ap (λ (p : Part). Some p) (sym c.after_parse.ensures)) refl
