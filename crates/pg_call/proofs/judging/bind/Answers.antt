use Rattle.std.proofs.Common.{refl, sym, ap, ◌∙◌, Some}
use Rattle.pg_wire.specs.Backend.{BindComplete}
use Rattle.pg_call.specs.declared.judging.Part.{Part}
use Rattle.pg_call.proofs.PlaceLaws.{binds_at, plainly}
use Rattle.pg_call.proofs.judging.bind.Goals as goal

pub returns : goal.returns
returns c = plainly c.args.part c.after_bind.result 50 c.args.body.now BindComplete c.go_on.result c.go_on.ensures c.in_ok-decode_bind_complete.ensures.exact (binds_at c.args.part c.requires ∙ ap (λ (p : Part). Some p) (sym c.after_bind.ensures)) refl
