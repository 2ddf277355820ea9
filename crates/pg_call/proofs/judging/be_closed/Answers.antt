use Rattle.std.proofs.Common.{refl, sym, ap, ◌∙◌, Some}
use Rattle.pg_wire.specs.Backend.{CloseComplete}
use Rattle.pg_call.specs.declared.judging.Part.{Part}
use Rattle.pg_call.proofs.PlaceLaws.{closes_one_at, plainly}
use Rattle.pg_call.proofs.judging.be_closed.Goals as goal

pub returns : goal.returns
returns c = plainly c.args.part c.after_close.result 51 c.args.body.now CloseComplete c.go_on.result c.go_on.ensures c.in_ok-decode_close_complete.ensures.exact (closes_one_at c.args.part c.requires ∙ ap (λ (p : Part). Some p) (sym c.after_close.ensures)) refl
