use Rattle.std.proofs.Common.{refl, sym, ap, ◌∙◌, Some}
use Rattle.pg_wire.specs.Backend.{EmptyQueryResponse}
use Rattle.pg_call.specs.declared.judging.Part.{Part}
use Rattle.pg_call.proofs.PlaceLaws.{empties_at, plainly}
use Rattle.pg_call.proofs.judging.be_empty.Goals as goal

pub returns : goal.returns
returns c = plainly c.args.part c.after_end.result 73 c.args.body.now EmptyQueryResponse c.go_on.result c.go_on.ensures c.in_ok-decode_empty_query.ensures.exact (empties_at c.args.part c.requires ∙ ap (λ (p : Part). Some p) (sym c.after_end.ensures)) refl
