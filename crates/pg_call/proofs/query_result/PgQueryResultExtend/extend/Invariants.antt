use Rattle.std.proofs.Common.{◌≡◌, ◌+◌, ◌-◌, ◌^◌, min}
use Rattle.std.specs.List.{sum_by}
use Rattle.pg_call.proofs.query_result.PgQueryResultExtend.extend.Given as goal

abbrev pub invariant-loop-result : goal.invariant-loop-result
invariant-loop-result g l = l.rows ≡ min (l.self.rows + sum_by (λ result. result.rows) l.yielded) (2 ^ 64 - 1)
