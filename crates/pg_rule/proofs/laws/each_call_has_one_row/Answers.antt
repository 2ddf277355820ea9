use Rattle.pg_rule.proofs.RowLaws.{has_row, nothing_or_row, one_row}
use Rattle.pg_rule.proofs.laws.each_call_has_one_row.Goals as goal

pub returns-clause-some : goal.returns-clause-some
returns-clause-some c = has_row

pub returns-clause-nothing : goal.returns-clause-nothing
returns-clause-nothing c = nothing_or_row

pub returns-clause-alone : goal.returns-clause-alone
returns-clause-alone c = one_row
