use Rattle.std.proofs.Common.{refl, ap}
use Rattle.pg_learning.specs.declared.learnt.Seeking.{Seeking}
use Rattle.pg_learning.specs.declared.learnt.Seeking.TheVariants as seekings
use Rattle.pg_learning.proofs.TakeLaws.{takes_type, takes_names}
use Rattle.pg_learning.proofs.learnt.Learnt.take.Goals as goal

pub returns-in_ok-row-in-Types : goal.returns-in_ok-row-in-Types
returns-in_ok-row-in-Types c =
    rw c.in-Types.is (takes_type c.in-Types.resolver c.take_row.new.self c.args.values.now c.in_ok-row-in-Types.row c.args.self.now _ c.take_row.result c.in_ok-row-in-Types.ensures.ok c.take_row.ensures.settles c.take_row.ensures.sound c.take_row.ensures.refused refl)

pub returns-in_ok-row-in-Names : goal.returns-in_ok-row-in-Names
returns-in_ok-row-in-Names c =
    let told = c.take_row-in-Names in
    let same = ap (λ (s : Seeking). record c.args.self.now { tables = c.take_row-in-Names.new.cache; seeking = s }) (ap seekings.Names c.take_row-in-Names.ensures.asked) in
    rw c.in-Names.is (takes_names c.args.values.now c.in_ok-row-in-Names.row (record c.args.self.now { seeking = seekings.Names c.in-Names.resolver }) _ told.result c.in_ok-row-in-Names.ensures.ok told.ensures.ok told.ensures.err told.ensures.cause same)
