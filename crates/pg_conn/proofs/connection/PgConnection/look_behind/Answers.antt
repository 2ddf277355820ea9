use Rattle.std.proofs.Common.{◌≡◌, IfOk, IfErr, subst}
use Rattle.pg_call.specs.declared.statement.Extended.{Extended}
use Rattle.pg_conn.specs.Looking.{IsUnlookedFor, LooksInto, holes_for}
use Rattle.pg_conn.proofs.connection.PgConnection.look_behind.Goals as goal

pub returns-clause-ok : goal.returns-clause-ok
returns-clause-ok g c =
    subst (λ (x : Extended). IfOk c.look_into.result (λ next. (c.look_into.new.self ≡ record c.args.self.now { learnt = c.look_into.new.self.learnt }) × LooksInto x c.args.self.now.learnt next c.look_into.new.self.learnt)) c.in_ok-told.ensures.told c.look_into.ensures.ok

pub returns-clause-err : goal.returns-clause-err
returns-clause-err g c =
    subst (λ (x : Extended). IfErr c.look_into.result (IsUnlookedFor (holes_for x.goal x.arguments) c.args.self.now c.look_into.new.self)) c.in_ok-told.ensures.told c.look_into.ensures.err
