use Rattle.std.proofs.Common.{Err}
use Rattle.pg_call.specs.declared.kind.Kind.TheVariants as kinds
use Rattle.pg_migrating.specs.Errands.{how_of}
use Rattle.pg_migrating.proofs.SessionLaws.{asked_calls, asks_none, asks_of, new_goes}
use Rattle.pg_migrating.proofs.databases.session_at.Goals as goal

pub returns-in-Ok-clause-asks : goal.returns-in-Ok-clause-asks
returns-in-Ok-clause-asks g c = (c.errand_at-errand.result, c.session_for.ensures, asks_of c.args.task c.args.env.now c.args.url.now c.in-Ok.options c.errand_at-errand.result c.in-Ok.ensures c.errand_at-errand.ensures.ok c.errand_at-errand.ensures.err)

pub returns-in-Ok-clause-goes : goal.returns-in-Ok-clause-goes
returns-in-Ok-clause-goes g c =
    let asks = asks_of c.args.task c.args.env.now c.args.url.now c.in-Ok.options c.errand_at-errand.result c.in-Ok.ensures c.errand_at-errand.ensures.ok c.errand_at-errand.ensures.err in
    new_goes g.D.Sessions.opens (kinds.Run (how_of c.args.task)) c.errand_at-errand.result c.session_for.result c.session_for.ensures (asked_calls _ c.args.task c.args.env.now c.args.url.now c.errand_at-errand.result asks)

pub returns-in-Err-clause-asks : goal.returns-in-Err-clause-asks
returns-in-Err-clause-asks g c = (Err c.in-Err.e, c.session_for-in-Err.ensures, asks_none c.args.task c.args.env.now c.args.url.now c.in-Err.e c.in-Err.ensures)

pub returns-in-Err-clause-goes : goal.returns-in-Err-clause-goes
returns-in-Err-clause-goes g c = new_goes g.D.Sessions.opens (kinds.Run (how_of c.args.task)) (Err c.in-Err.e) c.session_for-in-Err.result c.session_for-in-Err.ensures tt
