use Rattle.std.proofs.Common.{ap, ◌∙◌, refl, sym}
use Rattle.pg_migrating.proofs.AskingLaws.{calls_on, goes_on, refused, runs_on}
use Rattle.pg_conn.proofs.StateLaws.{poll_fits_within}
use Rattle.pg_migrating.proofs.asking.Asking+C+Question.poll.Goals as goal

pub poll_within-requires-clause-runs : goal.poll_within-requires-clause-runs
poll_within-requires-clause-runs g c =
    let a = c.args.self.now in
    let q = sym c.take.ensures.value ∙ c.in-None.is in
    runs_on a.question (g.C.PgExecutor.conn a.conn) (g.C.PgExecutor.conn a.conn) tt (rw q refl) (rw q refl) c.requires.asked

pub returns-in-None-clause-tells : goal.returns-in-None-clause-tells
returns-in-None-clause-tells g c asked first s =
    let a = c.args.self.now in
    let q = sym c.take.ensures.value ∙ c.in-None.is in
    goes_on g.C.L.Link.seen asked first (g.C.PgExecutor.conn a.conn) (g.C.PgExecutor.conn a.conn) (g.C.PgExecutor.conn c.poll_within.new.holder) a.question tt c.args.left.now c.poll_within.result (rw q refl) (rw q refl) c.requires.left c.poll_within.ensures.polls s

pub returns-in-None-clause-fits : goal.returns-in-None-clause-fits
returns-in-None-clause-fits g c kind k =
    let a = c.args.self.now in
    let q = sym c.take.ensures.value ∙ c.in-None.is in
    poll_fits_within g.C.L.Link.seen c.args.left.now (g.C.PgExecutor.conn a.conn) (g.C.PgExecutor.conn c.poll_within.new.holder) kind c.poll_within.result c.poll_within.ensures.polls (calls_on kind a.question (g.C.PgExecutor.conn a.conn) (g.C.PgExecutor.conn a.conn) tt (rw q refl) (rw q refl) k)

pub poll_within-requires-in-Some-Ok-clause-runs : goal.poll_within-requires-in-Some-Ok-clause-runs
poll_within-requires-in-Some-Ok-clause-runs g c =
    let a = c.args.self.now in
    let q = sym c.take.ensures.value ∙ rw c.in-Some-Ok.field-0-is at c.in-Some-Ok.is in
    let b = rw c.into_request.ensures at (ap g.C.PgExecutor.conn c.start.ensures ∙ g.met.C.PgExecutor.written a.conn _) in
    runs_on a.question (g.C.PgExecutor.conn a.conn) (g.C.PgExecutor.conn c.start.new.holder) tt (rw q b) (rw q refl) c.requires.asked

pub returns-in-Some-Ok-clause-tells : goal.returns-in-Some-Ok-clause-tells
returns-in-Some-Ok-clause-tells g c asked first s =
    let a = c.args.self.now in
    let q = sym c.take.ensures.value ∙ rw c.in-Some-Ok.field-0-is at c.in-Some-Ok.is in
    let b = rw c.into_request.ensures at (ap g.C.PgExecutor.conn c.start.ensures ∙ g.met.C.PgExecutor.written a.conn _) in
    goes_on g.C.L.Link.seen asked first (g.C.PgExecutor.conn a.conn) (g.C.PgExecutor.conn c.start.new.holder) (g.C.PgExecutor.conn c.poll_within-in-Some-Ok.new.holder) a.question tt c.args.left.now c.poll_within-in-Some-Ok.result (rw q b) (rw q refl) c.requires.left c.poll_within-in-Some-Ok.ensures.polls s

pub returns-in-Some-Ok-clause-fits : goal.returns-in-Some-Ok-clause-fits
returns-in-Some-Ok-clause-fits g c kind k =
    let a = c.args.self.now in
    let q = sym c.take.ensures.value ∙ rw c.in-Some-Ok.field-0-is at c.in-Some-Ok.is in
    let b = rw c.into_request.ensures at (ap g.C.PgExecutor.conn c.start.ensures ∙ g.met.C.PgExecutor.written a.conn _) in
    poll_fits_within g.C.L.Link.seen c.args.left.now (g.C.PgExecutor.conn c.start.new.holder) (g.C.PgExecutor.conn c.poll_within-in-Some-Ok.new.holder) kind c.poll_within-in-Some-Ok.result c.poll_within-in-Some-Ok.ensures.polls (calls_on kind a.question (g.C.PgExecutor.conn a.conn) (g.C.PgExecutor.conn c.start.new.holder) tt (rw q b) (rw q refl) k)

pub returns-in-Some-Err-clause-tells : goal.returns-in-Some-Err-clause-tells
returns-in-Some-Err-clause-tells g c asked first s =
    let a = c.args.self.now in
    let q = sym c.take.ensures.value ∙ rw c.in-Some-Err.field-0-is at c.in-Some-Err.is in
    let b = ap g.C.PgExecutor.conn c.abandon.ensures ∙ g.met.C.PgExecutor.written a.conn _ in
    refused g.C.L.Link.seen asked first (g.C.PgExecutor.conn a.conn) (g.C.PgExecutor.conn c.abandon.new.holder) a.question c.in-Some-Err.e (rw q b) (rw q refl) s
