use Rattle.std.proofs.Common.{arith, true}
use Rattle.pg_conn.proofs.FrontLaws.{accepts_by, accepts_plain, room_after}
use Rattle.pg_conn.proofs.connection.PgConnection.accept.Goals as goal

pub fail_copy-requires : goal.fail_copy-requires
fail_copy-requires g c =
    let same = room_after c.args.front c.args.self.now c.pass.new.self c.count_heard.new.self c.requires.front c.pass.ensures.stream c.count_heard.ensures.now in
    omega (arith, same, c.requires.room c.if-fails_copy.true)

pub returns-then-fails_copy : goal.returns-then-fails_copy
returns-then-fails_copy g c =
    rw c.if-fails_copy.true (accepts_by c.args.front true c.args.self.now c.pass.new.self c.count_heard.new.self c.fail_copy.new.self c.pass.ensures.stream c.pass.ensures.now c.count_heard.ensures.now c.count_heard.ensures.heard c.fail_copy.ensures)

pub returns-else-fails_copy : goal.returns-else-fails_copy
returns-else-fails_copy g c =
    rw c.if-fails_copy.false (accepts_plain c.args.front c.args.self.now c.pass.new.self c.count_heard.new.self c.pass.ensures.stream c.pass.ensures.now c.count_heard.ensures.now c.count_heard.ensures.heard)
