use Rattle.std.proofs.Common.{◌≡◌, arith}
use Rattle.std.proofs.lemmas.Grind.{common_steps}
use Rattle.pg_stream.specs.declared.events.ReadEvent.TheVariants as events
use Rattle.pg_stream.specs.Events.{event_at, IsOpenAt}
use Rattle.pg_stream.proofs.EventLaws.{reads_from, ends, fails, gives_rest}
use Rattle.pg_stream.proofs.read_list.ReadList.read.Goals as goal

pub returns-in-Some-Piece : goal.returns-in-Some-Piece
returns-in-Some-Piece c =
    let here : event_at c.skip_given.new.self.passed c.skip_given.new.self.events ≡ events.Piece c.in-Some-Piece.piece = grind (arith, common_steps) in
    let some : IsOpenAt c.skip_given.new.self.offset (events.Piece c.in-Some-Piece.piece) = rw here at c.skip_given.ensures.open in
    gives_rest c.args.self.now c.skip_given.new.self c.copy_front-count.new.into c.as_bytes.result.now c.in-Some-Piece.piece c.copy_front-count.result
    c.skip_given.ensures.same here some (omega arith) c.as_bytes.ensures c.copy_front-count.ensures.size c.copy_front-count.ensures.copied

pub returns-in-Some-End : goal.returns-in-Some-End
returns-in-Some-End c =
    let here : event_at c.skip_given.new.self.passed c.skip_given.new.self.events ≡ events.End = grind (arith, common_steps) in
    ends c.args.self.now c.skip_given.new.self c.pass.new.self c.args.into.now c.skip_given.ensures.same here c.pass.ensures

pub returns-in-Some-Fail : goal.returns-in-Some-Fail
returns-in-Some-Fail c =
    let here : event_at c.skip_given.new.self.passed c.skip_given.new.self.events ≡ events.Fail = grind (arith, common_steps) in
    fails c.args.self.now c.skip_given.new.self c.pass-in-Some-Fail.new.self c.args.into.now c.skip_given.ensures.same here c.pass-in-Some-Fail.ensures

pub returns-in-Some-Wait : goal.returns-in-Some-Wait
returns-in-Some-Wait c = reads_from c.args.self.now c.skip_given.new.self c.wait.new.self c.wait.result c.args.into.now c.skip_given.ensures.same (c.wait.ensures c.args.into.now)

pub returns-in-None : goal.returns-in-None
returns-in-None c = reads_from c.args.self.now c.skip_given.new.self c.wait-in-None.new.self c.wait-in-None.result c.args.into.now c.skip_given.ensures.same (c.wait-in-None.ensures c.args.into.now)
