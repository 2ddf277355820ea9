use Rattle.std.proofs.Common.{[], ◌∙◌, refl, inl}
use Rattle.pg_stream.specs.Streams.{stream_by}
use Rattle.pg_stream.proofs.StreamLemmas.{Moves-none, Moves-then, AllMoved-none, AllMoved-more, NoneWaited-then, Rose-after, WriteWaited-after}
use Rattle.pg_stream.proofs.stream.PgStream.poll_send.Goals as goal

pub loop-self-init : goal.loop-self-init
loop-self-init g c =
    let seen = stream_by g.L.Link.seen in
    record { moves = Moves-none (seen c.args.self.now); held = refl; spare = refl; moved = AllMoved-none (seen c.args.self.now) }

pub loop-self-preserved : goal.loop-self-preserved
loop-self-preserved g c =
    let i = c.loop-self.invariant in
    let s = c.send_once.ensures in
    let seen = stream_by g.L.Link.seen in
    record {
      moves = Moves-then (seen c.args.self.now) (seen c.loop-self.self) (seen c.send_once.new.self) [] [] [] [] i.moves s.moves;
      held = s.held ∙ i.held;
      spare = s.spare ∙ i.spare;
      moved = AllMoved-more (seen c.args.self.now) (seen c.loop-self.self) (seen c.send_once.new.self) i.moved i.moves.left s.left c.in-Moved.ensures.cause;
    }

pub returns-in-NotYet : goal.returns-in-NotYet
returns-in-NotYet g c =
    let i = c.loop-self.invariant in
    let s = c.send_once.ensures in
    let seen = stream_by g.L.Link.seen in
    record {
      moves = Moves-then (seen c.args.self.now) (seen c.loop-self.self) (seen c.send_once.new.self) [] [] [] [] i.moves s.moves;
      held = s.held ∙ i.held;
      spare = s.spare ∙ i.spare;
      gives = inl (WriteWaited-after (seen c.args.self.now) (seen c.loop-self.self) (seen c.send_once.new.self) i.moved.2 c.in-NotYet.ensures.cause);
    }

pub returns-in-Failed : goal.returns-in-Failed
returns-in-Failed g c =
    let i = c.loop-self.invariant in
    let s = c.send_once.ensures in
    let seen = stream_by g.L.Link.seen in
    record {
      moves = Moves-then (seen c.args.self.now) (seen c.loop-self.self) (seen c.send_once.new.self) [] [] [] [] i.moves s.moves;
      held = s.held ∙ i.held;
      spare = s.spare ∙ i.spare;
      gives = (refl, Rose-after _ _ _ i.moves.counts.faults c.in-Failed.ensures.cause.0, NoneWaited-then (seen c.args.self.now) (seen c.loop-self.self) (seen c.send_once.new.self) i.moved.2 c.in-Failed.ensures.cause.1);
    }
