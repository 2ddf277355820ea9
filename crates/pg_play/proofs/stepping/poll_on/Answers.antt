use Rattle.pg_play.proofs.stepping.poll_on.Goals as goal

pub poll_once-requires-clause-playing : goal.poll_once-requires-clause-playing
poll_once-requires-clause-playing g c =
    let p = c.requires.playing in
    (p.0, p.1, c.loop-pause.invariant.playing p.0 p.1 p.2)

pub returns-in-Some-clause-pauses : goal.returns-in-Some-clause-pauses
returns-in-Some-clause-pauses g c a r i = c.in-Some.ensures.gives a r (c.loop-pause.invariant.playing a r i)
