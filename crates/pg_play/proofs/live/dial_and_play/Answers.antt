use Rattle.std.proofs.Common.{◌∙◌, ap}
use Rattle.pg_conn.specs.Dials.{DialSeen, HandsOut}
use Rattle.pg_play.proofs.TopLaws.{dialed}
use Rattle.pg_play.proofs.live.dial_and_play.Goals as goal

pub returns-in-Ok-draw_nonce : goal.returns-in-Ok-draw_nonce
returns-in-Ok-draw_nonce g c =
    let (words, size, drawn, made) = c.in-Ok-draw_nonce.ensures.value in
    dialed g.D.L.Link.seen (HandsOut g.D.Dial.gives g.D.Dial.draws c.args.dial.now c.draw_nonce.new.dial) c.args.options.now c.args.script.now (g.D.Dial.seen c.args.dial.now) (g.D.Dial.seen c.draw_nonce.new.dial) c.play.result c.of_live.result c.in-Ok.link words c.as_bytes-nonce.result.now c.unwrap_or-polls.result c.as_slice-steps.result.now (_, c.in-Ok.ensures.gives, drawn) c.in-Ok.ensures.uncalled size (c.as_bytes-nonce.ensures.value ∙ c.as_str.ensures.value ∙ made) c.unwrap_or-polls.ensures c.as_slice-steps.ensures c.play.ensures.outcomes c.play.ensures.plays c.play.ensures.start c.of_live.ensures
    (c.in-Ok-draw_nonce.ensures.draws.0 ∙ ap (λ (x : DialSeen). x.links) c.in-Ok.ensures.counts, c.in-Ok-draw_nonce.ensures.draws.1 ∙ ap (λ (x : DialSeen). x.faults) c.in-Ok.ensures.counts)
