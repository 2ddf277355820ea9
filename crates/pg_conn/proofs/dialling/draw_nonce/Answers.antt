use Rattle.std.proofs.Common.{◌<◌, length, arith, ap, ◌∙◌}
use Rattle.pg_conn.specs.Dials.{DialSeen}
use Rattle.pg_conn.proofs.DiallingLaws.{draws_more}
use Rattle.pg_conn.proofs.dialling.draw_nonce.Goals as goal

pub loop-word-preserved : goal.loop-word-preserved
loop-word-preserved g c =
    let within : c.loop-word.word-index < length c.loop-word.word-items = omega arith in (
      draws_more g.D.Dial.draws c.args.dial.now c.loop-word.dial _ c.loop-word.word-items c.loop-word.word-index _ within c.loop-word.invariant.0 c.in_ok-word.ensures.draws,
      ap (λ (x : DialSeen). x.links) c.in_ok-word.ensures.counts ∙ c.loop-word.invariant.1,
      ap (λ (x : DialSeen). x.faults) c.in_ok-word.ensures.counts ∙ c.loop-word.invariant.2,
    )
