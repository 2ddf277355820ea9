use Rattle.std.proofs.Common.{◌≡◌, ◌<◌, ◌≤◌, length, ap, sym, ◌∙◌, arith}
use Rattle.pg_auth.specs.Nonce.{nonce_of}
use Rattle.pg_auth.proofs.NonceLemmas.{draws_more, leaves_less, all_drawn, none_left}
use Rattle.pg_auth.proofs.nonce.make_nonce.Goals as goal

pub loop-word-preserved : goal.loop-word-preserved
loop-word-preserved g c =
    let within : c.loop-word.word-index < 128 = omega arith in
    let size : length c.loop-word.word-items ≡ 128 = omega arith in
    record {
      words = draws_more 128 c.loop-word.word-items c.loop-word.word-index _ (g.R.Rng.stream c.loop-word.rng) _ within size c.next_u32.ensures ∙ c.loop-word.invariant.words;
      left = leaves_less 128 c.loop-word.word-index _ (g.R.Rng.stream c.loop-word.rng) _ within c.next_u32.ensures ∙ c.loop-word.invariant.left;
    }

pub returns-clause-value : goal.returns-clause-value
returns-clause-value g c =
    let past : 128 ≤ c.loop-word.word-index = omega arith in
    let size : length c.loop-word.word-items ≤ c.loop-word.word-index = omega arith in
    c.nonce_of.ensures.value ∙ ap nonce_of (sym (all_drawn 128 c.loop-word.word-items c.loop-word.word-index (g.R.Rng.stream c.loop-word.rng) past size) ∙ c.loop-word.invariant.words)

pub returns-clause-left : goal.returns-clause-left
returns-clause-left g c =
    let past : 128 ≤ c.loop-word.word-index = omega arith in
    sym (none_left 128 c.loop-word.word-index (g.R.Rng.stream c.loop-word.rng) past) ∙ c.loop-word.invariant.left
