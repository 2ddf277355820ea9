use Rattle.std.proofs.Common.{ap, ◌∙◌, ◌<◌, ℕ, Option, arith, unwrap_or}
use Rattle.std.proofs.lemmas.List.{take_rest}
use Rattle.pg_wire.specs.Reading.{count_in}
use Rattle.pg_wire.proofs.CompletionLaws.{rows_none, rows_found}
use Rattle.pg_wire.proofs.message.command_complete.rows_of.Goals as goal

pub returns-then-start-eq0 : goal.returns-then-start-eq0
returns-then-start-eq0 c = rows_none c.args.tag.now (λ k le lt. c.word_start-start.ensures.word k (omega (arith, c.if-start-eq0.true, le)) lt)

pub returns : goal.returns
returns c =
    let start = c.word_start-start.result in
    let some : 0 < start = omega (arith, c.if-start-eq0.false) in
    c.unwrap_or.ensures ∙ ap (λ (o : Option ℕ). unwrap_or o 0) (c.count_of.ensures ∙ ap count_in (take_rest c.args.tag.now start))
    ∙ rows_found c.args.tag.now start some c.word_start-start.ensures.bound c.word_start-start.ensures.word (c.word_start-start.ensures.space some)
