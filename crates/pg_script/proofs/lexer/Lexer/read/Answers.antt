use Rattle.std.proofs.Common.{◌∷◌, ◌++◌, [], List, sym, ap, ◌∙◌}
use Rattle.std.proofs.lemmas.Option.{same_Some}
use Rattle.std.proofs.lemmas.Result.{err_from_is_err_and}
use Rattle.pg_script.specs.declared.token.Token.{Token}
use Rattle.pg_script.specs.declared.token.Token.TheVariants.{Space}
use Rattle.pg_script.specs.Lexing.{tokens_in, at, lexed, EndsWord}
use Rattle.pg_script.specs.Lexing.{Mode as modes}
use Rattle.pg_script.proofs.LexerSteps.{word_fails, line_ends, space_read, quote_read, fails_as}
use Rattle.pg_script.proofs.lexer.Lexer.read.Goals as goal

pub returns-in_err-push_word : goal.returns-in_err-push_word
returns-in_err-push_word c =
    let p = err_from_is_err_and c.from_residual.result c.from_residual.ensures.1 in
    let cut : EndsWord c.loop-next.rest.now c.split_at.result.0.now c.split_at.result.1.now = rw (c.split_at.ensures.front, c.split_at.ensures.back) c.word_end.ensures.ends in
    rw (p.1, p.2) (word_fails c.in_err-push_word.field-0.0 c.loop-next.self.tokens.items c.loop-next.rest.now c.split_at.result.0.now c.split_at.result.1.now (tokens_in c.args.line.now) cut c.in_err-push_word.ensures c.loop-next.invariant)

pub loop-next-preserved-in-Some : goal.loop-next-preserved-in-Some
loop-next-preserved-in-Some c =
    let cut : EndsWord c.loop-next.rest.now c.split_at.result.0.now c.split_at.result.1.now = rw (c.split_at.ensures.front, c.split_at.ensures.back) c.word_end.ensures.ends in
    ap (λ (ts : List Token). lexed (at ts [] modes.Word) c.in-Some.next.now) (sym (same_Some (c.push_word.new.self.tokens.items ++ Space ∷ []) c.push.new.self.tokens.items c.in_ok-push-in-Some.ensures))
    ∙ space_read c.loop-next.self.tokens.items c.push_word.new.self.tokens.items c.loop-next.rest.now c.split_at.result.0.now c.split_at.result.1.now c.in-Some.next.now (tokens_in c.args.line.now) cut c.in_ok-push_word.ensures (sym c.in-Some.ensures) c.loop-next.invariant

pub returns-in_err-rest-in-Some-after : goal.returns-in_err-rest-in-Some-after
returns-in_err-rest-in-Some-after c =
    let p = err_from_is_err_and c.from_residual-in_err-rest-in-Some-after.result c.from_residual-in_err-rest-in-Some-after.ensures.1 in
    let cut : EndsWord c.loop-next.rest.now c.split_at.result.0.now c.split_at.result.1.now = rw (c.split_at.ensures.front, c.split_at.ensures.back) c.word_end.ensures.ends in
    rw (p.1, p.2) (fails_as c.in_err-rest-in-Some-after.field-0.0 (lexed (at c.push_word.new.self.tokens.items [] modes.Text) c.in-Some-after.text.now) (tokens_in c.args.line.now)
    (quote_read c.loop-next.self.tokens.items c.push_word.new.self.tokens.items c.loop-next.rest.now c.split_at.result.0.now c.split_at.result.1.now c.in-Some-after.text.now (tokens_in c.args.line.now) cut c.in_ok-push_word.ensures (sym c.in-Some-after.ensures) c.loop-next.invariant)
    c.in_err-rest-in-Some-after.ensures)

pub loop-next-preserved : goal.loop-next-preserved
loop-next-preserved c =
    let cut : EndsWord c.loop-next.rest.now c.split_at.result.0.now c.split_at.result.1.now = rw (c.split_at.ensures.front, c.split_at.ensures.back) c.word_end.ensures.ends in
    sym c.in_ok-rest-in-Some-after.ensures.read
    ∙ quote_read c.loop-next.self.tokens.items c.push_word.new.self.tokens.items c.loop-next.rest.now c.split_at.result.0.now c.split_at.result.1.now c.in-Some-after.text.now (tokens_in c.args.line.now) cut c.in_ok-push_word.ensures (sym c.in-Some-after.ensures) c.loop-next.invariant

pub returns-in-None-after : goal.returns-in-None-after
returns-in-None-after c =
    let cut : EndsWord c.loop-next.rest.now c.split_at.result.0.now c.split_at.result.1.now = rw (c.split_at.ensures.front, c.split_at.ensures.back) c.word_end.ensures.ends in
    line_ends c.loop-next.self.tokens.items c.push_word.new.self.tokens.items c.loop-next.rest.now c.split_at.result.0.now c.split_at.result.1.now (tokens_in c.args.line.now) cut c.in_ok-push_word.ensures (sym c.in-None.ensures) (sym c.in-None-after.ensures) c.loop-next.invariant
