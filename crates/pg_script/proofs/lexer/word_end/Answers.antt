use Rattle.std.proofs.Common.{refl, sym}
use Rattle.pg_script.proofs.LexerSteps.{word_more, word_ends, word_whole}
use Rattle.pg_script.proofs.lexer.word_end.Goals as goal

pub loop-i-init : goal.loop-i-init
loop-i-init c = λ ts. refl

pub returns-then-ends_word-clause-ends : goal.returns-then-ends_word-clause-ends
returns-then-ends_word-clause-ends c = word_ends c.args.bytes.now c.loop-i.i c.loop-i.invariant c.loop-i-test.true (sym c.if-ends_word.ensures)

pub loop-i-preserved : goal.loop-i-preserved
loop-i-preserved c = word_more c.args.bytes.now c.loop-i.i c.loop-i.invariant c.loop-i-test.true (sym c.if-ends_word.ensures)

pub returns-clause-ends : goal.returns-clause-ends
returns-clause-ends c = word_whole c.args.bytes.now c.loop-i.i c.loop-i.invariant c.loop-i-test.false
